-- The number of each refusal. No case has 0, which stands for acceptance.
use Rattle.std.specs.Prelude.{ℕ}
use Rattle.refusal.specs.declared.refusal.Refusal.{Refusal}
use Rattle.refusal.specs.declared.refusal.Refusal.TheVariants.{SizeOutsideLimits, BandLength, OutsideDrawing, SquareFixed, LowerNeighbourOpen, OutputTooShort, RecordMalformed, LowerNeighbourMissing, WrongCode, SquareOpen, CodeAboveOne, NotPlainPgm, NotANumber, SampleOutsideRange, OutsideLimits, TouchingEqualRanks, PaletteLength, TooManyCodes}

abbrev pub number_of : Refusal → ℕ
number_of SizeOutsideLimits = 1
number_of BandLength = 2
number_of OutsideDrawing = 3
number_of SquareFixed = 4
number_of LowerNeighbourOpen = 5
number_of OutputTooShort = 6
number_of RecordMalformed = 7
number_of LowerNeighbourMissing = 8
number_of WrongCode = 9
number_of SquareOpen = 10
number_of CodeAboveOne = 11
number_of NotPlainPgm = 12
number_of NotANumber = 13
number_of SampleOutsideRange = 14
number_of OutsideLimits = 16
number_of TouchingEqualRanks = 17
number_of PaletteLength = 18
number_of TooManyCodes = 19
