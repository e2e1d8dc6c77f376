-- Each refusal in words, as ASCII bytes.
use Rattle.std.specs.Prelude.{List, ℕ, codes}
use Rattle.refusal.specs.declared.refusal.Refusal.{Refusal}
use Rattle.refusal.specs.declared.refusal.Refusal.TheVariants.{SizeOutsideLimits, BandLength, OutsideDrawing, SquareFixed, LowerNeighbourOpen, OutputTooShort, RecordMalformed, LowerNeighbourMissing, WrongCode, SquareOpen, CodeAboveOne, NotPlainPgm, NotANumber, SampleOutsideRange, OutsideLimits, TouchingEqualRanks, PaletteLength, TooManyCodes}

abbrev pub reason_of : Refusal → List ℕ
reason_of SizeOutsideLimits = codes "a drawing has 1 to 4096 rows and columns and at most 1048576 squares"
reason_of BandLength = codes "a band is not as long as the drawing has squares"
reason_of OutsideDrawing = codes "a place lies outside the drawing"
reason_of SquareFixed = codes "the square is fixed already"
reason_of LowerNeighbourOpen = codes "a neighbour of lower rank is open"
reason_of OutputTooShort = codes "an output is too short for what is to be written"
reason_of RecordMalformed = codes "the record has another size, a spare bit standing or a wrong length"
reason_of LowerNeighbourMissing = codes "a standing square of the record has a lower neighbour that does not stand"
reason_of WrongCode = codes "a code of the record is not the one that the draft has"
reason_of SquareOpen = codes "a square is open"
reason_of CodeAboveOne = codes "a square has a code above 1"
reason_of NotPlainPgm = codes "a plain PGM begins with P2 and a space, tab, CR or LF"
reason_of NotANumber = codes "a number is missing, malformed or above 65535"
reason_of SampleOutsideRange = codes "a sample is above the greatest one, or the greatest one is outside 1 to 255"
reason_of OutsideLimits = codes "a period, order or byte count is outside its limits"
reason_of TouchingEqualRanks = codes "two squares that touch have equal ranks"
reason_of PaletteLength = codes "a palette has 1 to 16 colours of three bytes each"
reason_of TooManyCodes = codes "two quantisers side by side have at most 254 codes"
