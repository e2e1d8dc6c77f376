-- Two greys with one value are one.
use Rattle.std.specs.Prelude.{◌≡◌, ◌^◌, ◌<◌}
use mathlib.Core.HLevel.{is_prop→PathP}
use Rattle.std.proofs.Math.Bridge.{le_prop}
use Rattle.std.specs.Int.Signed.{mag}
use Rattle.tone.specs.declared.grey.Grey.{Grey}

pub same-grey : {x y : Grey} → x.value ≡ y.value → x ≡ y
same-grey {x} {y} e = λ i. record { value = e i; fits = is_prop→PathP (λ j. mag (e j) < 2 ^ 31) (λ j. le_prop) x.fits y.fits i }
