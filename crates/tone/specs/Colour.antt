-- Colour as a tone: three channels, each treated alone.
use Rattle.tone.specs.Algebra.{Algebra}
use Rattle.tone.specs.Grey.{grey_algebra}
use Rattle.tone.specs.declared.grey.Grey.{Grey}
use Rattle.tone.specs.declared.colour.Colour.{Colour}

abbrev pub colour_of : Grey → Grey → Grey → Colour
colour_of r g b = record { red = r; green = g; blue = b }

-- one channel's operation on all three
abbrev pub by_channel : (Grey → Grey → Grey) → Colour → Colour → Colour
by_channel f x y = colour_of (f x.red y.red) (f x.green y.green) (f x.blue y.blue)

abbrev pub colour_algebra : Algebra Colour
colour_algebra = record {
  zero = colour_of grey_algebra.zero grey_algebra.zero grey_algebra.zero;
  sum = by_channel grey_algebra.sum;
  difference = by_channel grey_algebra.difference;
  share = λ e w W. colour_of (grey_algebra.share e.red w W) (grey_algebra.share e.green w W) (grey_algebra.share e.blue w W);
}
