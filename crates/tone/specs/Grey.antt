-- Grey as a tone: one signed channel whose sums and differences wrap at 32 bits.
use Rattle.std.specs.Prelude.{ℕ, Bool, cond, ◌&&◌, ℤ, pos, ◌+ℤ◌, ◌-ℤ◌, ◌*ℤ◌, int_div, nat_le, nat_lt}
use Rattle.std.proofs.Common.{lit<}
use Rattle.std.specs.Int.{int_wrap, w32}
use Rattle.std.proofs.lemmas.Int.{SFits-int_wrap}
use Rattle.tone.specs.Algebra.{Algebra}
use Rattle.tone.specs.declared.grey.Grey.{Grey}

-- what is left of a whole number at 32 bits
abbrev pub wrap : ℤ → Grey
wrap z = record { value = int_wrap w32 z; fits = (SFits-int_wrap w32 z).sfits }

abbrev pub no_grey : Grey
no_grey = record { value = pos 0; fits = lit< tt }

-- the weights w of W at which a share is used
abbrev pub usable : ℕ → ℕ → Bool
usable w W = nat_le 1 w && (nat_lt w W && nat_le W 12)

-- e × w ÷ W, cut toward zero
abbrev pub part_of : ℤ → ℕ → ℕ → ℤ
part_of e w W = int_div (e *ℤ pos w) (pos W)

abbrev pub share_value : ℤ → ℕ → ℕ → ℤ
share_value e w W = cond (usable w W) (part_of e w W) (pos 0)

-- a share is no greater than the whole, so that it never wraps
abbrev pub grey_algebra : Algebra Grey
grey_algebra = record {
  zero = no_grey;
  sum = λ x y. wrap (x.value +ℤ y.value);
  difference = λ x y. wrap (x.value -ℤ y.value);
  share = λ e w W. wrap (share_value e.value w W);
}
