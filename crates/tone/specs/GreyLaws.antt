-- The laws of grey.
use Rattle.std.proofs.Common.{sym, ap, ◌∙◌}
use Rattle.std.specs.Prelude.{◌+ℤ◌, ◌-ℤ◌}
use Rattle.std.proofs.Math.IntN.{+ℤ_assoc, +ℤ_comm, +ℤ_idr, -ℤ-+ℤ_cancel}
use Rattle.std.specs.Int.{int_wrap, w32}
use Rattle.std.proofs.lemmas.Int.{int_wrap_fits, int_wrap-add_left, int_wrap-add_right}
use Rattle.tone.specs.SameGrey.{same-grey}
use Rattle.tone.specs.Algebra.{Lawful}
use Rattle.tone.specs.Grey.{grey_algebra}

pub grey_lawful : Lawful grey_algebra
grey_lawful = record {
  assoc = λ x y z. same-grey (int_wrap-add_left w32 (x.value +ℤ y.value) z.value ∙ ap (int_wrap w32) (+ℤ_assoc x.value y.value z.value) ∙ sym (int_wrap-add_right w32 x.value (y.value +ℤ z.value)));
  comm = λ x y. same-grey (ap (int_wrap w32) (+ℤ_comm x.value y.value));
  neutral = λ x. same-grey (ap (int_wrap w32) (+ℤ_idr x.value) ∙ int_wrap_fits w32 x.value (record { sfits = x.fits }));
  back = λ x y. same-grey (int_wrap-add_left w32 (x.value -ℤ y.value) y.value ∙ ap (int_wrap w32) (-ℤ-+ℤ_cancel x.value y.value) ∙ int_wrap_fits w32 x.value (record { sfits = x.fits }));
}
