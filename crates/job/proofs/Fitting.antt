-- What it says that bands fit a job.
use Rattle.std.proofs.Common.{◌≡◌, true, eqb, length}
use Rattle.std.proofs.lemmas.Bool.{and_parts, eqb-true}
use Rattle.diffusion.specs.Bands.{Bands}
use Rattle.model.specs.Jobs.{Job, squares, fits}

pub record Fitting {T : Type 0} (p : Job T) (b : Bands T) : Type 0 where
  pub drawing : p.given ≡ squares p
  pub amounts : length b.amounts ≡ squares p
  pub codes : length b.codes ≡ squares p

pub fitting : {T : Type 0} (p : Job T) (b : Bands T) → fits p b ≡ true → Fitting p b
fitting p b is =
    let outer = and_parts (eqb p.given (squares p)) _ is in
    let inner = and_parts (eqb (length b.amounts) (squares p)) (eqb (length b.codes) (squares p)) outer.1 in
    record {
      drawing = eqb-true p.given (squares p) outer.0;
      amounts = eqb-true (length b.amounts) (squares p) inner.0;
      codes = eqb-true (length b.codes) (squares p) inner.1;
    }
