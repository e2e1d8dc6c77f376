use Rattle.model.proofs.Halted.{accepts_what_is_written}
use Rattle.model.proofs.resume_accepts_just_what_halt_writes.Goals as goal

pub returns : goal.returns
returns g c = accepts_what_is_written
