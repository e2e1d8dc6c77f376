use Rattle.model.proofs.Resumed.{resumes}
use Rattle.model.proofs.resume_is_a_replay.Goals as goal

pub returns : goal.returns
returns g c = resumes
