use Rattle.diffusion.proofs.SameDraft.{same_draft}
use Rattle.diffusion.proofs.laws.draft_depends_on_order_and_tables.Goals as goal

pub returns : goal.returns
returns g c = same_draft
