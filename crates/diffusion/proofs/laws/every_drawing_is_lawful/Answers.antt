use Rattle.diffusion.proofs.Lines.{lawful_drawing}
use Rattle.diffusion.proofs.laws.every_drawing_is_lawful.Goals as goal

pub returns : goal.returns
returns g c p q =
    lawful_drawing g.Q.Tone.Tone.algebra g.met.Q.Tone.Tone.lawful (g.P.Plan.meaning p) (g.met.P.Plan.lawful p) (g.Q.Quantiser.tables q) (g.met.Q.Quantiser.sound q)
