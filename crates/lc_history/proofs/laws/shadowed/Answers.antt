use Rattle.std.proofs.Common.{subst}
use Rattle.lc_history.specs.History.{Linearizes}
use Rattle.lc_history.specs.Shadowed.{with_choices}
use Rattle.lc_history.proofs.Following.{followed-linearizes}
use Rattle.lc_history.proofs.laws.shadowed.Goals as goal

pub returns : goal.returns
returns g c shadow object history order follows linearizes =
    let starts = g.met.B.Shadows.starts shadow object follows in
    subst (λ s. Linearizes (g.B.SeqObject.step shadow) s history (with_choices g.B.Shadows.choice_for order)) starts.1
    (followed-linearizes (g.A.SeqObject.step object) (g.B.SeqObject.step shadow) g.met.B.Shadows.is_followed g.met.B.Shadows.shadow_of g.B.Shadows.choice_for
    (g.met.B.Shadows.follows shadow object follows) (g.A.SeqObject.start object) history order starts.0 linearizes)
