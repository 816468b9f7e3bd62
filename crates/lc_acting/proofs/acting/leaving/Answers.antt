use Rattle.std.proofs.Common.{subst}
use Rattle.std.specs.Prelude.{Option, IfOk}
use Rattle.lc_machine.specs.View.{variables_of}
use Rattle.lc_outline.specs.Development.{On}
use Rattle.lc_acting.specs.Attempts.{IsOnly, development_of, world_of, event_of}
use Rattle.lc_acting.specs.Acting.{IsAtReturn}
use Rattle.lc_acting.proofs.acting.leaving.Goals as goal

pub returns : goal.returns
returns c =
    let a = c.args.attempt.now in
    subst (λ (o : Option On). IfOk c.acting_at_return.result (IsOnly (IsAtReturn (development_of a) (world_of a) a.client (event_of a) (variables_of c.args.place.now) o))) c.on_at-on.ensures c.acting_at_return.ensures
