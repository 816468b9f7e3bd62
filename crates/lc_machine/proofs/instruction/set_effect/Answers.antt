use Rattle.lc_term.specs.State.{state_of}
use Rattle.lc_object.specs.Objects.{object_view}
use Rattle.lc_object.specs.View.{locals_of, terms_of}
use Rattle.lc_machine.proofs.Instructions.{effect_of_set}
use Rattle.lc_machine.proofs.instruction.set_effect.Goals as goal

pub returns : goal.returns
returns c =
    let parts = rw c.deref.ensures.0 at c.in_ok-assigning.ensures in
    effect_of_set (object_view c.args.object.now) (state_of c.args.state.now) c.args.variables.now.values.items (locals_of c.args.targets.now) (terms_of c.args.values.now) c.args.next.0
    c.in_ok-assigned.assigned.items c.in_ok-assigning.field-0 c.in_ok-assigned.ensures.0 c.in_ok-assigned.ensures.1 c.requires.4 parts
