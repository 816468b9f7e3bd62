use Rattle.lc_term.specs.State.{state_of}
use Rattle.lc_object.specs.Objects.{object_view}
use Rattle.lc_object.specs.View.{terms_of}
use Rattle.lc_machine.proofs.Instructions.{effect_of_return}
use Rattle.lc_machine.proofs.instruction.return_effect.Goals as goal

pub returns : goal.returns
returns c =
    let parts = rw c.deref.ensures.0 at c.in_ok-answering.ensures in
    effect_of_return (object_view c.args.object.now) (state_of c.args.state.now) c.args.variables.now.values.items (terms_of c.args.values.now)
    c.in_ok-numbers.numbers.items c.in_ok-answering.field-0 c.in_ok-numbers.ensures.0 c.in_ok-numbers.ensures.1 c.requires.0 parts
