use Rattle.std.specs.Prelude.{[], List, IsTrue}
use Rattle.lc_lemmas.proofs.Options.{if_ok}
use Rattle.lc_history.specs.History.{Event, IsLinearizable}
use Rattle.lc_history.specs.Shadowed.{with_choices}
use Rattle.lc_native.specs.Stack.{stack_step}
use Rattle.lc_native.specs.declared.stack.NatStack.{NatStack}
use Rattle.lc_seq.specs.Sequential.{InOrder}
use Rattle.lc_seq.specs.TextStep.{start_of, text_step}
use Rattle.lc_seq.specs.TextView.{specification_of}
use Rattle.lc_uses.proofs.following.is_of_a_stack.Goals as goal

pub returns : goal.returns
returns c =
    let spec = specification_of c.args.spec.now in
    let stack : NatStack = record {} in
    if_ok c.fits.result _ (λ yes. IsTrue yes →
    (history : List Event) → IsLinearizable (text_step spec.operations) (start_of spec.columns) history → IsLinearizable stack_step [] history)
    (λ yes fits is history linearizable.
    (with_choices (λ _. InOrder) linearizable.0, c.shadowed.ensures stack c.args.spec.now history linearizable.0 (fits.0 is) linearizable.1))
    c.fits.ensures
