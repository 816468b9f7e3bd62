-- A call that begins.
use Rattle.std.proofs.Common.{◌≡◌, ℕ, List, [], ℤ, true, Some, Result, Ok, Err, length, refl, sym, ap, subst, ◌∙◌}
use Rattle.std.specs.Prelude.{slice_get, IsErrAnd}
use Rattle.lc_term.specs.Meaning.{State}
use Rattle.lc_term.specs.Updates.{stored_all}
use Rattle.lc_object.specs.Syntax.{Operation, Object}
use Rattle.lc_object.specs.WellFormed.{variable_count}
use Rattle.lc_machine.specs.MayRun.{variables_at}
use Rattle.lc_machine.specs.Placed.{is_placed}
use Rattle.lc_machine.specs.Step as M
use Rattle.lc_machine.specs.Step.{IsClient, after}
use Rattle.lc_machine.specs.View.{client_of}
use Rattle.lc_machine.specs.World as W
use Rattle.lc_machine.specs.World.{World, Client, In, first_variables}
use Rattle.lc_machine.specs.declared.fault.StepFault.{StepFault}
use Rattle.lc_machine.specs.declared.fault.StepFault.TheVariants.{OutOfMemory}
use Rattle.lc_machine.proofs.Promised.{first_count}
use Rattle.lc_rider.specs.Rider.{Mark, invocation_writes}
use Rattle.lc_outline.specs.Development.{Development, first_system}
use Rattle.lc_ride.specs.RideView.{marks_of}
use Rattle.lc_sound.specs.Instrumented.{Instrumented}
use Rattle.lc_steps.specs.Stepping.{world_with}
use Rattle.lc_steps.specs.StepView.{what_of, MayBegin, IsBegun}
use Rattle.lc_steps.specs.declared.steps.Step.{Step}
use Rattle.lc_steps.proofs.Seen.{placed-there}

module _ (D : Development) (w : World) (c op : ℕ) (ns : List ℤ) (o : Operation) (there : slice_get D.object.operations op ≡ Some o) (count : length ns ≡ length o.arguments) (idle : IsClient w c W.Idle) where
  pub may-begin : MayBegin D w c op ns
  may-begin = (idle, (o, there, count))

  pub refused : (columns : State) (r : Result Step StepFault) → IsErrAnd r (λ y. y ≡ OutOfMemory) → IsBegun D w c op ns columns r
  refused columns (Ok x) e = absurd e
  refused columns (Err y) e = subst (λ z. IsBegun D w c op ns columns (Err z)) (sym e) may-begin

  begun-there : (marks : List Mark) → marks ≡ [] → Instrumented D w c (M.Invoked op ns) marks
      (world_with w (stored_all w.columns (invocation_writes (first_system D) c op ns)) c (In o.entry (first_variables (length w.clients) c o ns)))
  begun-there marks none = (after w w.columns c (In o.entry (first_variables (length w.clients) c o ns)), (o, there, count, idle, refl), none, refl)

  -- the step that is made
  pub begun : (t : Step) (columns : State) (variables given : List ℤ) → what_of t.what ≡ M.Invoked op given → marks_of t.marks.items ≡ [] → client_of t.client ≡ In o.entry variables →
      columns ≡ stored_all w.columns (invocation_writes (first_system D) c op ns) → variables ≡ first_variables (length w.clients) c o ns → given ≡ ns → IsBegun D w c op ns columns (Ok t)
  begun t columns variables given what none client stored first same =
      let event : what_of t.what ≡ M.Invoked op ns = what ∙ ap (M.Invoked op) same in
      let place : client_of t.client ≡ In o.entry (first_variables (length w.clients) c o ns) = client ∙ ap (In o.entry) first in (
        subst (λ x. Instrumented D w c x (marks_of t.marks.items) (world_with w columns c (client_of t.client))) (sym event)
            (subst (λ x. Instrumented D w c (M.Invoked op ns) (marks_of t.marks.items) (world_with w x c (client_of t.client))) (sym stored)
            (subst (λ x. Instrumented D w c (M.Invoked op ns) (marks_of t.marks.items) (world_with w (stored_all w.columns (invocation_writes (first_system D) c op ns)) c x)) (sym place)
            (begun-there (marks_of t.marks.items) none))),
        event,
      )

-- the client is at a point that has code
pub entry-placed : (object : Object) (o : Operation) (clients client : ℕ) (ns vs : List ℤ) (reached : Client) → variables_at object o.entry ≡ Some (variable_count o) → length ns ≡ length o.arguments → vs ≡ first_variables clients client o ns →
    reached ≡ In o.entry vs → is_placed object reached ≡ true
entry-placed object o clients client ns vs reached entry count first is =
    let same : length vs ≡ variable_count o = ap length first ∙ first_count clients client o ns count in
    ap (is_placed object) is ∙ placed-there object o.entry vs (entry ∙ ap Some (sym same))
