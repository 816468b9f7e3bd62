use Rattle.std.proofs.Common.{◌≡◌, true, false, pos, rules, refl}
use Rattle.std.specs.Prelude.{FitsSigned}
use Rattle.std.specs.Int.{w64}
use Rattle.std.specs.Ordering.{int_eq}
use Rattle.lc_term.specs.SystemColumns.{op_column}
use Rattle.lc_action.specs.ActionView.{first_of}
use Rattle.lc_ride.specs.Drafts.{written_in_draft}
use Rattle.lc_seq.specs.SpecView.{operations_of, choice_of}
use Rattle.lc_ride.proofs.Deeding.{helped, not-named}
use Rattle.lc_ride.proofs.deeds.help_client.Goals as goal

pub returns-clause-done : goal.returns-clause-done
returns-clause-done c =
    let ops = operations_of c.args.call.operations.now in
    let m = written_in_draft c.args.draft.now in
    let first = first_of c.args.call.system in
    let p = c.args.call.operation.0 in
    let x = c.args.call.client in
    let cell = m (op_column first) (pos x) in
    let fits : FitsSigned w64 cell = search rules in
    let equal : int_eq cell (pos p) ≡ true = search rules in
    helped ops first m p (choice_of c.args.pick) x (pos x) c.args.marks.now.items c.settle.new.marks.items (written_in_draft c.settle.new.draft) c.settle.result refl fits equal c.settle.ensures.done

pub returns-then-not-branch-clause-done : goal.returns-then-not-branch-clause-done
returns-then-not-branch-clause-done c =
    let ops = operations_of c.args.call.operations.now in
    let m = written_in_draft c.args.draft.now in
    let first = first_of c.args.call.system in
    let p = c.args.call.operation.0 in
    let x = c.args.call.client in
    let cell = m (op_column first) (pos x) in
    let fits : FitsSigned w64 cell = search rules in
    let differs : int_eq cell (pos p) ≡ false = search rules in
    not-named ops first m p (choice_of c.args.pick) x (pos x) refl fits differs
