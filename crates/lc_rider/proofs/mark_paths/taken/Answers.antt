use Rattle.std.proofs.Common.{◌≡◌, List, ◌++◌, [], ◌∷◌, sym, ap, ◌∙◌, subst}
use Rattle.std.proofs.lemmas.Result.{IfOk-weaker}
use Rattle.lc_put.specs.PutNumbers.{terms_in, columns_at}
use Rattle.lc_term.specs.Said.{after}
use Rattle.lc_table.specs.Tables.{term_in, formula_in, HasFormula}
use Rattle.lc_term.specs.UpdateView.{updates_of}
use Rattle.lc_term.specs.declared.update.Update as M
use Rattle.lc_table.proofs.Later.{formula_later, formula_has}
use Rattle.lc_seq.specs.SpecView.{branch_of}
use Rattle.lc_seq.specs.TextView.{specification_of}
use Rattle.lc_action.specs.ActionView.{first_of}
use Rattle.lc_rider.specs.MarkView.{marking_of, branch_path}
use Rattle.lc_rider.specs.Paths.{is_empty, mark_updates, with_fact}
use Rattle.lc_rider.specs.PathView.{path_in, HasPath, with_columns}
use Rattle.lc_rider.specs.Rider.{Marking, Note}
use Rattle.lc_rider.proofs.BranchesTaken.{none_observing, settled_path, noted_path}
use Rattle.lc_rider.proofs.PathsAdded.{is_later, has_same}
use Rattle.lc_rider.proofs.PathLater.{has_path_later}
use Rattle.lc_rider.proofs.mark_paths.taken.Goals as goal

pub returns-clause-path : goal.returns-clause-path
returns-clause-path c =
    let operations = (specification_of c.args.mark.specification.now).operations in
    let first = first_of c.args.mark.system in
    let n = c.args.mark.rider in
    let t0 = c.args.terms.now in
    let t1 = c.marked_columns.new.terms in
    let t2 = c.stores_nothing.new.terms in
    let cl = term_in t0 c.args.mark.client in
    let p = path_in t0 c.args.path in
    let τ = terms_in t0 c.args.variables.now in
    let b = branch_of c.args.branch.now in
    let g = formula_in t0 c.args.guard in
    let σ = columns_at t1 c.in_ok-columns.columns.items in
    let behind : HasPath t1 c.with_columns-behind.result (with_columns p σ) =
    c.with_columns-behind.ensures t1 p (is_later t0 t1 c.args.path c.requires.path c.in_ok-columns.ensures.kept) c.in_ok-columns.ensures.are in
    let known : HasPath t1 c.in_ok-known.known (with_fact (with_columns p σ) g) =
    c.in_ok-known.ensures t1 (with_columns p σ) g behind (formula_later t0 t1 c.args.guard g (formula_has t0 c.args.guard c.requires.guard) c.in_ok-columns.ensures.kept) in
    let goal_is : HasFormula t2 c.in_ok-goal.goal (is_empty b.updates) =
    subst (λ (us : List M.Update). HasFormula t2 c.in_ok-goal.goal (is_empty (updates_of us))) c.deref.ensures.value c.in_ok-goal.ensures.id in
    let k : Marking = marking_of c.args.mark.marking cl in
    let is : Note ≡ k = sym (ap (λ m. marking_of m cl) c.in-Note.is) in
    let stored : σ ≡ after p.columns τ (mark_updates first Note b) = c.in_ok-columns.ensures.columns ∙ ap (λ (m : Marking). after p.columns τ (mark_updates first m b)) (sym is) in
    let all = noted_path operations first n p σ τ b g stored ∙ ap (λ (m : Marking). branch_path operations first n m τ b g p) is in
    IfOk-weaker c.with_duty.result _ _
    (λ r h. has_same t2 r _ _ (h t2 (with_fact (with_columns p σ) g) (is_empty b.updates) (has_path_later t1 t2 c.in_ok-known.known _ known c.in_ok-goal.ensures.kept) goal_is) all) c.with_duty.ensures

pub returns-in_default-clause-path : goal.returns-in_default-clause-path
returns-in_default-clause-path c =
    let operations = (specification_of c.args.mark.specification.now).operations in
    let first = first_of c.args.mark.system in
    let n = c.args.mark.rider in
    let t0 = c.args.terms.now in
    let t1 = c.marked_columns.new.terms in
    let cl = term_in t0 c.args.mark.client in
    let p = path_in t0 c.args.path in
    let τ = terms_in t0 c.args.variables.now in
    let b = branch_of c.args.branch.now in
    let g = formula_in t0 c.args.guard in
    let k : Marking = marking_of c.args.mark.marking cl in
    let σ = columns_at t1 c.in_ok-columns.columns.items in
    let behind : HasPath t1 c.with_columns-behind.result (with_columns p σ) =
    c.with_columns-behind.ensures t1 p (is_later t0 t1 c.args.path c.requires.path c.in_ok-columns.ensures.kept) c.in_ok-columns.ensures.are in
    let known : HasPath t1 c.in_ok-known.known (with_fact (with_columns p σ) g) =
    c.in_ok-known.ensures t1 (with_columns p σ) g behind (formula_later t0 t1 c.args.guard g (formula_has t0 c.args.guard c.requires.guard) c.in_ok-columns.ensures.kept) in
    has_same t1 c.in_ok-known.known _ _ known
    (settled_path operations first n k p σ τ b g c.in_ok-columns.ensures.columns (none_observing operations first n c.args.mark.marking cl (p.facts ++ g ∷ []) b c.in_default.not-Note))
