use Rattle.std.proofs.Common.{ℕ, List, map, ap, ap₂, subst, refl, pos}
use Rattle.std.proofs.lemmas.Result.{IfOk-weaker}
use Rattle.lc_term.specs.Said.{told}
use Rattle.lc_term.specs.Syntax.{Term, Column, Formula, Eq, Read, Number, Or, formulas}
use Rattle.lc_term.specs.SystemColumns as Y
use Rattle.lc_table.specs.Tables.{term_in, HasFormula}
use Rattle.lc_put.proofs.ByNumber.{terms_still}
use Rattle.lc_table.proofs.Later.{kept_on, formula_later, term_still, is_term_still}
use Rattle.lc_seq.specs.Specification.{Branch}
use Rattle.lc_put.specs.PutNumbers.{terms_in}
use Rattle.lc_seq.specs.TextView.{specification_of}
use Rattle.lc_action.specs.ActionView.{first_of}
use Rattle.lc_rider.specs.MarkView.{marking_of, branches_at, with_duties}
use Rattle.lc_rider.specs.Paths.{Path, Pending, Enabled, named_duty}
use Rattle.lc_rider.specs.PathView.{path_in, HasPath, with_duty}
use Rattle.lc_rider.proofs.Marked.{duties_in_turn}
use Rattle.lc_rider.proofs.PathsAdded.{is_later, has_same}
use Rattle.lc_rider.proofs.PathLater.{is_path_later, path_still}
use Rattle.lc_rider.proofs.mark_paths.with_mark_duties.Goals as goal

pub some_guard-requires-clause-path : goal.some_guard-requires-clause-path
some_guard-requires-clause-path c = is_path_later c.args.terms.now c.cell_is.new.terms c.args.path c.requires.path c.in_ok-pending.ensures.kept

pub with_named_duty-requires : goal.with_named_duty-requires
with_named_duty-requires c =
    let t0 = c.args.terms.now in
    let t1 = c.cell_is.new.terms in
    let t2 = c.some_guard.new.terms in
    let kept = kept_on t0 t1 t2 c.in_ok-pending.ensures.kept c.in_ok-enabled.ensures.kept in
    let pending = formula_later t1 t2 c.in_ok-pending.pending _ c.in_ok-pending.ensures.id c.in_ok-enabled.ensures.kept in
    record {
      path = (c.in_ok-owed.ensures t2 (path_in t0 c.args.path) _ (is_later t0 t2 c.args.path c.requires.path kept) pending).is;
      client = is_term_still t0 t2 c.args.mark.client c.requires.client kept;
    }

pub returns-clause-kept : goal.returns-clause-kept
returns-clause-kept c =
    let t0 = c.args.terms.now in
    let t1 = c.cell_is.new.terms in
    let t2 = c.some_guard.new.terms in
    let t3 = c.with_named_duty.new.terms in
    kept_on t0 t2 t3 (kept_on t0 t1 t2 c.in_ok-pending.ensures.kept c.in_ok-enabled.ensures.kept) c.in_ok-named.ensures.kept

pub returns-clause-path : goal.returns-clause-path
returns-clause-path c =
    let operations = (specification_of c.args.mark.specification.now).operations in
    let first = first_of c.args.mark.system in
    let n = c.args.mark.rider in
    let t0 = c.args.terms.now in
    let t1 = c.cell_is.new.terms in
    let t2 = c.some_guard.new.terms in
    let t3 = c.with_named_duty.new.terms in
    let cl = term_in t0 c.args.mark.client in
    let k = marking_of c.args.mark.marking in
    let p = path_in t0 c.args.path in
    let a = path_in t2 c.in_ok-owed.owed in
    let vs = terms_in t0 c.args.variables.now in
    let bs = branches_at c.args.branches.now in
    let before = c.in_ok-pending.ensures.kept in
    let kept = kept_on t0 t1 t2 before c.in_ok-enabled.ensures.kept in
    let pending : Formula = Eq (Read (p.columns (Y.pend first)) cl) (Number (pos 1)) in
    let enabled : Formula = Or (formulas (map (λ (x : Branch). told p.columns vs x.guard) bs)) in
    let pending_is : HasFormula t1 c.in_ok-pending.pending pending =
    subst (λ (j : ℕ). HasFormula t1 c.in_ok-pending.pending (Eq (Read (p.columns j) cl) (Number (pos 1)))) c.pend.ensures c.in_ok-pending.ensures.id in
    let some : (σ : ℕ → Column) (τ : List Term) → Formula = λ σ τ. Or (formulas (map (λ (x : Branch). told σ τ x.guard) bs)) in
    let enabled_is : HasFormula t2 c.in_ok-enabled.enabled enabled =
    subst (HasFormula t2 c.in_ok-enabled.enabled)
    (ap₂ some (ap (λ (q : Path). q.columns) (path_still t0 t1 c.args.path c.requires.path before)) (terms_still t0 t1 c.args.variables.now c.requires.variables before))
    c.in_ok-enabled.ensures.id in
    let owed : HasPath t2 c.in_ok-owed.owed (with_duty p Pending n pending) =
    c.in_ok-owed.ensures t2 p pending (is_later t0 t2 c.args.path c.requires.path kept) (formula_later t1 t2 c.in_ok-pending.pending pending pending_is c.in_ok-enabled.ensures.kept) in
    let named = with_duties a (named_duty operations first n (k cl) a cl) in
    let named_is : HasPath t3 c.in_ok-named.named named =
    subst (λ (u : Term). HasPath t3 c.in_ok-named.named (with_duties a (named_duty operations first n (k u) a u))) (term_still t0 t2 c.args.mark.client c.requires.client kept) c.in_ok-named.ensures.path in
    let all = duties_in_turn operations first n (k cl) cl p a named (with_duty named Enabled n enabled) pending enabled owed.path refl refl in
    IfOk-weaker c.with_duty-2.result _ _ (λ r h. has_same t3 r _ _ (h t3 named enabled named_is (formula_later t2 t3 c.in_ok-enabled.enabled enabled enabled_is c.in_ok-named.ensures.kept)) all) c.with_duty-2.ensures
