use Rattle.std.proofs.Common.{◌≡◌, [], ◌∷◌, ◌+◌, ◌++◌, ◌≤◌, List, length, drop, sym, ap, ◌∙◌, subst, append-nil, arith, refl}
use Rattle.std.proofs.lemmas.Bool.Decides.{nat_tests}
use Rattle.std.proofs.lemmas.List.{drop_all}
use Rattle.lc_put.specs.PutNumbers.{terms_in}
use Rattle.lc_term.specs.Syntax.{Formula, Not}
use Rattle.lc_term.specs.Said.{told}
use Rattle.lc_table.specs.Tables.{term_in, HasFormula}
use Rattle.lc_term.specs.View.{formula_of}
use Rattle.lc_put.proofs.ByNumber.{are_terms_later}
use Rattle.lc_table.proofs.Later.{kept_on, keeps_itself, formula_later, formula_is, is_term_still}
use Rattle.lc_seq.specs.SpecView.{branch_of}
use Rattle.lc_seq.specs.TextView.{specification_of}
use Rattle.lc_seq.specs.declared.specification.Branch.{Branch}
use Rattle.lc_action.specs.ActionView.{first_of}
use Rattle.lc_rider.specs.MarkView.{marking_of, branches_at, branch_path}
use Rattle.std.specs.Borrow.{Bor}
use Rattle.lc_rider.specs.Paths as S
use Rattle.lc_rider.specs.Paths.{Path, with_fact}
use Rattle.lc_rider.specs.PathView.{path_in, HasPath}
use Rattle.lc_rider.proofs.BranchesTaken.{guard_still, taken_still, branches_step}
use Rattle.lc_rider.proofs.PathsAdded.{is_later, adds_none, adds_on, adds_one, adds_same}
use Rattle.lc_rider.proofs.PathLater.{is_path_later, has_path_later}
use Rattle.lc_rider.proofs.mark_paths.branch_paths.Goals as goal

pub loop-number-init : goal.loop-number-init
loop-number-init c = record {
  kept = keeps_itself c.args.terms.now;
  path = c.requires.path;
  paths = ([], adds_none c.args.paths.now.items c.args.terms.now, refl);
}

pub taken-requires-clause-path : goal.taken-requires-clause-path
taken-requires-clause-path c = is_path_later c.loop-number.terms c.guard_on.new.terms c.loop-number.path c.loop-number.invariant.path c.in_ok-guard.ensures.kept

pub taken-requires-clause-client : goal.taken-requires-clause-client
taken-requires-clause-client c =
    let kept = kept_on c.args.terms.now c.loop-number.terms c.guard_on.new.terms c.loop-number.invariant.kept c.in_ok-guard.ensures.kept in
    is_term_still c.args.terms.now c.guard_on.new.terms c.args.mark.client c.requires.client kept

pub taken-requires-clause-variables : goal.taken-requires-clause-variables
taken-requires-clause-variables c =
    let kept = kept_on c.args.terms.now c.loop-number.terms c.guard_on.new.terms c.loop-number.invariant.kept c.in_ok-guard.ensures.kept in
    are_terms_later c.args.terms.now c.guard_on.new.terms c.args.variables.now c.requires.variables kept

pub taken-requires-in-loop-number-clause-path : goal.taken-requires-in-loop-number-clause-path
taken-requires-in-loop-number-clause-path c =
    let t0 = c.loop-number.terms in
    let t1 = c.guard_on.new.terms in
    (c.in_ok-copy.ensures t1 (path_in t0 c.loop-number.path) (is_later t0 t1 c.loop-number.path c.loop-number.invariant.path c.in_ok-guard.ensures.kept)).is

pub taken-requires-in-loop-number-clause-client : goal.taken-requires-in-loop-number-clause-client
taken-requires-in-loop-number-clause-client c =
    let kept = kept_on c.args.terms.now c.loop-number.terms c.guard_on.new.terms c.loop-number.invariant.kept c.in_ok-guard.ensures.kept in
    is_term_still c.args.terms.now c.guard_on.new.terms c.args.mark.client c.requires.client kept

pub taken-requires-in-loop-number-clause-variables : goal.taken-requires-in-loop-number-clause-variables
taken-requires-in-loop-number-clause-variables c =
    let kept = kept_on c.args.terms.now c.loop-number.terms c.guard_on.new.terms c.loop-number.invariant.kept c.in_ok-guard.ensures.kept in
    are_terms_later c.args.terms.now c.guard_on.new.terms c.args.variables.now c.requires.variables kept

pub returns-in_err-push-2-clause-kept : goal.returns-in_err-push-2-clause-kept
returns-in_err-push-2-clause-kept c =
    let t0 = c.loop-number.terms in
    let t1 = c.guard_on.new.terms in
    let t2 = c.taken-in-loop-number.new.terms in
    kept_on c.args.terms.now t0 t2 c.loop-number.invariant.kept (kept_on t0 t1 t2 c.in_ok-guard.ensures.kept c.in_ok-behind.ensures.kept)

pub loop-number-preserved : goal.loop-number-preserved
loop-number-preserved c =
    let operations = (specification_of c.args.mark.specification.now).operations in
    let first = first_of c.args.mark.system in
    let n = c.args.mark.rider in
    let m = c.args.mark.marking in
    let client = c.args.mark.client in
    let t = c.args.terms.now in
    let t0 = c.loop-number.terms in
    let t1 = c.guard_on.new.terms in
    let t2 = c.taken-in-loop-number.new.terms in
    let t3 = c.not.new.self in
    let inv = c.loop-number.invariant in
    let path = c.loop-number.path in
    let guard = c.in_ok-guard.guard in
    let cl = term_in t client in
    let k = marking_of m cl in
    let q = path_in t0 path in
    let vs = terms_in t c.args.variables.now in
    let b = c.index-branches-number.result in
    let g : Formula = told q.columns vs (formula_of b.now.guard) in
    let whole = S.branch_paths operations first n k vs (branches_at c.args.branches.now) (path_in t c.args.path) in
    let kept01 = c.in_ok-guard.ensures.kept in
    let kept12 = c.in_ok-behind.ensures.kept in
    let kept23 = c.in_ok-fails.ensures.kept in
    let kept03 = kept_on t0 t1 t3 kept01 (kept_on t1 t2 t3 kept12 kept23) in
    let guard_is : HasFormula t1 guard g = guard_still t t0 c.args.variables.now q.columns (formula_of b.now.guard) t1 guard c.requires.variables inv.kept c.in_ok-guard.ensures.id in
    let copy : HasPath t1 c.in_ok-copy.copy q = c.in_ok-copy.ensures t1 q (is_later t0 t1 path inv.path kept01) in
    let x : Path = branch_path operations first n k vs (branch_of b.now) g q in
    let behind : HasPath t2 c.in_ok-behind.behind x =
    taken_still operations first n m t t1 t2 client c.args.variables.now (branch_of b.now) guard g c.in_ok-copy.copy c.in_ok-behind.behind q c.requires.client c.requires.variables (kept_on t t0 t1 inv.kept kept01) guard_is copy c.in_ok-behind.ensures.path in
    let fails : HasFormula t3 c.in_ok-fails.fails (Not g) =
    subst (λ (f : Formula). HasFormula t3 c.in_ok-fails.fails (Not f)) (formula_is t2 guard g (formula_later t1 t2 guard g guard_is kept12)) c.in_ok-fails.ensures.id in
    let next : HasPath t3 c.in_ok-path.path (with_fact q (Not g)) = c.in_ok-path.ensures t3 q (Not g) (is_later t0 t3 path inv.path kept03) fails in
    record {
      kept = kept_on t t0 t3 inv.kept kept03;
      path = next.is;
      paths = (
        inv.paths.0 ++ x ∷ [],
        adds_on c.args.paths.now.items c.loop-number.paths.items c.push-in-loop-number.new.self.items t0 t3 inv.paths.0 (x ∷ []) inv.paths.1 kept03
            (adds_one c.loop-number.paths.items c.push-in-loop-number.new.self.items t3 c.in_ok-behind.behind x c.in_ok-push-2.ensures.items (has_path_later t2 t3 c.in_ok-behind.behind x behind kept23)),
        branches_step operations first n k vs c.args.branches.now c.loop-number.number b inv.paths.0 x q (path_in t3 c.in_ok-path.path) g whole
            c.loop-number-test.true c.index-branches-number.is refl refl next.path inv.paths.2,
      );
    }

pub returns-then-number-branches-clause-paths : goal.returns-then-number-branches-clause-paths
returns-then-number-branches-clause-paths c =
    let operations = (specification_of c.args.mark.specification.now).operations in
    let first = first_of c.args.mark.system in
    let n = c.args.mark.rider in
    let m = c.args.mark.marking in
    let client = c.args.mark.client in
    let t = c.args.terms.now in
    let t0 = c.loop-number.terms in
    let t1 = c.guard_on.new.terms in
    let t2 = c.taken.new.terms in
    let inv = c.loop-number.invariant in
    let path = c.loop-number.path in
    let guard = c.in_ok-guard.guard in
    let cl = term_in t client in
    let k = marking_of m cl in
    let q = path_in t0 path in
    let vs = terms_in t c.args.variables.now in
    let b = c.index-branches-number.result in
    let i = c.loop-number.number in
    let g : Formula = told q.columns vs (formula_of b.now.guard) in
    let whole = S.branch_paths operations first n k vs (branches_at c.args.branches.now) (path_in t c.args.path) in
    let kept01 = c.in_ok-guard.ensures.kept in
    let guard_is : HasFormula t1 guard g = guard_still t t0 c.args.variables.now q.columns (formula_of b.now.guard) t1 guard c.requires.variables inv.kept c.in_ok-guard.ensures.id in
    let x : Path = branch_path operations first n k vs (branch_of b.now) g q in
    let behind : HasPath t2 c.in_ok-taken.field-0 x =
    taken_still operations first n m t t1 t2 client c.args.variables.now (branch_of b.now) guard g path c.in_ok-taken.field-0 q c.requires.client c.requires.variables (kept_on t t0 t1 inv.kept kept01) guard_is (is_later t0 t1 path inv.path kept01) c.in_ok-taken.ensures.path in
    let last : length c.args.branches.now ≤ i + 1 = grind (arith, nat_tests) in
    let none : drop (i + 1) c.args.branches.now ≡ [] = drop_all (i + 1) c.args.branches.now last in
    let ys = inv.paths.0 ++ x ∷ [] in
    let all : ys ≡ whole =
    sym (append-nil ys) ∙ (ap (λ (bs : List (Bor Branch)). ys ++ S.branch_paths operations first n k vs (branches_at bs) (with_fact q (Not g))) (sym none)
    ∙ branches_step operations first n k vs c.args.branches.now i b inv.paths.0 x q (with_fact q (Not g)) g whole c.loop-number-test.true c.index-branches-number.is refl refl refl inv.paths.2) in
    adds_same c.args.paths.now.items c.push.new.self.items t2 ys whole
    (adds_on c.args.paths.now.items c.loop-number.paths.items c.push.new.self.items t0 t2 inv.paths.0 (x ∷ []) inv.paths.1 (kept_on t0 t1 t2 kept01 c.in_ok-taken.ensures.kept)
    (adds_one c.loop-number.paths.items c.push.new.self.items t2 c.in_ok-taken.field-0 x c.in_ok-push.ensures.items behind)) all
