use Rattle.lc_put.specs.PutNumbers.{terms_in}
use Rattle.lc_term.specs.Said.{told}
use Rattle.lc_table.specs.Tables.{HasFormula}
use Rattle.lc_put.proofs.ByNumber.{are_terms_later}
use Rattle.lc_table.proofs.Later.{kept_on}
use Rattle.lc_seq.specs.SpecView.{branch_of}
use Rattle.lc_rider.specs.PathView.{path_in}
use Rattle.lc_rider.proofs.Guarding.{told_still, guards_more, are_guards}
use Rattle.lc_rider.proofs.PathLater.{is_path_later}
use Rattle.lc_rider.proofs.marking.guards.Goals as goal

pub guard_on-requires-clause-path : goal.guard_on-requires-clause-path
guard_on-requires-clause-path c = is_path_later c.args.terms.now c.loop-branch.terms c.args.path.now c.requires.path c.loop-branch.invariant.kept

pub guard_on-requires-clause-variables : goal.guard_on-requires-clause-variables
guard_on-requires-clause-variables c = are_terms_later c.args.terms.now c.loop-branch.terms c.args.variables.now c.requires.variables c.loop-branch.invariant.kept

pub loop-branch-preserved : goal.loop-branch-preserved
loop-branch-preserved c =
    let old = c.args.terms.now in
    let now = c.loop-branch.terms in
    let new = c.guard_on.new.terms in
    let p = c.args.path.now in
    let vs = c.args.variables.now in
    let b = c.branch-item.result in
    let k = c.in_ok-guard.guard in
    let kept = c.guard_on.ensures.kept in
    let at : HasFormula new k (told (path_in old p).columns (terms_in old vs) (branch_of b.now).guard) =
    told_still old now new p vs k (branch_of b.now).guard c.requires.path c.requires.variables c.loop-branch.invariant.kept c.in_ok-guard.ensures.id in
    record {
      kept = kept_on old now new c.loop-branch.invariant.kept kept;
      are = are_guards now new c.loop-branch.guards.items c.push.new.self.items k _ c.in_ok-push.ensures.items c.loop-branch.invariant.are kept at;
      trees = guards_more old now new p vs c.args.branches.now c.loop-branch.branch-index b c.loop-branch.guards.items c.push.new.self.items k c.loop-branch-test.true c.branch-item.is c.in_ok-push.ensures.items
          c.loop-branch.invariant.are kept at c.loop-branch.invariant.trees;
    }
