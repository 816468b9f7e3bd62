use Rattle.std.proofs.Common.{rules, arith, sym, subst, ◌<◌}
use Rattle.std.specs.List.{All}
use Rattle.std.proofs.lemmas.List.Sorted.{All-permutation}
use Rattle.lc_put.specs.Deep.{IsTermBelow}
use Rattle.lc_table.specs.Tables.{IsTerm}
use Rattle.lc_put.proofs.deep.terms_below.Goals as goal

pub loop-place-init : goal.loop-place-init
loop-place-init g c = c.in_ok-find_parts.ensures c.args.part (omega arith) (c.nothing_found-found.ensures c.args.table.now c.args.part)

pub loop-place-preserved : goal.loop-place-preserved
loop-place-preserved g c =
    let less : c.in-Some.below < c.args.part = search rules in
    c.in_ok-find_parts-2.ensures c.args.part (omega arith) c.loop-place.invariant

pub returns-clause-there : goal.returns-clause-there
returns-clause-there g c =
    let there = subst (All (IsTerm c.args.table.now)) (sym c.into_terms-terms.ensures) c.loop-place.invariant.terms_there in
    All-permutation (IsTerm c.args.table.now) c.into_terms-terms.result.items c.sort_by_key.new.self.items c.sort_by_key.ensures.permutation there

pub returns-clause-below : goal.returns-clause-below
returns-clause-below g c =
    let below = subst (All (IsTermBelow c.args.part)) (sym c.into_terms-terms.ensures) c.loop-place.invariant.terms_below in
    All-permutation (IsTermBelow c.args.part) c.into_terms-terms.result.items c.sort_by_key.new.self.items c.sort_by_key.ensures.permutation below
