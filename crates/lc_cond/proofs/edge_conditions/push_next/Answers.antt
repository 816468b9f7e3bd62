use Rattle.std.proofs.Common.{◌++◌, map, ap₂, sym, subst}
use Rattle.std.proofs.lemmas.Result.{on_ok_weaker}
use Rattle.lc_put.specs.PutNumbers.{AreTerms}
use Rattle.lc_table.specs.Tables.{AreFormulas}
use Rattle.lc_outline.specs.Development.{invariant_of, asserts_to}
use Rattle.lc_rider.specs.Paths.{edge_variables}
use Rattle.lc_cond.specs.Adding.{Adds}
use Rattle.lc_cond.specs.Conditions.{conditions_of}
use Rattle.lc_cond.specs.Heads.{head_of}
use Rattle.lc_cond.specs.Scenes.{development_in, code_in, told_in}
use Rattle.lc_cond.proofs.Adding.{formulas_listed, terms_listed}
use Rattle.lc_cond.proofs.edge_conditions.push_next.Goals as goal

pub push_both_told-requires-clause-variables : goal.push_both_told-requires-clause-variables
push_both_told-requires-clause-variables c = subst (AreTerms c.args.terms.now) (sym c.deref.ensures.value) c.requires.scene.variables.are

pub push_both_told-requires-clause-first : goal.push_both_told-requires-clause-first
push_both_told-requires-clause-first c = subst (AreFormulas c.args.terms.now) (sym c.deref-2.ensures.value) c.requires.scene.invariant.are

pub push_both_told-requires-clause-second : goal.push_both_told-requires-clause-second
push_both_told-requires-clause-second c = subst (AreFormulas c.args.terms.now) (sym c.deref-3.ensures.value) c.requires.scene.next.are

pub returns-clause-list : goal.returns-clause-list
returns-clause-list c =
    let s = c.args.outcome.scene.now in
    let t0 = c.args.terms.now in
    let invariant = invariant_of (development_in s) in
    let next = asserts_to (development_in s) (code_in s).next in
    on_ok_weaker c.push_both_told.result
    (λ list hs has σ columns. subst (Adds c.args.conditions.now.items c.push_both_told.new.terms c.push_both_told.new.conditions.items)
    (ap₂ (λ h k. conditions_of (head_of h) hs (map (told_in s σ) invariant) ++ conditions_of (head_of k) hs (map (told_in s σ) next)) c.on_path.ensures c.on_path-2.ensures)
    (list σ (edge_variables s.count (code_in s)) hs invariant next columns
    (terms_listed t0 s.variables.items c.deref.result.now _ c.requires.scene.variables c.deref.ensures.value) has
    (formulas_listed t0 s.invariant.items c.deref-2.result.now _ c.requires.scene.invariant c.deref-2.ensures.value)
    (formulas_listed t0 s.next.items c.deref-3.result.now _ c.requires.scene.next c.deref-3.ensures.value))) c.push_both_told.ensures.list
