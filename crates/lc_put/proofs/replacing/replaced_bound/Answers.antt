use Rattle.std.proofs.Common.{◌≡◌, ◌<◌, ◌≤◌, ◌+◌, slice_get, Some, subst, arith, rules, Less, Equal, Greater}
use Rattle.std.proofs.lemmas.Cmp.{ranked}
use Rattle.lc_put.specs.Filling.{IsFilled}
use Rattle.lc_table.specs.Nodes.{term}
use Rattle.lc_term.specs.Syntax as S
use Rattle.lc_table.specs.Tables.{parts}
use Rattle.lc_put.proofs.Filled.{bound_unput, opening_here, opening_inside, opening_outside, shifting_inside, shifting_outside}
use Rattle.lc_put.proofs.replacing.replaced_bound.Goals as goal

pub returns-in-Put-clause-id : goal.returns-in-Put-clause-id
returns-in-Put-clause-id g c = bound_unput c.args.put.now g.R.Filled.replacement c.args.depth c.args.table.now c.args.part c.args.number c.in-Put.is c.requires.put c.requires.there

pub returns-in-Put-2-clause-id : goal.returns-in-Put-2-clause-id
returns-in-Put-2-clause-id g c = bound_unput c.args.put.now g.R.Filled.replacement c.args.depth c.args.table.now c.args.part c.args.number c.in-Put.is c.requires.put c.requires.there

pub returns-in-Less-clause-id : goal.returns-in-Less-clause-id
returns-in-Less-clause-id g c =
    let put = subst (λ p. IsFilled p c.args.table.now g.R.Filled.replacement) c.in-Opening.is c.requires.put in
    let below : c.args.number < c.args.depth = ranked c.args.number c.args.depth Less c.in-Less.ensures in
    opening_inside g.R.Filled.replacement c.args.depth c.args.table.now c.args.part put.0 c.args.number put.2 below c.requires.there

pub returns-in_ok-raised-in-Equal-clause-id : goal.returns-in_ok-raised-in-Equal-clause-id
returns-in_ok-raised-in-Equal-clause-id g c =
    let put = subst (λ p. IsFilled p c.args.table.now g.R.Filled.replacement) c.in-Opening.is c.requires.put in
    let same : c.args.number ≡ c.args.depth = ranked c.args.number c.args.depth Equal c.in-Equal.ensures in
    opening_here g.R.Filled.replacement c.args.depth c.args.table.now c.raised.new.table c.in-Opening.term c.in_ok-raised-in-Equal.field-0 put.0 c.args.number put.2 put.1 same c.in_ok-raised-in-Equal.ensures.id

pub returns-in_ok-bound-in-Greater-clause-id : goal.returns-in_ok-bound-in-Greater-clause-id
returns-in_ok-bound-in-Greater-clause-id g c =
    let put = subst (λ p. IsFilled p c.args.table.now g.R.Filled.replacement) c.in-Opening.is c.requires.put in
    let above : c.args.depth < c.args.number = ranked c.args.number c.args.depth Greater c.in-Greater.ensures in
    opening_outside g.R.Filled.replacement c.args.depth c.bound.new.self c.in_ok-bound-in-Greater.field-0.0 put.0 c.args.number put.2 above c.in_ok-bound-in-Greater.ensures.id

pub returns-then-from-clause-id : goal.returns-then-from-clause-id
returns-then-from-clause-id g c =
    let put = subst (λ p. IsFilled p c.args.table.now g.R.Filled.replacement) c.in-Shift.is c.requires.put in
    let inside : c.args.number < c.in-Shift.cutoff + c.args.depth = omega arith in
    shifting_inside g.R.Filled.replacement c.args.depth c.args.table.now c.args.part c.in-Shift.added c.in-Shift.cutoff c.args.number put inside c.requires.there

pub returns-in_ok-bound-in-Shift-clause-id : goal.returns-in_ok-bound-in-Shift-clause-id
returns-in_ok-bound-in-Shift-clause-id g c =
    let r = g.R.Filled.replacement in
    let put = subst (λ p. IsFilled p c.args.table.now r) c.in-Shift.is c.requires.put in
    let outside : c.in-Shift.cutoff + c.args.depth ≤ c.args.number = omega arith in
    let moved : c.in_ok-number-in-Shift.number ≡ c.args.number + c.in-Shift.added = search rules in
    let at = subst (λ n. slice_get (parts c.bound-else-from.new.self) c.in_ok-bound-in-Shift.field-0.0 ≡ Some (term (S.Bound n))) moved c.in_ok-bound-in-Shift.ensures.id in
    shifting_outside r c.args.depth c.bound-else-from.new.self c.in_ok-bound-in-Shift.field-0.0 c.in-Shift.added c.in-Shift.cutoff c.args.number put outside at

pub returns-in-Put-3-clause-id : goal.returns-in-Put-3-clause-id
returns-in-Put-3-clause-id g c = bound_unput c.args.put.now g.R.Filled.replacement c.args.depth c.args.table.now c.args.part c.args.number c.in-Put.is c.requires.put c.requires.there
