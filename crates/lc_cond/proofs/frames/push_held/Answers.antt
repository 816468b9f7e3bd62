use Rattle.std.proofs.Common.{◌≤◌, ◌++◌, length, map}
use Rattle.std.proofs.lemmas.Bool.Decides.{nat_tests}
use Rattle.std.proofs.Common.{arith}
use Rattle.lc_term.specs.View.{term_of, formulas_of}
use Rattle.lc_cond.specs.Conditions.{hold_terms}
use Rattle.lc_cond.proofs.Held.{numbers_of, held_end}
use Rattle.lc_cond.proofs.frames.push_held.Goals as goal

pub returns-in_default : goal.returns-in_default
returns-in_default c =
    let test = c.in_default.ensures.lookup.0 in
    let past : length c.args.terms.now ≤ c.loop-i.i = grind (arith, nat_tests) in
    held_end c.args.columns.now c.args.terms.now c.loop-i.i (formulas_of c.loop-i.formulas.items)
    (formulas_of c.args.formulas.now.items ++ hold_terms (numbers_of c.args.columns.now) (map term_of c.args.terms.now)) past c.loop-i.invariant
