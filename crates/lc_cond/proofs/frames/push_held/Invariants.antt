use Rattle.std.proofs.Common.{◌≡◌, ◌++◌, map, drop}
use Rattle.lc_term.specs.View.{term_of, formulas_of}
use Rattle.lc_cond.specs.Conditions.{hold_terms}
use Rattle.lc_cond.proofs.Held.{numbers_of}
use Rattle.lc_cond.proofs.frames.push_held.Given as goal

-- the formulas so far, with those that are left, are all
abbrev pub invariant-loop-i : goal.invariant-loop-i
invariant-loop-i l =
    formulas_of l.formulas.items ++ hold_terms (numbers_of (drop l.i l.columns)) (map term_of (drop l.i l.terms))
    ≡ formulas_of l.fn.formulas.items ++ hold_terms (numbers_of l.columns) (map term_of l.terms)
