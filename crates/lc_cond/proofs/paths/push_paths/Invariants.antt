use Rattle.std.proofs.Common.{map, take}
use Rattle.lc_term.specs.Lists.{concat_places}
use Rattle.lc_table.specs.Tables.{Keeps, formulas_in}
use Rattle.lc_rider.specs.PathView.{path_in}
use Rattle.lc_cond.specs.Adding.{Adds}
use Rattle.lc_cond.specs.Scenes.{path_conditions_in}
use Rattle.lc_cond.proofs.paths.push_paths.Given as goal

-- the paths so far
abbrev pub invariant-loop-number : goal.invariant-loop-number
invariant-loop-number l =
    Keeps l.fn.terms l.terms
    × Adds l.fn.conditions.items l.terms l.conditions.items
    (concat_places (λ j p. path_conditions_in l.scene j (formulas_in l.fn.terms l.scene.hypotheses.items) p) 0 (map (path_in l.fn.terms) (take l.number l.paths)))
