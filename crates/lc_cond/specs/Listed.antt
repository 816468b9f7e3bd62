-- The list of the conditions is that of its parts.
use Rattle.std.specs.Prelude.{◌≡◌}
use Rattle.lc_term.specs.Lists.{concat_map}
use Rattle.lc_outline.specs.Development.{Development}
use Rattle.lc_cond.specs.Conditions.{parts, conditions_in, conditions}

abbrev pub PartsMakeTheList : Type 0
PartsMakeTheList = (D : Development) → concat_map (conditions_in D) (parts D) ≡ conditions D
