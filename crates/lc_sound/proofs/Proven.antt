-- A development as a value is resolved, and derivations make its conditions valid.
use Rattle.std.proofs.Common.{List, [], ◌∷◌}
use Rattle.lc_term.specs.Lists.{Every}
use Rattle.lc_kernel.proofs.Sound.{derived_is_valid}
use Rattle.lc_outline.proofs.Resolving.{passed_is_resolved}
use Rattle.lc_outline.specs.DevelopmentView.{development_view}
use Rattle.lc_outline.specs.declared.development.Development.{Development}
use Rattle.lc_cond.specs.Conditions.{Condition}
use Rattle.lc_sound.specs.Claims.{IsProven}
use Rattle.lc_sound.specs.Derived.{IsDerived}
use Rattle.lc_sound.specs.Valid.{IsValid, AreValid}

pub valid_is_proven : (d : Development) → AreValid (development_view d) → IsProven (development_view d)
valid_is_proven d all = record { resolved = passed_is_resolved (development_view d) d.resolved; valid = all }

derived_valid : (c : Condition) → IsDerived c → IsValid c
derived_valid c d = derived_is_valid c.variables c.hypotheses c.goal d.proof d.derives d.hypotheses d.goal

pub derived_are_valid : (cs : List Condition) → Every IsDerived cs → Every IsValid cs
derived_are_valid [] h = tt
derived_are_valid (c ∷ cs) h = (derived_valid c h.0, derived_are_valid cs h.1)
