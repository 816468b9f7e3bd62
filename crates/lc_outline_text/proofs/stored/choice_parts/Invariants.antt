use Rattle.std.proofs.Common.{◌≡◌, map, take}
use Rattle.lc_outline_text.specs.Rests.{rests_of}
use Rattle.lc_outline_text.specs.StoredView.{behind_parameters}
use Rattle.lc_outline_text.proofs.stored.choice_parts.Given as goal

-- those of the choices so far
abbrev pub invariant-loop-choice : goal.invariant-loop-choice
invariant-loop-choice l = rests_of l.parts.items ≡ map behind_parameters (rests_of (take l.choice-index l.choices))
