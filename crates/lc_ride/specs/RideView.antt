-- What is returned when riders are done.
use Rattle.std.specs.Prelude.{◌≡◌, ℕ, ◌+◌, ◌≤◌, Bool, true, false, ◌&&◌, List, ◌++◌, Option, Some, None, Result, Ok, Err, map, length}
use Rattle.std.specs.List.{list_all}
use Rattle.lc_term.specs.Meaning.{State}
use Rattle.lc_term.specs.Places.{known, term_passes, is_known}
use Rattle.lc_term.specs.Syntax.{Formula}
use Rattle.lc_term.specs.Truth.{is_ground}
use Rattle.lc_term.specs.SystemColumns.{column_count}
use Rattle.lc_seq.specs.Run.{seq_says}
use Rattle.lc_seq.specs.Sequential.{given_in}
use Rattle.lc_seq.specs.Specification.{Operation, update_is_resolved, branch_is_resolved}
use Rattle.lc_seq.specs.SpecView.{choice_of}
use Rattle.lc_seq.specs.Branches.{op_branches, arity}
use Rattle.lc_seq.specs.declared.fault.SeqFault.{SeqFault}
use Rattle.lc_rider.specs.Rider as S
use Rattle.lc_rider.specs.Rider.{Marking, Own, Other, Note, Deed, Assign, Marks, Rider}
use Rattle.lc_ride.specs.Riding.{Ridden}
use Rattle.lc_ride.specs.declared.marks.Mark.{Mark}

abbrev pub mark_of : Mark → S.Mark
mark_of m = record { client = m.client; note = m.note; choice = choice_of m.choice; reply = m.reply.items }

abbrev pub marks_of : List Mark → List S.Mark
marks_of ms = map mark_of ms

-- columns and variables of a rider's own terms are below these counts, and its condition has no quantifier
abbrev pub marking_is_evaluable : ℕ → ℕ → Marking → Bool
marking_is_evaluable columns variables Own = true
marking_is_evaluable columns variables (Other t p) = term_passes (known columns variables) t
marking_is_evaluable columns variables Note = true

abbrev pub deed_is_evaluable : ℕ → ℕ → Deed → Bool
deed_is_evaluable columns variables (Assign u) = update_is_resolved columns variables u
deed_is_evaluable columns variables (Marks k by) = list_all (term_passes (known columns variables)) (given_in by) && marking_is_evaluable columns variables k

abbrev pub condition_is_evaluable : ℕ → ℕ → Option Formula → Bool
condition_is_evaluable columns variables None = true
condition_is_evaluable columns variables (Some f) = is_ground f && is_known columns variables f

abbrev pub rider_is_evaluable : ℕ → ℕ → Rider → Bool
rider_is_evaluable columns variables r = condition_is_evaluable columns variables r.condition && deed_is_evaluable columns variables r.deed

-- there are enough columns: the system columns, and those of the branches, which have no quantifier in their guards; and
-- the variables of a branch are the number of clients, the client, the arguments and the branch's parameters
pub record AreThere (operations : List Operation) (first columns : ℕ) : Type 0 where
  pub system : column_count first ≤ columns
  pub branches : (o : ℕ) → list_all (λ b. branch_is_resolved columns (2 + arity operations o + length (given_in b.label)) b) (op_branches operations o) ≡ true

-- What is returned if riders are done that would make these marks and leave these columns, if they can be done. On true
-- the marks come after those before, and the columns are these; on false they cannot be done
abbrev pub IsRidden : Type 0 → Option Ridden → List Mark → List Mark → State → Result Bool SeqFault → Type 0
IsRidden fits wanted before after columns (Ok true) = fits × ((ms : List S.Mark) × (wanted ≡ Some (ms, columns)) × (marks_of after ≡ marks_of before ++ ms))
IsRidden fits wanted before after columns (Ok false) = fits × (wanted ≡ None)
IsRidden fits wanted before after columns (Err fault) = seq_says fault fits
