-- Whether a return's numbers are what a mark or a note stored, as a test, and the numbers that are read for it.
use Rattle.std.specs.Prelude.{◌≡◌, ℕ, Bool, ◌&&◌, ◌||◌, List, ℤ, pos, take, length, FitsSigned}
use Rattle.std.specs.Int.{w64}
use Rattle.std.specs.Cmp.Lexicographic.{pointwise}
use Rattle.std.specs.Ordering.{int_eq}
use Rattle.lc_term.specs.Meaning.{State}
use Rattle.lc_term.specs.SystemColumns.{pend, rep_columns, noted, note_columns}
use Rattle.lc_term.specs.Updates.{row}
use Rattle.lc_machine.specs.Fits.{ComparisonFits}

module _ (first : ℕ) (m : State) (c : ℕ) (numbers : List ℤ) where
  -- c's cells of the first of these columns hold the numbers, one in each
  abbrev pub stand_in : List ℕ → Bool
  stand_in cs = pointwise int_eq (row m (take (length numbers) cs) (pos c)) numbers

  -- these cells are read up to the first that differs
  abbrev pub StandFits : List ℕ → Type 0
  StandFits cs = ComparisonFits m (take (length numbers) cs) (pos c) numbers

  abbrev pub is_noted : Bool
  is_noted = int_eq (m (noted first) (pos c)) (pos 1) && stand_in (note_columns first)

  abbrev pub NoteFits : Type 0
  NoteFits = FitsSigned w64 (m (noted first) (pos c)) × (m (noted first) (pos c) ≡ pos 1 → StandFits (note_columns first))

  -- of a settled call the mark's reply, of another what was noted
  abbrev pub is_justified : Bool
  is_justified =
      (int_eq (m (pend first) (pos c)) (pos 2) && stand_in (rep_columns first))
      || (int_eq (m (pend first) (pos c)) (pos 1) && is_noted)

  -- the state of the call, then what is stored of its reply
  abbrev pub ReplyFits : Type 0
  ReplyFits =
      FitsSigned w64 (m (pend first) (pos c))
      × (m (pend first) (pos c) ≡ pos 2 → StandFits (rep_columns first))
      × (m (pend first) (pos c) ≡ pos 1 → NoteFits)
