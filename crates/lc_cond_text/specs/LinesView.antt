-- What is left of the text of the conditions, and how a piece of it is handed out.
use Rattle.std.specs.Prelude.{◌≡◌, ℕ, suc, ◌+◌, ◌≤◌, List, [], ◌++◌, map, drop, length, Option, Some, None, Vec, Bool, true, false}
use Rattle.std.specs.declared.alloc.Global.{Global}
use Rattle.lc_cond.specs.Conditions as S
use Rattle.lc_cond.specs.ConditionView.{condition_in, AreConditions}
use Rattle.lc_cond.specs.Stream.{conditions_left, parts_left}
use Rattle.lc_cond.specs.declared.condition.Condition.{Condition}
use Rattle.lc_outline.specs.Development.{Development}
use Rattle.lc_cond_text.specs.ConditionText.{spelled, text_from}
use Rattle.lc_cond_text.specs.Recalled.{Recalls}
use Rattle.lc_cond_text.specs.declared.lines.Left.{Left}
use Rattle.lc_cond_text.specs.declared.lines.State.{State}
use Rattle.lc_cond_text.specs.declared.lines.State.TheVariants.{Going, Ended, Failed}

-- what is left: its text, and how many pieces it may still come in; or it is out of memory
pub record LinesLeft : Type 0 where
  pub text : List ℕ
  pub pieces : ℕ
  pub spent : Bool

abbrev pub text_left : LinesLeft → List ℕ
text_left l = l.text

abbrev pub pieces_left : LinesLeft → ℕ
pieces_left l = l.pieces

-- it is out of memory, so it returns nothing else any more
abbrev pub is_spent : LinesLeft → Bool
is_spent l = l.spent

-- the conditions that are left: those of the last part that are not written, and those that the stream has left
abbrev pub unwritten : Left → List Condition
unwritten l = drop l.written l.part.items

abbrev pub conditions_unwritten : Development → Left → List S.Condition
conditions_unwritten d l = map (condition_in l.terms) (unwritten l) ++ conditions_left d l.stream

-- their text
abbrev pub text_unwritten : Development → Left → List ℕ
text_unwritten d l = text_from d l.number (conditions_unwritten d l)

-- how many parts are to be made, and how many lines to be written
abbrev pub steps_left : Development → Left → ℕ
steps_left d l = parts_left d l.stream + length (conditions_unwritten d l)

-- the table has the conditions, and what is recalled of it
pub record IsLeft (d : Development) (l : Left) : Type 0 where
  pub are : AreConditions l.terms (unwritten l)
  pub recalls : Recalls (spelled d) l.terms l.texts

-- what is left in each state
abbrev pub left_in : Development → State → Left → LinesLeft
left_in d Going l = record { text = text_unwritten d l; pieces = suc (steps_left d l); spent = false }
left_in d Ended l = record { text = []; pieces = 0; spent = false }
left_in d Failed l = record { text = []; pieces = 0; spent = true }

-- a piece is the beginning of what is left; there is none exactly if nothing is left
abbrev pub IsNextPiece : LinesLeft → LinesLeft → Option (Vec ℕ Global) → Type 0
IsNextPiece before after None = (text_left before ≡ []) × (after ≡ before)
IsNextPiece before after (Some piece) = (text_left before ≡ piece.items ++ text_left after) × (suc (pieces_left after) ≤ pieces_left before)

-- Something is appended, or a part is made; with what is left it is all that was left. If there was no
-- more, the line of the count is written
pub record GoesOn (d : Development) (old : List ℕ) (before : Left) (new : List ℕ) (after : Left) : Type 0 where
  pub text : old ++ text_unwritten d before ≡ new ++ text_unwritten d after
  pub fewer : suc (steps_left d after) ≤ steps_left d before
  pub left : IsLeft d after

abbrev pub Passes : Development → List ℕ → Left → List ℕ → Left → Bool → Type 0
Passes d old before new after true = GoesOn d old before new after
Passes d old before new after false = new ≡ old ++ text_unwritten d before
