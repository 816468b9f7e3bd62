-- The cells that a step changes.
use Rattle.std.specs.Prelude.{◌≡◌, ℕ, ℤ, List, [], ◌∷◌, ◌++◌, Option, Some, None}
use Rattle.lc_term.specs.Meaning.{State}
use Rattle.lc_term.specs.State.{with_cell}
use Rattle.lc_term.specs.Updates.{Write}
use Rattle.lc_term.specs.UpdateView.{write_view}
use Rattle.lc_term.specs.declared.update.Write as code

-- each of these cells had another number before and has this one after, and no other cell changes
abbrev pub Changes : (after before : State) → List Write → Type 0
Changes after before [] = before ≡ after
Changes after before (w ∷ ws) =
    (before w.column w.index ≡ w.value → ⊥) × (after w.column w.index ≡ w.value) × Changes after (with_cell before w.column w.index w.value) ws

-- cell i of column c gets its number after: it had it; or it had another, and this is written
abbrev pub IsTakenOver : (after before new : State) (c : ℕ) (i : ℤ) → Option code.Write → Type 0
IsTakenOver after before new c i None = (before c i ≡ after c i) × (new ≡ before)
IsTakenOver after before new c i (Some w) =
    (write_view w ≡ record { column = c; index = i; value = after c i }) × (before c i ≡ after c i → ⊥) × (new ≡ with_cell before c i (after c i))

-- a cell behind others, if there is one
abbrev pub one_more : Option code.Write → List code.Write → List code.Write
one_more None cells = cells
one_more (Some w) cells = cells ++ w ∷ []
