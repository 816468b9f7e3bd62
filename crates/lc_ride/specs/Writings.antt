-- What was written to a draft since it was saved.
use Rattle.std.specs.Prelude.{◌≡◌, ℕ, ◌<◌, List, [], ◌∷◌, ℤ}
use Rattle.std.proofs.Props.{props}
use Rattle.lc_term.specs.Drafts.{written_in_draft, saved_in_draft, draft_columns}
use Rattle.lc_term.specs.Meaning.{State}
use Rattle.lc_term.specs.Updates.{Write, stored_all, AreWithin}
use Rattle.lc_term.specs.declared.draft.Draft.{Draft}

-- these were written, to columns that it has
abbrev pub IsWrittenBy : List Write → Draft → Type 0
IsWrittenBy ws d = (written_in_draft d ≡ stored_all (saved_in_draft d) ws) × AreWithin (draft_columns d) ws

below_once : (m n : ℕ) → IsProp (m < n)
below_once m n = hlevel props

within_once : (n : ℕ) (ws : List Write) → IsProp (AreWithin n ws)
within_once n [] x y = λ i. tt
within_once n (w ∷ ws) x y = λ i. (below_once w.column n x.0 y.0 i, within_once n ws x.1 y.1 i)

number_once : (x y : ℤ) → IsProp (x ≡ y)
number_once x y = hlevel props

state_once : (s t : State) → IsProp (s ≡ t)
state_once s t p q = λ i j c k. number_once (s c k) (t c k) (λ l. p l c k) (λ l. q l c k) i j

-- this has one proof at most
pub written_once : (ws : List Write) (d : Draft) → IsProp (IsWrittenBy ws d)
written_once ws d x y = λ i. (state_once (written_in_draft d) (stored_all (saved_in_draft d) ws) x.0 y.0 i, within_once (draft_columns d) ws x.1 y.1 i)
