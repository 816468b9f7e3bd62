-- A text says one history and one order, or has one first wrong item, and never both.
use Rattle.std.proofs.Common.{◌≡◌, ℕ, zero, suc, ◌+◌, ◌<◌, List, [], ◌∷◌, ◌++◌, Some, take, slice_get, length, ap, sym, subst, ◌∙◌, arith, ◌⊎◌, inl, inr, true}
use Rattle.std.specs.Prelude.{is_some}
use Rattle.std.proofs.lemmas.Bool.{cases_order}
use Rattle.serde_json.specs.Data.{Data}
use Rattle.lc_lemmas.proofs.Lists.{get_taken, take-take}
use Rattle.lc_lemmas.proofs.Options.{same_option}
use Rattle.lc_seq.specs.Specification.{Operation}
use Rattle.lc_history.specs.History.{Event, Entry}
use Rattle.lc_hist.specs.JsonHistories.{Parts, HasParts, IsNext, AreNext, AreEvents, AreEntries, IsFirstWrongEvent, IsFirstWrongEntry, IsWrongInEvents, IsWrongInOrder, IsWrongItem, SaysHistory}
use Rattle.lc_hist.specs.JsonRecorded.{HasRecorded, IsWrongRecordedItem, SaysRecorded}
use Rattle.lc_hist.specs.JsonValues.{all_in, event_in, entry_in}
use Rattle.lc_hist.proofs.JsonLists.{all_in-none}

same_events : (operations : List Operation) (before : List Event) (ds : List Data) (all every : List Event) → AreNext operations before ds all → AreNext operations before ds every → all ≡ every
same_events operations before [] all every h k = sym h ∙ k
same_events operations before (d ∷ ds) all every h k =
    let same = same_option (event_in operations d) k.0 h.0 k.1.form h.1.form in
    same_events operations (before ++ h.0 ∷ []) ds all every h.2 (subst (λ e. AreNext operations (before ++ e ∷ []) ds every) same k.2)

-- if all values are right, so is each
right_there : (operations : List Operation) (before : List Event) (ds : List Data) (all front : List Event) (place : ℕ) (value : Data) → AreNext operations before ds all → slice_get ds place ≡ Some value
    → AreNext operations before (take place ds) front → (e : Event) × IsNext operations front value e
right_there operations before [] all front place value h at k = absurd cc
right_there operations before (d ∷ ds) all front zero value h at k =
    let same : d ≡ value = cc in
    (h.0, subst (λ z. IsNext operations front z h.0) same (subst (λ z. IsNext operations z d h.0) k h.1))
right_there operations before (d ∷ ds) all front (suc place) value h at k =
    let same = same_option (event_in operations d) k.0 h.0 k.1.form h.1.form in
    right_there operations (before ++ h.0 ∷ []) ds all front place value h.2 at (subst (λ e. AreNext operations (before ++ e ∷ []) (take place ds) front) same k.2)

no_wrong_event : (operations : List Operation) (ds : List Data) (events : List Event) (place : ℕ) → AreEvents operations ds events → IsFirstWrongEvent operations ds place → ⊥
no_wrong_event operations ds events place right wrong =
    let there = right_there operations [] ds events wrong.before place wrong.value right wrong.stands wrong.right in
    wrong.wrong there.0 there.1

no_wrong_entry : (operations : List Operation) (ds : List Data) (place : ℕ) → is_some (all_in (entry_in operations) ds) ≡ true → IsFirstWrongEntry operations ds place → ⊥
no_wrong_entry operations ds place right wrong =
    let none = all_in-none (entry_in operations) ds place wrong.value wrong.stands wrong.wrong in
    let no = ap is_some none in
    absurd (cc (right, no))

event_at_front : (operations : List Operation) (ds : List Data) (p q : ℕ) → p < q → IsFirstWrongEvent operations ds p → IsFirstWrongEvent operations (take q ds) p
event_at_front operations ds p q lt wrong = record {
  value = wrong.value;
  stands = get_taken ds q p lt ∙ wrong.stands;
  before = wrong.before;
  right = subst (λ es. AreEvents operations es wrong.before) (sym (take-take ds q p (omega arith))) wrong.right;
  wrong = wrong.wrong;
}

entry_at_front : (operations : List Operation) (ds : List Data) (p q : ℕ) → p < q → IsFirstWrongEntry operations ds p → IsFirstWrongEntry operations (take q ds) p
entry_at_front operations ds p q lt wrong = record {
  value = wrong.value;
  stands = get_taken ds q p lt ∙ wrong.stands;
  right = subst (λ es. is_some (all_in (entry_in operations) es) ≡ true) (sym (take-take ds q p (omega arith))) wrong.right;
  wrong = wrong.wrong;
}

one_event : (operations : List Operation) (ds : List Data) (p q : ℕ) → IsFirstWrongEvent operations ds p → IsFirstWrongEvent operations ds q → p ≡ q
one_event operations ds p q a b =
    elim (cases_order p q) [
      | inl same ↦ same
      | inr (inl less) ↦ absurd (no_wrong_event operations (take q ds) b.before p b.right (event_at_front operations ds p q less a))
      | inr (inr more) ↦ absurd (no_wrong_event operations (take p ds) a.before q a.right (event_at_front operations ds q p more b))
    ]

one_entry : (operations : List Operation) (ds : List Data) (p q : ℕ) → IsFirstWrongEntry operations ds p → IsFirstWrongEntry operations ds q → p ≡ q
one_entry operations ds p q a b =
    elim (cases_order p q) [
      | inl same ↦ same
      | inr (inl less) ↦ absurd (no_wrong_entry operations (take q ds) p b.right (entry_at_front operations ds p q less a))
      | inr (inr more) ↦ absurd (no_wrong_entry operations (take p ds) q a.right (entry_at_front operations ds q p more b))
    ]

-- if a text has one list of parts at most, it says these events and these entries
abbrev pub SaysBy : (Parts → Type 0) → List Operation → List Event → List Entry → Type 0
SaysBy Has operations events order = (parts : Parts) × Has parts × AreEvents operations parts.events events × AreEntries operations parts.order order

-- or this item of it is the first that is wrong
abbrev pub IsWrongBy : (Parts → Type 0) → List Operation → ℕ → Type 0
IsWrongBy Has operations item =
    ((item ≡ 0) × ((parts : Parts) → Has parts → ⊥)) ⊎ ((parts : Parts) × Has parts × (IsWrongInEvents operations parts item ⊎ IsWrongInOrder operations parts item))

abbrev pub OneOf : (Parts → Type 0) → Type 0
OneOf Has = (p q : Parts) → Has p → Has q → p ≡ q

one_said : (Has : Parts → Type 0) → OneOf Has → (operations : List Operation) (events said : List Event) (order entries : List Entry) → SaysBy Has operations events order → SaysBy Has operations said entries → (events ≡ said) × (order ≡ entries)
one_said Has one operations events said order entries a b =
    let same = one b.0 a.0 b.1 a.1 in (
      same_events operations [] a.0.events events said a.2 (subst (λ p. AreEvents operations p.events said) same b.2),
      same_option (all_in (entry_in operations) a.0.order) order entries a.3 (subst (λ p. AreEntries operations p.order entries) same b.3),
    )

said_not_wrong : (Has : Parts → Type 0) → OneOf Has → (operations : List Operation) (events : List Event) (order : List Entry) (item : ℕ) → SaysBy Has operations events order → IsWrongBy Has operations item → ⊥
said_not_wrong Has one operations events order item says (inl h) = h.1 says.0 says.1
said_not_wrong Has one operations events order item says (inr (parts, text, inl h)) =
    let same = one says.0 parts says.1 text in
    no_wrong_event operations parts.events events h.0 (subst (λ p. AreEvents operations p.events events) same says.2) h.1
said_not_wrong Has one operations events order item says (inr (parts, text, inr h)) =
    let same = one says.0 parts says.1 text in
    let right = subst (λ p. AreEntries operations p.order order) same says.3 in
    no_wrong_entry operations parts.order h.1 (ap is_some right) h.3

one_of_parts : (operations : List Operation) (parts : Parts) (a b : ℕ) → IsWrongInEvents operations parts a ⊎ IsWrongInOrder operations parts a → IsWrongInEvents operations parts b ⊎ IsWrongInOrder operations parts b → a ≡ b
one_of_parts operations parts a b (inl h) (inl k) = h.2 ∙ ap (λ n. 1 + n) (one_event operations parts.events h.0 k.0 h.1 k.1) ∙ sym k.2
one_of_parts operations parts a b (inl h) (inr k) = absurd (no_wrong_event operations parts.events k.0 h.0 k.2 h.1)
one_of_parts operations parts a b (inr h) (inl k) = absurd (no_wrong_event operations parts.events h.0 k.0 h.2 k.1)
one_of_parts operations parts a b (inr h) (inr k) = h.4 ∙ ap (λ n. 1 + length parts.events + n) (one_entry operations parts.order h.1 k.1 h.3 k.3) ∙ sym k.4

one_wrong : (Has : Parts → Type 0) → OneOf Has → (operations : List Operation) (a b : ℕ) → IsWrongBy Has operations a → IsWrongBy Has operations b → a ≡ b
one_wrong Has one operations a b (inl h) (inl k) = h.0 ∙ sym k.0
one_wrong Has one operations a b (inl h) (inr (parts, text, k)) = absurd (h.1 parts text)
one_wrong Has one operations a b (inr (parts, text, h)) (inl k) = absurd (k.1 parts text)
one_wrong Has one operations a b (inr (p, text, h)) (inr (q, also, k)) =
    one_of_parts operations p a b h (subst (λ z. IsWrongInEvents operations z b ⊎ IsWrongInOrder operations z b) (one q p also text) k)

-- ---- a history with its order

same_parts : (bytes : List ℕ) → OneOf (HasParts bytes)
same_parts bytes p q a b = same_option _ p q a.reads b.reads

history_by : (operations : List Operation) (bytes : List ℕ) (events : List Event) (order : List Entry) → SaysHistory operations bytes events order → SaysBy (HasParts bytes) operations events order
history_by operations bytes events order says = (says.parts, says.text, says.events, says.order)

pub one_history : (operations : List Operation) (bytes : List ℕ) (events said : List Event) (order entries : List Entry) → SaysHistory operations bytes events order → SaysHistory operations bytes said entries
    → (events ≡ said) × (order ≡ entries)
one_history operations bytes events said order entries a b =
    one_said (HasParts bytes) (same_parts bytes) operations events said order entries (history_by operations bytes events order a) (history_by operations bytes said entries b)

pub not_both : (operations : List Operation) (bytes : List ℕ) (events : List Event) (order : List Entry) (item : ℕ) → SaysHistory operations bytes events order → IsWrongItem operations bytes item → ⊥
not_both operations bytes events order item says wrong = said_not_wrong (HasParts bytes) (same_parts bytes) operations events order item (history_by operations bytes events order says) wrong

pub one_item : (operations : List Operation) (bytes : List ℕ) (a b : ℕ) → IsWrongItem operations bytes a → IsWrongItem operations bytes b → a ≡ b
one_item operations bytes a b = one_wrong (HasParts bytes) (same_parts bytes) operations a b

-- ---- a recorded history

same_recorded : (bytes : List ℕ) → OneOf (HasRecorded bytes)
same_recorded bytes p q a b = same_option _ p q a.reads b.reads

recorded_by : (operations : List Operation) (bytes : List ℕ) (events : List Event) (order : List Entry) → SaysRecorded operations bytes events order → SaysBy (HasRecorded bytes) operations events order
recorded_by operations bytes events order says = (says.parts, says.text, says.events, says.order)

pub one_recorded : (operations : List Operation) (bytes : List ℕ) (events said : List Event) (order entries : List Entry) → SaysRecorded operations bytes events order → SaysRecorded operations bytes said entries
    → (events ≡ said) × (order ≡ entries)
one_recorded operations bytes events said order entries a b =
    one_said (HasRecorded bytes) (same_recorded bytes) operations events said order entries (recorded_by operations bytes events order a) (recorded_by operations bytes said entries b)

pub recorded_not_wrong : (operations : List Operation) (bytes : List ℕ) (events : List Event) (order : List Entry) (item : ℕ) → SaysRecorded operations bytes events order → IsWrongRecordedItem operations bytes item → ⊥
recorded_not_wrong operations bytes events order item says wrong = said_not_wrong (HasRecorded bytes) (same_recorded bytes) operations events order item (recorded_by operations bytes events order says) wrong

pub one_recorded_item : (operations : List Operation) (bytes : List ℕ) (a b : ℕ) → IsWrongRecordedItem operations bytes a → IsWrongRecordedItem operations bytes b → a ≡ b
one_recorded_item operations bytes a b = one_wrong (HasRecorded bytes) (same_recorded bytes) operations a b
