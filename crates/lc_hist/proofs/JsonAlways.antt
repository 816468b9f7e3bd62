-- Each text says a history and an order, or has a first wrong item.
use Rattle.std.proofs.Common.{◌≡◌, ℕ, zero, suc, ◌+◌, ◌≤◌, Bool, true, false, List, [], ◌∷◌, ◌++◌, Option, Some, None, option_and_then, option_map, take, slice_get, length, refl, sym, subst, arith, ◌⊎◌, inl, inr}
use Rattle.std.specs.Prelude.{is_some, IsUtf8, nat_le}
use Rattle.std.specs.Str.{is_utf8}
use Rattle.std.proofs.lemmas.Bool.{leb-true, leb-false}
use Rattle.std.proofs.lemmas.List.{append-nil, append_assoc}
use Rattle.std.proofs.lemmas.Str.{IsUtf8-from_is_utf8, is_utf8-from_IsUtf8}
use Rattle.lc_base.specs.Limits.{file_limit}
use Rattle.serde_json.specs.Data.{Data}
use Rattle.serde_json.specs.Read.{read}
use Rattle.lc_seq.specs.Specification.{Operation}
use Rattle.lc_history.specs.History.{Event, Entry}
use Rattle.lc_hist.specs.JsonHistories.{Parts, parts_in, HasParts, IsNext, AreEvents, AreEntries, IsFirstWrongEvent, IsFirstWrongEntry, IsWrongItem, SaysHistory}
use Rattle.lc_hist.specs.JsonRecorded.{recorded_in, HasRecorded, IsWrongRecordedItem, SaysRecorded}
use Rattle.lc_hist.specs.JsonSeen.{may_follow}
use Rattle.lc_hist.specs.JsonValues.{all_in, event_in, entry_in}
use Rattle.lc_history.specs.WellFormed.{client_of}
use Rattle.lc_hist.proofs.JsonAnswers.{no_form}
use Rattle.lc_hist.proofs.JsonOnce.{SaysBy, IsWrongBy}
use Rattle.lc_hist.proofs.JsonEvents.{AreOpen, table_by, table_next, next_event, take_front, open_next, may_follow_busy, is_next, is_no_next, within_limit}

-- ---- events

abbrev AreRightOrWrong : List Operation → List Data → Type 0
AreRightOrWrong operations ds = ((all : List Event) × AreEvents operations ds all) ⊎ ((place : ℕ) × IsFirstWrongEvent operations ds place)

at_seam : {A : Type 0} (front : List A) (x : A) (xs : List A) → slice_get (front ++ x ∷ xs) (length front) ≡ Some x
at_seam [] x xs = refl
at_seam (y ∷ front) x xs = at_seam front x xs

wrong_behind : (operations : List Operation) (front : List Data) (d : Data) (ds : List Data) (before : List Event) → AreEvents operations front before → ((e : Event) → IsNext operations before d e → ⊥)
    → AreRightOrWrong operations (front ++ d ∷ ds)
wrong_behind operations front d ds before are wrong = inr (
  length front,
  record {
    value = d;
    stands = at_seam front d ds;
    before = before;
    right = subst (λ l. AreEvents operations l before) (sym (take_front front (d ∷ ds))) are;
    wrong = wrong;
  },
)

-- what is left after a front of right events is right, or has a first wrong one
abbrev Onward : List Operation → List Data → Type 0
Onward operations ds = (front : List Data) (before : List Event) → AreEvents operations front before → AreOpen before (table_by before) → AreRightOrWrong operations (front ++ ds)

behind_event : (operations : List Operation) (d : Data) (ds : List Data) → Onward operations ds → (front : List Data) (before : List Event) → AreEvents operations front before → AreOpen before (table_by before)
    → (e : Event) → event_in operations d ≡ Some e → (b : Bool) → may_follow operations (table_by before (client_of e)) e ≡ b → AreRightOrWrong operations (front ++ d ∷ ds)
behind_event operations d ds onward front before are calls e form true may =
    let next = is_next operations before (table_by before) d e calls form (within_limit operations d e form) may in
    let opened = open_next before (table_by before) (table_by (before ++ e ∷ [])) e calls (may_follow_busy operations (table_by before (client_of e)) e may) (table_next before e) in
    subst (AreRightOrWrong operations) (append_assoc front (d ∷ []) ds) (onward (front ++ d ∷ []) (before ++ e ∷ []) (next_event operations [] front before d e are next) opened)
behind_event operations d ds onward front before are calls e form false may_not =
    wrong_behind operations front d ds before are (is_no_next operations before (table_by before) d e calls form may_not)

event_or_wrong : (operations : List Operation) (d : Data) (ds : List Data) → Onward operations ds → (front : List Data) (before : List Event) → AreEvents operations front before → AreOpen before (table_by before)
    → (said : Option Event) → event_in operations d ≡ said → AreRightOrWrong operations (front ++ d ∷ ds)
event_or_wrong operations d ds onward front before are calls None form = wrong_behind operations front d ds before are (no_form operations before d form)
event_or_wrong operations d ds onward front before are calls (Some e) form =
    behind_event operations d ds onward front before are calls e form (may_follow operations (table_by before (client_of e)) e) refl

onward : (operations : List Operation) (ds : List Data) → Onward operations ds
onward operations [] front before are calls = inl (before, subst (λ l. AreEvents operations l before) (sym (append-nil front)) are)
onward operations (d ∷ ds) front before are calls = event_or_wrong operations d ds (onward operations ds) front before are calls (event_in operations d) refl

events_or_wrong : (operations : List Operation) (ds : List Data) → AreRightOrWrong operations ds
events_or_wrong operations ds = onward operations ds [] [] refl (record { pending = λ c. refl; busy = λ c. refl })

-- ---- entries

abbrev AreSaidOrWrong : List Operation → List Data → Type 0
AreSaidOrWrong operations ds = ((all : List Entry) × AreEntries operations ds all) ⊎ ((place : ℕ) × IsFirstWrongEntry operations ds place)

entry_behind : (operations : List Operation) (d : Data) (ds : List Data) (entry : Entry) → entry_in operations d ≡ Some entry → AreSaidOrWrong operations ds → AreSaidOrWrong operations (d ∷ ds)
entry_behind operations d ds entry is (inl (all, are)) = inl (entry ∷ all, rw (is, are) refl)
entry_behind operations d ds entry is (inr (place, wrong)) =
    inr (suc place, record { value = wrong.value; stands = wrong.stands; right = some_more entry (all_in (entry_in operations) (take place ds)) (entry_in operations d) is wrong.right; wrong = wrong.wrong })
  where
    some_more : (entry : Entry) (all : Option (List Entry)) (said : Option Entry) → said ≡ Some entry → is_some all ≡ true → is_some (option_and_then (λ y. option_map (λ ys. y ∷ ys) all) said) ≡ true
    some_more entry None said is h = absurd cc
    some_more entry (Some all) None is h = absurd cc
    some_more entry (Some all) (Some other) is h = refl

entry_or_wrong : (operations : List Operation) (d : Data) (ds : List Data) → AreSaidOrWrong operations ds → (said : Option Entry) → entry_in operations d ≡ said → AreSaidOrWrong operations (d ∷ ds)
entry_or_wrong operations d ds rest None is = inr (zero, record { value = d; stands = refl; right = refl; wrong = is })
entry_or_wrong operations d ds rest (Some entry) is = entry_behind operations d ds entry is rest

entries_or_wrong : (operations : List Operation) (ds : List Data) → AreSaidOrWrong operations ds
entries_or_wrong operations [] = inl ([], refl)
entries_or_wrong operations (d ∷ ds) = entry_or_wrong operations d ds (entries_or_wrong operations ds) (entry_in operations d) refl

-- ---- the whole

-- a text has parts, by a function of its value, or has none
abbrev HasSome : (Data → Option Parts) → List ℕ → Type 0
HasSome parts_by bytes =
    ((parts : Parts) × (length bytes ≤ file_limit) × IsUtf8 bytes × (option_and_then parts_by (read bytes) ≡ Some parts))
    ⊎ ((parts : Parts) → length bytes ≤ file_limit → IsUtf8 bytes → option_and_then parts_by (read bytes) ≡ Some parts → ⊥)

read_or_not : (parts_by : Data → Option Parts) (bytes : List ℕ) → length bytes ≤ file_limit → IsUtf8 bytes → (said : Option Parts) → option_and_then parts_by (read bytes) ≡ said → HasSome parts_by bytes
read_or_not parts_by bytes limit utf8 None is = inr (λ parts le text reads. absurd (cc (is, reads)))
read_or_not parts_by bytes limit utf8 (Some parts) is = inl (parts, limit, utf8, is)

text_or_not : (parts_by : Data → Option Parts) (bytes : List ℕ) → length bytes ≤ file_limit → (b : Bool) → is_utf8 bytes ≡ b → HasSome parts_by bytes
text_or_not parts_by bytes limit true is = read_or_not parts_by bytes limit (IsUtf8-from_is_utf8 bytes is) (option_and_then parts_by (read bytes)) refl
text_or_not parts_by bytes limit false is = inr (λ parts le text reads. let yes = is_utf8-from_IsUtf8 bytes text in absurd (cc (is, yes)))

within_or_not : (parts_by : Data → Option Parts) (bytes : List ℕ) (b : Bool) → nat_le (length bytes) file_limit ≡ b → HasSome parts_by bytes
within_or_not parts_by bytes true is = text_or_not parts_by bytes (let le = leb-true (length bytes) file_limit is in omega (arith, le)) (is_utf8 bytes) refl
within_or_not parts_by bytes false is = inr (λ parts le text reads. let lt = leb-false (length bytes) file_limit is in absurd (omega (arith, le, lt)))

has_some : (parts_by : Data → Option Parts) (bytes : List ℕ) → HasSome parts_by bytes
has_some parts_by bytes = within_or_not parts_by bytes (nat_le (length bytes) file_limit) refl

abbrev SaidOrWrongBy : (Parts → Type 0) → List Operation → Type 0
SaidOrWrongBy Has operations = ((events : List Event) × (order : List Entry) × SaysBy Has operations events order) ⊎ ((item : ℕ) × IsWrongBy Has operations item)

in_order : (Has : Parts → Type 0) (operations : List Operation) (parts : Parts) → Has parts → (events : List Event) → AreEvents operations parts.events events → AreSaidOrWrong operations parts.order → SaidOrWrongBy Has operations
in_order Has operations parts has events are (inl (order, said)) = inl (events, order, (parts, has, are, said))
in_order Has operations parts has events are (inr (place, wrong)) = inr (1 + length parts.events + place, inr (parts, has, inr (events, place, are, wrong, refl)))

in_parts : (Has : Parts → Type 0) (operations : List Operation) (parts : Parts) → Has parts → AreRightOrWrong operations parts.events → SaidOrWrongBy Has operations
in_parts Has operations parts has (inl (events, are)) = in_order Has operations parts has events are (entries_or_wrong operations parts.order)
in_parts Has operations parts has (inr (place, wrong)) = inr (1 + place, inr (parts, has, inl (place, wrong, refl)))

by_parts : (Has : Parts → Type 0) (operations : List Operation) → ((parts : Parts) × Has parts) ⊎ ((parts : Parts) → Has parts → ⊥) → SaidOrWrongBy Has operations
by_parts Has operations (inl (parts, has)) = in_parts Has operations parts has (events_or_wrong operations parts.events)
by_parts Has operations (inr none) = inr (0, inl (refl, none))

-- a history with its order
parts_or_not : (bytes : List ℕ) → HasSome parts_in bytes → ((parts : Parts) × HasParts bytes parts) ⊎ ((parts : Parts) → HasParts bytes parts → ⊥)
parts_or_not bytes (inl (parts, limit, utf8, reads)) = inl (parts, record { limit = limit; utf8 = utf8; reads = reads })
parts_or_not bytes (inr none) = inr (λ parts has. none parts has.limit has.utf8 has.reads)

abbrev pub IsSaidOrWrong : List Operation → List ℕ → Type 0
IsSaidOrWrong operations bytes = ((events : List Event) × (order : List Entry) × SaysHistory operations bytes events order) ⊎ ((item : ℕ) × IsWrongItem operations bytes item)

history_or_wrong : (operations : List Operation) (bytes : List ℕ) → SaidOrWrongBy (HasParts bytes) operations → IsSaidOrWrong operations bytes
history_or_wrong operations bytes (inl (events, order, (parts, has, are, said))) = inl (events, order, record { parts = parts; text = has; events = are; order = said })
history_or_wrong operations bytes (inr wrong) = inr wrong

pub said_or_wrong : (operations : List Operation) (bytes : List ℕ) → IsSaidOrWrong operations bytes
said_or_wrong operations bytes = history_or_wrong operations bytes (by_parts (HasParts bytes) operations (parts_or_not bytes (has_some parts_in bytes)))

-- a recorded history
recorded_or_not : (bytes : List ℕ) → HasSome recorded_in bytes → ((parts : Parts) × HasRecorded bytes parts) ⊎ ((parts : Parts) → HasRecorded bytes parts → ⊥)
recorded_or_not bytes (inl (parts, limit, utf8, reads)) = inl (parts, record { limit = limit; utf8 = utf8; reads = reads })
recorded_or_not bytes (inr none) = inr (λ parts has. none parts has.limit has.utf8 has.reads)

abbrev pub IsRecordedOrWrong : List Operation → List ℕ → Type 0
IsRecordedOrWrong operations bytes = ((events : List Event) × (order : List Entry) × SaysRecorded operations bytes events order) ⊎ ((item : ℕ) × IsWrongRecordedItem operations bytes item)

recorded_said : (operations : List Operation) (bytes : List ℕ) → SaidOrWrongBy (HasRecorded bytes) operations → IsRecordedOrWrong operations bytes
recorded_said operations bytes (inl (events, order, (parts, has, are, said))) = inl (events, order, record { parts = parts; text = has; events = are; order = said })
recorded_said operations bytes (inr wrong) = inr wrong

pub recorded_or_wrong : (operations : List Operation) (bytes : List ℕ) → IsRecordedOrWrong operations bytes
recorded_or_wrong operations bytes = recorded_said operations bytes (by_parts (HasRecorded bytes) operations (recorded_or_not bytes (has_some recorded_in bytes)))
