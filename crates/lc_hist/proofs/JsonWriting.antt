-- What is written of histories: it has no floats, nests five deep, and says nothing else.
use Rattle.std.proofs.Common.{◌≡◌, ℕ, suc, ◌≤◌, Bool, true, false, cond, ℤ, pos, negsuc, List, [], ◌∷◌, ◌++◌, Option, Some, None, option_map, option_and_then, map, slice_get, length, codes, refl, ap, sym, subst, ◌∙◌, arith, append_assoc, append-nil}
use Rattle.std.specs.Prelude.{bytes_eq, nat_le, nat_lt}
use Rattle.std.proofs.lemmas.Bool.{and_parts, eqb-true}
use Rattle.lc_history.specs.Limits.{client_limit}
use Rattle.serde_json.specs.Data.{Data, number, string, object, member, no_members, unsigned, depth, items_depth}
use Rattle.serde_json.specs.Read.{read}
use Rattle.serde_json.specs.View.{items_of}
use Rattle.serde_json.specs.Written.{has_float, items_have_float, compact_text}
use Rattle.lc_seq.specs.Sequential.{Call, Choice, InOrder, ByName, given_in}
use Rattle.lc_seq.specs.Specification.{Operation, takes}
use Rattle.lc_history.specs.History.{Event, Called, Replied, Entry}
use Rattle.lc_hist.specs.JsonHistories.{parts_in, AreNext, AreEntries}
use Rattle.lc_hist.specs.JsonKept.{AreKept, IsKeptEvent, IsKeptEntry, Each}
use Rattle.lc_hist.specs.JsonValues.{all_in, numbers_in, client_in, place_of, number_within, operation_of, call_with, call_in, has_replies, has_choice, pick_in, entry_with, done_from, event_in, entry_in}
use Rattle.lc_hist.proofs.JsonLists.{both_parts, values_in-items_of}
use Rattle.lc_hist.specs.JsonWritten.{list_data, number_data, numbers_data, name_of, name_data, event_data, entry_data, choice_data, history_data, history_text, SaysOnly}
use Rattle.lc_hist.proofs.NamesApart.{NamesDiffer}

-- ---- no floats

no_float_items : {A : Type 0} (f : A → Data) → ((x : A) → has_float (f x) ≡ false) → (xs : List A) → has_float (list_data (map f xs)) ≡ false
no_float_items f none [] = refl
no_float_items f none (x ∷ xs) = rw (none x) (no_float_items f none xs)

integer_is_no_float : (z : ℤ) → has_float (number_data z) ≡ false
integer_is_no_float (pos n) = refl
integer_is_no_float (negsuc n) = refl

numbers_have_no_float : (zs : List ℤ) → has_float (numbers_data zs) ≡ false
numbers_have_no_float zs = no_float_items number_data integer_is_no_float zs

name_has_no_float : (o : Option Operation) → has_float (name_of o) ≡ false
name_has_no_float None = refl
name_has_no_float (Some o) = refl

event_has_no_float : (operations : List Operation) (e : Event) → has_float (event_data operations e) ≡ false
event_has_no_float operations (Called c call) = rw (name_has_no_float (slice_get operations call.op), numbers_have_no_float call.numbers) refl
event_has_no_float operations (Replied c reply) = rw (numbers_have_no_float reply) refl

choice_has_no_float : (choice : Choice) → items_have_float (items_of (choice_data choice)) ≡ false
choice_has_no_float InOrder = refl
choice_has_no_float (ByName name numbers) = rw (numbers_have_no_float numbers) refl

entry_has_no_float : (operations : List Operation) (e : Entry) → has_float (entry_data operations e) ≡ false
entry_has_no_float operations e = rw (name_has_no_float (slice_get operations e.call.op), numbers_have_no_float e.call.numbers, numbers_have_no_float e.reply, choice_has_no_float e.choice) refl

pub history_has_no_float : (operations : List Operation) (events : List Event) (order : List Entry) → has_float (history_data operations events order) ≡ false
history_has_no_float operations events order =
    rw (no_float_items (event_data operations) (event_has_no_float operations) events, no_float_items (entry_data operations) (entry_has_no_float operations) order) refl

-- ---- depth

shallow_items : {A : Type 0} (f : A → Data) (n : ℕ) → ((x : A) → depth (f x) ≤ n) → (xs : List A) → items_depth (items_of (map f xs)) ≤ n
shallow_items f n shallow [] = omega arith
shallow_items f n shallow (x ∷ xs) = omega (arith, shallow x, shallow_items f n shallow xs)

shallow_integer : (z : ℤ) → depth (number_data z) ≤ 0
shallow_integer z = omega arith

shallow_numbers : (zs : List ℤ) → depth (numbers_data zs) ≤ 1
shallow_numbers zs = omega (arith, shallow_items number_data 0 shallow_integer zs)

shallow_name : (o : Option Operation) → depth (name_of o) ≤ 0
shallow_name None = omega arith
shallow_name (Some o) = omega arith

shallow_event : (operations : List Operation) (e : Event) → depth (event_data operations e) ≤ 2
shallow_event operations (Called c call) = omega (arith, shallow_name (slice_get operations call.op), shallow_numbers call.numbers)
shallow_event operations (Replied c reply) = omega (arith, shallow_numbers reply)

shallow_choice : (choice : Choice) → items_depth (items_of (choice_data choice)) ≤ 2
shallow_choice InOrder = omega arith
shallow_choice (ByName name numbers) = omega (arith, shallow_numbers numbers)

shallow_entry : (operations : List Operation) (e : Entry) → depth (entry_data operations e) ≤ 3
shallow_entry operations e =
    omega (arith, shallow_name (slice_get operations e.call.op), shallow_numbers e.call.numbers, shallow_numbers e.reply, shallow_choice e.choice)

pub history_is_shallow : (operations : List Operation) (events : List Event) (order : List Entry) → depth (history_data operations events order) ≤ 127
history_is_shallow operations events order =
    omega (arith, shallow_items (event_data operations) 2 (shallow_event operations) events, shallow_items (entry_data operations) 3 (shallow_entry operations) order)

-- ---- what is written says nothing else

same_text : (a b : List ℕ) → bytes_eq a b ≡ true → a ≡ b
same_text [] [] h = refl
same_text [] (y ∷ b) h = absurd cc
same_text (x ∷ a) [] h = absurd cc
same_text (x ∷ a) (y ∷ b) h =
    let p = and_parts _ (bytes_eq a b) h in
    let first = eqb-true x y p.0 in
    let others = same_text a b p.1 in
    cc

placed : (here : Bool) (o : Operation) (os : List Operation) (name : List ℕ) (k : ℕ) → bytes_eq name o.name ≡ here → (rest : Option ℕ)
    → ((j : ℕ) → rest ≡ Some j → (p : Operation) × (slice_get os j ≡ Some p) × (p.name ≡ name))
    → cond here (Some 0) (option_map suc rest) ≡ Some k → (p : Operation) × (slice_get (o ∷ os) k ≡ Some p) × (p.name ≡ name)
placed true o os name k same rest found h =
    let e : 0 ≡ k = cc in
    subst (λ z. (p : Operation) × (slice_get (o ∷ os) z ≡ Some p) × (p.name ≡ name)) e (o, refl, sym (same_text name o.name same))
placed false o os name k same None found h = absurd cc
placed false o os name k same (Some j) found h =
    let e : suc j ≡ k = cc in
    subst (λ z. (p : Operation) × (slice_get (o ∷ os) z ≡ Some p) × (p.name ≡ name)) e (found j refl)

-- the operation at the place of a name has the name
pub place_has_name : (os : List Operation) (name : List ℕ) (k : ℕ) → place_of os name ≡ Some k → (p : Operation) × (slice_get os k ≡ Some p) × (p.name ≡ name)
place_has_name [] name k h = absurd cc
place_has_name (o ∷ os) name k h = placed (bytes_eq name o.name) o os name k refl (place_of os name) (λ j e. place_has_name os name j e) h

within : (b : Bool) (n k : ℕ) → cond b (Some n) None ≡ Some k → n ≡ k
within true n k h = cc
within false n k h = absurd cc

number_is : (o : Option ℕ) (k : ℕ) → option_and_then number_within o ≡ Some k → o ≡ Some k
number_is None k h = absurd cc
number_is (Some n) k h = ap Some (within (nat_lt n 4294967296) n k h)

-- a call
call_is : (b : Bool) (call said : Call) → cond b (Some call) None ≡ Some said → call ≡ said
call_is true call said h = cc
call_is false call said h = absurd cc

named_call : (operations : List Operation) → NamesDiffer operations → (call said : Call) (o : Option Operation) → slice_get operations call.op ≡ o → AreKept call.numbers
    → call_in operations (name_of o) (numbers_data call.numbers) ≡ Some said → call ≡ said
named_call operations differ call said None at kept h = absurd cc
named_call operations differ call said (Some o) at kept h = by (operation_of operations o.name) refl h
  where
    by : (k : Option ℕ) → operation_of operations o.name ≡ k
        → option_and_then (λ op. option_and_then (call_with operations op) (numbers_in (numbers_data call.numbers))) k ≡ Some said → call ≡ said
    by None is h = absurd cc
    by (Some k) is h =
        let found = place_has_name operations o.name k (number_is (place_of operations o.name) k is) in
        let same : k ≡ call.op = differ k call.op found.0 o found.1 at found.2 in
        let given : call_with operations k call.numbers ≡ Some said = rw kept at h in
        let numbered = call_is (takes (slice_get operations k) (length call.numbers)) (record { op = k; numbers = call.numbers }) said given in
        ap (λ z. record { op = z; numbers = call.numbers }) (sym same) ∙ numbered

client_is : (c : ℕ) (k : ℕ) → client_in (number (unsigned c)) ≡ Some k → c ≡ k
client_is c k h = within (nat_le c client_limit) c k h

pub event_is : (operations : List Operation) → NamesDiffer operations → (e said : Event) → IsKeptEvent e → event_in operations (event_data operations e) ≡ Some said → e ≡ said
event_is operations differ (Called c call) said kept h =
    let parts = both_parts Called (client_in (number (unsigned c))) (call_in operations (name_data operations call.op) (numbers_data call.numbers)) said h in
    let client = client_is c parts.0 parts.2 in
    let same = named_call operations differ call parts.1 (slice_get operations call.op) refl kept parts.3 in
    (λ i. Called (client i) (same i)) ∙ parts.4
event_is operations differ (Replied c reply) said kept h =
    let parts = both_parts Replied (client_in (number (unsigned c))) (numbers_in (numbers_data reply)) said h in
    let client = client_is c parts.0 parts.2 in
    let same : reply ≡ parts.1 = cc (kept, parts.3) in
    (λ i. Replied (client i) (same i)) ∙ parts.4

entry_of_parts : (operations : List Operation) (c : ℕ) (call : Call) (choice : Choice) (reply : List ℤ) (b : Bool) (said : Entry)
    → cond b (Some (record { client = c; call = call; choice = choice; reply = reply })) None ≡ Some said
    → record { client = c; call = call; choice = choice; reply = reply } ≡ said
entry_of_parts operations c call choice reply true said h = cc
entry_of_parts operations c call choice reply false said h = absurd cc

four_parts : {A B C D E : Type 0} (f : A → B → C → D → Option E) (a : Option A) (b : Option B) (c : B → Option C) (d : Option D) (x : E)
    → option_and_then (λ y. option_and_then (λ z. option_and_then (λ u. option_and_then (f y z u) d) (c z)) b) a ≡ Some x
    → (y : A) × (z : B) × (u : C) × (w : D) × (a ≡ Some y) × (b ≡ Some z) × (c z ≡ Some u) × (d ≡ Some w) × (f y z u w ≡ Some x)
four_parts f None b c d x h = absurd cc
four_parts f (Some y) None c d x h = absurd cc
four_parts f (Some y) (Some z) c d x h = by (c z) refl d refl h
  where
    by : (k : Option _) → c z ≡ k → (l : Option _) → d ≡ l → option_and_then (λ u. option_and_then (f y z u) l) k ≡ Some x
        → (y' : _) × (z' : _) × (u : _) × (w : _) × (Some y ≡ Some y') × (Some z ≡ Some z') × (c z' ≡ Some u) × (d ≡ Some w) × (f y' z' u w ≡ Some x)
    by None is l at h = absurd cc
    by (Some u) is None at h = absurd cc
    by (Some u) is (Some w) at h = (y, z, u, w, refl, refl, is, at, h)

-- how a choice is said in a history
abbrev said : Choice → Option Data
said InOrder = None
said (ByName name numbers) = Some (list_data (string name ∷ numbers_data numbers ∷ []))

choice_of_parts : (b : Bool) (choice other : Choice) → cond b (Some choice) None ≡ Some other → choice ≡ other
choice_of_parts true choice other h = cc
choice_of_parts false choice other h = absurd cc

choice_is : (operations : List Operation) (op : ℕ) (choice other : Choice) → AreKept (given_in choice) → pick_in operations op (said choice) ≡ Some other → choice ≡ other
choice_is operations op InOrder other kept h = choice_of_parts (has_choice (slice_get operations op) InOrder) InOrder other h
choice_is operations op (ByName name numbers) other kept h =
    choice_of_parts (has_choice (slice_get operations op) (ByName name numbers)) (ByName name numbers) other (rw kept at h)

entry_parts : (operations : List Operation) → NamesDiffer operations → (c : ℕ) (call : Call) (choice : Choice) (reply : List ℤ) (other : Entry) → AreKept call.numbers → AreKept reply → AreKept (given_in choice)
    → done_from operations (number (unsigned c)) (name_data operations call.op) (numbers_data call.numbers) (numbers_data reply) (said choice) ≡ Some other
    → record { client = c; call = call; choice = choice; reply = reply } ≡ other
entry_parts operations differ c call choice reply other kept replied given h =
    let parts = four_parts (entry_with operations) (client_in (number (unsigned c))) (call_in operations (name_data operations call.op) (numbers_data call.numbers))
    (λ k. pick_in operations k.op (said choice)) (numbers_in (numbers_data reply)) other h in
    let client = client_is c parts.0 parts.4 in
    let same = named_call operations differ call parts.1 (slice_get operations call.op) refl kept parts.5 in
    let how = choice_is operations (parts.1).op choice parts.2 given parts.6 in
    let answer : reply ≡ parts.3 = cc (replied, parts.7) in
    let whole = entry_of_parts operations parts.0 parts.1 parts.2 parts.3 (has_replies (slice_get operations parts.1.op) (length parts.3)) other parts.8 in
    (λ i. record { client = client i; call = same i; choice = how i; reply = answer i }) ∙ whole

entry_by : (operations : List Operation) → NamesDiffer operations → (c : ℕ) (call : Call) (choice : Choice) (reply : List ℤ) (other : Entry) → AreKept call.numbers → AreKept reply → AreKept (given_in choice)
    → entry_in operations (entry_data operations (record { client = c; call = call; choice = choice; reply = reply })) ≡ Some other
    → record { client = c; call = call; choice = choice; reply = reply } ≡ other
entry_by operations differ c call InOrder reply other kept replied given h = entry_parts operations differ c call InOrder reply other kept replied given h
entry_by operations differ c call (ByName name numbers) reply other kept replied given h =
    entry_parts operations differ c call (ByName name numbers) reply other kept replied given h

pub entry_is : (operations : List Operation) → NamesDiffer operations → (e said : Entry) → IsKeptEntry e → entry_in operations (entry_data operations e) ≡ Some said → e ≡ said
entry_is operations differ e other kept h = entry_by operations differ e.client e.call e.choice e.reply other kept.0 kept.1 kept.2 h

each_behind : {A : Type 0} (P : A → Type 0) (x : A) (xs : List A) → Each P (x ∷ xs) → Each P xs
each_behind P x xs each i y at = each (suc i) y at

pub events_are : (operations : List Operation) → NamesDiffer operations → (before events said : List Event) → Each IsKeptEvent events
    → AreNext operations before (map (event_data operations) events) said → said ≡ before ++ events
events_are operations differ before [] said kept are = sym are ∙ sym (append-nil before)
events_are operations differ before (e ∷ events) said kept are =
    let same = event_is operations differ e are.0 (kept 0 e refl) are.1.form in
    events_are operations differ (before ++ are.0 ∷ []) events said (each_behind IsKeptEvent e events kept) are.2
    ∙ ap (λ z. (before ++ z ∷ []) ++ events) (sym same) ∙ append_assoc before (e ∷ []) events

pub entries_are : (operations : List Operation) → NamesDiffer operations → (order said : List Entry) → Each IsKeptEntry order
    → AreEntries operations (map (entry_data operations) order) said → said ≡ order
entries_are operations differ [] said kept are = cc
entries_are operations differ (e ∷ order) said kept are =
    let parts = both_parts (λ y ys. y ∷ ys) (entry_in operations (entry_data operations e)) (all_in (entry_in operations) (map (entry_data operations) order)) said are in
    let same = entry_is operations differ e parts.0 (kept 0 e refl) parts.2 in
    let others = entries_are operations differ order parts.1 (each_behind IsKeptEntry e order kept) parts.3 in
    sym parts.4 ∙ ap (λ z. z ∷ parts.1) (sym same) ∙ ap (λ zs. e ∷ zs) others

written_parts : (operations : List Operation) (events : List Event) (order : List Entry)
    → parts_in (history_data operations events order) ≡ Some (record { events = map (event_data operations) events; order = map (entry_data operations) order })
written_parts operations events order =
    rw (values_in-items_of (map (event_data operations) events), values_in-items_of (map (entry_data operations) order)) refl

pub says_only : (operations : List Operation) (bytes : List ℕ) (events : List Event) (order : List Entry) → read bytes ≡ Some (history_data operations events order)
    → NamesDiffer operations → Each IsKeptEvent events → Each IsKeptEntry order → SaysOnly operations bytes events order
says_only operations bytes events order reads differ kept_events kept_order = λ said entries says.
    let parts : Some (record { events = map (event_data operations) events; order = map (entry_data operations) order }) ≡ Some says.parts =
    sym (written_parts operations events order) ∙ ap (option_and_then parts_in) (sym reads) ∙ says.text.reads in
    let these : map (event_data operations) events ≡ says.parts.events = ap (λ p. p.events) (let e : record { events = map (event_data operations) events; order = map (entry_data operations) order } ≡ says.parts = cc in e) in
    let those : map (entry_data operations) order ≡ says.parts.order = ap (λ p. p.order) (let e : record { events = map (event_data operations) events; order = map (entry_data operations) order } ≡ says.parts = cc in e) in (
      events_are operations differ [] events said kept_events (subst (λ ds. AreNext operations [] ds said) (sym these) says.events),
      entries_are operations differ order entries kept_order (subst (λ ds. AreEntries operations ds entries) (sym those) says.order),
    )

-- the value of a history, from those of its parts
pub history_is_read : (x y : Data) (operations all : List Operation) (events known : List Event) (order : List Entry) → x ≡ list_data (map (event_data operations) events) → y ≡ list_data (map (entry_data operations) order)
    → operations ≡ all → events ≡ known → object (member (codes "events") x (member (codes "order") y no_members)) ≡ history_data all known order
history_is_read x y operations all events known order these those same found =
    (λ i. object (member (codes "events") (these i) (member (codes "order") (those i) no_members))) ∙ (λ i. history_data (same i) (found i) order)

-- its text
pub history_written : (bytes : List ℕ) (d : Data) (operations : List Operation) (events : List Event) (order : List Entry) → d ≡ history_data operations events order
    → (has_float d ≡ false → bytes ≡ compact_text d) → bytes ≡ history_text operations events order
history_written bytes d operations events order same text = text (ap has_float same ∙ history_has_no_float operations events order) ∙ ap compact_text same

-- what its text reads as
pub history_reads : (bytes : List ℕ) (d : Data) (operations : List Operation) (events : List Event) (order : List Entry) → d ≡ history_data operations events order
    → (depth d ≤ 127 → read bytes ≡ Some d) → read bytes ≡ Some (history_data operations events order)
history_reads bytes d operations events order same reads = reads (subst (λ z. depth z ≤ 127) (sym same) (history_is_shallow operations events order)) ∙ ap Some same
