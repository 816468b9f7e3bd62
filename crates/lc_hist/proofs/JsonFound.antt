-- What is found at a place of the tokens is the value that begins there, and the values of an array from there on.
use Rattle.std.proofs.Common.{◌≡◌, ℕ, suc, ◌-◌, ◌≤◌, List, [], ◌∷◌, ◌++◌, length, Option, Some, None, option_map, option_and_then, refl, sym, ap, subst, ◌∙◌, arith, append_assoc, length-append}
use Rattle.json.specs.Token.{Token}
use Rattle.json.specs.Json as json
use Rattle.json.specs.Json.{parse_map, after_end_array, items, value}
use Rattle.json.specs.Find.{BeginsWith, InItems, NextItem}
use Rattle.json.specs.Find as find
use Rattle.json.specs.Tree.{json_tokens, items_tokens, members_tokens, depth, items_depth, members_depth}
use Rattle.json.proofs.Found.{items_close, items_go_on, Some_inj}
use Rattle.json.proofs.Grammar.{closed_array, value-begin_array}
use Rattle.json.proofs.Printed.Trees.{value-json_tokens}
use Rattle.json.proofs.Unique.Spelling.{value-json_tokens_back}
use Rattle.serde_json.specs.Data.{Num, Data, null, boolean, number, string, array, object, Items, item, no_members}
use Rattle.serde_json.specs.Find.{as_number, as_str, as_array, as_object}
use Rattle.serde_json.specs.Read.{number_of, of_json, of_items, of_members}
use Rattle.lc_hist.specs.JsonItems.{begun_at, data_at, IsData, listed_at, values_at, AreData}
use Rattle.lc_hist.specs.JsonValues.{values_in}

-- ---- a value nests no deeper than it has tokens

mutual
  depth-tokens : (j : json.Json) → depth j ≤ length (json_tokens j)
  depth-tokens json.null = omega arith
  depth-tokens (json.boolean b) = omega arith
  depth-tokens (json.number s) = omega arith
  depth-tokens (json.string s) = omega arith
  depth-tokens (json.array js) = omega (arith, items_depth-tokens js)
  depth-tokens (json.object ms) = omega (arith, members_depth-tokens ms)

  items_depth-tokens : (js : json.Items) → items_depth js ≤ length (items_tokens js)
  items_depth-tokens json.no_items = omega arith
  items_depth-tokens (json.item j js) = omega (arith, depth-tokens j, items_depth-tokens js, length-append (json_tokens j) (items_tokens js))

  members_depth-tokens : (ms : json.Members) → members_depth ms ≤ length (members_tokens ms)
  members_depth-tokens json.no_members = omega arith
  members_depth-tokens (json.member k j ms) = omega (arith, depth-tokens j, members_depth-tokens ms, length-append (json_tokens j) (members_tokens ms))

-- ---- a value

-- what begins there is what is read there
pub begun_at_value : (ts : List Token) (j : json.Json) → BeginsWith ts j → begun_at ts ≡ of_json j
begun_at_value ts j (d, r, e) =
    let spelled = value-json_tokens_back d ts r j e in
    let enough : depth j ≤ length ts = rw spelled (omega (arith, depth-tokens j, length-append (json_tokens j) r)) in
    ap (option_and_then (λ p. of_json p.0)) (ap (value (length ts)) spelled ∙ value-json_tokens j (length ts) r enough)

found_in : (ts : List Token) (o : Option (json.Json × List Token)) (d : Data) → value (length ts) ts ≡ o → option_and_then (λ p. of_json p.0) o ≡ Some d → (j : json.Json) × BeginsWith ts j × (of_json j ≡ Some d)
found_in ts None d e is = absurd cc
found_in ts (Some p) d e is = (p.0, (length ts, p.1, e), is)

-- if there is data, a value begins that says it
pub data_has_value : (ts : List Token) → IsData ts → (j : json.Json) × BeginsWith ts j × (of_json j ≡ Some (data_at ts))
data_has_value ts is = found_in ts _ (data_at ts) refl is

-- a value that says data begins there
pub is_data : (ts : List Token) (j : json.Json) (d : Data) → BeginsWith ts j → of_json j ≡ Some d → IsData ts × (data_at ts ≡ d)
is_data ts j d begins says = let e : begun_at ts ≡ Some d = begun_at_value ts j begins ∙ says in (rw e refl, rw e refl)

-- ---- the values of an array

no_more : (ts : List Token) (o : Option (List Token)) → after_end_array ts ≡ o → InItems ts json.no_items → (r : List Token) × (ts ≡ Token.end_array ∷ r)
no_more ts (Some r) e inside = (r, closed_array ts r e)
no_more ts None e inside = let f = items_go_on ts json.no_items e inside in let never = f.5 in absurd cc

one_more : (ts : List Token) (j : json.Json) (js : json.Items) (o : Option (List Token)) → after_end_array ts ≡ o → InItems ts (json.item j js) → (rest : List Token) × (ts ≡ json_tokens j ++ rest) × InItems rest js
one_more ts j js (Some r) e inside =
    let never = items_close r (json.item j js) (subst (λ us. InItems us (json.item j js)) (closed_array ts r e) inside) in
    absurd cc
one_more ts j js None e inside =
    let f = items_go_on ts (json.item j js) e inside in
    let first : f.1 ≡ j = cc in
    let later : f.3 ≡ js = cc in
    (f.2, value-json_tokens_back f.0 ts f.2 f.1 f.4 ∙ ap (λ i. json_tokens i ++ f.2) first, subst (InItems f.2) later f.6)

spelled_items : (js : json.Items) (ts : List Token) → InItems ts js → (r : List Token) × (ts ≡ items_tokens js ++ r)
spelled_items json.no_items ts inside = no_more ts _ refl inside
spelled_items (json.item j js) ts inside =
    let m = one_more ts j js _ refl inside in
    let t = spelled_items js m.0 m.2 in
    (t.0, m.1 ∙ ap (λ l. json_tokens j ++ l) t.1 ∙ sym (append_assoc (json_tokens j) (items_tokens js) t.0))

inside_array : (o : Option (json.Items × List Token)) (js : json.Items) (r : List Token) → parse_map json.array o ≡ Some (json.array js, r) → o ≡ Some (js, r)
inside_array None js r e = absurd cc
inside_array (Some (is, s)) js r e =
    let both = Some_inj _ _ e in
    let wrapped : json.array is ≡ json.array js = ap (λ p. p.0) both in
    let same : is ≡ js = cc in
    let rest : s ≡ r = ap (λ p. p.1) both in
    rw (same, rest) refl

read_items : (js : json.Items) (d : ℕ) (r : List Token) → items_depth js ≤ d → items (value d) (length (items_tokens js ++ r)) (items_tokens js ++ r) ≡ Some (js, r)
read_items js d r enough =
    let ts = items_tokens js ++ r in
    let less : suc d - 1 ≡ d = omega arith in
    inside_array _ js r (ap (λ n. parse_map json.array (items (value n) (length ts) ts)) (sym less)
    ∙ sym (value-begin_array (suc d) ts (omega arith)) ∙ value-json_tokens (json.array js) (suc d) r (omega arith))

-- what is listed there is what is read there
pub listed_at_items : (ts : List Token) (js : json.Items) → InItems ts js → listed_at ts ≡ option_map values_in (of_items js)
listed_at_items ts js inside =
    let s = spelled_items js ts inside in
    let spelled = s.1 in
    let enough : items_depth js ≤ length ts = rw spelled (omega (arith, items_depth-tokens js, length-append (items_tokens js) s.0)) in
    ap (option_and_then (λ p. option_map values_in (of_items p.0)))
    (ap (λ us. items (value (length ts)) (length us) us) spelled ∙ read_items js (length ts) s.0 enough)

listed_in : (ts : List Token) (o : Option (json.Items × List Token)) (ds : List Data) → items (value (length ts)) (length ts) ts ≡ o → option_and_then (λ p. option_map values_in (of_items p.0)) o ≡ Some ds
    → (js : json.Items) × InItems ts js × (option_map values_in (of_items js) ≡ Some ds)
listed_in ts None ds e is = absurd cc
listed_in ts (Some p) ds e is = (p.0, (length ts, length ts, p.1, e), is)

-- if there is data, values are listed that say it
pub found_items : (ts : List Token) → AreData ts → (js : json.Items) × InItems ts js × (option_map values_in (of_items js) ≡ Some (values_at ts))
found_items ts are = listed_in ts _ (values_at ts) refl are

-- values that say data are listed there
pub are_data : (ts : List Token) (js : json.Items) (ds : List Data) → InItems ts js → option_map values_in (of_items js) ≡ Some ds → AreData ts × (values_at ts ≡ ds)
are_data ts js ds inside say = let e : listed_at ts ≡ Some ds = listed_at_items ts js inside ∙ say in (rw e refl, rw e refl)

-- ---- the next value of an array

split_first : (o : Option Data) (p : Option Items) (ds : List Data) → option_map values_in (option_and_then (λ d. option_map (item d) p) o) ≡ Some ds → (d : Data) × (rest : List Data) × (o ≡ Some d) × (option_map values_in p ≡ Some rest) × (ds ≡ d ∷ rest)
split_first None p ds e = absurd cc
split_first (Some d) None ds e = absurd cc
split_first (Some d) (Some is) ds e = (d, values_in is, refl, refl, cc)

-- what was passed, and what is still to come
abbrev pub Passed : List Token → List Token → List Token → Type 0
Passed old ts new = IsData ts × AreData new × (values_at old ≡ data_at ts ∷ values_at new)

pub next_item_passed : (old ts new : List Token) → AreData old → NextItem old (Some ts) new → Passed old ts new
next_item_passed old ts new are next =
    let f = found_items old are in
    let n = next f.0 f.1 in
    let s = split_first (of_json n.0) (of_items n.1) (values_at old) (ap (λ js. option_map values_in (of_items js)) (sym n.2) ∙ f.2) in
    let value = is_data ts n.0 s.0 n.3 s.2 in
    let more = are_data new n.1 s.1 n.4 s.3 in
    (value.0, more.0, s.4 ∙ rw (value.1, more.1) refl)

pub none_left : (old new : List Token) → AreData old → NextItem old None new → values_at old ≡ []
none_left old new are next =
    let f = found_items old are in
    let e : Some [] ≡ Some (values_at old) = ap (λ js. option_map values_in (of_items js)) (sym (next f.0 f.1)) ∙ f.2 in
    cc

-- ---- what a value is

-- what is under a constructor
pub some_under_map : {A : Type 0} (f : A → Data) (o : Option A) (d : Data) → option_map f o ≡ Some d → (a : A) × (d ≡ f a) × (o ≡ Some a)
some_under_map f None d e = absurd cc
some_under_map f (Some a) d e = (a, cc, refl)

number_read : (o : Option Num) (d : Data) → option_map number o ≡ Some d → as_number d ≡ o
number_read None d e = absurd cc
number_read (Some n) d e = let same : number n ≡ d = cc in rw (← same) refl

-- the number that a value is
pub number_said : (j : json.Json) (d : Data) → of_json j ≡ Some d → as_number d ≡ option_and_then number_of (find.as_number j)
number_said json.null d e = let same : null ≡ d = cc in rw (← same) refl
number_said (json.boolean b) d e = let same : boolean b ≡ d = cc in rw (← same) refl
number_said (json.number s) d e = number_read (number_of s) d e
number_said (json.string s) d e = let same : string s ≡ d = cc in rw (← same) refl
number_said (json.array js) d e = let same = some_under_map array (of_items js) d e in rw same.1 refl
number_said (json.object ms) d e = let same = some_under_map object (of_members ms no_members) d e in rw same.1 refl

-- its text
pub text_said : (j : json.Json) (d : Data) → of_json j ≡ Some d → as_str d ≡ find.as_str j
text_said json.null d e = let same : null ≡ d = cc in rw (← same) refl
text_said (json.boolean b) d e = let same : boolean b ≡ d = cc in rw (← same) refl
text_said (json.number s) d e = let same = some_under_map number (number_of s) d e in rw same.1 refl
text_said (json.string s) d e = let same : string s ≡ d = cc in rw (← same) refl
text_said (json.array js) d e = let same = some_under_map array (of_items js) d e in rw same.1 refl
text_said (json.object ms) d e = let same = some_under_map object (of_members ms no_members) d e in rw same.1 refl

-- its values
pub items_said : (j : json.Json) (d : Data) → of_json j ≡ Some d → as_array d ≡ option_and_then of_items (find.as_array j)
items_said json.null d e = let same : null ≡ d = cc in rw (← same) refl
items_said (json.boolean b) d e = let same : boolean b ≡ d = cc in rw (← same) refl
items_said (json.number s) d e = let same = some_under_map number (number_of s) d e in rw same.1 refl
items_said (json.string s) d e = let same : string s ≡ d = cc in rw (← same) refl
items_said (json.array js) d e = let same = some_under_map array (of_items js) d e in rw same.1 (sym same.2)
items_said (json.object ms) d e = let same = some_under_map object (of_members ms no_members) d e in rw same.1 refl

-- its members
pub members_said : (j : json.Json) (d : Data) → of_json j ≡ Some d → as_object d ≡ option_and_then (λ ms. of_members ms no_members) (find.as_object j)
members_said json.null d e = let same : null ≡ d = cc in rw (← same) refl
members_said (json.boolean b) d e = let same : boolean b ≡ d = cc in rw (← same) refl
members_said (json.number s) d e = let same = some_under_map number (number_of s) d e in rw same.1 refl
members_said (json.string s) d e = let same : string s ≡ d = cc in rw (← same) refl
members_said (json.array js) d e = let same = some_under_map array (of_items js) d e in rw same.1 refl
members_said (json.object ms) d e = let same = some_under_map object (of_members ms no_members) d e in rw same.1 (sym same.2)

-- the values that are listed there are those of the array
abbrev pub ArrayAt : List Token → List Token → Type 0
ArrayAt ts inside = AreData inside × (Some (values_at inside) ≡ option_map values_in (as_array (data_at ts)))

pub array_at : (ts inside : List Token) → IsData ts → ((j : json.Json) → BeginsWith ts j → (js : json.Items) × (j ≡ json.array js) × InItems inside js) → ArrayAt ts inside
array_at ts inside is opens =
    let f = data_has_value ts is in
    let o = opens f.0 f.1 in
    let m = some_under_map array (of_items o.0) (data_at ts) (ap of_json (sym o.1) ∙ f.2) in
    let listed : option_map values_in (of_items o.0) ≡ Some (values_in m.0) = ap (option_map values_in) m.2 in
    let are = are_data inside o.0 (values_in m.0) o.2 listed in
    (are.0, rw (m.1, are.1) refl)
