-- A whole text, by the tokens of its members.
use Rattle.std.proofs.Common.{◌≡◌, ℕ, ◌-◌, ◌<◌, ◌≤◌, List, [], ◌∷◌, length, Option, Some, None, option_and_then, refl, ap, subst, ◌∙◌, arith, codes, Result, Ok, Err, IfOk, IfSome}
use Rattle.json.specs.Token.{Token}
use Rattle.json.specs.Lex.{tokens}
use Rattle.json.specs.Json as json
use Rattle.json.specs.Json.{parse_map, read_key, members, value, if_last}
use Rattle.json.proofs.Grammar.{value-begin_object, members_more, members_end, read_key-shorter}
use Rattle.serde_json.specs.Data.{Data, array}
use Rattle.serde_json.specs.Read.{of_json, read}
use Rattle.serde_json.specs.View.{items_of}
use Rattle.lc_seq.specs.Specification.{Operation}
use Rattle.lc_history.specs.History.{Event, Entry}
use Rattle.std.specs.Prelude.{IsUtf8}
use Rattle.lc_base.specs.Limits.{file_limit}
use Rattle.lc_hist.specs.JsonHistories.{parts_in}
use Rattle.lc_hist.specs.JsonRecorded.{recorded_in}
use Rattle.lc_hist.specs.JsonSeen.{AreInText}
use Rattle.lc_hist.specs.JsonTokens.{Begins, AreMembers, AreSaid}
use Rattle.lc_hist.proofs.JsonLists.{values_in-items_of}
use Rattle.lc_hist.proofs.JsonTokens.{converted_some, begins-shorter}

-- an object of two members
members_read : (inner first second third : List Token) (k l : List ℕ) (j h : json.Json) → read_key inner ≡ Some (Some k, first) → value 126 first ≡ Some (j, second) → read_key second ≡ Some (Some l, third)
    → value 126 third ≡ Some (h, Token.end_object ∷ []) → length second < length first → 1 < length third → members (value 126) (length inner) inner ≡ Some (json.member k j (json.member l h json.no_members), [])
members_read inner first second third k l j h one events two order less some =
    let n = length inner in
    let over : length first < length inner = read_key-shorter inner (Some k) first one in
    let under : length third < length second = read_key-shorter second (Some l) third two in
    let here : 0 < n = omega arith in
    let there : 0 < n - 1 = omega arith in
    let enough : length (Token.end_object ∷ []) ≤ n - 1 - 1 = omega arith in
    members_more (value 126) n k inner first second j here one events
    ∙ ap (parse_map (json.member k j)) (members_more (value 126) (n - 1) l second third (Token.end_object ∷ []) h there two order
    ∙ ap (parse_map (json.member l h)) (members_end (value 126) (n - 1 - 1) (Token.end_object ∷ []) [] enough refl))

object_read : (text : List ℕ) (inner first second third : List Token) (es os : List Data) → tokens text ≡ Token.begin_object ∷ inner → read_key inner ≡ Some (Some (codes "events"), first)
    → Begins 4 first (array (items_of es)) second → read_key second ≡ Some (Some (codes "order"), third) → Begins 4 third (array (items_of os)) (Token.end_object ∷ [])
    → option_and_then parts_in (read text) ≡ Some (record { events = es; order = os })
object_read text inner first second third es os opens one events two order =
    let a = converted_some of_json (value 126 first) (array (items_of es)) second (events.reads 126 (omega arith)) in
    let b = converted_some of_json (value 126 third) (array (items_of os)) (Token.end_object ∷ []) (order.reads 126 (omega arith)) in
    let less = begins-shorter 4 first (array (items_of es)) second events in
    let some : 1 < length third = begins-shorter 4 third (array (items_of os)) (Token.end_object ∷ []) order in
    let whole = ap (value 127) opens ∙ value-begin_object 127 inner (omega arith) ∙ ap (parse_map json.object) (members_read inner first second third (codes "events") (codes "order") a.0 b.0 one a.1 two b.1 less some) in
    let said = a.2 in
    let listed = b.2 in
    ap (λ o. option_and_then parts_in (option_and_then of_json (option_and_then (λ p. if_last p.0 p.1) o))) whole ∙ rw (said, listed, values_in-items_of es, values_in-items_of os) refl

-- an object of one member
member_read : (inner first : List Token) (k : List ℕ) (j : json.Json) → read_key inner ≡ Some (Some k, first) → value 126 first ≡ Some (j, Token.end_object ∷ []) → 1 < length first
    → members (value 126) (length inner) inner ≡ Some (json.member k j json.no_members, [])
member_read inner first k j one events some =
    let n = length inner in
    let over : length first < length inner = read_key-shorter inner (Some k) first one in
    let here : 0 < n = omega arith in
    let enough : length (Token.end_object ∷ []) ≤ n - 1 = omega arith in
    members_more (value 126) n k inner first (Token.end_object ∷ []) j here one events ∙ ap (parse_map (json.member k j)) (members_end (value 126) (n - 1) (Token.end_object ∷ []) [] enough refl)

alone_read : (text : List ℕ) (inner first : List Token) (es : List Data) → tokens text ≡ Token.begin_object ∷ inner → read_key inner ≡ Some (Some (codes "events"), first)
    → Begins 4 first (array (items_of es)) (Token.end_object ∷ []) → option_and_then recorded_in (read text) ≡ Some (record { events = es; order = [] })
alone_read text inner first es opens one events =
    let a = converted_some of_json (value 126 first) (array (items_of es)) (Token.end_object ∷ []) (events.reads 126 (omega arith)) in
    let some : 1 < length first = begins-shorter 4 first (array (items_of es)) (Token.end_object ∷ []) events in
    let whole = ap (value 127) opens ∙ value-begin_object 127 inner (omega arith) ∙ ap (parse_map json.object) (member_read inner first (codes "events") a.0 one a.1 some) in
    let said = a.2 in
    ap (λ o. option_and_then recorded_in (option_and_then of_json (option_and_then (λ p. if_last p.0 p.1) o))) whole ∙ rw (said, values_in-items_of es) refl

-- members of these events, and of these entries, if there is an order, are all that is said
pub text_read : (operations : List Operation) (text : List ℕ) (inner : List Token) (events : List Event) (order : Option (List Entry)) → tokens text ≡ Token.begin_object ∷ inner → AreMembers operations inner events order
    → AreSaid operations text events order
text_read operations text inner events None opens members =
    let one = members.3 in
    (one.0, alone_read text inner members.0 one.0 opens members.2 (subst (Begins 4 members.0 (array (items_of one.0))) members.4 one.2), one.1)
text_read operations text inner events (Some entries) opens members =
    let one = members.3 in
    let last = members.4 in
    let two = last.2 in (
      record { events = one.0; order = two.0 },
      object_read text inner members.0 members.1 last.0 one.0 two.0 opens members.2 one.2 last.1 two.2,
      one.1,
      two.1,
    )

-- what holds of what is found, and more that follows from it
pub each_found : {A E : Type 0} (P Q : A → Type 0) → ((a : A) → P a → Q a) → (r : Result (Option A) E) → IfOk r (λ found. IfSome found P) → IfOk r (λ found. IfSome found Q)
each_found P Q follows (Ok None) is = tt
each_found P Q follows (Ok (Some a)) is = follows a is
each_found P Q follows (Err e) is = tt

pub says_all : (operations : List Operation) (bytes : List ℕ) (events : List Event) (order : Option (List Entry)) → length bytes ≤ file_limit → IsUtf8 bytes → AreSaid operations bytes events order → AreInText operations bytes events order
says_all operations bytes events None limit utf8 said =
    record { parts = record { events = said.0; order = [] }; text = record { limit = limit; utf8 = utf8; reads = said.1 }; events = said.2; order = refl }
says_all operations bytes events (Some entries) limit utf8 said =
    record { parts = said.0; text = record { limit = limit; utf8 = utf8; reads = said.1 }; events = said.2; order = said.3 }
