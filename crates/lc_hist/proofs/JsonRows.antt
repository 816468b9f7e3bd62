-- What rows of a text say, by the tokens of their parts.
use Rattle.std.proofs.Common.{◌≡◌, ℕ, suc, ◌≤◌, true, List, [], ◌∷◌, ◌++◌, ℤ, length, Option, Some, None, refl, sym, ap, subst, ◌∙◌, arith, codes, slice_get}
use Rattle.json.specs.Token.{Token}
use Rattle.json.specs.Json.{after_end_array}
use Rattle.serde_json.specs.Data.{Data, array}
use Rattle.serde_json.specs.Find.{as_str}
use Rattle.serde_json.specs.View.{items_of}
use Rattle.lc_seq.specs.Sequential.{Call, Choice, ByName}
use Rattle.lc_seq.specs.Specification.{Operation}
use Rattle.lc_history.specs.History.{Event, Called, Replied}
use Rattle.lc_hist.specs.JsonTokens.{Begins, BeginAll, Says, SayCall, SayDeed, SayPick, said_alone}
use Rattle.lc_hist.specs.JsonValues.{numbers_in, client_in, event_from, event_in, has_replies, has_choice, pick_in, done_from, entry_from, entry_in}
use Rattle.lc_hist.proofs.JsonLists.{values_in-items_of}
use Rattle.lc_hist.proofs.JsonTokens.{begins_more_levels, row_begins, row_all, row_ends}

wider_all : (levels more : ℕ) (tokens : List Token) (ds : List Data) (rest : List Token) → levels ≤ more → BeginAll levels tokens ds rest → BeginAll more tokens ds rest
wider_all levels more tokens [] rest le all = all
wider_all levels more tokens (d ∷ ds) rest le all = (all.0, begins_more_levels levels more tokens d all.0 le all.1, wider_all levels more all.0 ds rest le all.2)

append_all : (levels : ℕ) (tokens : List Token) (ds : List Data) (between : List Token) (es : List Data) (rest : List Token) → BeginAll levels tokens ds between → BeginAll levels between es rest → BeginAll levels tokens (ds ++ es) rest
append_all levels tokens [] between es rest first second = subst (λ t. BeginAll levels t es rest) (sym first) second
append_all levels tokens (d ∷ ds) between es rest first second = (first.0, first.1, append_all levels first.0 ds between es rest first.2 second)

-- values between brackets are an array
list_read : (levels : ℕ) (tokens inner : List Token) (ds : List Data) (between rest : List Token) → tokens ≡ Token.begin_array ∷ inner → BeginAll levels inner ds between → after_end_array between ≡ Some rest
    → Begins (suc levels) tokens (array (items_of ds)) rest
list_read levels tokens inner ds between rest opens all ends = row_ends levels tokens inner ds between rest opens (row_all levels inner [] inner ds between (row_begins levels inner) all) ends

-- ---- events

pub deed_call : (operations : List Operation) (client : ℕ) (tokens : List Token) (text : List ℕ) (between : List Token) (call : Call) (rest : List Token)
    → Says 0 as_str tokens text between → text ≡ codes "call" → SayCall operations between call rest → SayDeed operations client tokens (Called client call) rest
deed_call operations client tokens text between call rest word is said = (
  word.0 ∷ said.0 ∷ said.1 ∷ [],
  λ d of. let says = word.1 ∙ ap Some is in let calls = said.2 in rw (says, of, calls) refl,
  (between, begins_more_levels 0 1 tokens word.0 between (omega arith) word.2, said.3),
)

pub deed_return : (operations : List Operation) (client : ℕ) (tokens : List Token) (text : List ℕ) (between : List Token) (numbers : List ℤ) (rest : List Token)
    → Says 0 as_str tokens text between → text ≡ codes "return" → Says 1 numbers_in between numbers rest → SayDeed operations client tokens (Replied client numbers) rest
deed_return operations client tokens text between numbers rest word is said = (
  word.0 ∷ said.0 ∷ [],
  λ d of. let says = word.1 ∙ ap Some is in let reply = said.1 in rw (says, of, reply) refl,
  (between, begins_more_levels 0 1 tokens word.0 between (omega arith) word.2, (rest, said.2, refl)),
)

pub event_read : (operations : List Operation) (tokens inner : List Token) (client : ℕ) (behind : List Token) (event : Event) (between rest : List Token) → tokens ≡ Token.begin_array ∷ inner → Says 0 client_in inner client behind
    → SayDeed operations client behind event between → after_end_array between ≡ Some rest → Says 3 (event_in operations) tokens event rest
event_read operations tokens inner client behind event between rest opens who deed ends =
    let ds = who.0 ∷ deed.0 in
    let all : BeginAll 2 inner ds between = (behind, begins_more_levels 0 2 inner who.0 behind (omega arith) who.2, wider_all 1 2 behind deed.0 between (omega arith) deed.2) in
    (array (items_of ds), ap (event_from operations) (values_in-items_of ds) ∙ deed.1 who.0 who.1, list_read 2 tokens inner ds between rest opens all ends)

-- ---- entries

pub pick_read : (operations : List Operation) (op : ℕ) (tokens inner : List Token) (text : List ℕ) (behind : List Token) (numbers : List ℤ) (between rest : List Token) → tokens ≡ Token.begin_array ∷ inner → Says 0 as_str inner text behind
    → Says 1 numbers_in behind numbers between → has_choice (slice_get operations op) (ByName text numbers) ≡ true → after_end_array between ≡ Some rest
    → Says 2 (λ d. pick_in operations op (Some d)) tokens (ByName text numbers) rest
pick_read operations op tokens inner text behind numbers between rest opens name given has ends =
    let ds = name.0 ∷ given.0 ∷ [] in
    let all : BeginAll 1 inner ds between = (behind, begins_more_levels 0 1 inner name.0 behind (omega arith) name.2, (between, given.2, refl)) in
    let says = name.1 in
    let numbered = given.1 in
    (array (items_of ds), rw (says, numbered, has) refl, list_read 1 tokens inner ds between rest opens all ends)

pub named_pick : (operations : List Operation) (op : ℕ) (tokens : List Token) (choice : Choice) (between rest : List Token) → Says 2 (λ d. pick_in operations op (Some d)) tokens choice between → after_end_array between ≡ Some rest
    → SayPick operations op tokens choice rest
named_pick operations op tokens choice between rest said ends = (Some said.0, between, said.1, (between, said.2, refl), ends)

entry_said : (operations : List Operation) (client name numbers reply : Data) (said : Option Data) → entry_from operations (client ∷ name ∷ numbers ∷ reply ∷ said_alone said) ≡ done_from operations client name numbers reply said
entry_said operations client name numbers reply None = refl
entry_said operations client name numbers reply (Some d) = refl

pub entry_read : (operations : List Operation) (tokens inner : List Token) (client : ℕ) (first : List Token) (call : Call) (second : List Token) (reply : List ℤ) (third : List Token) (choice : Choice) (rest : List Token)
    → tokens ≡ Token.begin_array ∷ inner → Says 0 client_in inner client first → SayCall operations first call second → Says 1 numbers_in second reply third → has_replies (slice_get operations call.op) (length reply) ≡ true
    → SayPick operations call.op third choice rest → Says 3 (entry_in operations) tokens (record { client = client; call = call; choice = choice; reply = reply }) rest
entry_read operations tokens inner client first call second reply third choice rest opens who calls answers counted picks =
    let ds = who.0 ∷ calls.0 ∷ calls.1 ∷ answers.0 ∷ said_alone picks.0 in
    let of = who.1 in
    let called = calls.2 in
    let answered = answers.1 in
    let picked = picks.2 in
    let behind : BeginAll 2 second (answers.0 ∷ said_alone picks.0) picks.1 = (third, begins_more_levels 1 2 second answers.0 third (omega arith) answers.2, picks.3) in
    let all : BeginAll 2 inner ds picks.1 =
    (first, begins_more_levels 0 2 inner who.0 first (omega arith) who.2, append_all 2 first (calls.0 ∷ calls.1 ∷ []) second (answers.0 ∷ said_alone picks.0) picks.1 (wider_all 1 2 first (calls.0 ∷ calls.1 ∷ []) second (omega arith) calls.3) behind) in (
      array (items_of ds),
      ap (entry_from operations) (values_in-items_of ds) ∙ entry_said operations who.0 calls.0 calls.1 answers.0 picks.0 ∙ rw (of, called, picked, answered, counted) refl,
      list_read 2 tokens inner ds picks.1 rest opens all picks.4,
    )
