-- How often clients came up, and the numbers of their calls.
use Rattle.std.specs.Prelude.{◌≡◌, ℕ, suc, ◌<◌, ◌==◌, ◌&&◌, nat_lt, nat_le, cond, Bool, false, List, [], ◌∷◌, ◌++◌, Option, Some, None, is_some, map, unwrap_or, IfSome, All}
use Rattle.std.specs.Map.{lookup}
use Rattle.std.specs.Option.{option_map_or}
use Rattle.lc_history.specs.History.{Event, Called, Replied, Entry, count, is_call, is_return, is_of}
use Rattle.lc_history.specs.WellFormed.{begins}

-- how many turns a client has had
abbrev pub turns_of : List (ℕ × ℕ) → ℕ → ℕ
turns_of turns c = unwrap_or (lookup (λ key. c == key) turns) 0

-- the number at a client's turn
abbrev pub number_at : List ((ℕ × ℕ) × ℕ) → ℕ → ℕ → Option ℕ
number_at numbers c t = lookup (λ key. (c == key.0) && (t == key.1)) numbers

-- how often each client's calls began and returned in two lists of events
pub record AreTurns (began ended : List Event) (begun returned : List (ℕ × ℕ)) : Type 0 where
  pub begun_are : (c : ℕ) → turns_of begun c ≡ count (is_call c) began
  pub returned_are : (c : ℕ) → turns_of returned c ≡ count (is_return c) ended

-- the client began so many calls that it has this one, and has not returned from it
abbrev pub is_between : (begun returned : List (ℕ × ℕ)) → (client turn : ℕ) → Bool
is_between begun returned c t = nat_lt t (turns_of begun c) && nat_le (turns_of returned c) t

-- the call that an event begins: whose, and which of its calls, if clients have had so many turns
abbrev pub call_begun : (ℕ → ℕ) → Event → Option (ℕ × ℕ)
call_begun turns (Called c call) = Some (c, turns c)
call_begun turns (Replied c reply) = None

-- it passes the test
abbrev pub begun_such : (ℕ → ℕ → Bool) → (ℕ → ℕ) → Event → Bool
begun_such test turns event = option_map_or (λ call. test call.0 call.1) (call_begun turns event) false

-- the client has had so many turns that this was one
abbrev pub has_turn : List (ℕ × ℕ) → (client turn : ℕ) → Bool
has_turn turns c t = nat_lt t (turns_of turns c)

-- after these events, with that many calls: how many each client made, and which numbers they have
pub record IsUpTo (events : List Event) (calls : ℕ) (turns : List (ℕ × ℕ)) (numbers : List ((ℕ × ℕ) × ℕ)) : Type 0 where
  pub calls_are : calls ≡ count begins events
  pub turns_are : (c : ℕ) → turns_of turns c ≡ count (is_call c) events
  pub numbered : (c t : ℕ) → is_some (number_at numbers c t) ≡ nat_lt t (count (is_call c) events)
  pub below : (c t n : ℕ) → number_at numbers c t ≡ Some n → n < calls

-- which of these entries have calls that pass the test
abbrev pub have_calls : (ℕ → ℕ → Bool) → List Entry → List Entry → List Bool
have_calls test before [] = []
have_calls test before (e ∷ es) = test e.client (count (is_of e.client) before) ∷ have_calls test (before ++ e ∷ []) es

-- the numbers of the calls of these entries, of that many calls, if they have one that passes the test
pub record AreNumbers (test : ℕ → ℕ → Bool) (order : List Entry) (calls : ℕ) (numbers : List (Option ℕ)) : Type 0 where
  pub which : map is_some numbers ≡ have_calls test [] order
  pub below : All (λ number. IfSome number (λ n. n < calls)) numbers

-- the number at a client's turn, if that passes the test
abbrev pub number_such : (ℕ → ℕ → Bool) → List ((ℕ × ℕ) × ℕ) → (client turn : ℕ) → Option ℕ
number_such test numbers c t = cond (test c t) (number_at numbers c t) None

-- the numbers at the turns of these entries' clients that pass the test
abbrev pub numbers_for : (ℕ → ℕ → Bool) → List ((ℕ × ℕ) × ℕ) → List Entry → List Entry → List (Option ℕ)
numbers_for test numbers before [] = []
numbers_for test numbers before (e ∷ es) = number_such test numbers e.client (count (is_of e.client) before) ∷ numbers_for test numbers (before ++ e ∷ []) es

-- the place, if there is a number at it
abbrev pub place_at : ℕ → Option ℕ → List ℕ
place_at k None = []
place_at k (Some n) = k ∷ []

-- the places at which there is a number, if that many are before these
abbrev pub numbered_places : ℕ → List (Option ℕ) → List ℕ
numbered_places k [] = []
numbered_places k (n ∷ ns) = place_at k n ++ numbered_places (suc k) ns
