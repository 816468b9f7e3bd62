-- Where calls are in a history.
use Rattle.std.specs.Prelude.{◌≡◌, ℕ, zero, suc, Bool, false, cond, min, nat_lt, ◌==◌, List, [], ◌∷◌, Option, Some, None, option_map, slice_get}
use Rattle.lc_history.specs.History.{Event, is_call, is_return}
use Rattle.lc_history.specs.declared.spans.Span.{Span}
use Rattle.lc_history.specs.declared.spans.Client.{Client}

-- the places of the elements that pass the test, in order, with the first element at n
abbrev pub places_from : {A : Type 0} → (A → Bool) → ℕ → List A → List ℕ
places_from test n [] = []
places_from test n (x ∷ xs) = cond (test x) (n ∷ places_from test (suc n) xs) (places_from test (suc n) xs)

-- the place of the k-th element that passes the test
abbrev pub place_of : {A : Type 0} → (A → Bool) → ℕ → List A → Option ℕ
place_of test k xs = slice_get (places_from test 0 xs) k

-- the k-th of a client's calls, by the places of its beginnings and of its returns
abbrev pub span_at : List ℕ → List ℕ → ℕ → Option Span
span_at calls returns k = option_map (λ i. record { called = i; returned = slice_get returns k }) (slice_get calls k)

-- where the k-th call of c is in a history
abbrev pub span_of : List Event → ℕ → ℕ → Option Span
span_of h c k = span_at (places_from (is_call c) 0 h) (places_from (is_return c) 0 h) k

abbrev pub calls_of : Option Client → List ℕ
calls_of None = []
calls_of (Some client) = client.calls.items

abbrev pub returns_of : Option Client → List ℕ
returns_of None = []
returns_of (Some client) = client.returns.items

-- the clients of a history, each with the places of its calls and returns
pub record AreClients (h : List Event) (clients : List Client) : Type 0 where
  pub calls : (c : ℕ) → calls_of (slice_get clients c) ≡ places_from (is_call c) 0 h
  pub returns : (c : ℕ) → returns_of (slice_get clients c) ≡ places_from (is_return c) 0 h

-- this many entries of each client were seen
abbrev pub HaveSeen : (ℕ → ℕ) → List Client → Type 0
HaveSeen n clients = (c : ℕ) (client : Client) → slice_get clients c ≡ Some client → client.entries ≡ n c

-- with one more entry of d
abbrev pub one_more : ℕ → (ℕ → ℕ) → ℕ → ℕ
one_more d n c = cond (d == c) (suc (n c)) (n c)

-- the earlier of two places
abbrev pub earlier : Option ℕ → Option ℕ → Option ℕ
earlier None b = b
earlier (Some a) None = Some a
earlier (Some a) (Some b) = Some (min a b)

-- where a call returns
abbrev pub return_of : Option Span → Option ℕ
return_of None = None
return_of (Some span) = span.returned

-- the earliest return of calls
abbrev pub earliest_return : List (Option Span) → Option ℕ
earliest_return [] = None
earliest_return (span ∷ spans) = earlier (earliest_return spans) (return_of span)

-- a return comes before the beginning of a call
abbrev pub is_before : Option ℕ → Option Span → Bool
is_before None span = false
is_before (Some r) None = false
is_before (Some r) (Some span) = nat_lt r span.called

-- a call at a later place has returned before the call at this place begins
abbrev pub is_preceded : List (Option Span) → ℕ → Bool
is_preceded [] p = false
is_preceded (span ∷ spans) zero = is_before (earliest_return spans) span
is_preceded (span ∷ spans) (suc p) = is_preceded spans p
