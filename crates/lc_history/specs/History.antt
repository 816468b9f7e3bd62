-- Histories of calls and returns, and when an order linearizes one (Herlihy and Wing 1990).
use Rattle.std.specs.Prelude.{◌≡◌, ℕ, suc, ◌<◌, Bool, true, false, ◌==◌, cond, ◌⊎◌, List, [], ◌∷◌, ◌++◌, ℤ, Option, Some, None, take, slice_get}
use Rattle.lc_seq.specs.Sequential.{Call, Choice, Sequential, Step}

-- a client begins a call, or its call returns with a reply
pub data Event : Type 0 where
  Called : (client : ℕ) (call : Call) → Event
  Replied : (client : ℕ) (reply : List ℤ) → Event

-- an entry of an order: a client's call, how its branch is chosen, and its reply
pub record Entry : Type 0 where
  pub client : ℕ
  pub call : Call
  pub choice : Choice
  pub reply : List ℤ

-- the order replays from this state under the choices that it has, with exactly these replies
abbrev pub IsLegal : {A : Type 0} → Sequential A → A → List Entry → Type 0
IsLegal step s [] = Unit {0}
IsLegal {A} step s (e ∷ es) = (t : A) × Step step s e.client e.call e.choice t e.reply × IsLegal step t es

-- it is a call of this client
abbrev pub is_call : ℕ → Event → Bool
is_call c (Called d call) = d == c
is_call c (Replied d reply) = false

-- it is a return of this client
abbrev pub is_return : ℕ → Event → Bool
is_return c (Called d call) = false
is_return c (Replied d reply) = d == c

-- it is an entry of this client
abbrev pub is_of : ℕ → Entry → Bool
is_of c e = e.client == c

-- how many elements pass the test
abbrev pub count : {A : Type 0} → (A → Bool) → List A → ℕ
count test [] = 0
count test (x ∷ xs) = cond (test x) (suc (count test xs)) (count test xs)

-- the k-th element, from 0, that passes the test is at `i`: it passes, and k before it do
pub record IsPlace {A : Type 0} (test : A → Bool) (k : ℕ) (xs : List A) (i : ℕ) : Type 0 where
  pub element : A
  pub stands : slice_get xs i ≡ Some element
  pub passes : test element ≡ true
  pub before : count test (take i xs) ≡ k

-- the k-th call of c has returned before the m-th call of d begins
pub record Precedes (history : List Event) (c k d m : ℕ) : Type 0 where
  pub returns : ℕ
  pub begins : ℕ
  pub returned : IsPlace (is_return c) k history returns
  pub begun : IsPlace (is_call d) m history begins
  pub earlier : returns < begins

-- a client's entries
abbrev pub entries_of : ℕ → List Entry → List (Call × List ℤ)
entries_of c [] = []
entries_of c (e ∷ es) = cond (e.client == c) ((e.call, e.reply) ∷ entries_of c es) (entries_of c es)

-- a call, if there is one, with its reply
abbrev pub answered : Option Call → List ℤ → List (Call × List ℤ) → List (Call × List ℤ)
answered None reply rest = rest
answered (Some call) reply rest = (call, reply) ∷ rest

-- a client's returned calls with their replies, where `now` is the call in which it is
abbrev pub returned_of : ℕ → Option Call → List Event → List (Call × List ℤ)
returned_of c now [] = []
returned_of c now (Called d call ∷ h) = cond (d == c) (returned_of c (Some call) h) (returned_of c now h)
returned_of c now (Replied d reply ∷ h) = cond (d == c) (answered now reply (returned_of c None h)) (returned_of c now h)

-- the call in which a client is at the end
abbrev pub pending_of : ℕ → Option Call → List Event → Option Call
pending_of c now [] = now
pending_of c now (Called d call ∷ h) = cond (d == c) (pending_of c (Some call) h) (pending_of c now h)
pending_of c now (Replied d reply ∷ h) = cond (d == c) (pending_of c None h) (pending_of c now h)

-- these are a client's returned calls with their replies, with or without its pending call under some reply at the end
abbrev pub AreCalls : ℕ → Option Call → List Event → List (Call × List ℤ) → Type 0
AreCalls c now h xs =
    (xs ≡ returned_of c now h)
    ⊎ ((call : Call) × (reply : List ℤ) × (pending_of c now h ≡ Some call) × (xs ≡ returned_of c now h ++ (call, reply) ∷ []))

-- the order is legal, keeps each client's calls and replies, and keeps which call precedes which
pub record Linearizes {A : Type 0} (step : Sequential A) (start : A) (history : List Event) (order : List Entry) : Type 0 where
  pub legal : IsLegal step start order
  -- each client's order is kept, and each reply
  pub calls : (c : ℕ) → AreCalls c None history (entries_of c order)
  -- if one call precedes another, it comes earlier
  pub precedence : (c k d m p q : ℕ) → Precedes history c k d m → IsPlace (is_of c) k order p → IsPlace (is_of d) m order q → p < q

-- some order linearizes the history
abbrev pub IsLinearizable : {A : Type 0} → Sequential A → A → List Event → Type 0
IsLinearizable step start history = (order : List Entry) × Linearizes step start history order
