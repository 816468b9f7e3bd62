-- The tests that an order is put to, in their order.
use Rattle.std.specs.Prelude.{◌≡◌, ◌≤◌, ◌<◌, ℕ, suc, List, ℤ, Some, length, take, slice_get}
use Rattle.lc_seq.specs.Sequential.{Call, Sequential}
use Rattle.lc_history.specs.History.{Event, Called, Replied, Entry, IsLegal, is_call, is_return, is_of, count, Precedes}
use Rattle.lc_history.specs.declared.reason.Reason.{Reason}
use Rattle.lc_history.specs.declared.reason.Reason.TheVariants.{OtherCall, OtherReply, MissingCall, NoStep, Preceded}

-- the k-th call of c in the history is this call
pub record IsCallOf (history : List Event) (c k : ℕ) (call : Call) : Type 0 where
  pub place : ℕ
  pub stands : slice_get history place ≡ Some (Called c call)
  pub before : count (is_call c) (take place history) ≡ k

-- the k-th call of c in the history returned this reply
pub record IsReplyOf (history : List Event) (c k : ℕ) (reply : List ℤ) : Type 0 where
  pub place : ℕ
  pub stands : slice_get history place ≡ Some (Replied c reply)
  pub before : count (is_return c) (take place history) ≡ k

-- which call of its client, from 0, an entry at this place names
abbrev pub named : List Entry → ℕ → Entry → ℕ
named order place e = count (is_of e.client) (take place order)

-- the entry at this place is its client's call of its number
abbrev pub NamesItsCall : List Event → List Entry → ℕ → Type 0
NamesItsCall history order p = (e : Entry) → slice_get order p ≡ Some e → IsCallOf history e.client (named order p e) e.call

-- if that call returned, it returned the entry's reply
abbrev pub HasItsReply : List Event → List Entry → ℕ → Type 0
HasItsReply history order p = (e : Entry) → slice_get order p ≡ Some e → (reply : List ℤ) → IsReplyOf history e.client (named order p e) reply → e.reply ≡ reply

-- no call of an entry at a later place precedes its call
abbrev pub IsUnpreceded : List Event → List Entry → ℕ → Type 0
IsUnpreceded history order p = (e d : Entry) (q : ℕ) → slice_get order p ≡ Some e → slice_get order q ≡ Some d → p < q
    → Precedes history d.client (named order q d) e.client (named order p e) → ⊥

-- each call that returned has an entry
abbrev pub IsComplete : List Event → List Entry → Type 0
IsComplete history order = (c : ℕ) → count (is_return c) history ≤ count (is_of c) order

-- the test of a reason at a place is passed
abbrev pub Passes : {A : Type 0} → Sequential A → A → List Event → List Entry → Reason → ℕ → Type 0
Passes step start history order OtherCall p = NamesItsCall history order p
Passes step start history order OtherReply p = HasItsReply history order p
Passes step start history order MissingCall p = IsComplete history order
Passes step start history order NoStep p = IsLegal step start (take (suc p) order)
Passes step start history order Preceded p = IsUnpreceded history order p

-- the places at which a reason is tested: each place of the order, and a missing call only after the last
abbrev pub IsTested : ℕ → Reason → ℕ → Type 0
IsTested n OtherCall p = p < n
IsTested n OtherReply p = p < n
IsTested n MissingCall p = p ≡ n
IsTested n NoStep p = p < n
IsTested n Preceded p = p < n

-- in which order the reasons are tested at one place
abbrev pub rank : Reason → ℕ
rank OtherCall = 1
rank OtherReply = 2
rank NoStep = 3
rank Preceded = 4
rank MissingCall = 5

-- each test is passed, at each place where it is made
abbrev pub PassesEach : {A : Type 0} → Sequential A → A → List Event → List Entry → Type 0
PassesEach step start history order =
    (reason : Reason) (p : ℕ) → IsTested (length order) reason p → Passes step start history order reason p
