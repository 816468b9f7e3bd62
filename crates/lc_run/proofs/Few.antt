-- The entries of a run's order are of its clients.
use Rattle.std.proofs.Common.{◌≡◌, ℕ, ◌≤◌, ◌==◌, Bool, true, false, cond, nat_lt, List, [], ◌∷◌, ◌++◌, ℤ, Some, None, refl, sym, ap, subst, ◌∙◌, inl, inr, eq-eqb, arith}
use Rattle.std.specs.List.{list_all}
use Rattle.std.proofs.lemmas.Bool.Decides.{nat_tests}
use Rattle.std.proofs.lemmas.Bool.{and_from}
use Rattle.lc_lemmas.proofs.Booleans.{left_true, right_true}
use Rattle.lc_base.specs.Limits.{seat_limit}
use Rattle.lc_seq.specs.Sequential.{Call, Sequential}
use Rattle.lc_history.specs.History.{Entry, AreCalls, Linearizes, entries_of, returned_of, pending_of}
use Rattle.lc_machine.specs.Step.{Event, Invoked, Moved, Returned}
use Rattle.lc_sound.specs.Instrumented.{Label, event_of, history}
use Rattle.lc_run.specs.Ordering.{has_client, is_small}

apart : (d n c : ℕ) → nat_lt d n ≡ true → n ≤ c → (d == c) ≡ false
apart d n c h le = grind (arith, nat_tests)

-- who is no client makes no call
quiet : (n c : ℕ) (ls : List Label) → n ≤ c → list_all (has_client n) ls ≡ true → (returned_of c None (history ls) ≡ []) × (pending_of c None (history ls) ≡ None)
quiet n c [] le h = (refl, refl)
quiet n c (l ∷ ls) le h =
    by l.what (apart l.client n c (left_true (has_client n l) (list_all (has_client n) ls) h) le) (quiet n c ls le (right_true (has_client n l) (list_all (has_client n) ls) h))
  where
    by : (what : Event) → (l.client == c) ≡ false → (returned_of c None (history ls) ≡ []) × (pending_of c None (history ls) ≡ None) →
        (returned_of c None (event_of l.client what ++ history ls) ≡ []) × (pending_of c None (event_of l.client what ++ history ls) ≡ None)
    by (Invoked o ns) e (a, b) =
        let call : Call = record { op = o; numbers = ns } in
        (ap (λ t. cond t (returned_of c (Some call) (history ls)) (returned_of c None (history ls))) e ∙ a, ap (λ t. cond t (pending_of c (Some call) (history ls)) (pending_of c None (history ls))) e ∙ b)
    by (Moved p k) e both = both
    by (Returned ns) e (a, b) = (ap (λ t. cond t (returned_of c None (history ls)) (returned_of c None (history ls))) e ∙ a, ap (λ t. cond t (pending_of c None (history ls)) (pending_of c None (history ls))) e ∙ b)

-- and has no entry
none-of : (c : ℕ) (ls : List Label) (xs : List (Call × List ℤ)) → returned_of c None (history ls) ≡ [] → pending_of c None (history ls) ≡ None → AreCalls c None (history ls) xs → xs ≡ []
none-of c ls xs a b (inl e) = e ∙ a
none-of c ls xs a b (inr (call, reply, waits, e)) = absurd (let w : Some call ≡ None = sym waits ∙ b in cc)

behind-none : {A : Type 0} (b : Bool) (x : A) (xs : List A) → cond b (x ∷ xs) xs ≡ [] → xs ≡ []
behind-none true x xs e = absurd cc
behind-none false x xs e = e

below : (n : ℕ) (es : List Entry) → n ≤ seat_limit → ((c : ℕ) → n ≤ c → entries_of c es ≡ []) → list_all is_small es ≡ true
below n [] few h = refl
below n (e ∷ es) few h =
    and_from (is_small e) (list_all is_small es) (mine (nat_lt e.client n) refl)
    (below n es few (λ c le. behind-none (e.client == c) (e.call, e.reply) (entries_of c es) (h c le)))
  where
    small : (d n : ℕ) → n ≤ seat_limit → nat_lt d n ≡ true → nat_lt d 4294967296 ≡ true
    small d n few t = grind (arith, nat_tests)

    past : (d n : ℕ) → nat_lt d n ≡ false → n ≤ d
    past d n t = grind (arith, nat_tests)

    mine : (b : Bool) → nat_lt e.client n ≡ b → is_small e ≡ true
    mine true t = small e.client n few t
    mine false t =
        let none = h e.client (past e.client n t) in
        let same : (e.client == e.client) ≡ true = eq-eqb e.client e.client refl in
        absurd (let first : cond true ((e.call, e.reply) ∷ entries_of e.client es) (entries_of e.client es) ≡ [] =
        subst (λ b. cond b ((e.call, e.reply) ∷ entries_of e.client es) (entries_of e.client es) ≡ []) same none in cc)

-- numbers of clients in an order that linearizes are small
pub small-entries : {A : Type 0} (step : Sequential A) (start : A) (n : ℕ) (ls : List Label) (es : List Entry) → n ≤ seat_limit → list_all (has_client n) ls ≡ true → Linearizes step start (history ls) es → list_all is_small es ≡ true
small-entries step start n ls es few clients law =
    below n es few (λ c le. let q = quiet n c ls le clients in none-of c ls (entries_of c es) q.0 q.1 (law.calls c))
