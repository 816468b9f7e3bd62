-- In a run each client's calls and returns take turns.
use Rattle.std.proofs.Common.{◌≡◌, ℕ, zero, suc, ◌<◌, ◌≤◌, ◌==◌, Bool, true, false, cond, List, [], ◌∷◌, ◌++◌, ℤ, Some, take, set, length, replicate, nat_lt, refl, sym, ap, subst, ◌∙◌, append_assoc, eq-eqb, arith}
use Rattle.std.specs.Prelude.{slice_get}
use Rattle.std.specs.List.{list_all}
use Rattle.std.proofs.Math.Logic.{∥∥₁_elim, ∥∥₁_map}
use Rattle.std.proofs.Props.{props}
use Rattle.std.proofs.lemmas.Bool.{eqb-true, and_from}
use Rattle.std.proofs.lemmas.Bool.Decides.{nat_tests}
use Rattle.std.proofs.lemmas.List.{append-nil, length-set, length-replicate}
use Rattle.std.proofs.lemmas.Option.{same_Some, slice_get_within}
use Rattle.lc_base.specs.Limits.{seat_limit}
use Rattle.lc_history.specs.Limits.{client_limit}
use Rattle.lc_seq.specs.Sequential.{Call}
use Rattle.lc_seq.specs.TextStep.{text_step, start_of}
use Rattle.lc_history.proofs.Tables.{slice_get-set, slice_get-set_other}
use Rattle.lc_history.specs.History as H
use Rattle.lc_history.specs.History.{Called, Replied, is_call, is_return, count, Linearizes}
use Rattle.lc_history.specs.WellFormed.{IsInTurn, IsWellFormed}
use Rattle.lc_machine.specs.Step.{Event, Invoked, Moved, Returned}
use Rattle.lc_machine.specs.World.{World, Client, Idle, In}
use Rattle.lc_rider.specs.Rider.{Mark}
use Rattle.lc_outline.specs.Development.{Development}
use Rattle.lc_outline.specs.Resolved.{IsResolved}
use Rattle.lc_sound.specs.Claims.{OrdersLinearize}
use Rattle.lc_sound.specs.Order.{order}
use Rattle.lc_sound.specs.Instrumented.{Label, Instrumented, Runs, IsRun, start_world, event_of, history}
use Rattle.lc_run.specs.Ordering.{has_client, is_small}
use Rattle.lc_run.proofs.Few.{small-entries}

-- ---- counts

count-more : {A : Type 0} (t : A → Bool) (xs : List A) (x : A) → count t (xs ++ x ∷ []) ≡ cond (t x) (suc (count t xs)) (count t xs)
count-more t [] x = refl
count-more t (y ∷ ys) x = ap (λ n. cond (t y) (suc n) n) (count-more t ys x) ∙ swapped (t y) (t x) (count t ys)
  where
    swapped : (a b : Bool) (n : ℕ) → cond a (suc (cond b (suc n) n)) (cond b (suc n) n) ≡ cond b (suc (cond a (suc n) n)) (cond a (suc n) n)
    swapped true true n = refl
    swapped true false n = refl
    swapped false true n = refl
    swapped false false n = refl

one-more : {A : Type 0} (t : A → Bool) (xs : List A) (x : A) → t x ≡ true → count t (xs ++ x ∷ []) ≡ suc (count t xs)
one-more t xs x e = count-more t xs x ∙ ap (λ b. cond b (suc (count t xs)) (count t xs)) e

none-more : {A : Type 0} (t : A → Bool) (xs : List A) (x : A) → t x ≡ false → count t (xs ++ x ∷ []) ≡ count t xs
none-more t xs x e = count-more t xs x ∙ ap (λ b. cond b (suc (count t xs)) (count t xs)) e

-- ---- where clients are after these events

abbrev Stands : ℕ → List H.Event → Client → Type 0
Stands c before Idle = count (is_call c) before ≡ count (is_return c) before
Stands c before (In p vs) = count (is_call c) before ≡ suc (count (is_return c) before)

abbrev AreStanding : List H.Event → List Client → Type 0
AreStanding before clients = (c : ℕ) (k : Client) → slice_get clients c ≡ Some k → Stands c before k

-- a client whose place changes, while the others keep theirs
others : (before after : List H.Event) (clients : List Client) (c : ℕ) (old new : Client) → slice_get clients c ≡ Some old → AreStanding before clients → Stands c after new →
    ((d : ℕ) → (d ≡ c → ⊥) → (count (is_call d) after ≡ count (is_call d) before) × (count (is_return d) after ≡ count (is_return d) before)) →
    AreStanding after (set clients c new)
others before after clients c old new is all mine same d k e = by (d == c) refl
  where
    here : d ≡ c → Stands d after k
    here at =
        let put : new ≡ k = same_Some new k (sym (slice_get-set clients c new (slice_get_within clients c old is)) ∙ subst (λ x. slice_get (set clients c new) x ≡ Some k) at e) in
        subst (λ x. Stands d after x) put (subst (λ x. Stands x after new) (sym at) mine)

    moved : (x : Client) → (count (is_call d) after ≡ count (is_call d) before) × (count (is_return d) after ≡ count (is_return d) before) → Stands d before x → Stands d after x
    moved Idle s h = s.0 ∙ (h ∙ sym s.1)
    moved (In p vs) s h = s.0 ∙ (h ∙ ap suc (sym s.1))

    by : (b : Bool) → (d == c) ≡ b → Stands d after k
    by true t = here (eqb-true d c t)
    by false t =
        let apart : d ≡ c → ⊥ = λ at. let u : (d == c) ≡ true = eq-eqb d c at in cc in
        moved k (same d apart) (all d k (sym (slice_get-set_other clients c d new apart) ∙ e))

not-same : (c d : ℕ) → (d ≡ c → ⊥) → (c == d) ≡ false
not-same c d h = by (c == d) refl
  where
    by : (b : Bool) → (c == d) ≡ b → (c == d) ≡ false
    by true e = absurd (h (sym (eqb-true c d e)))
    by false e = e

-- ---- events in turn

abbrev AreInTurn : List H.Event → List H.Event → Type 0
AreInTurn before events = (i : ℕ) (event : H.Event) → slice_get events i ≡ Some event → IsInTurn (before ++ take i events) event

first-then : (before : List H.Event) (x : H.Event) (xs : List H.Event) → IsInTurn before x → AreInTurn (before ++ x ∷ []) xs → AreInTurn before (x ∷ xs)
first-then before x xs h rest zero event e = subst (λ y. IsInTurn (before ++ []) y) (same_Some x event e) (subst (λ ys. IsInTurn ys x) (sym (append-nil before)) h)
first-then before x xs h rest (suc i) event e = subst (λ ys. IsInTurn ys event) (append_assoc before (x ∷ []) (take i xs)) (rest i event e)

-- what a step comes to
pub record Turned (before : List H.Event) (w v : World) (c : ℕ) (what : Event) : Type 0 where
  pub standing : AreStanding (before ++ event_of c what) v.clients
  pub turn : (event : H.Event) (rest : List H.Event) → event_of c what ≡ event ∷ rest → IsInTurn before event
  pub count : length v.clients ≡ length w.clients

called : (before : List H.Event) (c : ℕ) (call : Call) → count (is_call c) before ≡ count (is_return c) before → c ≤ client_limit → IsInTurn before (Called c call)
called before c call h le = record {
  called = λ d other e. let same : c ≡ d = cc in subst (λ x. count (is_call x) before ≡ count (is_return x) before) same h;
  replied = λ d reply e. absurd cc;
  client = le;
}

replied : (before : List H.Event) (c : ℕ) (reply : List ℤ) → count (is_call c) before ≡ suc (count (is_return c) before) → c ≤ client_limit → IsInTurn before (Replied c reply)
replied before c reply h le = record {
  called = λ d call e. absurd cc;
  replied = λ d other e. let same : c ≡ d = cc in subst (λ x. count (is_call x) before ≡ suc (count (is_return x) before)) same h;
  client = le;
}

turned : (D : Development) (before : List H.Event) (w v : World) (c : ℕ) (what : Event) (marks : List Mark) → AreStanding before w.clients → length w.clients ≤ suc client_limit → Instrumented D w c what marks v → Turned before w v c what
turned D before w v c (Invoked o ns) marks all few (mid, (op, is, whole, idle, mid-is), none, v-is) = record {
  standing = λ d k e. standing d k (sym (ap (λ ks. slice_get ks d) clients) ∙ e);
  turn = λ event rest e. let first : Called c call ≡ event = cc in subst (IsInTurn before) first (called before c call mine below);
  count = ap length clients ∙ length-set w.clients c new;
}
  where
    call : Call
    call = record { op = o; numbers = ns }

    new : Client
    new = In op.entry (Rattle.lc_machine.specs.World.first_variables (length w.clients) c op ns)

    clients : v.clients ≡ set w.clients c new
    clients = ap (λ (x : World). x.clients) v-is ∙ ap (λ (x : World). x.clients) mid-is

    mine : count (is_call c) before ≡ count (is_return c) before
    mine = all c Idle idle

    below : c ≤ client_limit
    below = let h = slice_get_within w.clients c Idle idle in omega arith

    standing : AreStanding (before ++ Called c call ∷ []) (set w.clients c new)
    standing = others before (before ++ Called c call ∷ []) w.clients c Idle new idle all
        (one-more (is_call c) before (Called c call) (eq-eqb c c refl) ∙ ap suc (mine ∙ sym (none-more (is_return c) before (Called c call) refl)))
        (λ d apart. (none-more (is_call d) before (Called c call) (not-same c d apart), none-more (is_return d) before (Called c call) refl))
turned D before w v c (Moved point edge) marks all few (mid, reached, variables, m, (vs, i, running, s, next, new, done, mid-is), isc, ride, v-is) = record {
  standing = λ d k e. subst (λ ys. Stands d ys k) (sym (append-nil before)) (standing d k (sym (ap (λ ks. slice_get ks d) clients) ∙ e));
  turn = λ event rest e. absurd cc;
  count = ap length clients ∙ length-set w.clients c (In next new);
}
  where
    clients : v.clients ≡ set w.clients c (In next new)
    clients = ap (λ (x : World). x.clients) v-is ∙ ap (λ (x : World). x.clients) mid-is

    standing : AreStanding before (set w.clients c (In next new))
    standing = others before before w.clients c (In point vs) (In next new) running.client all (all c (In point vs) running.client) (λ d apart. (refl, refl))
turned D before w v c (Returned ns) marks all few (mid, point, variables, m, isc, (p, vs, i, running, k, s, done, mid-is), ride, just, v-is) = record {
  standing = λ d k e. standing d k (sym (ap (λ ks. slice_get ks d) clients) ∙ e);
  turn = λ event rest e. let first : Replied c ns ≡ event = cc in subst (IsInTurn before) first (replied before c ns mine below);
  count = ap length clients ∙ length-set w.clients c Idle;
}
  where
    clients : v.clients ≡ set w.clients c Idle
    clients = ap (λ (x : World). x.clients) v-is ∙ ap (λ (x : World). x.clients) mid-is

    mine : count (is_call c) before ≡ suc (count (is_return c) before)
    mine = all c (In p vs) running.client

    below : c ≤ client_limit
    below = let h = slice_get_within w.clients c (In p vs) running.client in omega arith

    standing : AreStanding (before ++ Replied c ns ∷ []) (set w.clients c Idle)
    standing = others before (before ++ Replied c ns ∷ []) w.clients c (In p vs) Idle running.client all
        (none-more (is_call c) before (Replied c ns) refl ∙ (mine ∙ sym (one-more (is_return c) before (Replied c ns) (eq-eqb c c refl))))
        (λ d apart. (none-more (is_call d) before (Replied c ns) refl, none-more (is_return d) before (Replied c ns) (not-same c d apart)))

behind-first : (before : List H.Event) (c : ℕ) (what : Event) (hs : List H.Event) → ((event : H.Event) (rest : List H.Event) → event_of c what ≡ event ∷ rest → IsInTurn before event) →
    AreInTurn (before ++ event_of c what) hs → AreInTurn before (event_of c what ++ hs)
behind-first before c (Invoked o ns) hs turn rest = let x : H.Event = Called c (record { op = o; numbers = ns }) in first-then before x hs (turn x [] refl) rest
behind-first before c (Moved p k) hs turn rest = subst (λ ys. AreInTurn ys hs) (append-nil before) rest
behind-first before c (Returned ns) hs turn rest = let x : H.Event = Replied c ns in first-then before x hs (turn x [] refl) rest

runs-turn : (D : Development) (ls : List Label) (before : List H.Event) (w v : World) → AreStanding before w.clients → length w.clients ≤ suc client_limit → Runs D w ls v → AreInTurn before (history ls)
runs-turn D [] before w v all few run = λ i event e. absurd cc
runs-turn D (l ∷ ls) before w v all few (mid, step, rest) =
    let t = turned D before w mid l.client l.what l.marks all few step in
    behind-first before l.client l.what (history ls) t.turn
    (runs-turn D ls (before ++ event_of l.client l.what) mid v t.standing (let e = t.count in omega arith) rest)

-- ---- from the start

idle-there : (n c : ℕ) (k : Client) → slice_get (replicate n Idle) c ≡ Some k → Idle ≡ k
idle-there zero c k e = absurd cc
idle-there (suc n) zero k e = same_Some Idle k e
idle-there (suc n) (suc c) k e = idle-there n c k e

-- the history of a run of no more clients than a history may have
pub well-formed : (D : Development) (n : ℕ) (ls : List Label) (w : World) → n ≤ suc client_limit → IsRun D n ls w → IsWellFormed (history ls)
well-formed D n ls w few run =
    let k = length-replicate n Idle in
    record { in_turn = runs-turn D ls [] (start_world D n) w (λ c x e. subst (λ y. Stands c [] y) (idle-there n c x e) refl) (omega arith) run }

-- ---- the clients of labels

-- a step is one of its clients, and leaves as many
stepped : (D : Development) (w v : World) (c : ℕ) (what : Event) (marks : List Mark) → Instrumented D w c what marks v → (c < length w.clients) × (length v.clients ≡ length w.clients)
stepped D w v c (Invoked o ns) marks (mid, (op, is, whole, idle, mid-is), none, v-is) =
    (slice_get_within w.clients c Idle idle, (ap (λ (x : World). length x.clients) v-is ∙ ap (λ (x : World). length x.clients) mid-is) ∙ length-set w.clients c _)
stepped D w v c (Moved point edge) marks (mid, reached, variables, m, (vs, i, running, s, next, new, done, mid-is), isc, ride, v-is) =
    (slice_get_within w.clients c (In point vs) running.client, (ap (λ (x : World). length x.clients) v-is ∙ ap (λ (x : World). length x.clients) mid-is) ∙ length-set w.clients c _)
stepped D w v c (Returned ns) marks (mid, point, variables, m, isc, (p, vs, i, running, k, s, done, mid-is), ride, just, v-is) =
    (slice_get_within w.clients c (In p vs) running.client, (ap (λ (x : World). length x.clients) v-is ∙ ap (λ (x : World). length x.clients) mid-is) ∙ length-set w.clients c _)

has-clients : (D : Development) (n : ℕ) (ls : List Label) (w v : World) → length w.clients ≡ n → Runs D w ls v → list_all (has_client n) ls ≡ true
has-clients D n [] w v count run = refl
has-clients D n (l ∷ ls) w v count (mid, step, rest) =
    let t = stepped D w mid l.client l.what l.marks step in
    and_from (has_client n l) (list_all (has_client n) ls) (below n l.client (let h = t.0 in omega arith)) (has-clients D n ls mid v (t.1 ∙ count) rest)
  where
    below : (n c : ℕ) → c < n → nat_lt c n ≡ true
    below n c h = grind (arith, nat_tests)

counted_run : (D : Development) (ls : List Label) (w v : World) → Runs D w ls v → length v.clients ≡ length w.clients
counted_run D [] w v run = ap (λ (x : World). length x.clients) run
counted_run D (l ∷ ls) w v (mid, step, rest) = counted_run D ls mid v rest ∙ (stepped D w mid l.client l.what l.marks step).1

-- a run of n clients leads to a world of as many
pub run_clients : (D : Development) (n : ℕ) (ls : List Label) (w : World) → IsRun D n ls w → length w.clients ≡ n
run_clients D n ls w run = counted_run D ls (start_world D n) w run ∙ length-replicate n Idle

-- the labels of a run are its clients'
pub are-clients : (D : Development) (n : ℕ) (ls : List Label) (w : World) → IsRun D n ls w → list_all (has_client n) ls ≡ true
are-clients D n ls w run = has-clients D n ls (start_world D n) w (length-replicate n Idle) run

-- ---- if it is known that there is a run

well-formed-once : (h : List H.Event) → IsProp (IsWellFormed h)
well-formed-once h = hlevel props

test-once : (b : Bool) → IsProp (b ≡ true)
test-once b = hlevel props

pub held-well-formed : (D : Development) (n : ℕ) (ls : List Label) (w : World) → n ≤ seat_limit → ∥ IsRun D n ls w ∥₁ → IsWellFormed (history ls)
held-well-formed D n ls w few run = ∥∥₁_elim run (well-formed-once (history ls)) (λ r. well-formed D n ls w (omega arith) r)

pub held-clients : (D : Development) (n : ℕ) (ls : List Label) (w : World) → ∥ IsRun D n ls w ∥₁ → list_all (has_client n) ls ≡ true
held-clients D n ls w run = ∥∥₁_elim run (test-once (list_all (has_client n) ls)) (λ r. are-clients D n ls w r)

pub held-small : (D : Development) (n : ℕ) (ls : List Label) (w : World) → n ≤ seat_limit → OrdersLinearize → IsResolved D → ∥ IsRun D n ls w ∥₁ → list_all is_small (order ls) ≡ true
held-small D n ls w few law R run =
    ∥∥₁_elim run (test-once (list_all is_small (order ls)))
    (λ r. small-entries (text_step D.specification.operations) (start_of D.specification.columns) n ls (order ls) few (are-clients D n ls w r) (law D R n ls w r))

pub held-linearizes : (D : Development) (n : ℕ) (ls : List Label) (w : World) → OrdersLinearize → IsResolved D → ∥ IsRun D n ls w ∥₁ →
    ∥ Linearizes (text_step D.specification.operations) (start_of D.specification.columns) (history ls) (order ls) ∥₁
held-linearizes D n ls w law R run = ∥∥₁_map run (λ r. law D R n ls w r)
