-- A client's entries are its returned calls, with or without its pending call.
use Rattle.std.proofs.Common.{◌≡◌, ℕ, Bool, true, false, ◌==◌, cond, ◌⊎◌, List, [], ◌∷◌, ◌++◌, ℤ, Option, Some, None, refl, ap, subst, inl, inr}
use Rattle.lc_lemmas.proofs.Numbers.{equal_other_way}
use Rattle.lc_seq.specs.Sequential.{Call}
use Rattle.lc_history.specs.History.{Event, Called, Replied, Entry, entries_of, returned_of, pending_of, AreCalls}
use Rattle.lc_sound.specs.Happening.{Happening, Happens, Marked, client_of, events, returns_next, counted}
use Rattle.lc_sound.specs.Lawful.{Phase, Free, Waiting, Noted, Done, Takes, calls, returns_done, returns_noted, marks, marks_noted, notes, notes_again}
use Rattle.lc_sound.proofs.Own.{IsOwn}

abbrev pub call_in : Phase → Option Call
call_in Free = None
call_in (Waiting call) = Some call
call_in (Noted call reply) = Some call
call_in (Done call reply) = Some call

-- the entry that a client's call has already, where `returns` says whether its return comes next
abbrev pub entered : Phase → Bool → List (Call × List ℤ)
entered Free returns = []
entered (Waiting call) returns = []
entered (Noted call reply) returns = cond returns ((call, reply) ∷ []) []
entered (Done call reply) returns = (call, reply) ∷ []

abbrev IsKept : ℕ → Phase → List Happening → Type 0
IsKept c p hs = AreCalls c (call_in p) (events hs) (entered p (returns_next c hs) ++ entries_of c (counted hs))

kept_end : (c : ℕ) (p : Phase) → IsKept c p []
kept_end c Free = inl refl
kept_end c (Waiting call) = inl refl
kept_end c (Noted call reply) = inl refl
kept_end c (Done call reply) = inr (call, reply, refl, refl)

one_more : (c : ℕ) (h : List Event) (x : Call × List ℤ) (xs : List (Call × List ℤ)) → AreCalls c None h xs
    → (x ∷ xs ≡ x ∷ returned_of c None h)
    ⊎ ((call : Call) × (reply : List ℤ) × (pending_of c None h ≡ Some call) × (x ∷ xs ≡ (x ∷ returned_of c None h) ++ (call, reply) ∷ []))
one_more c h x xs is = elim is [ inl e ↦ inl (ap (λ ys. x ∷ ys) e) | inr e ↦ inr (e.0, e.1, e.2, ap (λ ys. x ∷ ys) e.3) ]

-- an entry that counts comes before the return, and one that does not count is nowhere
note_here : (c : ℕ) (call : Call) (h : List Event) (e : Entry) (es : List Entry) → (e.client == c) ≡ true → (b : Bool)
    → AreCalls c (Some call) h (cond b ((e.call, e.reply) ∷ []) [] ++ entries_of c es)
    → AreCalls c (Some call) h (entries_of c (cond b (e ∷ es) es))
note_here c call h e es is true rest = rw is rest
note_here c call h e es is false rest = rest

note_away : (c : ℕ) (now : Option Call) (h : List Event) (e : Entry) (es : List Entry) (xs : List (Call × List ℤ)) → (e.client == c) ≡ false → (b : Bool)
    → AreCalls c now h (xs ++ entries_of c es)
    → AreCalls c now h (xs ++ entries_of c (cond b (e ∷ es) es))
note_away c now h e es xs is true rest = rw is rest
note_away c now h e es xs is false rest = rest

kept_here : (c : ℕ) (p q : Phase) (h : Happening) (hs : List Happening) → Takes p h q → (client_of h == c) ≡ true → IsKept c q hs → IsKept c p (h ∷ hs)
kept_here c _ _ _ hs calls e rest = rw e rest
kept_here c _ _ _ hs (returns_done {call = call} {reply = reply}) e rest = rw e (one_more c (events hs) (call, reply) (entries_of c (counted hs)) rest)
kept_here c _ _ _ hs (returns_noted {call = call} {reply = reply}) e rest = rw e (one_more c (events hs) (call, reply) (entries_of c (counted hs)) rest)
kept_here c _ _ _ hs marks e rest = rw e rest
kept_here c _ _ _ hs marks_noted e rest = rw e rest
kept_here c _ _ _ hs (notes {e = entry}) e rest =
    note_here c entry.call (events hs) entry (counted hs) e (returns_next entry.client hs) (rw (equal_other_way c entry.client e) rest)
kept_here c _ _ _ hs (notes_again {e = entry}) e rest =
    rw e (note_here c entry.call (events hs) entry (counted hs) e (returns_next entry.client hs) (rw (equal_other_way c entry.client e) rest))

kept_away : (c : ℕ) (p : Phase) (h : Happening) (hs : List Happening) → (client_of h == c) ≡ false → IsKept c p hs → IsKept c p (h ∷ hs)
kept_away c p (Happens (Called d call)) hs e rest = rw e rest
kept_away c p (Happens (Replied d reply)) hs e rest = rw e rest
kept_away c p (Marked false entry) hs e rest = rw e rest
kept_away c p (Marked true entry) hs e rest =
    rw e (note_away c (call_in p) (events hs) entry (counted hs) (entered p (returns_next c hs)) e (returns_next entry.client hs) rest)

pub entries_are_calls : (c : ℕ) (p : Phase) (hs : List Happening) → IsOwn c p hs → AreCalls c (call_in p) (events hs) (entered p (returns_next c hs) ++ entries_of c (counted hs))
entries_are_calls c p [] law = kept_end c p
entries_are_calls c p (h ∷ hs) law =
    let rest = entries_are_calls c law.0 hs law.2 in
    elim law.1 [
      | inl l ↦ kept_here c p law.0 h hs l.1 l.0 rest
      | inr l ↦ kept_away c p h hs l.0 (subst (λ q. IsKept c q hs) l.1 rest)
    ]
