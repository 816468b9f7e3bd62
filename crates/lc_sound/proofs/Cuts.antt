-- If one call precedes another, it comes earlier in the order.
use Rattle.std.proofs.Common.{◌≡◌, ℕ, zero, suc, ◌+◌, ◌<◌, ◌≤◌, Bool, true, false, ◌==◌, cond, List, [], ◌∷◌, ℤ, take, subst, inl, inr, arith}
use Rattle.lc_lemmas.proofs.Numbers.{equal_other_way}
use Rattle.lc_seq.specs.Sequential.{Call}
use Rattle.lc_history.specs.History.{Event, Called, Replied, Entry, is_call, is_return, is_of, count, IsPlace, Precedes}
use Rattle.lc_history.proofs.Places.{count_longer_front, count_behind_place}
use Rattle.lc_sound.specs.Happening.{Happening, Happens, Marked, client_of, events, returns_next, counted}
use Rattle.lc_sound.specs.Lawful.{Phase, Free, Waiting, Noted, Done, Takes, calls, returns_done, returns_noted, marks, marks_noted, notes, notes_again}
use Rattle.lc_sound.proofs.Own.{IsOwn}

-- how many entries come before the j-th event
abbrev pub cut : List Happening → ℕ → ℕ
cut [] j = 0
cut (Happens event ∷ hs) zero = 0
cut (Happens event ∷ hs) (suc j) = cut hs j
cut (Marked false e ∷ hs) zero = 0
cut (Marked false e ∷ hs) (suc j) = suc (cut hs (suc j))
cut (Marked true e ∷ hs) zero = 0
cut (Marked true e ∷ hs) (suc j) = cond (returns_next e.client hs) (suc (cut hs (suc j))) (cut hs (suc j))

-- how many entries a client's call has already
abbrev size : Phase → Bool → ℕ
size Free returns = 0
size (Waiting call) returns = 0
size (Noted call reply) returns = cond returns 1 0
size (Done call reply) returns = 1

abbrev busy : Phase → ℕ
busy Free = 0
busy (Waiting call) = 1
busy (Noted call reply) = 1
busy (Done call reply) = 1

-- up to a cut each call that has returned is entered, and each that is entered has begun
abbrev Between : ℕ → Phase → Bool → List Event → List Entry → Type 0
Between c p returns h es =
    (count (is_return c) h ≤ size p returns + count (is_of c) es)
    × (size p returns + count (is_of c) es ≤ busy p + count (is_call c) h)

abbrev IsCut : ℕ → Phase → List Happening → ℕ → Type 0
IsCut c p hs j = Between c p (returns_next c hs) (take j (events hs)) (take (cut hs j) (counted hs))

none_yet : (c : ℕ) (p : Phase) (b : Bool) → Between c p b [] []
none_yet c Free b = omega arith
none_yet c (Waiting call) b = omega arith
none_yet c (Noted call reply) true = omega arith
none_yet c (Noted call reply) false = omega arith
none_yet c (Done call reply) b = omega arith

note_here : (c : ℕ) (call : Call) (reply : List ℤ) (h : List Event) (e : Entry) (es : List Entry) (n : ℕ) → (e.client == c) ≡ true → (b : Bool)
    → Between c (Noted call reply) b h (take n es)
    → Between c (Waiting call) b h (take (cond b (suc n) n) (cond b (e ∷ es) es))
note_here c call reply h e es n is true rest = rw is (omega arith)
note_here c call reply h e es n is false rest = rest

note_away : (c : ℕ) (p : Phase) (r : Bool) (h : List Event) (e : Entry) (es : List Entry) (n : ℕ) → (e.client == c) ≡ false → (b : Bool)
    → Between c p r h (take n es)
    → Between c p r h (take (cond b (suc n) n) (cond b (e ∷ es) es))
note_away c p r h e es n is true rest = rw is rest
note_away c p r h e es n is false rest = rest

cut_here : (c : ℕ) (p q : Phase) (h : Happening) (hs : List Happening) (j : ℕ) → Takes p h q → (client_of h == c) ≡ true → ((i : ℕ) → IsCut c q hs i) → IsCut c p (h ∷ hs) (suc j)
cut_here c _ _ _ hs j calls e rest = let r = rest j in rw e (omega arith)
cut_here c _ _ _ hs j returns_done e rest = let r = rest j in rw e (omega arith)
cut_here c _ _ _ hs j returns_noted e rest = let r = rest j in rw e (omega arith)
cut_here c _ _ _ hs j marks e rest = let r = rest (suc j) in rw e (omega arith)
cut_here c _ _ _ hs j marks_noted e rest = let r = rest (suc j) in rw e (omega arith)
cut_here c _ _ _ hs j (notes {e = entry}) e rest =
    note_here c entry.call entry.reply (take (suc j) (events hs)) entry (counted hs) (cut hs (suc j)) e (returns_next entry.client hs) (rw (equal_other_way c entry.client e) (rest (suc j)))
cut_here c _ _ _ hs j (notes_again {e = entry}) e rest =
    rw e (note_here c entry.call entry.reply (take (suc j) (events hs)) entry (counted hs) (cut hs (suc j)) e (returns_next entry.client hs) (rw (equal_other_way c entry.client e) (rest (suc j))))

cut_away : (c : ℕ) (p : Phase) (h : Happening) (hs : List Happening) (j : ℕ) → (client_of h == c) ≡ false → ((i : ℕ) → IsCut c p hs i) → IsCut c p (h ∷ hs) (suc j)
cut_away c p (Happens (Called d call)) hs j e rest = rw e (rest j)
cut_away c p (Happens (Replied d reply)) hs j e rest = rw e (rest j)
cut_away c p (Marked false entry) hs j e rest = rw e (rest (suc j))
cut_away c p (Marked true entry) hs j e rest =
    rw e (note_away c p (returns_next c hs) (take (suc j) (events hs)) entry (counted hs) (cut hs (suc j)) e (returns_next entry.client hs) (rest (suc j)))

cut_zero : (c : ℕ) (p : Phase) (hs : List Happening) → IsCut c p hs 0
cut_zero c p [] = none_yet c p false
cut_zero c p (Happens event ∷ hs) = none_yet c p (returns_next c (Happens event ∷ hs))
cut_zero c p (Marked false e ∷ hs) = none_yet c p (returns_next c (Marked false e ∷ hs))
cut_zero c p (Marked true e ∷ hs) = none_yet c p (returns_next c (Marked true e ∷ hs))

is_cut : (c : ℕ) (p : Phase) (hs : List Happening) → IsOwn c p hs → (j : ℕ) → IsCut c p hs j
is_cut c p hs law zero = cut_zero c p hs
is_cut c p [] law (suc j) = none_yet c p false
is_cut c p (h ∷ hs) law (suc j) =
    let rest : (i : ℕ) → IsCut c law.0 hs i = λ i. is_cut c law.0 hs law.2 i in
    elim law.1 [
      | inl l ↦ cut_here c p law.0 h hs j l.1 l.0 rest
      | inr l ↦ cut_away c p h hs j l.0 (λ i. subst (λ q. IsCut c q hs i) l.1 (rest i))
    ]

pub stands_earlier : (hs : List Happening) → ((c : ℕ) → IsOwn c Free hs) → (c k d m p q : ℕ)
    → Precedes (events hs) c k d m → IsPlace (is_of c) k (counted hs) p → IsPlace (is_of d) m (counted hs) q → p < q
stands_earlier hs law c k d m p q precedes at-c at-d =
    let j : ℕ = precedes.begins in
    let n : ℕ = cut hs j in
    let of-c = is_cut c Free hs (law c) j in
    let of-d = is_cut d Free hs (law d) j in
    let returned = count_behind_place (is_return c) (events hs) precedes.returns j precedes.returned.element precedes.returned.stands precedes.returned.passes precedes.earlier in
    let before : n ≤ p → ⊥ = λ le. let few = count_longer_front (is_of c) (counted hs) n p le in omega (arith, few, of-c.0, returned, at-c.before, precedes.returned.before) in
    let after : q < n → ⊥ = λ lt. let many = count_behind_place (is_of d) (counted hs) q n at-d.element at-d.stands at-d.passes lt in omega (arith, many, of-d.1, at-d.before, precedes.begun.before) in
    omega arith
