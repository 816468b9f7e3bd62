-- Turns of clients, and the numbers of calls.
use Rattle.std.proofs.Common.{◌≡◌, ℕ, zero, suc, ◌+◌, ◌<◌, ◌≤◌, ◌^◌, ◌==◌, Bool, true, false, cond, ◌&&◌, nat_lt, List, [], ◌∷◌, ◌++◌, Option, Some, None, ℤ, map, length, take, drop, get_or, All, refl, sym, ap, ap₂, subst, ◌∙◌, append_assoc, append-nil, eq-eqb, arith}
use Rattle.std.specs.Map.{lookup}
use Rattle.std.specs.Prelude.{IfSome, is_some, unwrap_or}
use Rattle.std.proofs.lemmas.Bool.{eqb-true}
use Rattle.std.proofs.lemmas.List.{at_drop_more, drop_all, length-map, length-take, map_more}
use Rattle.std.proofs.lemmas.Bool.Decides.{nat_tests}
use Rattle.std.proofs.lemmas.Option.{same_Some}
use Rattle.lc_lemmas.proofs.Numbers.{swapped, flipped_test}
use Rattle.lc_seq.specs.Sequential.{Call}
use Rattle.lc_history.specs.History.{Event, Called, Replied, Entry, count, is_call, is_of}
use Rattle.lc_history.specs.WellFormed.{begins}
use Rattle.lc_draw.specs.Counting.{AreNumbers, IsUpTo, have_calls, number_at, number_such, numbered_places, numbers_for, place_at, turns_of}
use Rattle.lc_draw.specs.Drawings.{marked}

-- one turn more of a client
pub one_turn : (old new : List (ℕ × ℕ)) (client turn : ℕ) → turn ≡ turns_of old client → ((c : ℕ) → lookup (λ key. c == key) new ≡ cond (client == c) (Some (turn + 1)) (lookup (λ key. c == key) old)) → (c : ℕ)
    → turns_of new c ≡ cond (c == client) (suc (turns_of old c)) (turns_of old c)
one_turn old new client turn is updates c = ap (λ o. unwrap_or o 0) (updates c) ∙ by (client == c) refl
  where
    by : (b : Bool) → (client == c) ≡ b → unwrap_or (cond b (Some (turn + 1)) (lookup (λ key. c == key) old)) 0 ≡ cond (c == client) (suc (turns_of old c)) (turns_of old c)
    by true e =
        let same : client ≡ c = eqb-true client c e in
        let there : (c == client) ≡ true = eq-eqb c client (sym same) in
        let here : turn + 1 ≡ suc (turns_of old c) = subst (λ k. turn + 1 ≡ suc (turns_of old k)) same (omega (arith, is)) in
        here ∙ sym (ap (λ b. cond b (suc (turns_of old c)) (turns_of old c)) there)
    by false e = sym (ap (λ b. cond b (suc (turns_of old c)) (turns_of old c)) (swapped client c e))

-- ---- events

pub count-last : {A : Type 0} (t : A → Bool) (xs : List A) (x : A) (b : Bool) → t x ≡ b → count t (xs ++ x ∷ []) ≡ cond b (suc (count t xs)) (count t xs)
count-last t [] x b e = ap (λ c. cond c 1 0) e
count-last t (y ∷ ys) x b e = ap (λ n. cond (t y) (suc n) n) (count-last t ys x b e) ∙ moved (t y) b (count t ys)
  where
    moved : (a b : Bool) (n : ℕ) → cond a (suc (cond b (suc n) n)) (cond b (suc n) n) ≡ cond b (suc (cond a (suc n) n)) (cond a (suc n) n)
    moved true true n = refl
    moved true false n = refl
    moved false true n = refl
    moved false false n = refl

-- a number that is another is less than one more exactly if it is less
not-last : (t k : ℕ) → (k == t) ≡ false → nat_lt t k ≡ nat_lt t (suc k)
not-last t k e = grind (arith, nat_tests)

last-less : (t k : ℕ) → k ≡ t → true ≡ nat_lt t (suc k)
last-less t k e = grind (arith, nat_tests)

-- a call more
pub call-up : (events : List Event) (n : ℕ) (turns turns' : List (ℕ × ℕ)) (numbers numbers' : List ((ℕ × ℕ) × ℕ)) (client turn number n' : ℕ) (call : Call) → turn ≡ turns_of turns client → number ≡ n → n' ≡ suc n
    → ((c : ℕ) → turns_of turns' c ≡ cond (c == client) (suc (turns_of turns c)) (turns_of turns c))
    → ((c t : ℕ) → number_at numbers' c t ≡ cond ((client == c) && (turn == t)) (Some number) (number_at numbers c t))
    → IsUpTo events n turns numbers → IsUpTo (events ++ Called client call ∷ []) n' turns' numbers'
call-up events n turns turns' numbers numbers' client turn number n' call turn-is number-is n'-is more put up = record {
  calls_are = n'-is ∙ (ap suc up.calls_are ∙ sym (count-last begins events (Called client call) true refl));
  turns_are = turned;
  numbered = λ c t. ap is_some (put c t) ∙ numbered c t (client == c) refl;
  below = λ c t m e. below c t m (client == c) (turn == t) (sym (put c t) ∙ e);
}
  where
    calls : (c : ℕ) (b : Bool) → (client == c) ≡ b → count (is_call c) (events ++ Called client call ∷ []) ≡ cond b (suc (count (is_call c) events)) (count (is_call c) events)
    calls c b e = count-last (is_call c) events (Called client call) b e

    turned : (c : ℕ) → turns_of turns' c ≡ count (is_call c) (events ++ Called client call ∷ [])
    turned c = more c ∙ by (c == client) refl
      where
        by : (b : Bool) → (c == client) ≡ b → cond (c == client) (suc (turns_of turns c)) (turns_of turns c) ≡ count (is_call c) (events ++ Called client call ∷ [])
        by b e = ap₂ (λ x k. cond x (suc k) k) e (up.turns_are c) ∙ sym (calls c b (flipped_test c client b e))

    numbered : (c t : ℕ) (b : Bool) → (client == c) ≡ b → is_some (cond ((client == c) && (turn == t)) (Some number) (number_at numbers c t)) ≡ nat_lt t (count (is_call c) (events ++ Called client call ∷ []))
    numbered c t true e =
        let same : turn ≡ count (is_call c) events = turn-is ∙ (ap (turns_of turns) (eqb-true client c e) ∙ up.turns_are c) in
        ap (λ x. is_some (cond (x && (turn == t)) (Some number) (number_at numbers c t))) e ∙ (by same (turn == t) refl ∙ sym (ap (nat_lt t) (calls c true e)))
      where
        by : turn ≡ count (is_call c) events → (x : Bool) → (turn == t) ≡ x → is_some (cond (turn == t) (Some number) (number_at numbers c t)) ≡ nat_lt t (suc (count (is_call c) events))
        by same true f = ap (λ x. is_some (cond x (Some number) (number_at numbers c t))) f ∙ last-less t (count (is_call c) events) (sym same ∙ eqb-true turn t f)
        by same false f =
            ap (λ x. is_some (cond x (Some number) (number_at numbers c t))) f ∙ (up.numbered c t ∙ not-last t (count (is_call c) events) (subst (λ k. (k == t) ≡ false) same f))
    numbered c t false e =
        ap (λ x. is_some (cond (x && (turn == t)) (Some number) (number_at numbers c t))) e ∙ (up.numbered c t ∙ sym (ap (nat_lt t) (calls c false e)))

    below : (c t m : ℕ) (a b : Bool) → cond (a && b) (Some number) (number_at numbers c t) ≡ Some m → m < n'
    below c t m true true e = let same = same_Some number m e in omega (arith, same, number-is, n'-is)
    below c t m true false e = let h = up.below c t m e in omega (arith, h, n'-is)
    below c t m false b e = let h = up.below c t m e in omega (arith, h, n'-is)

-- a return more
pub return-up : (events : List Event) (n : ℕ) (turns : List (ℕ × ℕ)) (numbers : List ((ℕ × ℕ) × ℕ)) (client : ℕ) (reply : List ℤ) → IsUpTo events n turns numbers → IsUpTo (events ++ Replied client reply ∷ []) n turns numbers
return-up events n turns numbers client reply up = record {
  calls_are = up.calls_are ∙ sym (count-last begins events (Replied client reply) false refl);
  turns_are = λ c. up.turns_are c ∙ sym (count-last (is_call c) events (Replied client reply) false refl);
  numbered = λ c t. up.numbered c t ∙ sym (ap (nat_lt t) (count-last (is_call c) events (Replied client reply) false refl));
  below = up.below;
}

-- a client has at most as many calls as there are events
pub few-turns : {A : Type 0} (t : A → Bool) (xs : List A) → count t xs ≤ length xs
few-turns t [] = omega arith
few-turns t (x ∷ xs) = by (t x) (few-turns t xs)
  where
    by : (b : Bool) → count t xs ≤ length xs → cond b (suc (count t xs)) (count t xs) ≤ suc (length xs)
    by true h = omega (arith, h)
    by false h = omega (arith, h)

-- an event more, which is a return
pub replied-up : (events : List Event) (event : Event) (client : ℕ) (reply : List ℤ) (n n' : ℕ) (turns turns' : List (ℕ × ℕ)) (numbers numbers' : List ((ℕ × ℕ) × ℕ)) → event ≡ Replied client reply → n' ≡ n → turns' ≡ turns → numbers' ≡ numbers
    → IsUpTo events n turns numbers → IsUpTo (events ++ event ∷ []) n' turns' numbers'
replied-up events event client reply n n' turns turns' numbers numbers' is same-n same-t same-m up =
    subst (λ x. IsUpTo (events ++ x ∷ []) n' turns' numbers') (sym is) (subst (λ k. IsUpTo (events ++ Replied client reply ∷ []) k turns' numbers') (sym same-n)
    (subst (λ t. IsUpTo (events ++ Replied client reply ∷ []) n t numbers') (sym same-t)
    (subst (λ m. IsUpTo (events ++ Replied client reply ∷ []) n turns m) (sym same-m) (return-up events n turns numbers client reply up))))

-- a client has had fewer turns than a number has room for
pub few-calls : {X : Type 0} (f : X → Event) (xs : List X) (i c n : ℕ) (turns : List (ℕ × ℕ)) (numbers : List ((ℕ × ℕ) × ℕ)) → i < length xs → length xs < 2 ^ 64 → IsUpTo (map f (take i xs)) n turns numbers → turns_of turns c + 1 < 2 ^ 64
few-calls f xs i c n turns numbers lt fits up = omega (arith, up.turns_are c, few-turns (is_call c) (map f (take i xs)), length-map (take i xs) f, length-take i xs)

-- the events up to this one, and this one
pub events-more : {X : Type 0} (f : X → Event) (xs : List X) (i : ℕ) (x : X) (n : ℕ) (turns : List (ℕ × ℕ)) (numbers : List ((ℕ × ℕ) × ℕ)) → i < length xs → x ≡ get_or xs i x → IsUpTo (map f (take i xs) ++ f x ∷ []) n turns numbers
    → IsUpTo (map f (take (i + 1) xs)) n turns numbers
events-more f xs i x n turns numbers lt is up =
    subst (λ es. IsUpTo es n turns numbers) (sym (map_more f xs i x lt ∙ ap (λ y. map f (take i xs) ++ f y ∷ []) (sym is))) up

-- ---- entries

-- a client has had fewer turns than a number has room for
pub few-entries : {X : Type 0} (f : X → Entry) (xs : List X) (i c : ℕ) (turns : List (ℕ × ℕ)) → i < length xs → length xs < 2 ^ 64 → ((c : ℕ) → turns_of turns c ≡ count (is_of c) (map f (take i xs))) → turns_of turns c + 1 < 2 ^ 64
few-entries f xs i c turns lt fits seen = omega (arith, seen c, few-turns (is_of c) (map f (take i xs)), length-map (take i xs) f, length-take i xs)

-- turns after one entry more
pub entries-up : {X : Type 0} (f : X → Entry) (xs : List X) (i : ℕ) (x : X) (turns turns' : List (ℕ × ℕ)) → i < length xs → x ≡ get_or xs i x
    → ((c : ℕ) → turns_of turns' c ≡ cond (c == (f x).client) (suc (turns_of turns c)) (turns_of turns c)) → ((c : ℕ) → turns_of turns c ≡ count (is_of c) (map f (take i xs))) → (c : ℕ)
    → turns_of turns' c ≡ count (is_of c) (map f (take (i + 1) xs))
entries-up f xs i x turns turns' lt is more seen c = more c ∙ (by (c == (f x).client) refl ∙ sym (ap (count (is_of c)) took))
  where
    took : map f (take (i + 1) xs) ≡ map f (take i xs) ++ f x ∷ []
    took = map_more f xs i x lt ∙ ap (λ y. map f (take i xs) ++ f y ∷ []) (sym is)

    by : (b : Bool) → (c == (f x).client) ≡ b → cond (c == (f x).client) (suc (turns_of turns c)) (turns_of turns c) ≡ count (is_of c) (map f (take i xs) ++ f x ∷ [])
    by b e = ap₂ (λ t k. cond t (suc k) k) e (seen c) ∙ sym (count-last (is_of c) (map f (take i xs)) (f x) b (flipped_test c (f x).client b e))

-- the numbers up to this entry, with those of the later entries, are all
pub numbers-more : {X : Type 0} (f : X → Entry) (test : ℕ → ℕ → Bool) (ns : List ((ℕ × ℕ) × ℕ)) (order : List X) (i : ℕ) (x : X) (xs xs' all : List (Option ℕ)) (turn : ℕ) (n : Option ℕ) → i < length order → x ≡ get_or order i x
    → turn ≡ count (is_of (f x).client) (map f (take i order)) → n ≡ number_such test ns (f x).client turn → xs' ≡ xs ++ n ∷ []
    → xs ++ numbers_for test ns (map f (take i order)) (map f (drop i order)) ≡ all → xs' ++ numbers_for test ns (map f (take (i + 1) order)) (map f (drop (i + 1) order)) ≡ all
numbers-more f test ns order i x xs xs' all turn n lt is at there push h =
    ap₂ (λ l b. l ++ numbers_for test ns b rest) push took
    ∙ (append_assoc xs (n ∷ []) (numbers_for test ns (before ++ f x ∷ []) rest)
    ∙ (ap (λ y. xs ++ y ∷ numbers_for test ns (before ++ f x ∷ []) rest) (there ∙ ap (number_such test ns (f x).client) at) ∙ (ap (λ l. xs ++ numbers_for test ns before l) (sym left) ∙ h)))
  where
    before : List Entry
    before = map f (take i order)

    rest : List Entry
    rest = map f (drop (i + 1) order)

    took : map f (take (i + 1) order) ≡ before ++ f x ∷ []
    took = map_more f order i x lt ∙ ap (λ y. before ++ f y ∷ []) (sym is)

    left : map f (drop i order) ≡ f x ∷ rest
    left = at_drop_more (map f) order i x lt ∙ ap (λ y. f y ∷ rest) (sym is)

-- no entry is left
pub numbers-done : {X : Type 0} (f : X → Entry) (test : ℕ → ℕ → Bool) (ns : List ((ℕ × ℕ) × ℕ)) (order : List X) (i : ℕ) (xs all : List (Option ℕ)) → length order ≤ i
    → xs ++ numbers_for test ns (map f (take i order)) (map f (drop i order)) ≡ all → xs ≡ all
numbers-done f test ns order i xs all over h = sym (append-nil xs) ∙ (ap (λ l. xs ++ numbers_for test ns (map f (take i order)) (map f l)) (sym (drop_all i order over)) ∙ h)

if_some : {A : Type 0} (P : A → Type 0) (o : Option A) → ((x : A) → o ≡ Some x → P x) → IfSome o P
if_some P None f = tt
if_some P (Some x) f = f x refl

all-cons : {A : Type 0} (P : A → Type 0) (x : A) (xs : List A) → P x → All P xs → All P (x ∷ xs)
all-cons P x xs h all zero d below = h
all-cons P x xs h all (suc k) d below = all k d (omega (arith, below))

-- a number that passes is there
such-some : (b : Bool) (n : Option ℕ) (has : Bool) → is_some n ≡ has → (b ≡ true → has ≡ true) → is_some (cond b n None) ≡ b
such-some true n has is there = is ∙ there refl
such-some false n has is there = refl

such-number : (b : Bool) (n : Option ℕ) (k : ℕ) → cond b n None ≡ Some k → n ≡ Some k
such-number true n k is = is
such-number false n k is = absurd cc

module _ (test : ℕ → ℕ → Bool) (events : List Event) (n : ℕ) (turns : List (ℕ × ℕ)) (numbers : List ((ℕ × ℕ) × ℕ)) (there : (c t : ℕ) → test c t ≡ true → nat_lt t (count (is_call c) events) ≡ true) (up : IsUpTo events n turns numbers) where
  which : (before es : List Entry) → map is_some (numbers_for test numbers before es) ≡ have_calls test before es
  which before [] = refl
  which before (e ∷ es) =
      let t = count (is_of e.client) before in
      ap₂ ◌∷◌ (such-some (test e.client t) (number_at numbers e.client t) (nat_lt t (count (is_call e.client) events)) (up.numbered e.client t) (there e.client t)) (which (before ++ e ∷ []) es)

  within : (before es : List Entry) → All (λ number. IfSome number (λ k. k < n)) (numbers_for test numbers before es)
  within before [] = λ k d below. absurd (omega (arith, below))
  within before (e ∷ es) =
      let t = count (is_of e.client) before in
      all-cons (λ number. IfSome number (λ k. k < n)) (number_such test numbers e.client t) (numbers_for test numbers (before ++ e ∷ []) es)
      (if_some (λ k. k < n) (number_such test numbers e.client t) (λ k is. up.below e.client t k (such-number (test e.client t) (number_at numbers e.client t) k is))) (within (before ++ e ∷ []) es)

  pub numbers-are : (order : List Entry) → AreNumbers test order n (numbers_for test numbers [] order)
  numbers-are order = record { which = which [] order; below = within [] order }

-- the places of marks are those of the entries that have calls which pass
pub places-are : (test : ℕ → ℕ → Bool) (before es : List Entry) (k : ℕ) (ns : List (Option ℕ)) → map is_some ns ≡ have_calls test before es → numbered_places k ns ≡ marked test before k es
places-are test before [] k [] same = refl
places-are test before (e ∷ es) k [] same = absurd cc
places-are test before [] k (n ∷ ns) same = absurd cc
places-are test before (e ∷ es) k (None ∷ ns) same =
    let head : false ≡ test e.client (count (is_of e.client) before) = cc in
    let rest : map is_some ns ≡ have_calls test (before ++ e ∷ []) es = cc in
    places-are test (before ++ e ∷ []) es (suc k) ns rest ∙ ap (λ b. cond b (k ∷ marked test (before ++ e ∷ []) (suc k) es) (marked test (before ++ e ∷ []) (suc k) es)) head
places-are test before (e ∷ es) k (Some n ∷ ns) same =
    let head : true ≡ test e.client (count (is_of e.client) before) = cc in
    let rest : map is_some ns ≡ have_calls test (before ++ e ∷ []) es = cc in
    ap (λ l. k ∷ l) (places-are test (before ++ e ∷ []) es (suc k) ns rest) ∙ ap (λ b. cond b (k ∷ marked test (before ++ e ∷ []) (suc k) es) (marked test (before ++ e ∷ []) (suc k) es)) head

-- the places up to this one, with the later ones, are all
pub places-next : (k : ℕ) (ns : List (Option ℕ)) (n d : Option ℕ) (before after all : List ℕ) → k < length ns → n ≡ get_or ns k d → after ≡ before ++ place_at k n → before ++ numbered_places k (drop k ns) ≡ all
    → after ++ numbered_places (k + 1) (drop (k + 1) ns) ≡ all
places-next k ns n d before after all lt is more h =
    ap₂ (λ l j. l ++ numbered_places j rest) more one
    ∙ (append_assoc before (place_at k n) (numbered_places (suc k) rest)
    ∙ (ap (λ m. before ++ (place_at k m ++ numbered_places (suc k) rest)) is ∙ (ap (λ l. before ++ l) (sym (at_drop_more (numbered_places k) ns k d lt)) ∙ h)))
  where
    rest : List (Option ℕ)
    rest = drop (k + 1) ns

    one : k + 1 ≡ suc k
    one = omega arith

-- no place is left
pub places-done : (k : ℕ) (ns : List (Option ℕ)) (before all : List ℕ) → length ns ≤ k → before ++ numbered_places k (drop k ns) ≡ all → before ≡ all
places-done k ns before all over h = sym (append-nil before) ∙ (ap (λ l. before ++ numbered_places k l) (sym (drop_all k ns over)) ∙ h)
