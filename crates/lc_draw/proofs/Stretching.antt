-- Calls in stretches of events, and how many events are before a mark.
use Rattle.std.proofs.Common.{◌≡◌, ℕ, zero, suc, ◌+◌, ◌<◌, ◌≤◌, ◌^◌, ◌==◌, Bool, true, false, cond, ◌&&◌, nat_lt, nat_le, List, [], ◌∷◌, ◌++◌, Option, Some, None, map, length, take, drop, get_or, refl, sym, ap, ap₂, ◌∙◌, append_assoc, append-nil, arith}
use Rattle.std.specs.Prelude.{min, option_and_then, slice_get}
use Rattle.std.specs.Option.{option_map_or}
use Rattle.std.proofs.lemmas.Bool.Decides.{nat_tests}
use Rattle.std.proofs.lemmas.List.{at_drop_more, drop_all, length-map, length-take, map_more, take-map, take_min, take_more}
use Rattle.std.proofs.lemmas.Option.{same_Some, slice_get-get_or}
use Rattle.lc_lemmas.proofs.Lists.{seen_at}
use Rattle.lc_lemmas.proofs.Numbers.{flipped_test}
use Rattle.lc_history.specs.History.{Event, Called, Replied, Entry, count, is_call, is_return, is_of}
use Rattle.lc_history.specs.WellFormed.{begins}
use Rattle.lc_draw.specs.Counting.{AreTurns, begun_such, call_begun, has_turn, is_between, turns_of}
use Rattle.lc_draw.specs.Drawings.{has_call}
use Rattle.lc_draw.specs.Stretches.{begins_such, begins_such_at, count_such, events_before, events_to_mark, has_entry, is_open_at, is_within, mark_at, such_calls, up_to_last}
use Rattle.lc_draw.proofs.Turning.{count-last, few-turns}
use mathlib.Core.Path.{fun_ext}

-- ---- counts over a list that is walked

-- counts with one element more
pub counts-up : {X Y : Type 0} (f : X → Y) (t : ℕ → Y → Bool) (xs : List X) (i : ℕ) (x : X) (g g' : ℕ → ℕ) → i < length xs → x ≡ get_or xs i x → ((c : ℕ) → g' c ≡ cond (t c (f x)) (suc (g c)) (g c))
    → ((c : ℕ) → g c ≡ count (t c) (map f (take i xs))) → (c : ℕ) → g' c ≡ count (t c) (map f (take (i + 1) xs))
counts-up f t xs i x g g' lt is more so c =
    let took : map f (take (i + 1) xs) ≡ map f (take i xs) ++ f x ∷ [] = map_more f xs i x lt ∙ ap (λ y. map f (take i xs) ++ f y ∷ []) (sym is) in
    more c ∙ (ap (λ k. cond (t c (f x)) (suc k) k) (so c) ∙ (sym (count-last (t c) (map f (take i xs)) (f x) (t c (f x)) refl) ∙ ap (count (t c)) (sym took)))

-- a count of fewer than all elements has room for one more
pub count-fits : {X Y : Type 0} (f : X → Y) (t : Y → Bool) (xs : List X) (i n : ℕ) → i < length xs → length xs < 2 ^ 64 → n ≡ count t (map f (take i xs)) → n + 1 < 2 ^ 64
count-fits f t xs i n lt fits is = omega (arith, is, few-turns t (map f (take i xs)), length-map (take i xs) f, length-take i xs)

-- all elements are counted
pub counts-all : {X Y : Type 0} (f : X → Y) (t : ℕ → Y → Bool) (xs : List X) (i : ℕ) (g : ℕ → ℕ) → length xs ≤ i → ((c : ℕ) → g c ≡ count (t c) (map f (take i xs))) → (c : ℕ) → g c ≡ count (t c) (map f xs)
counts-all f t xs i g over so c = so c ∙ ap (λ ys. count (t c) (map f ys)) (took xs i over)
  where
    took : {X : Type 0} (xs : List X) (i : ℕ) → length xs ≤ i → take i xs ≡ xs
    took [] zero over = refl
    took [] (suc i) over = refl
    took (x ∷ xs) zero over = absurd (omega (arith, over))
    took (x ∷ xs) (suc i) over = ap (λ l. x ∷ l) (took xs i (omega (arith, over)))

-- ---- which calls pass

calls-here : (test : ℕ → ℕ → Bool) (before rest : List Event) (e : Event) (g : ℕ → ℕ) (client turn : ℕ) → call_begun g e ≡ Some (client, turn) → ((c : ℕ) → g c ≡ count (is_call c) before)
    → such_calls test before (e ∷ rest) ≡ test client turn ∷ such_calls test (before ++ e ∷ []) rest
calls-here test before rest (Called c call) g client turn is so =
    ap (λ b. b ∷ such_calls test (before ++ Called c call ∷ []) rest) (ap (test c) (sym (so c)) ∙ ap (λ (p : ℕ × ℕ). test p.0 p.1) (same_Some _ _ is))
calls-here test before rest (Replied c reply) g client turn is so = absurd cc

calls-not-here : (test : ℕ → ℕ → Bool) (before rest : List Event) (e : Event) (g : ℕ → ℕ) → call_begun g e ≡ None → such_calls test before (e ∷ rest) ≡ such_calls test (before ++ e ∷ []) rest
calls-not-here test before rest (Called c call) g is = absurd cc
calls-not-here test before rest (Replied c reply) g is = refl

-- what holds of the calls up to an event, with those behind it, is all
pub calls-next : {X : Type 0} (f : X → Event) (test : ℕ → ℕ → Bool) (xs : List X) (i : ℕ) (x : X) (g : ℕ → ℕ) (client turn : ℕ) (b : Bool) (held held' all : List Bool) → i < length xs → x ≡ get_or xs i x
    → call_begun g (f x) ≡ Some (client, turn) → ((c : ℕ) → g c ≡ count (is_call c) (map f (take i xs))) → b ≡ test client turn → held' ≡ held ++ b ∷ []
    → held ++ such_calls test (map f (take i xs)) (map f (drop i xs)) ≡ all → held' ++ such_calls test (map f (take (i + 1) xs)) (map f (drop (i + 1) xs)) ≡ all
calls-next f test xs i x g client turn b held held' all lt is at so holds push h =
    ap₂ (λ l before. l ++ such_calls test before rest) push took
    ∙ (append_assoc held (b ∷ []) (such_calls test (before ++ f x ∷ []) rest)
    ∙ (ap (λ y. held ++ y ∷ such_calls test (before ++ f x ∷ []) rest) holds
    ∙ (ap (λ l. held ++ l) (sym (calls-here test before rest (f x) g client turn at so)) ∙ (ap (λ l. held ++ such_calls test before l) (sym left) ∙ h))))
  where
    before : List Event
    before = map f (take i xs)

    rest : List Event
    rest = map f (drop (i + 1) xs)

    took : map f (take (i + 1) xs) ≡ before ++ f x ∷ []
    took = map_more f xs i x lt ∙ ap (λ y. before ++ f y ∷ []) (sym is)

    left : map f (drop i xs) ≡ f x ∷ rest
    left = at_drop_more (map f) xs i x lt ∙ ap (λ y. f y ∷ rest) (sym is)

pub calls-same : {X : Type 0} (f : X → Event) (test : ℕ → ℕ → Bool) (xs : List X) (i : ℕ) (x : X) (g : ℕ → ℕ) (held held' all : List Bool) → i < length xs → x ≡ get_or xs i x → call_begun g (f x) ≡ None → held' ≡ held
    → held ++ such_calls test (map f (take i xs)) (map f (drop i xs)) ≡ all → held' ++ such_calls test (map f (take (i + 1) xs)) (map f (drop (i + 1) xs)) ≡ all
calls-same f test xs i x g held held' all lt is at same h =
    ap₂ (λ l before. l ++ such_calls test before rest) same took ∙ (ap (λ l. held ++ l) (sym (calls-not-here test before rest (f x) g at)) ∙ (ap (λ l. held ++ such_calls test before l) (sym left) ∙ h))
  where
    before : List Event
    before = map f (take i xs)

    rest : List Event
    rest = map f (drop (i + 1) xs)

    took : map f (take (i + 1) xs) ≡ before ++ f x ∷ []
    took = map_more f xs i x lt ∙ ap (λ y. before ++ f y ∷ []) (sym is)

    left : map f (drop i xs) ≡ f x ∷ rest
    left = at_drop_more (map f) xs i x lt ∙ ap (λ y. f y ∷ rest) (sym is)

-- no event is left
pub calls-done : {X : Type 0} (f : X → Event) (test : ℕ → ℕ → Bool) (xs : List X) (i : ℕ) (held all : List Bool) → length xs ≤ i → held ++ such_calls test (map f (take i xs)) (map f (drop i xs)) ≡ all → held ≡ all
calls-done f test xs i held all over h = sym (append-nil held) ∙ (ap (λ l. held ++ such_calls test (map f (take i xs)) (map f l)) (sym (drop_all i xs over)) ∙ h)

-- there is one answer for each call
pub calls-length : (test : ℕ → ℕ → Bool) (before es : List Event) → length (such_calls test before es) ≡ count begins es
calls-length test before [] = refl
calls-length test before (Called c call ∷ es) = ap suc (calls-length test (before ++ Called c call ∷ []) es)
calls-length test before (Replied c reply ∷ es) = calls-length test (before ++ Replied c reply ∷ []) es

-- ---- tests of stretches

count-take : {A : Type 0} (t : A → Bool) (n : ℕ) (xs : List A) → count t (take n xs) ≤ count t xs
count-take t zero xs = omega arith
count-take t (suc n) [] = omega arith
count-take t (suc n) (x ∷ xs) = by (t x) (count-take t n xs)
  where
    by : (b : Bool) → count t (take n xs) ≤ count t xs → cond b (suc (count t (take n xs))) (count t (take n xs)) ≤ cond b (suc (count t xs)) (count t xs)
    by true h = omega (arith, h)
    by false h = h

-- what tables of turns say is what events say
pub between-within : (from until : ℕ) (events : List Event) (begun returned : List (ℕ × ℕ)) → AreTurns (take until events) (take from events) begun returned → is_between begun returned ≡ is_within from until events
between-within from until events begun returned are = fun_ext (λ c. fun_ext (λ t. ap₂ (λ n m. nat_lt t n && nat_le m t) (are.begun_are c) (are.returned_are c)))

-- a call within a stretch is there
pub within-has : (from until : ℕ) (events : List Event) (c t : ℕ) → is_within from until events c t ≡ true → nat_lt t (count (is_call c) events) ≡ true
within-has from until events c t is = by (count (is_call c) (take until events)) (nat_le (count (is_return c) (take from events)) t) (count (is_call c) events) (count-take (is_call c) until events) is
  where
    by : (n : ℕ) (b : Bool) (m : ℕ) → n ≤ m → nat_lt t n && b ≡ true → nat_lt t m ≡ true
    by n b m le h = grind (arith, nat_tests)

and-true : (b : Bool) → b && true ≡ b
and-true true = refl
and-true false = refl

zero-le : (t : ℕ) → nat_le 0 t ≡ true
zero-le t = grind (arith, nat_tests)

-- all calls are in the stretch of all events
pub within-all : (events : List Event) → is_within 0 (length events) events ≡ has_call events
within-all events =
    fun_ext (λ c. fun_ext (λ t. ap₂ (λ es b. nat_lt t (count (is_call c) es) && b) (take_all events) (zero-le t) ∙ and-true (nat_lt t (count (is_call c) events))))
  where
    take_all : {X : Type 0} (xs : List X) → take (length xs) xs ≡ xs
    take_all [] = refl
    take_all (x ∷ xs) = ap (λ l. x ∷ l) (take_all xs)

-- a stretch to the same end
pub within-end : {X : Type 0} (f : X → Event) (from until end : ℕ) (xs : List X) (events : List Event) → map f xs ≡ events → take until xs ≡ take end xs → is_within from until events ≡ is_within from end events
within-end f from until end xs events is same =
    let firsts : take until events ≡ take end events = ap (take until) (sym is) ∙ (take-map f until xs ∙ (ap (map f) same ∙ (sym (take-map f end xs) ∙ ap (take end) is))) in
    fun_ext (λ c. fun_ext (λ t. ap (λ es. nat_lt t (count (is_call c) es) && nat_le (count (is_return c) (take from events)) t) firsts))

-- each of them is counted
all-count : (events before es : List Event) → before ++ es ≡ events → count (λ is. is) (such_calls (has_call events) before es) ≡ count begins es
all-count events before [] is = refl
all-count events before (Called c call ∷ es) is =
    ap₂ (λ b n. cond b (suc n) n) here (all-count events (before ++ Called c call ∷ []) es (append_assoc before (Called c call ∷ []) es ∙ is))
  where
    counted : (c : ℕ) (bs es : List Event) → count (is_call c) (bs ++ es) ≡ count (is_call c) bs + count (is_call c) es
    counted c [] es = omega arith
    counted c (b ∷ bs) es = ap (λ n. cond (is_call c b) (suc n) n) (counted c bs es) ∙ moved (is_call c b) (count (is_call c) bs) (count (is_call c) es)
      where
        moved : (b : Bool) (n m : ℕ) → cond b (suc (n + m)) (n + m) ≡ cond b (suc n) n + m
        moved true n m = omega arith
        moved false n m = refl

    same : (c == c) ≡ true
    same = grind (arith, nat_tests)

    more : count (is_call c) (Called c call ∷ es) ≡ suc (count (is_call c) es)
    more = ap (λ b. cond b (suc (count (is_call c) es)) (count (is_call c) es)) same

    by : (t n m k : ℕ) → n ≡ t + m → m ≡ suc k → nat_lt t n ≡ true
    by t n m k e f = grind (arith, nat_tests)

    here : has_call events c (count (is_call c) before) ≡ true
    here = by (count (is_call c) before) (count (is_call c) events) (count (is_call c) (Called c call ∷ es)) (count (is_call c) es) (sym (ap (count (is_call c)) is) ∙ counted c before (Called c call ∷ es)) more
all-count events before (Replied c reply ∷ es) is = all-count events (before ++ Replied c reply ∷ []) es (append_assoc before (Replied c reply ∷ []) es ∙ is)

pub count-all : (events : List Event) → count_such (is_within 0 (length events) events) events ≡ count begins events
count-all events = ap (λ test. count_such test events) (within-all events) ∙ all-count events [] events refl

-- ---- before a mark

-- whether the event begins such a call
begun-here : (test : ℕ → ℕ → Bool) (g : ℕ → ℕ) (before : List Event) (e : Event) → ((c : ℕ) → g c ≡ count (is_call c) before) → begun_such test g e ≡ begins_such test before e
begun-here test g before (Called c call) so = ap (test c) (so c)
begun-here test g before (Replied c reply) so = refl

pub begun-at : {X : Type 0} (f : X → Event) (test : ℕ → ℕ → Bool) (g : ℕ → ℕ) (xs : List X) (i : ℕ) (x : X) → i < length xs → x ≡ get_or xs i x → ((c : ℕ) → g c ≡ count (is_call c) (map f (take i xs)))
    → begun_such test g (f x) ≡ begins_such_at test (map f xs) i
begun-at f test g xs i x lt is so =
    begun-here test g (map f (take i xs)) (f x) so
    ∙ (ap (λ before. begins_such test before (f x)) (sym (take-map f i xs)) ∙ sym (ap (λ o. option_map_or (begins_such test (take i (map f xs))) o false) (seen_at f xs (map f xs) i x refl lt is)))

-- one place more, which passes or does not
pub last-next : (test : ℕ → Bool) (i last last' : ℕ) (b : Bool) → b ≡ test i → last ≡ up_to_last test i → last' ≡ cond b (i + 1) last → last' ≡ up_to_last test (i + 1)
last-next test i last last' b at so is =
    let one : suc i ≡ i + 1 = omega arith in
    is ∙ (ap₂ (λ c n. cond c n last) at (sym one) ∙ (ap (λ n. cond (test i) (suc i) n) so ∙ ap (up_to_last test) one))

-- whether a call is open with an event
pub open-at : {X : Type 0} (f : X → Event) (xs : List X) (i client turn returned : ℕ) → returned ≡ count (is_return client) (map f (take (i + 1) xs)) → nat_le returned turn ≡ is_open_at (map f xs) client turn i
open-at f xs i client turn returned is =
    let one : suc i ≡ i + 1 = omega arith in
    ap (λ n. nat_le n turn) (is ∙ ap (count (is_return client)) (sym (take-map f (i + 1) xs) ∙ ap (λ k. take k (map f xs)) (sym one)))

-- the entries before one, and this one
pub with-entry : (turns turns' : List (ℕ × ℕ)) (before : List Entry) (e : Entry) → ((c : ℕ) → turns_of turns' c ≡ cond (c == e.client) (suc (turns_of turns c)) (turns_of turns c)) → ((c : ℕ) → turns_of turns c ≡ count (is_of c) before)
    → (c : ℕ) → turns_of turns' c ≡ count (is_of c) (before ++ e ∷ [])
with-entry turns turns' before e more seen c = more c ∙ by (c == e.client) refl
  where
    by : (b : Bool) → (c == e.client) ≡ b → cond (c == e.client) (suc (turns_of turns c)) (turns_of turns c) ≡ count (is_of c) (before ++ e ∷ [])
    by b h = ap₂ (λ t k. cond t (suc k) k) h (seen c) ∙ sym (count-last (is_of c) before e b (flipped_test c e.client b h))

-- one that has a call
pub mark-some : (events : List Event) (before : List Entry) (e : Entry) (first : List (ℕ × ℕ)) (calls turn begun kept n : ℕ) → turn ≡ count (is_of e.client) before → calls ≡ count (is_call e.client) events → turn < calls
    → ((c : ℕ) → turns_of first c ≡ count (is_of c) (before ++ e ∷ [])) → length events ≡ n → begun ≡ up_to_last (begins_such_at (has_turn first) events) n
    → kept ≡ up_to_last (is_open_at events e.client turn) n → Some (min begun kept) ≡ events_to_mark events before e
mark-some events before e first calls turn begun kept n its so has firsts long begins opens =
    let there : has_call events e.client (count (is_of e.client) before) ≡ true = by (count (is_of e.client) before) (count (is_call e.client) events) (omega (arith, its, so, has)) in
    let same : has_turn first ≡ has_entry (before ++ e ∷ []) = fun_ext (λ c. fun_ext (λ t. ap (nat_lt t) (firsts c))) in
    let left : begun ≡ up_to_last (begins_such_at (has_entry (before ++ e ∷ [])) events) (length events) = begins ∙ ap₂ (λ test k. up_to_last (begins_such_at test events) k) same (sym long) in
    let right : kept ≡ up_to_last (is_open_at events e.client (count (is_of e.client) before)) (length events) = opens ∙ ap₂ (λ t k. up_to_last (is_open_at events e.client t) k) its (sym long) in
    ap Some (ap₂ min left right) ∙ sym (ap (λ b. cond b (Some (events_before events before e)) None) there)
  where
    by : (t n : ℕ) → t < n → nat_lt t n ≡ true
    by t n h = grind (arith, nat_tests)

-- the entry at a place
pub mark-at : {X : Type 0} (f : X → Entry) (events : List Event) (xs : List X) (place : ℕ) (x : X) (before : List X) → place < length xs → x ≡ get_or xs place x → before ≡ take place xs
    → events_to_mark events (map f before) (f x) ≡ mark_at events (map f xs) place
mark-at f events xs place x before lt is front =
    sym (ap (option_and_then (events_to_mark events (take place (map f xs)))) (seen_at f xs (map f xs) place x refl lt is)
    ∙ ap (λ b. events_to_mark events b (f x)) (take-map f place xs ∙ ap (map f) (sym front)))

pub le-yes : (a b : ℕ) → a ≤ b → true ≡ nat_le a b
le-yes a b h = grind (arith, nat_tests)

pub le-no : (a b : ℕ) → b < a → false ≡ nat_le a b
le-no a b h = grind (arith, nat_tests)

-- a count with one element more
pub count-up : {X Y : Type 0} (f : X → Y) (t : Y → Bool) (xs : List X) (i : ℕ) (x : X) (n n' : ℕ) → i < length xs → x ≡ get_or xs i x → n' ≡ cond (t (f x)) (suc n) n → n ≡ count t (map f (take i xs)) → n' ≡ count t (map f (take (i + 1) xs))
count-up f t xs i x n n' lt is more so = counts-up f (λ c. t) xs i x (λ c. n) (λ c. n') lt is (λ c. more) (λ c. so) 0

-- a call that tables of turns tell of is there
pub between-has : (from until : ℕ) (events : List Event) (begun returned : List (ℕ × ℕ)) → AreTurns (take until events) (take from events) begun returned → (c t : ℕ) → is_between begun returned c t ≡ true
    → nat_lt t (count (is_call c) events) ≡ true
between-has from until events begun returned are c t is =
    within-has from until events c t (sym (ap (λ (test : ℕ → ℕ → Bool). test c t) (between-within from until events begun returned are)) ∙ is)

-- one bar more that is held or not
pub held-next : (held : List Bool) (i : ℕ) (b : Bool) (n n' : ℕ) → i < length held → b ≡ option_map_or (λ is. is) (slice_get held i) false → n' ≡ cond b (suc n) n → n ≡ count (λ is. is) (take i held)
    → n' ≡ count (λ is. is) (take (i + 1) held)
held-next held i b n n' lt is more so =
    let here : get_or held i false ≡ b = sym (is ∙ ap (λ (o : Option Bool). option_map_or (λ is. is) o false) (slice_get-get_or held i false lt)) in
    more
    ∙ (ap (λ k. cond b (suc k) k) so ∙ (sym (count-last (λ (is : Bool). is) (take i held) (get_or held i false) b here) ∙ ap (count (λ (is : Bool). is)) (sym (take_more held i false lt))))

-- as many elements as there are, or as a number can say
pub same-take : {X : Type 0} (xs : List X) (n most : ℕ) → length xs ≤ most → take (min n most) xs ≡ take n xs
same-take xs n most fits = sym (take_min (min n most) xs) ∙ (ap (λ k. take k xs) (omega (arith, fits)) ∙ take_min n xs)
