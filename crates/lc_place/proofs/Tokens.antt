-- How tokens come apart, and how many items they begin.
use Rattle.std.proofs.Common.{◌≡◌, ℕ, ◌+◌, ◌<◌, Bool, true, false, ◌&&◌, ◌||◌, not, cond, List, [], ◌∷◌, ◌++◌, refl, sym, ap, ◌∙◌, arith}
use Rattle.std.specs.Prelude.{◌==◌}
use Rattle.std.proofs.lemmas.Bool.Decides.{nat_tests}
use Rattle.std.proofs.lemmas.List.Sums.{sum_by-append, sum_by-cons}
use Rattle.lc_sexp.specs.Trees.{Token, word, open_list, close_list, stray}
use Rattle.lc_sexp.specs.Text.{is_white, is_letter, class_of, is_Letter, begins_word, lexed, joined, before}
use Rattle.lc_place.specs.Items.{begins, items_among, begins_item}

-- what a byte of a text is
pub data Kind : Type 0 where
  white : Kind
  opening : Kind
  closing : Kind
  letter : Kind
  other : Kind

abbrev pub kind_of : ℕ → Kind
kind_of b = cond (is_white b) white (cond (b == 40) opening (cond (b == 41) closing (cond (is_letter b) letter other)))

abbrev pub is_of_word : Kind → Bool
is_of_word letter = true
is_of_word white = false
is_of_word opening = false
is_of_word closing = false
is_of_word other = false

-- a byte of this kind before tokens
abbrev pub placed : Kind → ℕ → Bool → List Token → List Token
placed white b n ts = ts
placed opening b n ts = open_list ∷ ts
placed closing b n ts = close_list ∷ ts
placed letter b n ts = joined b n ts
placed other b n ts = stray b ∷ ts

placed_tests : (t u v w : Bool) (b : ℕ) (n : Bool) (ts : List Token)
    → before (cond t (class_of 32) (cond u (class_of 40) (cond v (class_of 41) (cond w (class_of 97) (class_of 0))))) b n ts
    ≡ placed (cond t white (cond u opening (cond v closing (cond w letter other)))) b n ts
unfolding class_of
placed_tests true u v w b n ts = refl
placed_tests false true v w b n ts = refl
placed_tests false false true w b n ts = refl
placed_tests false false false true b n ts = refl
placed_tests false false false false b n ts = refl

word_tests : (t u v w : Bool)
    → is_Letter (cond t (class_of 32) (cond u (class_of 40) (cond v (class_of 41) (cond w (class_of 97) (class_of 0)))))
    ≡ is_of_word (cond t white (cond u opening (cond v closing (cond w letter other))))
unfolding class_of
word_tests true u v w = refl
word_tests false true v w = refl
word_tests false false true w = refl
word_tests false false false true = refl
word_tests false false false false = refl

pub is_Letter-of : (b : ℕ) → is_Letter (class_of b) ≡ is_of_word (kind_of b)
unfolding class_of
is_Letter-of b = word_tests (is_white b) (b == 40) (b == 41) (is_letter b)

before-of : (b : ℕ) (n : Bool) (ts : List Token) → before (class_of b) b n ts ≡ placed (kind_of b) b n ts
unfolding class_of
before-of b n ts = placed_tests (is_white b) (b == 40) (b == 41) (is_letter b) b n ts

opening_is : (b : ℕ) (s : List ℕ) → b ≡ 40 → lexed (b ∷ s) ≡ open_list ∷ lexed s
unfolding class_of
opening_is b s e = rw e refl

-- a bracket is the first token
pub opening_first : (b : ℕ) (s : List ℕ) → (b == 40) ≡ true → lexed (b ∷ s) ≡ open_list ∷ lexed s
opening_first b s e = opening_is b s (let is : b ≡ 40 = grind (arith, nat_tests) in is)

-- tokens that begin with a word
abbrev pub IsWordFirst : List Token → Type 0
IsWordFirst tokens = (w : List ℕ) × (ts : List Token) × (tokens ≡ word w ∷ ts)

joined_first : (b : ℕ) (n : Bool) (ts : List Token) → IsWordFirst (joined b n ts)
joined_first b false ts = (b ∷ [], ts, refl)
joined_first b true [] = (b ∷ [], [], refl)
joined_first b true (word w ∷ ts) = (b ∷ w, ts, refl)
joined_first b true (open_list ∷ ts) = (b ∷ [], open_list ∷ ts, refl)
joined_first b true (close_list ∷ ts) = (b ∷ [], close_list ∷ ts, refl)
joined_first b true (stray c ∷ ts) = (b ∷ [], stray c ∷ ts, refl)

placed_first : (k : Kind) (b : ℕ) (n : Bool) (ts : List Token) → is_of_word k ≡ true → IsWordFirst (placed k b n ts)
placed_first letter b n ts h = joined_first b n ts
placed_first white b n ts h = absurd (cc)
placed_first opening b n ts h = absurd (cc)
placed_first closing b n ts h = absurd (cc)
placed_first other b n ts h = absurd (cc)

same_first : (xs ys : List Token) → xs ≡ ys → IsWordFirst ys → IsWordFirst xs
same_first xs ys e (w, ts, f) = (w, ts, e ∙ f)

-- a text that begins a word has it as its first token
pub word_first : (s : List ℕ) → begins_word s ≡ true → IsWordFirst (lexed s)
word_first [] h = absurd (cc)
word_first (b ∷ s) h =
    same_first (lexed (b ∷ s)) (placed (kind_of b) b (begins_word s) (lexed s)) (before-of b (begins_word s) (lexed s))
    (placed_first (kind_of b) b (begins_word s) (lexed s) (sym (is_Letter-of b) ∙ h))

-- whether a text ends in a letter, after one or not
abbrev pub ends_in : Bool → List ℕ → Bool
ends_in w [] = w
ends_in w (b ∷ s) = ends_in (is_Letter (class_of b)) s

pub ends_more : (w : Bool) (s : List ℕ) (r : ℕ) → ends_in w (s ++ (r ∷ [])) ≡ is_Letter (class_of r)
ends_more w [] r = refl
ends_more w (b ∷ s) r = ends_more (is_Letter (class_of b)) s r

apart_last : (k : Kind) (b : ℕ) (n : Bool) (ts : List Token) → (is_of_word k && n) ≡ false → placed k b n ts ≡ placed k b false [] ++ ts
apart_last white b n ts h = refl
apart_last opening b n ts h = refl
apart_last closing b n ts h = refl
apart_last other b n ts h = refl
apart_last letter b false ts h = refl
apart_last letter b true ts h = absurd (cc)

joined_apart : (b : ℕ) (xs ys : List Token) → IsWordFirst xs → joined b true (xs ++ ys) ≡ joined b true xs ++ ys
joined_apart b xs ys (w, ts, e) = ap (λ x. joined b true (x ++ ys)) e ∙ ap (λ x. joined b true x ++ ys) (sym e)

apart_inner : (k : Kind) (b : ℕ) (n : Bool) (xs ys : List Token) → (n ≡ true → IsWordFirst xs) → placed k b n (xs ++ ys) ≡ placed k b n xs ++ ys
apart_inner white b n xs ys f = refl
apart_inner opening b n xs ys f = refl
apart_inner closing b n xs ys f = refl
apart_inner other b n xs ys f = refl
apart_inner letter b false xs ys f = refl
apart_inner letter b true xs ys f = joined_apart b xs ys (f refl)

-- a text comes apart where no word goes on
pub lexed_apart : (s x : List ℕ) → (ends_in false s && begins_word x) ≡ false → lexed (s ++ x) ≡ lexed s ++ lexed x
lexed_apart [] x h = refl
lexed_apart (b ∷ []) x h =
    before-of b (begins_word x) (lexed x)
    ∙ apart_last (kind_of b) b (begins_word x) (lexed x) (ap (λ y. y && begins_word x) (sym (is_Letter-of b)) ∙ h)
    ∙ ap (λ y. y ++ lexed x) (sym (before-of b false []))
lexed_apart (b ∷ c ∷ s) x h =
    ap (before (class_of b) b (begins_word (c ∷ s))) (lexed_apart (c ∷ s) x h)
    ∙ before-of b (begins_word (c ∷ s)) (lexed (c ∷ s) ++ lexed x)
    ∙ apart_inner (kind_of b) b (begins_word (c ∷ s)) (lexed (c ∷ s)) (lexed x) (word_first (c ∷ s))
    ∙ ap (λ y. y ++ lexed x) (sym (before-of b (begins_word (c ∷ s)) (lexed (c ∷ s))))

-- how many items a byte begins, next to a letter on one side or not
abbrev pub unit : Kind → Bool → ℕ
unit opening n = 1
unit letter false = 1
unit letter true = 0
unit white n = 0
unit closing n = 0
unit other n = 0

abbrev pub unit_of : ℕ → Bool → ℕ
unit_of b n = unit (kind_of b) n

pub count_token : (t : Token) (ts : List Token) → items_among (t ∷ ts) ≡ cond (begins t) 1 0 + items_among ts
count_token t ts = sum_by-cons (λ x. cond (begins x) 1 0) t ts

count_joined : (b : ℕ) (ts : List Token) → IsWordFirst ts → items_among (joined b true ts) ≡ items_among ts
count_joined b ts (w, us, e) = ap (λ x. items_among (joined b true x)) e ∙ count_token (word (b ∷ w)) us ∙ sym (count_token (word w) us) ∙ sym (ap items_among e)

count_placed : (k : Kind) (b : ℕ) (n : Bool) (ts : List Token) → (n ≡ true → IsWordFirst ts) → items_among (placed k b n ts) ≡ unit k n + items_among ts
count_placed white b n ts f = omega arith
count_placed opening b n ts f = count_token open_list ts
count_placed closing b n ts f = count_token close_list ts
count_placed other b n ts f = count_token (stray b) ts
count_placed letter b false ts f = count_token (word (b ∷ [])) ts
count_placed letter b true ts f = count_joined b ts (f refl) ∙ (let e : items_among ts ≡ 0 + items_among ts = omega arith in e)

count_cons : (b : ℕ) (s : List ℕ) → items_among (lexed (b ∷ s)) ≡ unit_of b (begins_word s) + items_among (lexed s)
count_cons b s = ap items_among (before-of b (begins_word s) (lexed s)) ∙ count_placed (kind_of b) b (begins_word s) (lexed s) (word_first s)

-- of two bytes it is the same whether the first looks ahead or the second back
turned : (k l : Kind) → unit k (is_of_word l) + unit l false ≡ unit k false + unit l (is_of_word k)
turned white white = refl
turned white opening = refl
turned white closing = refl
turned white letter = refl
turned white other = refl
turned opening white = refl
turned opening opening = refl
turned opening closing = refl
turned opening letter = refl
turned opening other = refl
turned closing white = refl
turned closing opening = refl
turned closing closing = refl
turned closing letter = refl
turned closing other = refl
turned letter white = refl
turned letter opening = refl
turned letter closing = refl
turned letter letter = refl
turned letter other = refl
turned other white = refl
turned other opening = refl
turned other closing = refl
turned other letter = refl
turned other other = refl

turned_at : (b r : ℕ) → unit_of b (is_Letter (class_of r)) + unit_of r false ≡ unit_of b false + unit_of r (is_Letter (class_of b))
turned_at b r = ap (λ x. unit_of b x + unit_of r false) (is_Letter-of r) ∙ turned (kind_of b) (kind_of r) ∙ ap (λ x. unit_of b false + unit_of r x) (sym (is_Letter-of b))

-- how many items begin up to one byte more
pub count_more : (s : List ℕ) (r : ℕ) → items_among (lexed (s ++ (r ∷ []))) ≡ items_among (lexed s) + unit_of r (ends_in false s)
count_more [] r = count_cons r [] ∙ (let e : unit_of r false + 0 ≡ 0 + unit_of r false = omega arith in e)
count_more (b ∷ []) r =
    let one : items_among (lexed (b ∷ r ∷ [])) ≡ unit_of b (is_Letter (class_of r)) + items_among (lexed (r ∷ [])) = count_cons b (r ∷ []) in
    let two : items_among (lexed (r ∷ [])) ≡ unit_of r false + 0 = count_cons r [] in
    let three : items_among (lexed (b ∷ [])) ≡ unit_of b false + 0 = count_cons b [] in
    let goal : items_among (lexed (b ∷ r ∷ [])) ≡ items_among (lexed (b ∷ [])) + unit_of r (is_Letter (class_of b)) = omega (arith, one, two, three, turned_at b r) in
    goal
count_more (b ∷ c ∷ s) r =
    let one : items_among (lexed (b ∷ ((c ∷ s) ++ (r ∷ [])))) ≡ unit_of b (is_Letter (class_of c)) + items_among (lexed ((c ∷ s) ++ (r ∷ []))) = count_cons b ((c ∷ s) ++ (r ∷ [])) in
    let two : items_among (lexed (b ∷ c ∷ s)) ≡ unit_of b (is_Letter (class_of c)) + items_among (lexed (c ∷ s)) = count_cons b (c ∷ s) in
    one ∙ ap (λ n. unit_of b (is_Letter (class_of c)) + n) (count_more (c ∷ s) r)
    ∙ (let e : unit_of b (is_Letter (class_of c)) + (items_among (lexed (c ∷ s)) + unit_of r (ends_in false (c ∷ s))) ≡ (unit_of b (is_Letter (class_of c)) + items_among (lexed (c ∷ s))) + unit_of r (ends_in false (c ∷ s)) = omega arith in e)
    ∙ ap (λ n. n + unit_of r (ends_in false (c ∷ s))) (sym two)

pub count_apart : (xs ys : List Token) → items_among (xs ++ ys) ≡ items_among xs + items_among ys
count_apart xs ys = sum_by-append (λ t. cond (begins t) 1 0) xs ys

-- a bracket begins an item
pub unit_open : (r : ℕ) (w : Bool) → (r == 40) ≡ true → unit_of r w ≡ 1
unit_open r w e = let is : r ≡ 40 = grind (arith, nat_tests) in rw is refl

unit_letter : (k : Kind) → is_of_word k ≡ true → unit k false ≡ 1
unit_letter letter h = refl
unit_letter white h = absurd (cc)
unit_letter opening h = absurd (cc)
unit_letter closing h = absurd (cc)
unit_letter other h = absurd (cc)

-- so does a letter after none
pub unit_word : (r : ℕ) (w : Bool) → is_Letter (class_of r) ≡ true → w ≡ false → unit_of r w ≡ 1
unit_word r w h e = ap (unit_of r) e ∙ unit_letter (kind_of r) (sym (is_Letter-of r) ∙ h)

opening_tests : (t u v w : Bool) → cond t white (cond u opening (cond v closing (cond w letter other))) ≡ opening → u ≡ true
opening_tests true u v w h = absurd (cc)
opening_tests false true v w h = refl
opening_tests false false true w h = absurd (cc)
opening_tests false false false true h = absurd (cc)
opening_tests false false false false h = absurd (cc)

none_of : (k : Kind) (w : Bool) → (k ≡ opening → ⊥) → (is_of_word k && not w) ≡ false → unit k w ≡ 0
none_of white w f h = refl
none_of opening w f h = absurd (f refl)
none_of closing w f h = refl
none_of other w f h = refl
none_of letter true f h = refl
none_of letter false f h = absurd (cc)

-- and nothing else
pub unit_none : (r : ℕ) (w : Bool) → (r == 40) ≡ false → (is_Letter (class_of r) && not w) ≡ false → unit_of r w ≡ 0
unit_none r w e h =
    none_of (kind_of r) w
    (λ k. let t : (r == 40) ≡ true = opening_tests (is_white r) (r == 40) (r == 41) (is_letter r) k in absurd (cc (t, e)))
    (ap (λ x. x && not w) (sym (is_Letter-of r)) ∙ h)

word_some : (ts : List Token) → IsWordFirst ts → 0 < items_among ts
word_some ts (w, us, e) = let k : items_among ts ≡ 1 + items_among us = ap items_among e ∙ count_token (word w) us in omega (arith, k)

item_some_by : (b : ℕ) (s : List ℕ) (t : Bool) → (b == 40) ≡ t → (t || is_Letter (class_of b)) ≡ true → 0 < items_among (lexed (b ∷ s))
item_some_by b s true e k = omega (arith, count_cons b s, unit_open b (begins_word s) e)
item_some_by b s false e k = word_some (lexed (b ∷ s)) (word_first (b ∷ s) k)

-- a text that begins an item has one
pub item_some : (s : List ℕ) → begins_item s ≡ true → 0 < items_among (lexed s)
item_some [] h = absurd (cc)
item_some (b ∷ s) h = item_some_by b s (b == 40) refl h
