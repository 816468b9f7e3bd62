-- The items of trees in preorder, by their tokens.
use Rattle.std.proofs.Common.{◌≡◌, ℕ, zero, suc, ◌+◌, ◌-◌, ◌<◌, Bool, true, false, cond, ◌||◌, List, [], ◌∷◌, ◌++◌, length, take, drop, slice_get, Some, inl, inr, refl, sym, ap, ◌∙◌, arith, append_assoc, append-nil, length-append}
use Rattle.std.specs.Prelude.{◌==◌}
use Rattle.std.proofs.lemmas.Bool.{cases_lt}
use Rattle.lc_sexp.specs.Trees.{Tree, Trees, atom, list, none, ◌▸◌, Token, word, open_list, close_list, tokens_of, tokens_of_all, items_of, items_of_all, item_count, item_count_of_all}
use Rattle.lc_sexp.specs.Text.{class_of, is_Letter, lexed}
use Rattle.lc_sexp.specs.Reads.{ReadsAs, text_of}
use Rattle.lc_place.specs.Items.{begins, items_among, items_in, begins_item}
use Rattle.lc_place.specs.Place.{IsItem, StandsAt}
use Rattle.lc_place.specs.declared.place.Place.{Place}
use Rattle.lc_place.proofs.Tokens.{IsWordFirst, word_first, count_token, count_apart, opening_first}
use Rattle.lc_place.proofs.Items.{more_items}

-- as many items begin as there are
mutual
  count_tree : (t : Tree) → items_among (tokens_of t) ≡ item_count t
  count_tree (atom w) = refl
  count_tree (list ts) =
      let one : items_among (tokens_of (list ts)) ≡ 1 + items_among (tokens_of_all ts ++ (close_list ∷ [])) = count_token open_list (tokens_of_all ts ++ (close_list ∷ [])) in
      let two : items_among (tokens_of_all ts ++ (close_list ∷ [])) ≡ items_among (tokens_of_all ts) + 0 = count_apart (tokens_of_all ts) (close_list ∷ []) in
      omega (arith, one, two, count_all ts)

  pub count_all : (ts : Trees) → items_among (tokens_of_all ts) ≡ item_count_of_all ts
  count_all none = refl
  count_all (t ▸ ts) = omega (arith, count_apart (tokens_of t) (tokens_of_all ts), count_tree t, count_all ts)

mutual
  length_tree : (t : Tree) → length (items_of t) ≡ item_count t
  length_tree (atom w) = refl
  length_tree (list ts) = omega (arith, length_all ts)

  length_all : (ts : Trees) → length (items_of_all ts) ≡ item_count_of_all ts
  length_all none = refl
  length_all (t ▸ ts) = omega (arith, length-append (items_of t) (items_of_all ts), length_tree t, length_all ts)

get_left : (xs ys : List Tree) (k : ℕ) (t : Tree) → slice_get xs k ≡ Some t → slice_get (xs ++ ys) k ≡ Some t
get_left [] ys k t h = absurd (cc)
get_left (x ∷ xs) ys zero t h = h
get_left (x ∷ xs) ys (suc k) t h = get_left xs ys k t h

get_right : (xs ys : List Tree) (k j : ℕ) → k ≡ length xs + j → slice_get (xs ++ ys) k ≡ slice_get ys j
get_right [] ys k j e = ap (slice_get ys) (let f : k ≡ j = omega (arith, e) in f)
get_right (x ∷ xs) ys zero j e = absurd (omega (arith, e))
get_right (x ∷ xs) ys (suc k) j e = get_right xs ys k j (omega (arith, e))

-- Tokens with the item of number `k` among them: `k` items begin before it.
record HasItem (items : List Tree) (tokens : List Token) (k : ℕ) : Type 0 where
  pub front : List Token
  pub item : Tree
  pub behind : List Token
  pub whole : tokens ≡ front ++ (tokens_of item ++ behind)
  pub before : items_among front ≡ k
  pub is : slice_get items k ≡ Some item

has_first : (t : Tree) (items : List Tree) → slice_get items 0 ≡ Some t → HasItem items (tokens_of t) 0
has_first t items h = record { front = []; item = t; behind = []; whole = sym (append-nil (tokens_of t)); before = refl; is = h }

has_inside : (ts : Trees) (k : ℕ) → HasItem (items_of_all ts) (tokens_of_all ts) k → HasItem (items_of (list ts)) (tokens_of (list ts)) (suc k)
has_inside ts k h = record {
  front = open_list ∷ h.front;
  item = h.item;
  behind = h.behind ++ (close_list ∷ []);
  whole =
      ap (λ x. open_list ∷ (x ++ (close_list ∷ []))) h.whole
      ∙ ap (λ x. open_list ∷ x) (append_assoc h.front (tokens_of h.item ++ h.behind) (close_list ∷ []) ∙ ap (λ x. h.front ++ x) (append_assoc (tokens_of h.item) h.behind (close_list ∷ [])));
  before = (let e : items_among (open_list ∷ h.front) ≡ 1 + items_among h.front = count_token open_list h.front in omega (arith, e, h.before));
  is = h.is;
}

has_left : (xs ys : List Tree) (us vs : List Token) (k : ℕ) → HasItem xs us k → HasItem (xs ++ ys) (us ++ vs) k
has_left xs ys us vs k h = record {
  front = h.front;
  item = h.item;
  behind = h.behind ++ vs;
  whole = ap (λ x. x ++ vs) h.whole ∙ append_assoc h.front (tokens_of h.item ++ h.behind) vs ∙ ap (λ x. h.front ++ x) (append_assoc (tokens_of h.item) h.behind vs);
  before = h.before;
  is = get_left xs ys k h.item h.is;
}

has_right : (xs ys : List Tree) (us vs : List Token) (k j : ℕ) → k ≡ length xs + j → items_among us ≡ length xs → HasItem ys vs j → HasItem (xs ++ ys) (us ++ vs) k
has_right xs ys us vs k j e f h = record {
  front = us ++ h.front;
  item = h.item;
  behind = h.behind;
  whole = ap (λ x. us ++ x) h.whole ∙ sym (append_assoc us h.front (tokens_of h.item ++ h.behind));
  before = omega (arith, count_apart us h.front, e, f, h.before);
  is = get_right xs ys k j e ∙ h.is;
}

mutual
  has_tree : (t : Tree) (k : ℕ) → k < item_count t → HasItem (items_of t) (tokens_of t) k
  has_tree (atom w) zero lt = has_first (atom w) (items_of (atom w)) refl
  has_tree (atom w) (suc k) lt = absurd (omega (arith, lt))
  has_tree (list ts) zero lt = has_first (list ts) (items_of (list ts)) refl
  has_tree (list ts) (suc k) lt = has_inside ts k (has_all ts k (omega (arith, lt)))

  has_all : (ts : Trees) (k : ℕ) → k < item_count_of_all ts → HasItem (items_of_all ts) (tokens_of_all ts) k
  has_all none k lt = absurd (omega (arith, lt))
  has_all (t ▸ ts) k lt = elim (cases_lt k (item_count t)) [
    | inl less ↦ has_left (items_of t) (items_of_all ts) (tokens_of t) (tokens_of_all ts) k (has_tree t k less)
    | inr le ↦
        has_right (items_of t) (items_of_all ts) (tokens_of t) (tokens_of_all ts) k (k - item_count t) (omega (arith, length_tree t, le)) (count_tree t ∙ sym (length_tree t))
        (has_all ts (k - item_count t) (omega (arith, lt, le)))
  ]

-- how many items a token begins
abbrev weight : Token → ℕ
weight t = cond (begins t) 1 0

-- two cuts of tokens before a token that begins an item, with as many items before them, are one
same_front : (xs ys : List Token) (x y : Token) (us vs : List Token) → begins x ≡ true → begins y ≡ true → items_among xs ≡ items_among ys → xs ++ (x ∷ us) ≡ ys ++ (y ∷ vs) → x ∷ us ≡ y ∷ vs
same_front [] [] x y us vs a b e f = f
same_front [] (z ∷ ys) x y us vs a b e f =
    let k : x ≡ z = cc in
    let n : items_among (z ∷ ys) ≡ 1 + items_among ys = count_token z ys ∙ ap (λ t. cond t 1 0 + items_among ys) (sym (ap begins k) ∙ a) in
    absurd (omega (arith, e, n))
same_front (z ∷ xs) [] x y us vs a b e f =
    let k : z ≡ y = cc in
    let n : items_among (z ∷ xs) ≡ 1 + items_among xs = count_token z xs ∙ ap (λ t. cond t 1 0 + items_among xs) (ap begins k ∙ b) in
    absurd (omega (arith, e, n))
same_front (z ∷ xs) (w ∷ ys) x y us vs a b e f =
    let k : z ≡ w = cc in
    let rest : xs ++ (x ∷ us) ≡ ys ++ (y ∷ vs) = cc in
    let n : weight z ≡ weight w = ap weight k in
    same_front xs ys x y us vs a b (omega (arith, e, n, count_token z xs, count_token w ys)) rest

-- the first token of an item
first_of : (t : Tree) (behind : List Token) → (x : Token) × (us : List Token) × (tokens_of t ++ behind ≡ x ∷ us) × (begins x ≡ true)
first_of (atom w) behind = (word w, behind, refl, refl)
first_of (list ts) behind = (open_list, (tokens_of_all ts ++ (close_list ∷ [])) ++ behind, refl, refl)

first_in : (s : List ℕ) → begins_item s ≡ true → (x : Token) × (us : List Token) × (lexed s ≡ x ∷ us) × (begins x ≡ true)
first_in [] h = absurd (cc)
first_in (b ∷ s) h = by_test (b == 40) refl h where
  of_word : IsWordFirst (lexed (b ∷ s)) → (x : Token) × (us : List Token) × (lexed (b ∷ s) ≡ x ∷ us) × (begins x ≡ true)
  of_word (w, us, e) = (word w, us, e, refl)

  by_test : (t : Bool) → (b == 40) ≡ t → (t || is_Letter (class_of b)) ≡ true → (x : Token) × (us : List Token) × (lexed (b ∷ s) ≡ x ∷ us) × (begins x ≡ true)
  by_test true e k = (open_list, lexed s, opening_first b s e, refl)
  by_test false e k = of_word (word_first (b ∷ s) k)

joined : (xs ys us vs us' vs' : List Token) (x y : Token) → us ≡ x ∷ us' → vs ≡ y ∷ vs' → begins x ≡ true → begins y ≡ true → items_among xs ≡ items_among ys → xs ++ us ≡ ys ++ vs → us ≡ vs
joined xs ys us vs us' vs' x y e f a b n h =
    e ∙ same_front xs ys x y us' vs' a b n (ap (λ z. xs ++ z) (sym e) ∙ h ∙ ap (λ z. ys ++ z) f) ∙ sym f

-- at the place of a number begin the tokens of that item
pub item_stands_at : (bytes : List ℕ) (ts : Trees) (number : ℕ) (p : Place) → ReadsAs bytes ts → IsItem bytes number p → StandsAt bytes ts number p
item_stands_at bytes ts number p r i =
    let b = i.begins in
    let count : items_in bytes ≡ item_count_of_all ts = ap items_among r.tokens ∙ count_all ts in
    let lt : number < item_count_of_all ts = elim (cases_lt number (item_count_of_all ts)) [ inl less ↦ less | inr le ↦ absurd (more_items bytes number p.offset b (omega (arith, count, le))) ] in
    let h = has_all ts number lt in
    let here = first_in (drop p.offset (text_of bytes)) b.begins in
    let there = first_of h.item h.behind in
    record {
      item = h.item;
      is = h.is;
      behind = h.behind;
      tokens =
          joined (lexed (take p.offset (text_of bytes))) h.front (lexed (drop p.offset (text_of bytes))) (tokens_of h.item ++ h.behind) here.1 there.1 here.0 there.0
          here.2 there.2 here.3 there.3 (b.before ∙ sym h.before) (sym b.apart ∙ r.tokens ∙ h.whole);
    }
