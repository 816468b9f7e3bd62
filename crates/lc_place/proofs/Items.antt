-- Where the item of a number begins.
use Rattle.std.proofs.Common.{◌≡◌, ℕ, ◌+◌, ◌-◌, ◌≤◌, ◌<◌, Bool, true, false, ◌||◌, ◌&&◌, not, List, ◌++◌, length, take, drop, refl, sym, ap, ◌∙◌, arith, take-append-drop, inl, inr}
use Rattle.std.specs.Prelude.{◌==◌}
use Rattle.std.proofs.lemmas.Bool.{cases_Bool, or_parts}
use Rattle.std.proofs.lemmas.Bool.Decides.{nat_tests}
use Rattle.lc_sexp.specs.Text.{class_of, is_Letter, begins_word, lexed}
use Rattle.lc_sexp.specs.Reads.{text_of}
use Rattle.lc_place.specs.Items.{items_among, items_in, begins_item, Begins}
use Rattle.lc_place.proofs.Texts.{IsStep, read_all}
use Rattle.lc_place.proofs.Tokens.{ends_in, lexed_apart, unit_of, count_more, count_apart, unit_open, unit_word, unit_none, item_some}

-- whether an item begins at a byte, after a letter or not
abbrev pub is_begun : ℕ → Bool → Bool
is_begun r w = r == 40 || (is_Letter (class_of r) && not w)

begun_parts : (a l w : Bool) → (a || (l && not w)) ≡ true → (a || l) ≡ true
begun_parts true l w h = refl
begun_parts false true w h = refl
begun_parts false false w h = h

begins_at : (bytes : List ℕ) (i r : ℕ) (next w : Bool) → IsStep bytes i r next → is_begun r w ≡ true → begins_item (drop i (text_of bytes)) ≡ true
begins_at bytes i r next w s h = ap begins_item s.here ∙ begun_parts (r == 40) (is_Letter (class_of r)) w h

bracket_no_letter : (r : ℕ) → (r == 40) ≡ true → is_Letter (class_of r) ≡ false
unfolding class_of
bracket_no_letter r e = let is : r ≡ 40 = grind (arith, nat_tests) in rw is refl

no_word : (r : ℕ) (w : Bool) → is_begun r w ≡ true → (w && is_Letter (class_of r)) ≡ false
no_word r w h = by_test (r == 40) w (is_Letter (class_of r)) (bracket_no_letter r) h where
  by_test : (t w l : Bool) → (t ≡ true → l ≡ false) → (t || (l && not w)) ≡ true → (w && l) ≡ false
  by_test true true l f h = f refl
  by_test true false l f h = refl
  by_test false false l f h = refl
  by_test false true false f h = refl
  by_test false true true f h = absurd (cc)

apart_at : (bytes : List ℕ) (i r : ℕ) (next w : Bool) → IsStep bytes i r next → ends_in false (take i (text_of bytes)) ≡ w → is_begun r w ≡ true
    → lexed (text_of bytes) ≡ lexed (take i (text_of bytes)) ++ lexed (drop i (text_of bytes))
apart_at bytes i r next w s e h =
    let none : (ends_in false (take i (text_of bytes)) && begins_word (drop i (text_of bytes))) ≡ false =
    ap (λ x. x && begins_word (drop i (text_of bytes))) e ∙ ap (λ x. w && begins_word x) s.here ∙ no_word r w h in
    ap lexed (sym (take-append-drop i (text_of bytes))) ∙ lexed_apart (take i (text_of bytes)) (drop i (text_of bytes)) none

unit_at : (r : ℕ) (w : Bool) → is_begun r w ≡ true → unit_of r w ≡ 1
unit_at r w h = elim (cases_Bool (r == 40)) [
  | inl e ↦ unit_open r w e
  | inr e ↦ by_parts (is_Letter (class_of r)) w refl refl (sym (ap (λ t. t || (is_Letter (class_of r) && not w)) e) ∙ h)
] where
  by_parts : (l v : Bool) → is_Letter (class_of r) ≡ l → w ≡ v → (false || (l && not v)) ≡ true → unit_of r w ≡ 1
  by_parts true false a b k = unit_word r w a b
  by_parts true true a b k = absurd (cc)
  by_parts false v a b k = absurd (cc)

unit_not : (r : ℕ) (w : Bool) → is_begun r w ≡ false → unit_of r w ≡ 0
unit_not r w h = let p = or_parts (r == 40) (is_Letter (class_of r) && not w) h in unit_none r w p.0 p.1

count_step : (bytes : List ℕ) (i r : ℕ) (next w : Bool) → IsStep bytes i r next → ends_in false (take i (text_of bytes)) ≡ w
    → items_among (lexed (take (i + 1) (text_of bytes))) ≡ items_among (lexed (take i (text_of bytes))) + unit_of r w
count_step bytes i r next w s e =
    ap (λ x. items_among (lexed x)) s.read ∙ count_more (take i (text_of bytes)) r ∙ ap (λ x. items_among (lexed (take i (text_of bytes))) + unit_of r x) e

-- one more item, and none
pub counts_one : (bytes : List ℕ) (i r number left : ℕ) (next w : Bool) → IsStep bytes i r next → ends_in false (take i (text_of bytes)) ≡ w → is_begun r w ≡ true
    → items_among (lexed (take i (text_of bytes))) + left ≡ number → 0 < left → items_among (lexed (take (i + 1) (text_of bytes))) + (left - 1) ≡ number
counts_one bytes i r number left next w s e h k some = omega (arith, count_step bytes i r next w s e, unit_at r w h, k, some)

pub counts_none : (bytes : List ℕ) (i r number left : ℕ) (next w : Bool) → IsStep bytes i r next → ends_in false (take i (text_of bytes)) ≡ w → is_begun r w ≡ false
    → items_among (lexed (take i (text_of bytes))) + left ≡ number → items_among (lexed (take (i + 1) (text_of bytes))) + left ≡ number
counts_none bytes i r number left next w s e h k = omega (arith, count_step bytes i r next w s e, unit_not r w h, k)

-- the item of the number begins here
pub numbered_item_begins : (bytes : List ℕ) (i r number left : ℕ) (next w : Bool) → IsStep bytes i r next → ends_in false (take i (text_of bytes)) ≡ w → is_begun r w ≡ true
    → items_among (lexed (take i (text_of bytes))) + left ≡ number → left ≡ 0 → Begins bytes number i
numbered_item_begins bytes i r number left next w s e h k z =
    record { begins = begins_at bytes i r next w s h; apart = apart_at bytes i r next w s e h; before = omega (arith, k, z) }

-- so there are more than its number
pub more_items : (bytes : List ℕ) (number i : ℕ) → Begins bytes number i → items_in bytes ≤ number → ⊥
more_items bytes number i b le =
    let all : items_in bytes ≡ items_among (lexed (take i (text_of bytes))) + items_among (lexed (drop i (text_of bytes))) =
    ap items_among b.apart ∙ count_apart (lexed (take i (text_of bytes))) (lexed (drop i (text_of bytes))) in
    omega (arith, all, b.before, le, item_some (drop i (text_of bytes)) b.begins)

-- and if all was read, there are no more than `number` items
pub no_more : (bytes : List ℕ) (i number left : ℕ) → length bytes ≤ i → items_among (lexed (take i (text_of bytes))) + left ≡ number → items_in bytes ≤ number
no_more bytes i number left le k = omega (arith, k, ap (λ x. items_among (lexed x)) (read_all bytes i le).0)
