-- How the text of a file is read, byte by byte.
use Rattle.std.proofs.Common.{◌≡◌, ℕ, ◌+◌, ◌≤◌, ◌<◌, Bool, true, false, ◌||◌, cond, List, [], ◌∷◌, ◌++◌, length, get_or, take, drop, refl, sym, ap, ◌∙◌, arith, length-drop}
use Rattle.std.specs.Prelude.{◌==◌}
use Rattle.std.proofs.lemmas.List.{drop_more, take_more, drop_all, take_all}
use Rattle.lc_sexp.specs.Text.{class_of, is_Letter, begins_word, uncommented}
use Rattle.lc_sexp.specs.Reads.{text_of}
use Rattle.lc_sexp.proofs.Faults.{length-uncommented}
use Rattle.lc_place.specs.Items.{begins_item}

pub length-text : (bytes : List ℕ) → length (text_of bytes) ≡ length bytes
length-text bytes = length-uncommented false bytes

-- a list that is cut before an element
pub cut_here : (xs : List ℕ) (i x : ℕ) (ys : List ℕ) → drop i xs ≡ x ∷ ys → (i < length xs) × (drop (i + 1) xs ≡ ys) × (take (i + 1) xs ≡ take i xs ++ (x ∷ []))
cut_here xs i x ys e =
    let lt : i < length xs = omega (arith, ap length e, length-drop i xs) in
    let here : drop i xs ≡ get_or xs i x ∷ drop (i + 1) xs = drop_more xs i x lt in
    let same : get_or xs i x ≡ x = cc in
    (lt, cc, take_more xs i x lt ∙ ap (λ y. take i xs ++ (y ∷ [])) same)

-- The text was read up to an offset, and what is left is read in a comment or not; there it has this byte, and after it another such state.
pub record IsStep (bytes : List ℕ) (i r : ℕ) (next : Bool) : Type 0 where
  pub here : drop i (text_of bytes) ≡ r ∷ drop (i + 1) (text_of bytes)
  pub rest : drop (i + 1) (text_of bytes) ≡ uncommented next (drop (i + 1) bytes)
  pub read : take (i + 1) (text_of bytes) ≡ take i (text_of bytes) ++ (r ∷ [])
  pub within : i < length (text_of bytes)

pub step_text : (bytes : List ℕ) (i d r : ℕ) (c next : Bool) → i < length bytes → drop i (text_of bytes) ≡ uncommented c (drop i bytes)
    → ((rest : List ℕ) → uncommented c (get_or bytes i d ∷ rest) ≡ r ∷ uncommented next rest) → IsStep bytes i r next
step_text bytes i d r c next lt e step =
    let more : drop i (text_of bytes) ≡ r ∷ uncommented next (drop (i + 1) bytes) = e ∙ ap (uncommented c) (drop_more bytes i d lt) ∙ step (drop (i + 1) bytes) in
    let cut = cut_here (text_of bytes) i r (uncommented next (drop (i + 1) bytes)) more in
    record { here = more ∙ ap (λ x. r ∷ x) (sym cut.1); rest = cut.1; read = cut.2; within = cut.0 }

-- the whole text was read
pub read_all : (bytes : List ℕ) (i : ℕ) → length bytes ≤ i → (take i (text_of bytes) ≡ text_of bytes) × (drop i (text_of bytes) ≡ [])
read_all bytes i le = (take_all i (text_of bytes) (omega (arith, length-text bytes)), drop_all i (text_of bytes) (omega (arith, length-text bytes)))

-- the first byte of a text that begins in a comment or not, if the byte is neither letter nor bracket there
first_no_letter : (c : Bool) (b : ℕ) (rest : List ℕ) → is_Letter (class_of b) ≡ false → begins_word (uncommented c (b ∷ rest)) ≡ false
unfolding class_of
first_no_letter c b rest h = by_tests (b == 10) (c || b == 59) where
  by_tests : (t u : Bool) → begins_word (cond t (10 ∷ uncommented false rest) (cond u (32 ∷ uncommented true rest) (b ∷ uncommented false rest))) ≡ false
  by_tests true u = refl
  by_tests false true = refl
  by_tests false false = h

-- a letter that comes after no comment begins a word, and another byte none
pub word_ends : (b : ℕ) (rest : List ℕ) → is_Letter (class_of b) ≡ false → begins_word (uncommented false (b ∷ rest)) ≡ false
word_ends b rest h = first_no_letter false b rest h

-- in a comment no item begins at once
pub commented_begins_none : (bytes : List ℕ) → begins_item (uncommented true bytes) ≡ false
unfolding class_of
commented_begins_none [] = refl
commented_begins_none (b ∷ rest) = by_test (b == 10) where
  by_test : (t : Bool) → begins_item (cond t (10 ∷ uncommented false rest) (32 ∷ uncommented true rest)) ≡ false
  by_test true = refl
  by_test false = refl

-- so where one begins, the rest of the file is read by itself
pub text_outside_comment : (c : Bool) (text bytes : List ℕ) → text ≡ uncommented c bytes → begins_item text ≡ true → text_of bytes ≡ text
text_outside_comment true text bytes e h = let none = commented_begins_none bytes in absurd (cc (ap begins_item e, none, h))
text_outside_comment false text bytes e h = sym e
