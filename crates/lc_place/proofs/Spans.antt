-- How far an item goes.
use Rattle.std.proofs.Common.{◌≡◌, ℕ, ◌+◌, ◌≤◌, ◌<◌, true, false, inl, inr, List, [], ◌∷◌, length, get_or, take, drop, refl, sym, ap, ◌∙◌, subst, arith}
use Rattle.std.proofs.lemmas.Bool.{cases_eq, and_from}
use Rattle.std.proofs.lemmas.List.{drop_more}
use Rattle.std.proofs.lemmas.List.Folds.{list_all-append}
use Rattle.lc_sexp.specs.Text.{class_of, is_Letter, are_letters, begins_word, uncommented}
use Rattle.lc_sexp.specs.Reads.{text_of}
use Rattle.lc_place.specs.Items.{IsWordOf}
use Rattle.lc_place.proofs.Texts.{step_text, word_ends, length-text, read_all}
use Rattle.lc_sexp.proofs.Runs.{uncommented_plain_byte, letter_plain}

-- letters that were read up to an offset
pub record IsWordSoFar (bytes : List ℕ) (i : ℕ) : Type 0 where
  pub text : drop i (text_of bytes) ≡ uncommented false (drop i bytes)
  pub letters : are_letters (take i (text_of bytes)) ≡ true

pub word_more : (bytes : List ℕ) (i : ℕ) → i < length bytes → is_Letter (class_of (get_or bytes i 0)) ≡ true → IsWordSoFar bytes i → IsWordSoFar bytes (i + 1)
word_more bytes i lt h w =
    let b : ℕ = get_or bytes i 0 in
    let s = step_text bytes i 0 b false false lt w.text (λ rest. uncommented_plain_byte b rest (letter_plain b h)) in
    record {
      text = s.rest;
      letters = ap are_letters s.read ∙ list_all-append (λ x. is_Letter (class_of x)) (take i (text_of bytes)) (b ∷ []) ∙ and_from _ _ w.letters (and_from _ _ h refl);
    }

ends_here : (bytes : List ℕ) (i : ℕ) → i < length bytes → is_Letter (class_of (get_or bytes i 0)) ≡ false → IsWordSoFar bytes i → begins_word (drop i (text_of bytes)) ≡ false
ends_here bytes i lt h w = ap begins_word (w.text ∙ ap (uncommented false) (drop_more bytes i 0 lt)) ∙ word_ends (get_or bytes i 0) (drop (i + 1) bytes) h

some_letters : (text : List ℕ) (i : ℕ) → begins_word text ≡ true → begins_word (drop i text) ≡ false → 0 < i
some_letters text i h e = elim (cases_eq i 0) [
  | inl z ↦ let none : begins_word text ≡ false = subst (λ n. begins_word (drop n text) ≡ false) z e in absurd (cc (none, h))
  | inr n ↦ omega arith
]

-- a byte that is no letter comes after them
pub word_ended : (bytes : List ℕ) (i : ℕ) → begins_word (text_of bytes) ≡ true → i < length bytes → is_Letter (class_of (get_or bytes i 0)) ≡ false → IsWordSoFar bytes i → IsWordOf (text_of bytes) i
word_ended bytes i h lt e w =
    let end = ends_here bytes i lt e w in
    record { some = some_letters (text_of bytes) i h end; within = omega (arith, length-text bytes); letters = w.letters; whole = end }

-- or the end
pub word_to_end : (bytes : List ℕ) (i n : ℕ) → begins_word (text_of bytes) ≡ true → length bytes ≤ i → n ≡ length bytes → IsWordSoFar bytes i → IsWordOf (text_of bytes) n
word_to_end bytes i n h le e w =
    let all = read_all bytes n (omega arith) in
    let end : begins_word (drop n (text_of bytes)) ≡ false = ap begins_word all.1 in
    record {
      some = some_letters (text_of bytes) n h end;
      within = omega (arith, length-text bytes);
      letters = ap are_letters (all.0 ∙ sym (read_all bytes i le).0) ∙ w.letters;
      whole = end;
    }
