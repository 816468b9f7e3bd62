-- Tokens of texts that are put together.
use Rattle.std.proofs.Common.{◌≡◌, ℕ, zero, suc, Bool, true, false, not, List, [], ◌∷◌, ◌++◌, replicate, refl, sym, ap, ◌∙◌, arith}
use Rattle.std.specs.Prelude.{◌==◌}
use Rattle.std.specs.List.{list_all}
use Rattle.std.proofs.lemmas.Bool.{and_from}
use Rattle.std.proofs.lemmas.Bool.Decides.{nat_tests}
use Rattle.std.proofs.lemmas.List.Folds.{list_all-append}
use Rattle.lc_lemmas.proofs.Booleans.{and_parts, not_true}
use Rattle.lc_lemmas.proofs.Bytes.{plain_byte}
use Rattle.lc_sexp.specs.Text.{class_of, is_Letter, are_letters, lexed, uncommented}
use Rattle.lc_sexp.proofs.PrintedLemmas.{lexed_space}
use Rattle.lc_sexp.proofs.Text.{semi_no_letter}

pub lexed_spaces : (n : ℕ) (s : List ℕ) → lexed (replicate n 32 ++ s) ≡ lexed s
lexed_spaces zero s = refl
lexed_spaces (suc n) s = lexed_space (replicate n 32 ++ s) ∙ lexed_spaces n s

-- no byte begins a comment
abbrev pub no_semi : ℕ → Bool
no_semi b = not (b == 59)

abbrev pub IsPlain : List ℕ → Type 0
IsPlain s = list_all no_semi s ≡ true

pub IsPlain-append : (p q : List ℕ) → IsPlain p → IsPlain q → IsPlain (p ++ q)
IsPlain-append p q h k = list_all-append no_semi p q ∙ and_from _ _ h k

pub IsPlain-cons : (b : ℕ) (s : List ℕ) → no_semi b ≡ true → IsPlain s → IsPlain (b ∷ s)
IsPlain-cons b s h k = and_from _ _ h k

-- so it is its own text
pub uncommented_plain : (s : List ℕ) → IsPlain s → uncommented false s ≡ s
uncommented_plain [] h = refl
uncommented_plain (b ∷ s) h =
    let hs = and_parts (no_semi b) (list_all no_semi s) h in
    plain_byte b (b == 10) (uncommented false s) (uncommented true s) refl (not_true (b == 59) hs.0) ∙ ap (λ x. b ∷ x) (uncommented_plain s hs.1)

letter_test : (b : ℕ) (t : Bool) → (b == 59) ≡ t → is_Letter (class_of b) ≡ true → not t ≡ true
letter_test b true e h = let k : b ≡ 59 = grind (arith, nat_tests) in absurd (semi_no_letter (ap (λ x. is_Letter (class_of x)) (sym k) ∙ h))
letter_test b false e h = refl

pub letters_plain : (w : List ℕ) → are_letters w ≡ true → IsPlain w
letters_plain [] h = refl
letters_plain (b ∷ w) h =
    let hs = and_parts (is_Letter (class_of b)) (are_letters w) h in
    IsPlain-cons b w (letter_test b (b == 59) refl hs.0) (letters_plain w hs.1)

pub spaces_plain : (n : ℕ) → IsPlain (replicate n 32)
spaces_plain zero = refl
spaces_plain (suc n) = spaces_plain n
