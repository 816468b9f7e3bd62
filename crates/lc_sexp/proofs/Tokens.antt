-- Laws of tokens and of trees in a row.
use Rattle.std.proofs.Common.{◌≡◌, ℕ, ◌<◌, Bool, true, false, ◌&&◌, cond, List, [], ◌∷◌, ◌++◌, refl, ap, ◌∙◌, arith}
use Rattle.std.proofs.lemmas.Bool.Decides.{nat_tests}
use Rattle.std.proofs.lemmas.List.Folds.{list_all-append}
use Rattle.lc_lemmas.proofs.Booleans.{and_parts}
use Rattle.lc_sexp.specs.Trees.{Token, word}
use Rattle.lc_sexp.specs.Text.{class_of, is_Letter, are_letters, begins_word, lexed, before}
use Rattle.lc_sexp.specs.declared.class.Class.{Class}
use Rattle.lc_sexp.specs.declared.class.Class.TheVariants.{White, Open, Close, Letter, Other}

pub Letter-from : (k : Class) → is_Letter k ≡ true → k ≡ Letter
Letter-from Letter h = refl
Letter-from White h = cc
Letter-from Open h = cc
Letter-from Close h = cc
Letter-from Other h = cc

-- a letter before a text that begins no word
letter_alone : (k : Class) (b : ℕ) (ts : List Token) → k ≡ Letter → before k b false ts ≡ word (b ∷ []) ∷ ts
letter_alone k b ts e = ap (λ x. before x b false ts) e

letter_joins : (k : Class) (b : ℕ) (w : List ℕ) (ts : List Token) → k ≡ Letter → before k b true (word w ∷ ts) ≡ word (b ∷ w) ∷ ts
letter_joins k b w ts e = ap (λ x. before x b true (word w ∷ ts)) e

-- letters before a text that begins no word are a word
pub lexed_word : (b : ℕ) (w text : List ℕ) → are_letters (b ∷ w) ≡ true → begins_word text ≡ false → lexed ((b ∷ w) ++ text) ≡ word (b ∷ w) ∷ lexed text
lexed_word b [] text h e =
    ap (λ x. before (class_of b) b x (lexed text)) e ∙ letter_alone (class_of b) b (lexed text) (Letter-from _ (and_parts _ _ h).0)
lexed_word b (c ∷ w) text h e =
    let hs = and_parts (is_Letter (class_of b)) (are_letters (c ∷ w)) h in
    let next : is_Letter (class_of c) ≡ true = (and_parts _ _ hs.1).0 in
    ap (λ x. before (class_of b) b x (lexed ((c ∷ w) ++ text))) next
    ∙ ap (λ ts. before (class_of b) b true ts) (lexed_word c w text hs.1 e)
    ∙ letter_joins (class_of b) b (c ∷ w) (lexed text) (Letter-from _ hs.0)

pub letter_ascii : (b : ℕ) → Letter ≡ class_of b → b < 128
unfolding class_of
letter_ascii b h = grind (arith, nat_tests)

-- letters after letters, if memory does not run out
pub letters_extended : (ok : Bool) (w w' more : List ℕ) → w' ≡ cond ok (w ++ more) w → are_letters w ≡ true → are_letters more ≡ true → are_letters w' ≡ true
letters_extended true w w' more e h k =
    ap are_letters e ∙ list_all-append (λ x. is_Letter (class_of x)) w more ∙ ap (λ x. x && are_letters more) h ∙ k
letters_extended false w w' more e h k = ap are_letters e ∙ h
