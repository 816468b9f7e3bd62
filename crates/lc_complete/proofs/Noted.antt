-- Comments at the end of lines change nothing of what is read.
use Rattle.std.proofs.Common.{◌≡◌, ℕ, zero, suc, ◌+◌, ◌≤◌, Bool, true, false, cond, List, [], ◌∷◌, ◌++◌, length, replicate, refl, sym, ap, subst, ◌∙◌, arith, length-append}
use Rattle.std.specs.Prelude.{◌==◌, ◌||◌}
use Rattle.std.proofs.lemmas.Bool.Decides.{nat_tests}
use Rattle.lc_sexp.specs.Text.{class_of, before, begins_word, lexed, uncommented}
use Rattle.lc_sexp.proofs.PrintedLemmas.{lexed_space, lexed_feed, no_word}
use Rattle.lc_base.specs.Limits.{file_limit}
use Rattle.lc_layout.specs.Layout.{laid_out}
use Rattle.lc_outline.specs.Development.{Development}
use Rattle.lc_outline_text.specs.Developments.{file_reading}
use Rattle.lc_reading.specs.Files.{Says}
use Rattle.lc_sexp.specs.Reads.{ReadsAs}
use Rattle.lc_sexp.proofs.Unique.{one_reading_lem}
use Rattle.lc_complete.specs.Making.{IsMade}
use Rattle.lc_complete.specs.Noted.{is_marked, noted_byte, line_behind, noted_from}

-- two texts have the same tokens, whatever comes before them
pub record AreAlike (s t : List ℕ) : Type 0 where
  pub tokens : lexed s ≡ lexed t
  pub begins : begins_word s ≡ begins_word t

alike_behind : (b : ℕ) (s t : List ℕ) → AreAlike s t → AreAlike (b ∷ s) (b ∷ t)
alike_behind b s t h = record {
  tokens = ap (λ x. before (class_of b) b x (lexed s)) h.begins ∙ ap (λ x. before (class_of b) b (begins_word t) x) h.tokens;
  begins = refl;
}

alike_feed : (s t : List ℕ) → AreAlike s t → AreAlike (10 ∷ s) (10 ∷ t)
alike_feed s t h = alike_behind 10 s t h

-- a line feed after spaces is as one without them
spaces_alike : (n : ℕ) (s : List ℕ) → AreAlike (replicate n 32 ++ (10 ∷ s)) (10 ∷ s)
spaces_alike zero s = record { tokens = refl; begins = refl }
spaces_alike (suc n) s = record {
  tokens = lexed_space (replicate n 32 ++ (10 ∷ s)) ∙ (spaces_alike n s).tokens;
  begins = (no_word (replicate n 32 ++ (10 ∷ s))).0 ∙ sym (no_word s).1;
}

alike_by : (s t u : List ℕ) → AreAlike s t → AreAlike t u → AreAlike s u
alike_by s t u h k = record { tokens = h.tokens ∙ k.tokens; begins = h.begins ∙ k.begins }

-- the end of a line, in a comment or not
end_alike : (mark c : Bool) (r s : List ℕ) → AreAlike (uncommented false r) (uncommented false s) → AreAlike (uncommented c (noted_byte mark 10 ++ r)) (uncommented c (10 ∷ s))
end_alike true true r s h = alike_by (replicate 12 32 ++ (10 ∷ uncommented false r)) (10 ∷ uncommented false r) (10 ∷ uncommented false s) (spaces_alike 12 (uncommented false r)) (alike_feed (uncommented false r) (uncommented false s) h)
end_alike true false r s h = alike_by (replicate 12 32 ++ (10 ∷ uncommented false r)) (10 ∷ uncommented false r) (10 ∷ uncommented false s) (spaces_alike 12 (uncommented false r)) (alike_feed (uncommented false r) (uncommented false s) h)
end_alike false c r s h = alike_feed (uncommented false r) (uncommented false s) h

-- another byte of a line: the rest is in a comment, or not
rest_alike : (starts : Bool) (b : ℕ) (r s : List ℕ) → ((c : Bool) → AreAlike (uncommented c r) (uncommented c s))
    → AreAlike (cond starts (32 ∷ uncommented true r) (b ∷ uncommented false r)) (cond starts (32 ∷ uncommented true s) (b ∷ uncommented false s))
rest_alike true b r s h = alike_behind 32 (uncommented true r) (uncommented true s) (h true)
rest_alike false b r s h = alike_behind b (uncommented false r) (uncommented false s) (h false)

byte_alike : (is_end mark c : Bool) (b : ℕ) (r s : List ℕ) → (b == 10) ≡ is_end → ((d : Bool) → AreAlike (uncommented d r) (uncommented d s))
    → AreAlike (uncommented c (noted_byte mark b ++ r)) (uncommented c (b ∷ s))
byte_alike true mark c b r s e h =
    let is : b ≡ 10 = grind (arith, nat_tests) in
    subst (λ x. AreAlike (uncommented c (noted_byte mark x ++ r)) (uncommented c (x ∷ s))) (sym is) (end_alike mark c r s (h false))
byte_alike false mark c b r s e h =
    subst (λ t. AreAlike (uncommented c (cond t (cond mark (32 ∷ 32 ∷ 59 ∷ 32 ∷ 105 ∷ 110 ∷ 102 ∷ 101 ∷ 114 ∷ 114 ∷ 101 ∷ 100 ∷ []) [] ++ (10 ∷ [])) (b ∷ []) ++ r)) (uncommented c (b ∷ s))) (sym e)
    (subst (λ t. AreAlike (cond t (10 ∷ uncommented false r) (cond (c || b == 59) (32 ∷ uncommented true r) (b ∷ uncommented false r)))
    (cond t (10 ∷ uncommented false s) (cond (c || b == 59) (32 ∷ uncommented true s) (b ∷ uncommented false s)))) (sym e)
    (rest_alike (c || b == 59) b r s h))

pub noted_alike : (marks : List Bool) (line : ℕ) (s : List ℕ) (c : Bool) → AreAlike (uncommented c (noted_from marks line s)) (uncommented c s)
noted_alike marks line [] c = record { tokens = refl; begins = refl }
noted_alike marks line (b ∷ s) c =
    byte_alike (b == 10) (is_marked marks line) c b (noted_from marks (line_behind line b) s) s refl (noted_alike marks (line_behind line b) s)

-- and make it no shorter
byte_longer : (is_end mark : Bool) (b : ℕ) → (b == 10) ≡ is_end → 1 ≤ length (noted_byte mark b)
byte_longer true true b e = subst (λ t. 1 ≤ length (cond t (32 ∷ 32 ∷ 59 ∷ 32 ∷ 105 ∷ 110 ∷ 102 ∷ 101 ∷ 114 ∷ 114 ∷ 101 ∷ 100 ∷ 10 ∷ []) (b ∷ []))) (sym e) (omega arith)
byte_longer true false b e = subst (λ t. 1 ≤ length (cond t (10 ∷ []) (b ∷ []))) (sym e) (omega arith)
byte_longer false mark b e = subst (λ t. 1 ≤ length (cond t (cond mark (32 ∷ 32 ∷ 59 ∷ 32 ∷ 105 ∷ 110 ∷ 102 ∷ 101 ∷ 114 ∷ 114 ∷ 101 ∷ 100 ∷ []) [] ++ (10 ∷ [])) (b ∷ []))) (sym e) (omega arith)

longer : (p r s : List ℕ) → 1 ≤ length p → length s ≤ length r → suc (length s) ≤ length (p ++ r)
longer p r s h k = omega (arith, h, k, length-append p r)

pub noted_longer : (marks : List Bool) (line : ℕ) (s : List ℕ) → length s ≤ length (noted_from marks line s)
noted_longer marks line [] = omega arith
noted_longer marks line (b ∷ s) =
    longer (noted_byte (is_marked marks line) b) (noted_from marks (line_behind line b) s) s (byte_longer (b == 10) (is_marked marks line) b refl) (noted_longer marks (line_behind line b) s)

-- no line is shorter than that of which it was made
pub laid_within : (file text : List ℕ) (D : Development) (made : IsMade file text D) → length text ≤ file_limit → length (laid_out made.forms) ≤ file_limit
laid_within file text D made small = omega (arith, small, ap length made.text_is, noted_longer made.marks 0 (laid_out made.forms))

-- so what is made says the development, if what is laid out reads back
pub made_says : (file text : List ℕ) (D : Development) (made : IsMade file text D) → length text ≤ file_limit → ReadsAs (laid_out made.forms) made.forms → Says file_reading text D
made_says file text D made small back =
    let alike = noted_alike made.marks 0 (laid_out made.forms) false in
    let (ts, reads, says) = made.completes.says in (
      made.forms,
      record {
        tokens = ap (λ t. lexed (uncommented false t)) made.text_is ∙ alike.tokens ∙ back.tokens;
        nesting = made.read.nesting;
        size = small;
      },
      ap file_reading (one_reading_lem made.spelled made.forms ts made.read reads) ∙ says,
    )
