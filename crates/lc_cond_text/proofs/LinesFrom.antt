-- The lines of conditions, part by part.
use Rattle.std.proofs.Common.{◌≡◌, ℕ, suc, ◌+◌, List, [], ◌∷◌, ◌++◌, length, ap, sym, ◌∙◌, arith, append_assoc}
use Rattle.std.proofs.lemmas.List.{length-append}
use Rattle.lc_outline.specs.Development.{Development}
use Rattle.lc_cond.specs.Conditions.{Condition}
use Rattle.lc_cond_text.specs.ConditionText.{condition_text, lines_from, total_line, text_from}

lines_from-append : (d : Development) (k : ℕ) (cs ds : List Condition) → lines_from d k (cs ++ ds) ≡ lines_from d k cs ++ lines_from d (k + length cs) ds
lines_from-append d k [] ds = let e : k ≡ k + 0 = omega arith in ap (λ n. lines_from d n ds) e
lines_from-append d k (c ∷ cs) ds =
    let e : suc k + length cs ≡ k + suc (length cs) = omega arith in
    ap (λ l. condition_text d k c ++ 10 ∷ l) (lines_from-append d (suc k) cs ds ∙ ap (λ n. lines_from d (suc k) cs ++ lines_from d n ds) e)
    ∙ sym (append_assoc (condition_text d k c) (10 ∷ lines_from d (suc k) cs) (lines_from d (k + suc (length cs)) ds))

-- the text of what is left begins with the lines of a part
pub text_from-append : (d : Development) (k : ℕ) (cs ds : List Condition) → text_from d k (cs ++ ds) ≡ lines_from d k cs ++ text_from d (k + length cs) ds
text_from-append d k cs ds =
    let e : k + length (cs ++ ds) ≡ k + length cs + length ds = omega (arith, length-append cs ds) in
    ap (λ l. l ++ total_line (k + length (cs ++ ds))) (lines_from-append d k cs ds)
    ∙ ap (λ n. lines_from d k cs ++ lines_from d (k + length cs) ds ++ total_line n) e
    ∙ append_assoc (lines_from d k cs) (lines_from d (k + length cs) ds) (total_line (k + length cs + length ds))

-- what was left before a part is its lines and what is left after it
pub part_passes : (d : Development) (n m : ℕ) (left cs rest : List Condition) (old new : List ℕ) → left ≡ cs ++ rest → m ≡ n + length cs → new ≡ old ++ lines_from d n cs
    → old ++ text_from d n left ≡ new ++ text_from d m rest
part_passes d n m left cs rest old new is number written =
    ap (λ l. old ++ text_from d n l) is ∙ ap (λ t. old ++ t) (text_from-append d n cs rest)
    ∙ sym (append_assoc old (lines_from d n cs) (text_from d (n + length cs) rest)) ∙ ap (λ l. l ++ text_from d (n + length cs) rest) (sym written)
    ∙ ap (λ k. new ++ text_from d k rest) (sym number)
