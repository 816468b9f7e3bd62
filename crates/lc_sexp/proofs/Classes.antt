-- The table of classes gives the class of each byte, by computing.
use Rattle.std.proofs.Common.{◌≡◌, ℕ, zero, suc, ◌<◌, Bool, true, ◌&&◌, cond, slice_index_or, refl, sym, ap, ◌∙◌, arith, inl, inr, eqb-true}
use Rattle.std.specs.Prelude.{◌==◌}
use Rattle.std.proofs.lemmas.Bool.{cases_eq}
use Rattle.lc_lemmas.proofs.Booleans.{and_parts}
use Rattle.lc_sexp.specs.Text.{class_of}
use Rattle.lc_sexp.specs.declared.class.Class.{Class}
use Rattle.lc_sexp.specs.declared.class.Class.TheVariants.{White, Open, Close, Letter, Other}
use Rattle.lc_sexp.specs.declared.class.TheConstants.{CLASSES}

number : Class → ℕ
number White = 0
number Open = 1
number Close = 2
number Letter = 3
number Other = 4

numbered : ℕ → Class
numbered n = cond (n == 0) White (cond (n == 1) Open (cond (n == 2) Close (cond (n == 3) Letter Other)))

numbered-number : (k : Class) → numbered (number k) ≡ k
unfolding number numbered
numbered-number White = refl
numbered-number Open = refl
numbered-number Close = refl
numbered-number Letter = refl
numbered-number Other = refl

-- the table agrees below n
agrees_below : ℕ → Bool
agrees_below zero = true
agrees_below (suc n) = (number (slice_index_or CLASSES n White) == number (class_of n)) && agrees_below n

agrees_at : (n : ℕ) → agrees_below n ≡ true → (b : ℕ) → b < n → slice_index_or CLASSES b White ≡ class_of b
unfolding agrees_below
agrees_at zero h b lt = absurd (omega arith)
agrees_at (suc n) h b lt =
    let both = and_parts (number (slice_index_or CLASSES n White) == number (class_of n)) (agrees_below n) h in
    elim (cases_eq b n) [
      | inl same ↦
          rw same
          (sym (numbered-number (slice_index_or CLASSES n White)) ∙ ap numbered (eqb-true (number (slice_index_or CLASSES n White)) (number (class_of n)) both.0) ∙ numbered-number (class_of n))
      | inr other ↦ agrees_at n both.1 b (omega arith)
    ]

pub class_at : (b : ℕ) → b < 256 → slice_index_or CLASSES b White ≡ class_of b
unfolding agrees_below number class_of
class_at b lt = agrees_at 256 refl b lt
