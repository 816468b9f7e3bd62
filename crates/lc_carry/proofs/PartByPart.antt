-- The proofs that are carried, part by part.
use Rattle.std.proofs.Common.{◌≡◌, ℕ, suc, ◌+◌, List, [], ◌∷◌, ◌++◌, length, append_assoc, append-nil, Option, sym, ap, ap₂, ◌∙◌, arith}
use Rattle.lc_carry.specs.Carried.{entry_for, carried_from}
use Rattle.lc_cert.specs.Certificates.{Entry}
use Rattle.lc_cond.specs.Conditions.{Condition}
use Rattle.lc_cond_text.specs.ConditionText.{statement_text}
use Rattle.lc_kernel.specs.Proofs.{Proof}
use Rattle.lc_outline.specs.Development.{Development}

module _ (E : Development) (proof_for : List ℕ → Option Proof) where
  carried-append : (cs ds : List Condition) (k : ℕ) → carried_from E proof_for k (cs ++ ds) ≡ carried_from E proof_for k cs ++ carried_from E proof_for (k + length cs) ds
  carried-append [] ds k = let e : k ≡ k + 0 = omega arith in ap (λ n. carried_from E proof_for n ds) e
  carried-append (c ∷ cs) ds k =
      let e : suc k + length cs ≡ k + suc (length cs) = omega arith in
      ap (λ l. entry_for k (proof_for (statement_text E c)) ++ l) (carried-append cs ds (suc k) ∙ ap (λ n. carried_from E proof_for (suc k) cs ++ carried_from E proof_for n ds) e)
      ∙ sym (append_assoc (entry_for k (proof_for (statement_text E c))) (carried_from E proof_for (suc k) cs) (carried_from E proof_for (k + suc (length cs)) ds))

  -- the proof of one condition more
  pub one_carried : (es now all : List Entry) (j k : ℕ) (left rest : List Condition) (c : Condition) → left ≡ c ∷ rest → k ≡ suc j → now ≡ es ++ entry_for j (proof_for (statement_text E c))
      → es ++ carried_from E proof_for j left ≡ all → now ++ carried_from E proof_for k rest ≡ all
  one_carried es now all j k left rest c is next more before =
      ap₂ (λ l n. l ++ carried_from E proof_for n rest) more next
      ∙ append_assoc es (entry_for j (proof_for (statement_text E c))) (carried_from E proof_for (suc j) rest)
      ∙ ap (λ l. es ++ carried_from E proof_for j l) (sym is) ∙ before

  -- those of the conditions of one part more
  pub part_carried : (es now all : List Entry) (j k : ℕ) (left cs rest : List Condition) → left ≡ cs ++ rest → k ≡ j + length cs → now ≡ es ++ carried_from E proof_for j cs
      → es ++ carried_from E proof_for j left ≡ all → now ++ carried_from E proof_for k rest ≡ all
  part_carried es now all j k left cs rest is next more before =
      ap₂ (λ l n. l ++ carried_from E proof_for n rest) more next
      ∙ append_assoc es (carried_from E proof_for j cs) (carried_from E proof_for (j + length cs) rest)
      ∙ ap (λ l. es ++ l) (sym (carried-append cs rest j))
      ∙ ap (λ l. es ++ carried_from E proof_for j l) (sym is) ∙ before

  -- those of all conditions
  pub all_carried : (es all : List Entry) (j : ℕ) (left : List Condition) → left ≡ [] → es ++ carried_from E proof_for j left ≡ all → es ≡ all
  all_carried es all j left none before = sym (append-nil es) ∙ ap (λ l. es ++ carried_from E proof_for j l) (sym none) ∙ before

-- the same proofs are carried if the same are found
pub same_carried : (E : Development) (f g : List ℕ → Option Proof) (k : ℕ) (cs : List Condition) → ((t : List ℕ) → f t ≡ g t) → carried_from E f k cs ≡ carried_from E g k cs
same_carried E f g k cs same = let alike : f ≡ g = λ i t. same t i in ap (λ h. carried_from E h k cs) alike
