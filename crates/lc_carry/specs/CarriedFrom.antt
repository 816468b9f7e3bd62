-- From which old condition a proof is carried.
use Rattle.std.specs.Prelude.{◌≡◌, ℕ, ◌≤◌, true, List, Some, slice_get}
use Rattle.lc_carry.specs.Carried.{carried, column_between}
use Rattle.lc_cert.specs.Certificates.{Entry, proof_at}
use Rattle.lc_cond.specs.Conditions.{Condition, conditions}
use Rattle.lc_cond_text.specs.ConditionText.{statement_text}
use Rattle.lc_kernel.specs.Proofs.{Proof}
use Rattle.lc_outline.specs.Development.{Development}
use Rattle.lc_carry.specs.RenamedProofs.{is_covered, renamed}

-- condition j of D says what condition k of E says, and this is its proof, which names only columns that E has
pub record IsCarriedFrom (D : Development) (es : List Entry) (E : Development) (k j : ℕ) (p : Proof) : Type 0 where
  pub old : Condition
  pub new : Condition
  pub old_stands : slice_get (conditions D) j ≡ Some old
  pub new_stands : slice_get (conditions E) k ≡ Some new
  pub same : statement_text D old ≡ statement_text E new
  pub proved : proof_at es j ≡ Some p
  pub covered : is_covered (column_between D E) p ≡ true

-- no condition of D before j does so
abbrev pub IsLeast : Development → List Entry → Development → ℕ → ℕ → Type 0
IsLeast D es E k j = (i : ℕ) (q : Proof) → IsCarriedFrom D es E k i q → j ≤ i

-- to condition k the proof of the least such condition is carried, with each column replaced by the one of its name
abbrev pub CarriesLeast : Type 0
CarriesLeast = (D : Development) (es : List Entry) (E : Development) (k j : ℕ) (p : Proof) → IsCarriedFrom D es E k j p → IsLeast D es E k j → proof_at (carried D es E) k ≡ Some (renamed (column_between D E) p)

-- what is carried to condition k is that proof
abbrev pub CarriesNothingElse : Type 0
CarriesNothingElse = (D : Development) (es : List Entry) (E : Development) (k : ℕ) (q : Proof) → proof_at (carried D es E) k ≡ Some q
    → (j : ℕ) × (p : Proof) × IsCarriedFrom D es E k j p × IsLeast D es E k j × (q ≡ renamed (column_between D E) p)
