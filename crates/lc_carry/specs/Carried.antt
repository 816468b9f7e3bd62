-- Which proofs of an old development D are carried to a new one, E.
use Rattle.std.specs.Prelude.{ℕ, suc, Bool, false, ◌&&◌, if◌then◌else◌, List, [], ◌∷◌, ◌++◌, slice_get, Option, Some, None, option_map, option_and_then}
use Rattle.lc_cert.specs.Certificates.{Entry, proof_at}
use Rattle.lc_cond.specs.Conditions.{Condition, conditions}
use Rattle.lc_cond_text.specs.ConditionText.{statement_text}
use Rattle.lc_kernel.specs.Proofs.{Proof}
use Rattle.lc_outline.specs.ColumnNames.{column_names}
use Rattle.lc_outline.specs.Development.{Development}
use Rattle.lc_reading.specs.Listed.{place_of}
use Rattle.lc_reading.specs.Words.{is}
use Rattle.lc_carry.specs.RenamedProofs.{is_covered, renamed}

-- the column of E that has the name of column k of D, if there is one
abbrev pub column_between : Development → Development → ℕ → Option ℕ
column_between D E k = option_and_then (place_of (column_names E)) (slice_get (column_names D) k)

-- there is a proof, and there is a column in place of each that it names
abbrev pub can_carry : (ℕ → Option ℕ) → Option Proof → Bool
can_carry to None = false
can_carry to (Some p) = is_covered to p

-- old condition j, if its proof can be carried and it says this
abbrev pub number_here : Development → List Entry → (ℕ → Option ℕ) → List ℕ → ℕ → Condition → Option ℕ
number_here D es to t j c = if can_carry to (proof_at es j) && is t (statement_text D c) then Some j else None

-- the least of these conditions, from number j on
abbrev pub least_number : Development → List Entry → (ℕ → Option ℕ) → List ℕ → ℕ → List Condition → Option ℕ
least_number D es to t j [] = None
least_number D es to t j (c ∷ cs) = if can_carry to (proof_at es j) && is t (statement_text D c) then Some j else least_number D es to t (suc j) cs

-- the proof of an old condition, with each column replaced
abbrev pub renamed_at : (ℕ → Option ℕ) → List Entry → Option ℕ → Option Proof
renamed_at to es number = option_and_then (λ (j : ℕ). option_map (renamed to) (proof_at es j)) number

-- the proof that is carried to a condition of E that says this: that of the least old condition that says it, and whose proof names
-- only columns that E has, with each column replaced by the one of its name
abbrev pub carried_proof : Development → List Entry → Development → List ℕ → Option Proof
carried_proof D es E t = renamed_at (column_between D E) es (least_number D es (column_between D E) t 0 (conditions D))

-- the proof of condition k, if there is one
abbrev pub entry_for : ℕ → Option Proof → List Entry
entry_for k None = []
entry_for k (Some p) = record { number = k; proof = p } ∷ []

-- the proofs that are carried to these conditions of E, from number k on
abbrev pub carried_from : Development → (List ℕ → Option Proof) → ℕ → List Condition → List Entry
carried_from E proof_for k [] = []
carried_from E proof_for k (c ∷ cs) = entry_for k (proof_for (statement_text E c)) ++ carried_from E proof_for (suc k) cs

-- the proofs that are carried to the conditions of E
abbrev pub carried : Development → List Entry → Development → List Entry
carried D es E = carried_from E (carried_proof D es E) 0 (conditions E)
