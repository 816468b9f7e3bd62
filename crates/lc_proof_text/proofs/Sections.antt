-- The sections of a formula file together.
use Rattle.std.proofs.Common.{◌≡◌, ℕ, ◌+◌, Ok, Err, refl}
use Rattle.std.specs.Prelude.{Result}
use Rattle.lc_sexp.specs.Shown.{rest_of, number_of, owner_of}
use Rattle.lc_sexp.specs.Trees.{Tree, Trees, ◌▸◌, item_count, item_count_of_all}
use Rattle.lc_sexp.specs.declared.cursor.Cursor.{Cursor}
use Rattle.lc_reading.proofs.Combined.{both_read, ended_read}
use Rattle.lc_reading.specs.Parts.{IsBehind, tree_of, place_of}
use Rattle.lc_reading.specs.Readings.{Reading, both}
use Rattle.lc_reading.specs.Results.{IsReading, both_results, also_results, ended_result}
use Rattle.lc_reading.specs.declared.flaw.ReadFault.{ReadFault}
use Rattle.lc_reading.specs.declared.flaw.ReadFault.TheVariants.{Flawed, OutOfMemory}
use Rattle.lc_reading.specs.declared.part.Part.{Part}
use Rattle.lc_proof_text.specs.FileNames.{Declared, declared_by}
use Rattle.lc_proof_text.specs.declared.claim.ClaimTrees.{ClaimTrees}
use Rattle.lc_proof_text.specs.Files.{seen_claim, only, declarations_reading, claim_reading, sections_reading, form_reading, file_reading}

-- two results together
pub both_told : {A B X Y Z : Type 0} (v : A → X) (w : B → Y) (f : X → Y → Z) (r : Reading X) (s : Reading Y) (a : Result A ReadFault) (b : Result B ReadFault) (c : Result (A × B) ReadFault)
    → c ≡ both_results a b → IsReading v r a → IsReading w s b → IsReading (λ (p : A × B). f (v p.0) (w p.1)) (both f r s) c
both_told v w f r s a b c together h k = rw together (both_read v w f r s a b h k)

-- what is wrong in either of two
pub also_read : (r s : Reading (Unit {0})) (a b : Result (Unit {0}) ReadFault) → IsReading (λ (u : Unit {0}). u) r a → IsReading (λ (u : Unit {0}). u) s b
    → IsReading (λ (u : Unit {0}). u) (both (λ (x y : Unit {0}). y) r s) (also_results a b)
also_read r s (Ok u) (Ok v) h k = rw (h, k) refl
also_read r s (Ok u) (Err (Flawed g)) h k = rw (h, k) refl
also_read r s (Ok u) (Err OutOfMemory) h k = tt
also_read r s (Err (Flawed f)) (Ok v) h k = rw (h, k) refl
also_read r s (Err OutOfMemory) (Ok v) h k = tt
also_read r s (Err (Flawed f)) (Err (Flawed g)) h k = rw (h, k) refl
also_read r s (Err (Flawed f)) (Err OutOfMemory) h k = tt
also_read r s (Err OutOfMemory) (Err (Flawed g)) h k = tt
also_read r s (Err OutOfMemory) (Err OutOfMemory) h k = tt

-- the part of the number i, which is the next, and the rest after it
abbrev IsAfter : ℕ → Trees → ℕ → Tree → ℕ → Trees → Type 0
IsAfter m us i t k ts = (i ≡ m) × (us ≡ t ▸ ts) × (k ≡ m + item_count t)

sections_at : (n m₀ m₁ m₂ m₃ m₄ m₅ i₁ i₂ i₃ i₄ i₅ : ℕ) (v c h g p : Tree) (us₀ us₁ us₂ us₃ us₄ us₅ : Trees) (d : Declared)
    (a : Result (Unit {0}) ReadFault) (b : Result ClaimTrees ReadFault) (q e : Result (Unit {0} × ClaimTrees) ReadFault)
    → IsAfter m₀ us₀ i₁ v m₁ us₁ → IsAfter m₁ us₁ i₂ c m₂ us₂ → IsAfter m₂ us₂ i₃ h m₃ us₃ → IsAfter m₃ us₃ i₄ g m₄ us₄ → IsAfter m₄ us₄ i₅ p m₅ us₅
    → d ≡ declared_by v c → IsReading (λ (u : Unit {0}). u) (declarations_reading i₁ v i₂ c) a → IsReading seen_claim (claim_reading d i₃ h i₄ g i₅ p) b
    → q ≡ both_results a b → e ≡ ended_result m₅ us₅ q
    → IsReading (λ (x : Unit {0} × ClaimTrees). seen_claim x.1) (sections_reading n m₀ us₀) e
sections_at n m₀ m₁ m₂ m₃ m₄ m₅ i₁ i₂ i₃ i₄ i₅ v c h g p us₀ us₁ us₂ us₃ us₄ us₅ d a b q e (a₁, r₁, k₁) (a₂, r₂, k₂) (a₃, r₃, k₃) (a₄, r₄, k₄) (a₅, r₅, k₅) names wrong claim together end =
    let first = rw (a₁, a₂, k₁) at wrong in
    let second = rw (names, a₃, a₄, a₅, k₄, k₃, k₂, k₁) at claim in
    rw (end, together, r₁, r₂, r₃, r₄, r₅, k₅, k₄, k₃, k₂, k₁)
    (ended_read _ _ _ _ _ (both_read (λ (u : Unit {0}). u) seen_claim (λ x y. y) _ _ a b first second))

pub sections_read : (l r₁ r₂ r₃ r₄ r₅ : Cursor) (v c h g p : Part) (d : Declared)
    (a : Result (Unit {0}) ReadFault) (b : Result ClaimTrees ReadFault) (q e : Result (Unit {0} × ClaimTrees) ReadFault)
    → (place_of v ≡ number_of l) × IsBehind l (tree_of v) r₁ → (place_of c ≡ number_of r₁) × IsBehind r₁ (tree_of c) r₂ → (place_of h ≡ number_of r₂) × IsBehind r₂ (tree_of h) r₃
    → (place_of g ≡ number_of r₃) × IsBehind r₃ (tree_of g) r₄ → (place_of p ≡ number_of r₄) × IsBehind r₄ (tree_of p) r₅
    → d ≡ declared_by (tree_of v) (tree_of c) → IsReading (λ (u : Unit {0}). u) (declarations_reading (place_of v) (tree_of v) (place_of c) (tree_of c)) a
    → IsReading seen_claim (claim_reading d (place_of h) (tree_of h) (place_of g) (tree_of g) (place_of p) (tree_of p)) b
    → q ≡ both_results a b → e ≡ ended_result (number_of r₅) (rest_of r₅) q
    → IsReading (λ (x : Unit {0} × ClaimTrees). seen_claim x.1) (sections_reading (owner_of l) (number_of l) (rest_of l)) e
sections_read l r₁ r₂ r₃ r₄ r₅ v c h g p d a b q e (a₁, n₁) (a₂, n₂) (a₃, n₃) (a₄, n₄) (a₅, n₅) names wrong claim together end =
    sections_at (owner_of l) (number_of l) (number_of r₁) (number_of r₂) (number_of r₃) (number_of r₄) (number_of r₅) (place_of v) (place_of c) (place_of h) (place_of g) (place_of p)
    (tree_of v) (tree_of c) (tree_of h) (tree_of g) (tree_of p) (rest_of l) (rest_of r₁) (rest_of r₂) (rest_of r₃) (rest_of r₄) (rest_of r₅) d a b q e
    (a₁, n₁.rest, n₁.number) (a₂, n₂.rest, n₂.number) (a₃, n₃.rest, n₃.number) (a₄, n₄.rest, n₄.number) (a₅, n₅.rest, n₅.number) names wrong claim together end

-- the whole file
pub file_at : (n m : ℕ) (ts us : Trees) → n ≡ item_count_of_all us → m ≡ 0 → ts ≡ us → only form_reading n m ts ≡ file_reading us
file_at n m ts us owner number rest = rw (owner, number, rest) refl
