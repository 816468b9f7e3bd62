-- The place of the proof of a number among numbers that rise.
use Rattle.std.proofs.Common.{◌≡◌, ℕ, zero, suc, ◌<◌, ◌≤◌, Bool, true, false, cond, List, [], ◌∷◌, length, get_or, Option, Some, None, refl, sym, ap, ◌∙◌, subst, arith}
use Rattle.std.proofs.lemmas.Bool.{and_parts, ltb-true, ltb-false, cond-true, cond-false, eq-eqb, ne_eqb}
use Rattle.std.proofs.lemmas.Option.{slice_get_read, slice_get_past}
use Rattle.std.specs.Prelude.{◌==◌, nat_lt, slice_get}
use Rattle.std.specs.List.{AllWithin}
use Rattle.std.specs.List.Sorted.{IsNonDecreasingBy}
use Rattle.lc_kernel.specs.Proofs.{Proof}
use Rattle.lc_kernel.specs.View.{proof_of}
use Rattle.lc_cert.specs.Certificates.{is_above, is_rising, proof_at}
use Rattle.lc_cert.specs.EntryView.{entries_of}
use Rattle.lc_cert.specs.declared.entry.Entry.{Entry}

-- all numbers are above the last one
all_above : (last : ℕ) (es : List Entry) → is_rising (Some last) (entries_of es) ≡ true → (j : ℕ) (d : Entry) → j < length es → last < (get_or es j d).number
all_above last [] h j d lt = absurd (omega arith)
all_above last (e ∷ es) h zero d lt = ltb-true last e.number (and_parts (nat_lt last e.number) (is_rising (Some e.number) (entries_of es)) h).0
all_above last (e ∷ es) h (suc j) d lt =
    let p = and_parts (nat_lt last e.number) (is_rising (Some e.number) (entries_of es)) h in
    let first = ltb-true last e.number p.0 in
    let later = all_above e.number es p.1 j d (omega arith) in
    omega arith

behind_first : (last : Option ℕ) (e : Entry) (es : List Entry) → is_rising last (entries_of (e ∷ es)) ≡ true → is_rising (Some e.number) (entries_of es) ≡ true
behind_first last e es h = (and_parts (is_above last e.number) (is_rising (Some e.number) (entries_of es)) h).1

pub never_fall : (last : Option ℕ) (es : List Entry) → is_rising last (entries_of es) ≡ true → IsNonDecreasingBy (λ (e : Entry). e.number) es
never_fall last [] h i j d le lt = absurd (omega arith)
never_fall last (e ∷ es) h zero zero d le lt = omega arith
never_fall last (e ∷ es) h zero (suc j) d le lt = let later = all_above e.number es (behind_first last e es h) j d (omega arith) in omega arith
never_fall last (e ∷ es) h (suc i) zero d le lt = absurd (omega arith)
never_fall last (e ∷ es) h (suc i) (suc j) d le lt = never_fall (Some e.number) es (behind_first last e es h) i j d (omega arith) (omega arith)

-- no number is one that is not above the last
none_at : (last k : ℕ) (es : List Entry) → is_rising (Some last) (entries_of es) ≡ true → k ≤ last → proof_at (entries_of es) k ≡ None
none_at last k [] h le = refl
none_at last k (e ∷ es) h le =
    let p = and_parts (nat_lt last e.number) (is_rising (Some e.number) (entries_of es)) h in
    let above = ltb-true last e.number p.0 in
    cond-false _ _ _ (ne_eqb e.number k (λ same. omega arith)) ∙ none_at e.number k es p.1 (omega arith)

-- the proof of an entry that is looked up, if its number is this
abbrev pub proof_if : ℕ → Option Entry → Option Proof
proof_if k None = None
proof_if k (Some e) = cond (e.number == k) (Some (proof_of e.proof)) None

-- the first entry whose number is not below
first_at : (k : ℕ) (e : Entry) (es : List Entry) (same : Bool) → (e.number == k) ≡ same → nat_lt e.number k ≡ false → is_rising (Some e.number) (entries_of es) ≡ true
    → cond same (Some (proof_of e.proof)) (proof_at (entries_of es) k) ≡ cond same (Some (proof_of e.proof)) None
first_at k e es true is not_below h = refl
first_at k e es false is not_below h = none_at e.number k es h (ltb-false e.number k not_below)

-- the proof of a number is that of the entry after all those with lower numbers
pub proof_behind : (last : Option ℕ) (k : ℕ) (es : List Entry) (place : ℕ) → is_rising last (entries_of es) ≡ true → place ≤ length es
    → AllWithin (λ (e : Entry). nat_lt e.number k ≡ true) es 0 place → AllWithin (λ (e : Entry). nat_lt e.number k ≡ false) es place (length es)
    → proof_at (entries_of es) k ≡ proof_if k (slice_get es place)
proof_behind last k [] place h le below others = refl
proof_behind last k (e ∷ es) zero h le below others =
    first_at k e es (e.number == k) refl (others 0 e (omega arith) (omega arith)) (behind_first last e es h)
proof_behind last k (e ∷ es) (suc place) h le below others =
    let first = ltb-true e.number k (below 0 e (omega arith) (omega arith)) in
    cond-false _ _ _ (ne_eqb e.number k (λ same. omega arith))
    ∙ proof_behind (Some e.number) k es place (behind_first last e es h) (omega arith)
    (λ i d low high. below (suc i) d (omega arith) (omega arith)) (λ i d low high. others (suc i) d (omega arith) (omega arith))

-- the same if the entries are seen as another list
pub proof_looked_up : (k place : ℕ) (es xs : List Entry) → xs ≡ es → is_rising None (entries_of es) ≡ true → place ≤ length xs
    → AllWithin (λ (e : Entry). nat_lt e.number k ≡ true) xs 0 place × AllWithin (λ (e : Entry). nat_lt e.number k ≡ false) xs place (length xs)
    → proof_at (entries_of es) k ≡ proof_if k (slice_get es place)
proof_looked_up k place es xs same h le point =
    ap (λ l. proof_at (entries_of l) k) (sym same)
    ∙ proof_behind None k xs place (subst (λ l. is_rising None (entries_of l) ≡ true) (sym same) h) le point.0 point.1
    ∙ ap (λ l. proof_if k (slice_get l place)) same

pub proof_found : (k place : ℕ) (es ys : List Entry) (e : Entry) (o : Option Proof) → o ≡ proof_if k (slice_get es place) → ys ≡ es → place < length ys → e ≡ get_or ys place e → e.number ≡ k
    → Some (proof_of e.proof) ≡ o
proof_found k place es ys e o is same lt at number =
    sym (is ∙ ap (λ l. proof_if k (slice_get l place)) (sym same) ∙ ap (proof_if k) (slice_get_read ys (length ys) place e refl lt at) ∙ cond-true _ _ _ (eq-eqb e.number k number))

pub proof_of_another : (k place : ℕ) (es ys : List Entry) (e : Entry) (o : Option Proof) → o ≡ proof_if k (slice_get es place) → ys ≡ es → place < length ys → e ≡ get_or ys place e → (e.number ≡ k → ⊥)
    → None ≡ o
proof_of_another k place es ys e o is same lt at number =
    sym (is ∙ ap (λ l. proof_if k (slice_get l place)) (sym same) ∙ ap (proof_if k) (slice_get_read ys (length ys) place e refl lt at) ∙ cond-false _ _ _ (ne_eqb e.number k number))

pub no_proof_behind : (k place : ℕ) (es ys : List Entry) (o : Option Proof) → o ≡ proof_if k (slice_get es place) → ys ≡ es → length ys ≤ place → None ≡ o
no_proof_behind k place es ys o is same le = sym (is ∙ ap (λ l. proof_if k (slice_get l place)) (sym same) ∙ ap (proof_if k) (slice_get_past ys place le))
