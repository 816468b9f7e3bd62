-- The first places of proofs.
use Rattle.std.proofs.Common.{◌≡◌, ◌≢◌, ℕ, suc, ◌⊎◌, inl, inr, Bool, true, false, cond, List, [], ◌∷◌, ◌++◌, Option, Some, None, option_map, slice_get, refl, sym, ap, ◌∙◌}
use Rattle.std.proofs.lemmas.Bool.Decides.{eqb_tells}
use Rattle.std.specs.Prelude.{◌==◌}
use Rattle.std.specs.Option.{option_or}
use Rattle.lc_check.proofs.LeastExtra.{at_first, at_other}
use Rattle.lc_cert.specs.Certificates.{Entry, proof_at}
use Rattle.lc_kernel.specs.Proofs.{Proof}
use Rattle.lc_find.specs.FirstProofs.{place_at}

-- the proof of the entry at this place
abbrev pub proof_of_place : List Entry → Option ℕ → Option Proof
proof_of_place es None = None
proof_of_place es (Some i) = option_map (λ (e : Entry). e.proof) (slice_get es i)

one_later : (e : Entry) (es : List Entry) (o : Option ℕ) → proof_of_place (e ∷ es) (option_map suc o) ≡ proof_of_place es o
one_later e es None = refl
one_later e es (Some i) = refl

by_first : (e : Entry) (es : List Entry) (n : ℕ) → ((n == e.number) ≡ true) × (n ≡ e.number) ⊎ ((n == e.number) ≡ false) × (n ≢ e.number) → proof_of_place es (place_at es n) ≡ proof_at es n
    → proof_of_place (e ∷ es) (place_at (e ∷ es) n) ≡ proof_at (e ∷ es) n
by_first e es n (inl (here, same)) h = ap (λ b. proof_of_place (e ∷ es) (cond b (Some 0) (option_map suc (place_at es n)))) here ∙ sym (at_first e es n (sym same))
by_first e es n (inr (there, other)) h =
    ap (λ b. proof_of_place (e ∷ es) (cond b (Some 0) (option_map suc (place_at es n)))) there ∙ one_later e es (place_at es n) ∙ h ∙ sym (at_other e es n (λ same. other (sym same)))

-- the first proof of a number is at the first place of the number
pub at_place : (es : List Entry) (n : ℕ) → proof_of_place es (place_at es n) ≡ proof_at es n
at_place [] n = refl
at_place (e ∷ es) n = by_first e es n (eqb_tells n e.number) (at_place es n)

-- what is not there
pub none_of_map : {A B : Type 0} (f : A → B) (o : Option A) (p : Option B) → option_map f o ≡ p → ((x : A) → o ≡ Some x → ⊥) → p ≡ None
none_of_map f None p is none = sym is
none_of_map f (Some x) p is none = absurd (none x refl)

first_of_two : (here : Bool) (p : Proof) (o r : Option Proof) → cond here (Some p) (option_or o r) ≡ option_or (cond here (Some p) o) r
first_of_two true p o r = refl
first_of_two false p o r = refl

-- the first proof of a number among these, and else among those after them
pub proof_at-append : (es fs : List Entry) (n : ℕ) → proof_at (es ++ fs) n ≡ option_or (proof_at es n) (proof_at fs n)
proof_at-append [] fs n = refl
proof_at-append (e ∷ es) fs n = ap (cond (e.number == n) (Some e.proof)) (proof_at-append es fs n) ∙ first_of_two (e.number == n) e.proof (proof_at es n) (proof_at fs n)
