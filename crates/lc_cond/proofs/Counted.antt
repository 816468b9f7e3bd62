-- Variables in order, and zeros after them.
use Rattle.std.proofs.Common.{◌≡◌, ℕ, zero, suc, ◌+◌, List, [], ◌∷◌, ◌++◌, if◌then◌else◌, nat_lt, pos, map, refl, sym, ap, ◌∙◌, arith, true, ◌<◌}
use Rattle.std.proofs.lemmas.Bool.Decides.{nat_tests}
use Rattle.lc_term.specs.Syntax.{Term, Number, Variable}
use Rattle.lc_term.specs.Said.{variables_from}
use Rattle.lc_term.specs.View.{term_of}
use Rattle.lc_term.specs.declared.term.Term as T
use Rattle.lc_term.specs.declared.term.Term.TheVariants as V
use Rattle.std.proofs.lemmas.List.{map-append}
use Rattle.lc_cond.specs.Conditions.{padded}
use Rattle.lc_rider.proofs.PathSteps.{variables_more}

abbrev pub argument : ℕ → ℕ → Term
argument n i = if nat_lt i n then Variable (2 + i) else Number (pos 0)

argument_there : (n i : ℕ) → i < n → argument n i ≡ Variable (2 + i)
argument_there n i h = let there : nat_lt i n ≡ true = grind (arith, nat_tests) in ap (λ b. if b then Variable (2 + i) else Number (pos 0)) there

-- the arguments of `enter`, by their places
pub padded_is : (n : ℕ) → padded 3 (variables_from 2 n) ≡ argument n 0 ∷ argument n 1 ∷ argument n 2 ∷ []
padded_is zero = refl
padded_is (suc zero) = refl
padded_is (suc (suc zero)) = refl
padded_is (suc (suc (suc n))) =
    sym (λ i. argument_there (suc (suc (suc n))) 0 (omega arith) i ∷ argument_there (suc (suc (suc n))) 1 (omega arith) i ∷ argument_there (suc (suc (suc n))) 2 (omega arith) i ∷ [])

pub variables_step : (first : ℕ) (ts now : List T.Term) (k m place : ℕ) → m ≡ first + place → place ≡ k → now ≡ ts ++ V.Variable m ∷ [] → map term_of ts ≡ variables_from first k → map term_of now ≡ variables_from first (k + 1)
variables_step first ts now k m place number at pushed so_far =
    ap (map term_of) pushed ∙ map-append term_of ts (V.Variable m ∷ []) ∙ ap (λ l. l ++ Variable m ∷ []) so_far
    ∙ ap (λ n. variables_from first k ++ Variable n ∷ []) (number ∙ ap (λ n. first + n) at) ∙ sym (variables_more first k)
