-- Paths of the code, one step after another.
use Rattle.std.proofs.Common.{◌≡◌, ℕ, zero, suc, ◌+◌, ◌≤◌, List, [], ◌∷◌, ◌++◌, length, map, refl, ap, ap₂, ◌∙◌, arith, add-one}
use Rattle.std.proofs.lemmas.List.{take-append-le}
use Rattle.lc_term.specs.Lists.{Every, concat_map}
use Rattle.lc_term.specs.Syntax.{Term, Variable, Column, Formula}
use Rattle.lc_term.specs.Said.{put, puts, variables_from}
use Rattle.lc_term.specs.Updates.{Update}
use Rattle.lc_seq.specs.Specification.{Operation}
use Rattle.lc_rider.specs.Rider.{Rider}
use Rattle.lc_rider.specs.Paths.{Path, Duty, rider_paths, paths}
use Rattle.lc_rider.specs.DutyView.{Owed, duty_in}
use Rattle.lc_rider.proofs.Lists.{concat_map-concat, concat_map-each}

-- ---- duties

abbrev pub AreOwed : ℕ → List Owed → Type 0
AreOwed n ds = Every (λ (d : Owed). d.known ≤ n) ds

-- one more fact is not known to the duties before it
pub duties_kept : (fs : List Formula) (f : Formula) (ds : List Owed) → AreOwed (length fs) ds → map (duty_in (fs ++ f ∷ [])) ds ≡ map (duty_in fs) ds
duties_kept fs f [] h = refl
duties_kept fs f (d ∷ ds) h =
    ap₂ (λ (known : List Formula) (rest : List Duty). (let e : Duty = record { kind = d.kind; rider = d.rider; facts = known; goal = d.goal } in e ∷ rest)) (take-append-le d.known fs (f ∷ []) h.0) (duties_kept fs f ds h.1)

-- ---- columns

pub puts-append : (σ : ℕ → Column) (us vs : List Update) → puts σ (us ++ vs) ≡ puts (puts σ us) vs
puts-append σ [] vs = refl
puts-append σ (u ∷ us) vs = puts-append (put σ u) us vs

-- ---- variables

pub variables_more : (n k : ℕ) → variables_from n (k + 1) ≡ variables_from n k ++ Variable (n + k) ∷ []
variables_more n k = ap (variables_from n) (add-one k) ∙ by n k
  where
    by : (n k : ℕ) → variables_from n (suc k) ≡ variables_from n k ++ Variable (n + k) ∷ []
    by n zero = ap (λ j. Variable j ∷ []) (omega arith)
    by n (suc k) = ap (λ vs. Variable n ∷ vs) (by (suc n) k ∙ ap (λ j. variables_from (suc n) k ++ Variable j ∷ []) (omega arith))

pub first_more : (k : ℕ) → variables_from 0 (k + 1) ≡ variables_from 0 k ++ Variable k ∷ []
first_more k = variables_more 0 k ∙ ap (λ j. variables_from 0 k ++ Variable j ∷ []) (omega arith)

-- ---- riders

module _ (operations : List Operation) (first : ℕ) where
  pub ridden_more : (n o : ℕ) (τ : List Term) (r : Rider) (rs : List Rider) (ps : List Path) →
      concat_map (paths operations first (suc n) o τ rs) (concat_map (rider_paths operations first n o τ r) ps) ≡ concat_map (paths operations first n o τ (r ∷ rs)) ps
  ridden_more n o τ r rs ps = concat_map-concat (paths operations first (suc n) o τ rs) (rider_paths operations first n o τ r) ps

  pub ridden_end : (n o : ℕ) (τ : List Term) (ps : List Path) → concat_map (paths operations first n o τ []) ps ≡ ps
  ridden_end n o τ ps = concat_map-each ps
