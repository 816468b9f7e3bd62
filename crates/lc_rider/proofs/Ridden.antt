-- Riders of the code, one after another.
use Rattle.std.proofs.Common.{◌≡◌, ℕ, suc, ◌+◌, ◌<◌, ◌≤◌, List, ◌∷◌, length, drop, get_or, sym, ap, ◌∙◌, add-one}
use Rattle.std.proofs.lemmas.List.{drop_more}
use Rattle.std.proofs.Math.ListN.{drop_of_length-le}
use Rattle.lc_term.specs.Lists.{concat_map}
use Rattle.lc_term.specs.Syntax.{Term}
use Rattle.lc_seq.specs.Specification.{Operation}
use Rattle.lc_rider.specs.Paths.{Path, rider_paths, paths}
use Rattle.lc_rider.specs.RiderView.{rider_of, riders_of}
use Rattle.lc_rider.specs.declared.rider.Rider.{Rider}
use Rattle.lc_rider.proofs.PathSteps.{ridden_more, ridden_end}

module _ (operations : List Operation) (first o : ℕ) (τ : List Term) where
  -- one more rider
  pub ridden_step : (rs : List Rider) (i : ℕ) (r : Rider) (ps qs whole : List Path) → i < length rs → r ≡ get_or rs i r → qs ≡ concat_map (rider_paths operations first i o τ (rider_of r)) ps →
      concat_map (paths operations first i o τ (riders_of (drop i rs))) ps ≡ whole → concat_map (paths operations first (i + 1) o τ (riders_of (drop (i + 1) rs))) qs ≡ whole
  ridden_step rs i r ps qs whole h er eq before =
      let split : drop i rs ≡ r ∷ drop (i + 1) rs = drop_more rs i r h ∙ ap (λ (x : Rider). x ∷ drop (i + 1) rs) (sym er) in
      ap (λ (k : ℕ). concat_map (paths operations first k o τ (riders_of (drop (i + 1) rs))) qs) (add-one i)
      ∙ (ap (concat_map (paths operations first (suc i) o τ (riders_of (drop (i + 1) rs)))) eq
      ∙ (ridden_more operations first i o τ (rider_of r) (riders_of (drop (i + 1) rs)) ps
      ∙ (ap (λ (xs : List Rider). concat_map (paths operations first i o τ (riders_of xs)) ps) (sym split) ∙ before)))

  -- no rider is left
  pub ridden_all : (rs : List Rider) (i : ℕ) (ps whole : List Path) → length rs ≤ i → concat_map (paths operations first i o τ (riders_of (drop i rs))) ps ≡ whole → ps ≡ whole
  ridden_all rs i ps whole h before =
      sym (ap (λ (xs : List Rider). concat_map (paths operations first i o τ (riders_of xs)) ps) (drop_of_length-le rs h) ∙ ridden_end operations first i o τ ps) ∙ before
