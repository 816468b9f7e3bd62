-- Stretches of the conjuncts that are asked to stay.
use Rattle.std.specs.Prelude.{ℕ, ◌-◌, ◌≤◌, List, ◌++◌, Option, Some, None, length, take, drop}
use Rattle.lc_term.specs.Lists.{numbered, concat_places}
use Rattle.lc_term.specs.Syntax.{Formula}
use Rattle.lc_object.specs.Syntax.{Point}
use Rattle.lc_object.specs.WellFormed.{variable_count}
use Rattle.lc_outline.specs.Development.{Development, first_system, invariant_of, all_actions, asserts_at, in_body}
use Rattle.lc_cond.specs.Conditions.{Condition, idle_frame, body_frame, stable_under}
use Rattle.lc_cond.specs.declared.stretch.Stretch.{Stretch}

-- it is a stretch of `count` conjuncts
pub record IsWithin (count : ℕ) (s : Stretch) : Type 0 where
  pub order : s.from ≤ s.to
  pub few : s.to ≤ count

-- the conjuncts in it
abbrev pub stretch_of : {A : Type 0} → Stretch → List A → List A
stretch_of s xs = take (s.to - s.from) (drop s.from xs)

-- conjuncts, from the k-th on, each under all actions
abbrev pub stable_from : Development → Option ℕ → ℕ → List Formula → ℕ → List Formula → List Condition
stable_from D point n hs k fs = concat_places (λ j f. numbered (stable_under D point n hs j f) 0 (all_actions D)) k fs

abbrev pub stable_stretch : Development → Option ℕ → ℕ → List Formula → List Formula → Stretch → List Condition
stable_stretch D point n frame asserts s = stable_from D point n (frame ++ (invariant_of D ++ asserts)) s.from (stretch_of s asserts)

abbrev pub point_stretch : Development → ℕ → Point → Stretch → List Condition
point_stretch D p point s =
    in_body D.object (λ o operation. stable_stretch D (Some p) (variable_count operation) (body_frame (first_system D) o (length operation.arguments)) (asserts_at D p) s) (Some point)

abbrev pub idle_stretch : Development → Stretch → List Condition
idle_stretch D s = stable_stretch D None 2 (idle_frame (first_system D)) D.idle s
