-- If a run of an accepted development is held, it goes on lawfully.
use Rattle.std.proofs.Common.{ℕ, List, refl}
use Rattle.std.proofs.Math.Logic.{∥∥₁_elim}
use Rattle.lc_machine.specs.World.{World}
use Rattle.lc_cond.specs.Conditions.{conditions}
use Rattle.lc_outline.specs.DevelopmentView.{development_view}
use Rattle.lc_outline.specs.declared.development.Development.{Development}
use Rattle.lc_sound.proofs.Lifted.{bare_steps_lift}
use Rattle.lc_sound.proofs.Proven.{valid_is_proven, derived_are_valid}
use Rattle.lc_sound.specs.Derived.{AreDerived}
use Rattle.lc_sound.specs.Instrumented.{Label, IsRun}
use Rattle.lc_steps.specs.Stepping.{IsUnlawful}

bottom-once : IsProp ⊥
bottom-once x y = absurd x

-- a world stands over itself, so that its bare step lifts
unlawful : (d : Development) (n : ℕ) (labels : List Label) (w : World) (c : ℕ) → AreDerived (development_view d) → IsRun (development_view d) n labels w → IsUnlawful (development_view d) w c → ⊥
unlawful d n labels w c derived run (what, mid, step, none) =
    let D = development_view d in
    let up = bare_steps_lift D (valid_is_proven d (derived_are_valid (conditions D) derived)) n labels w w run (record { clients = refl; columns = λ k h. refl }) c what mid step in
    none up.marks up.to up.step

-- no step is unlawful
pub never-unlawful : (d : Development) (n : ℕ) (labels : List Label) (w : World) (c : ℕ) → ∥ AreDerived (development_view d) ∥₁ → ∥ IsRun (development_view d) n labels w ∥₁ → IsUnlawful (development_view d) w c → ⊥
never-unlawful d n labels w c derived run no-way = ∥∥₁_elim derived bottom-once (λ g. ∥∥₁_elim run bottom-once (λ r. unlawful d n labels w c g r no-way))
