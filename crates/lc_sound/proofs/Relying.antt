-- What is asserted of a client stays under its rely.
use Rattle.std.proofs.Common.{◌≡◌, ℕ, ◌+◌, ◌<◌, ◌≤◌, List, [], ◌∷◌, ◌++◌, ℤ, pos, Option, Some, None, length, inl, inr, sym, subst, refl, arith}
use Rattle.lc_term.specs.Updates.{variable}
use Rattle.lc_term.specs.Syntax.{Formula}
use Rattle.lc_term.specs.Meaning.{State, EachHolds}
use Rattle.lc_term.specs.Lists.{Every, IsIn}
use Rattle.lc_object.specs.WellFormed.{variable_count}
use Rattle.lc_machine.specs.World.{Client, Idle, In}
use Rattle.lc_action.specs.Action.{Action, skip, Acts}
use Rattle.lc_outline.specs.Development.{Development, first_system, invariant_of, all_actions, asserts_at}
use Rattle.lc_outline.specs.Resolved.{IsBelow}
use Rattle.lc_cond.specs.Conditions.{idle_frame, body_frame, stable_conditions}
use Rattle.lc_sound.specs.Claims.{IsProven, IsClientGood, own}
use Rattle.lc_sound.specs.Rely.{Guarantee, Rely, IsInvariant, IsAsserted, RelyKeepsAssertions}
use Rattle.lc_sound.specs.Valid.{IsValid}
use Rattle.lc_sound.proofs.Others.{for_action, frame_below, of_idle, of_point}
use Rattle.lc_sound.proofs.Stable.{stable_holds}

-- `skip` changes nothing
still : (n u : ℕ) (xs : List ℤ) (m m' : State) (a : Action) → a ≡ skip → Acts n a u xs m m' → m' ≡ m
still n u xs m m' a is acts = (subst (λ b. Acts n b u xs m m') is acts).1

module _ (D : Development) (n t u : ℕ) (m m' : State) (ht : t < n) (hu : u < n) (ne : t ≡ u → ⊥) (g : Guarantee D n u m m') (inv : IsInvariant D n m) (inv' : IsInvariant D n m') where
  -- the assertions at a place
  stays : (place : Option ℕ) (vs : List ℤ) (frame asserts : List Formula) → variable vs 0 ≡ pos n → variable vs 1 ≡ pos t → 2 ≤ length vs → Every IsValid (stable_conditions D place (length vs) frame asserts) →
      Every (IsBelow (length vs)) frame → Every (IsBelow (length vs)) asserts → EachHolds m (variable vs) frame → EachHolds m (variable vs) asserts → EachHolds m' (variable vs) asserts
  stays place vs frame asserts z o two v bf ba hf ha = by g.among
    where
      by : IsIn g.action (skip ∷ all_actions D) → EachHolds m' (variable vs) asserts
      by (inl is) = subst (λ x. EachHolds x (variable vs) asserts) (sym (still n u g.numbers m m' g.action is g.acts)) ha
      by (inr among) =
          stable_holds D n m m' u t vs g.numbers g.action z o two g.fits hu ht ne g.acts inv inv' frame asserts bf ba hf ha asserts ba
          (for_action D place (length vs) (frame ++ ((invariant_of D) ++ asserts)) asserts g.action among v)

  asserted : (X : IsProven D) (client : Client) → IsClientGood D n m t client → IsAsserted D n m' t client
  asserted X Idle good = stays None (own n t) (idle_frame (first_system D)) D.idle refl refl (omega arith) (of_idle D X.valid) (refl, tt) X.resolved.idle good.0 good.1
  asserted X (In p vs) (point, o, at, is, len, z, first, frame, asserts) =
      stays (Some p) vs (body_frame (first_system D) point.operation (length o.arguments)) (asserts_at D p) z first (subst (λ k. 2 ≤ k) (sym len) (omega arith))
      (subst (λ k. Every IsValid (stable_conditions D (Some p) k (body_frame (first_system D) point.operation (length o.arguments)) (asserts_at D p))) (sym len) (of_point D p point o X.valid at is))
      (subst (λ k. Every (IsBelow k) (body_frame (first_system D) point.operation (length o.arguments))) (sym len) (frame_below (first_system D) point.operation (length o.arguments) (variable_count o) (omega arith)))
      (subst (λ k. Every (IsBelow k) (asserts_at D p)) (sym len) (X.resolved.asserts p point o at is)) frame asserts

pub rely_keeps : RelyKeepsAssertions
rely_keeps D X n t client m m' ht good (u, hu, ne, g) inv inv' = asserted D n t u m m' ht hu ne g inv inv' X client good
