-- The one action that a step is.
use Rattle.std.proofs.Common.{◌≡◌, ℕ, ℤ, List, sym, subst, ◌∙◌}
use Rattle.std.specs.Prelude.{Option, Some, None, Result, IfOk, MatchOption}
use Rattle.std.proofs.lemmas.Option.{same_Some}
use Rattle.lc_base.specs.declared.memory.OutOfMemory.{OutOfMemory}
use Rattle.lc_lemmas.proofs.Options.{if_ok}
use Rattle.lc_term.specs.SystemColumns.{column_count}
use Rattle.lc_object.specs.declared.instr.EdgeKind.{EdgeKind}
use Rattle.lc_object.specs.declared.instr.EdgeKind.TheVariants.{Next}
use Rattle.lc_machine.specs.Step.{Event, Moved, Returned, IsClient}
use Rattle.lc_machine.specs.World.{World, In}
use Rattle.lc_outline.specs.Development.{Development, On, first_system, on_at}
use Rattle.lc_acting.specs.Attempts.{IsOnly}
use Rattle.lc_acting.specs.Acting.{IsActionOn, IsAtReturn, IsActing}
use Rattle.lc_acting.specs.declared.acting.Acting.{Acting}

-- what is the same is found as that
pub only_as : (P Q : ℕ → List ℤ → Type 0) (found : Option Acting) → ((i : ℕ) (args : List ℤ) → P i args → Q i args) → ((i : ℕ) (args : List ℤ) → Q i args → P i args) → IsOnly P found → IsOnly Q found
only_as P Q None on back none = λ i args h. none i args (back i args h)
only_as P Q (Some a) on back one = (on a.action a.numbers.items one.0, λ i args h. one.1 i args (back i args h))

-- a client stands at one point, with one list of numbers
pub same_place : (w : World) (c p q : ℕ) (vs us : List ℤ) → IsClient w c (In p vs) → IsClient w c (In q us) → (p ≡ q) × (vs ≡ us)
same_place w c p q vs us a b =
    let same : In p vs ≡ In q us = same_Some (In p vs) (In q us) (sym a ∙ b) in
    (cc, cc)

-- ---- of what was answered

only_ok : (r : Result (Option Acting) OutOfMemory) (P Q : ℕ → List ℤ → Type 0) → ((i : ℕ) (args : List ℤ) → P i args → Q i args) → ((i : ℕ) (args : List ℤ) → Q i args → P i args) →
    IfOk r (IsOnly P) → IfOk r (IsOnly Q)
only_ok r P Q on back h = if_ok r (IsOnly P) (IsOnly Q) (λ found one. only_as P Q found on back one) h

module _ (D : Development) (w : World) (c : ℕ) (what : Option Event) (r : Result (Option Acting) OutOfMemory) where
  pub said_at_return : (vs : List ℤ) (x : On) → IfOk r (IsOnly (IsActionOn (column_count (first_system D)) w.columns vs (Some x))) → IfOk r (IsOnly (IsAtReturn D w c what vs (Some x)))
  said_at_return vs x h = only_ok r (IsActionOn (column_count (first_system D)) w.columns vs (Some x)) (IsAtReturn D w c what vs (Some x)) (λ i args z. z) (λ i args z. z) h

  pub on_edge : (p : ℕ) (e : EdgeKind) (vs : List ℤ) → IsClient w c (In p vs) → IfOk r (IsOnly (IsActionOn (column_count (first_system D)) w.columns vs (on_at D p e))) →
      IfOk r (IsOnly (IsActing D w c what (Some (Moved p e))))
  on_edge p e vs here h =
      only_ok r (IsActionOn (column_count (first_system D)) w.columns vs (on_at D p e)) (IsActing D w c what (Some (Moved p e)))
      (λ i args z. (vs, here, z))
      (λ i args z. subst (λ (us : List ℤ). IsActionOn (column_count (first_system D)) w.columns us (on_at D p e) i args) ((same_place w c p p (z.0) vs (z.1) here).1) (z.2)) h

  pub at_return : (p : ℕ) (vs ns : List ℤ) → IsClient w c (In p vs) → IfOk r (IsOnly (IsAtReturn D w c what vs (on_at D p Next))) → IfOk r (IsOnly (IsActing D w c what (Some (Returned ns))))
  at_return p vs ns here h =
      only_ok r (IsAtReturn D w c what vs (on_at D p Next)) (IsActing D w c what (Some (Returned ns))) (λ i args z. (p, vs, here, z)) back h
    where
      back : (i : ℕ) (args : List ℤ) → IsActing D w c what (Some (Returned ns)) i args → IsAtReturn D w c what vs (on_at D p Next) i args
      back i args (q, us, there, z) =
          let same = same_place w c q p us vs there here in
          subst (λ (n : ℕ). IsAtReturn D w c what vs (on_at D n Next) i args) (same.0) (subst (λ (xs : List ℤ). IsAtReturn D w c what xs (on_at D q Next) i args) (same.1) z)

-- ---- of an option

pub match_none : {X : Type 0} (o : Option X) (P : Type 0) (Q : X → Type 0) → o ≡ None → MatchOption o P Q → P
match_none o P Q e h = subst (λ x. MatchOption x P Q) e h
