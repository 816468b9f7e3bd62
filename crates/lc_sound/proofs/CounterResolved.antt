-- The counter's development is resolved.
use Rattle.std.proofs.Common.{◌≡◌, ℕ, zero, suc, Some, refl, sym, ap, ◌∙◌, subst, inl, inr, arith}
use Rattle.std.specs.Prelude.{slice_get}
use Rattle.std.proofs.lemmas.Option.{same_Some}
use Rattle.lc_term.specs.Lists.{Every, IsIn}
use Rattle.lc_object.specs.Syntax.{Point, Operation}
use Rattle.lc_object.specs.Edges.{Edge, edges}
use Rattle.lc_object.specs.WellFormed.{variable_count}
use Rattle.lc_object.specs.Places.{operation_at}
use Rattle.lc_outline.specs.Development.{Development, ons_at, on_at, asserts_at}
use Rattle.lc_outline.specs.Resolved.{IsBelow, AreArgumentsBelow, IsResolved, IsOnResolved}
use Rattle.lc_sound.specs.Examples.{AreResolved}
use Rattle.lc_cond.specs.Counter.{counter, racy, add_action, look_action}

-- the assertions at a point whose operation is known
module _ (D : Development) where
  fits : (p : ℕ) (P : Point) (O : Operation) → slice_get D.object.points p ≡ Some P → slice_get D.object.operations P.operation ≡ Some O → Every (IsBelow (variable_count O)) (asserts_at D p) →
      (point : Point) (o : Operation) → slice_get D.object.points p ≡ Some point → slice_get D.object.operations point.operation ≡ Some o → Every (IsBelow (variable_count o)) (asserts_at D p)
  fits p P O at is h point o here code =
      let same : P ≡ point = same_Some P point (sym at ∙ here) in
      let op : O ≡ o = same_Some O o (sym is ∙ (ap (λ (x : Point). slice_get D.object.operations x.operation) same ∙ code)) in
      subst (λ (x : Operation). Every (IsBelow (variable_count x)) (asserts_at D p)) op h

asserted : (p : ℕ) (point : Point) (o : Operation) → slice_get counter.object.points p ≡ Some point → slice_get counter.object.operations point.operation ≡ Some o → Every (IsBelow (variable_count o)) (asserts_at counter p)
asserted zero = fits counter 0 _ _ refl refl (refl, tt)
asserted (suc zero) = fits counter 1 _ _ refl refl (refl, tt)
asserted (suc (suc zero)) = fits counter 2 _ _ refl refl (refl, (refl, tt))
asserted (suc (suc (suc zero))) = fits counter 3 _ _ refl refl (refl, tt)
asserted (suc (suc (suc (suc zero)))) = fits counter 4 _ _ refl refl (refl, (refl, tt))
asserted (suc (suc (suc (suc (suc p))))) = λ point o here code. absurd (cc here)

called : (p n : ℕ) → Every (AreArgumentsBelow n) (ons_at counter p)
called zero n = tt
called (suc zero) n = (tt, tt)
called (suc (suc zero)) n = tt
called (suc (suc (suc zero))) n = (tt, tt)
called (suc (suc (suc (suc zero)))) n = tt
called (suc (suc (suc (suc (suc p))))) n = tt

abbrev Fine : Edge → Type 0
Fine e = IsOnResolved counter (operation_at counter.object e.point) e (on_at counter e.point e.kind)

at_edges : (e : Edge) → IsIn e (edges counter.object) → Fine e
at_edges e (inl is) = subst Fine (sym is) refl
at_edges e (inr (inl is)) = subst Fine (sym is) ((add_action, refl, refl), ((tt, tt), tt))
at_edges e (inr (inr (inl is))) = subst Fine (sym is) refl
at_edges e (inr (inr (inr (inl is)))) = subst Fine (sym is) refl
at_edges e (inr (inr (inr (inr (inl is))))) = subst Fine (sym is) ((look_action, refl, refl), ((tt, tt), tt))
at_edges e (inr (inr (inr (inr (inr (inl is)))))) = subst Fine (sym is) refl
at_edges e (inr (inr (inr (inr (inr (inr none)))))) = absurd none

pub counter_resolved : IsResolved counter
counter_resolved = record {
  object = refl;
  specification = refl;
  abstracts = refl;
  operations = (refl, refl, tt, (refl, refl, tt, tt));
  invariant = (refl, tt);
  idle = tt;
  actions = ((omega arith, (omega arith, (omega arith, (omega arith, tt)))), ((omega arith, (omega arith, tt)), tt));
  parameters = (omega arith, (omega arith, tt));
  asserts = asserted;
  arguments = λ p point o at is. called p (variable_count o);
  ons = at_edges;
}

-- ---- the racy one

asserted_racy : (p : ℕ) (point : Point) (o : Operation) → slice_get racy.object.points p ≡ Some point → slice_get racy.object.operations point.operation ≡ Some o → Every (IsBelow (variable_count o)) (asserts_at racy p)
asserted_racy zero = fits racy 0 _ _ refl refl (refl, tt)
asserted_racy (suc zero) = fits racy 1 _ _ refl refl (refl, tt)
asserted_racy (suc (suc zero)) = fits racy 2 _ _ refl refl (refl, (refl, tt))
asserted_racy (suc (suc (suc zero))) = fits racy 3 _ _ refl refl (refl, tt)
asserted_racy (suc (suc (suc (suc zero)))) = fits racy 4 _ _ refl refl (refl, (refl, tt))
asserted_racy (suc (suc (suc (suc (suc p))))) = λ point o here code. absurd (cc here)

called_racy : (p n : ℕ) → Every (AreArgumentsBelow n) (ons_at racy p)
called_racy zero n = tt
called_racy (suc zero) n = (tt, tt)
called_racy (suc (suc zero)) n = tt
called_racy (suc (suc (suc zero))) n = (tt, tt)
called_racy (suc (suc (suc (suc zero)))) n = tt
called_racy (suc (suc (suc (suc (suc p))))) n = tt

abbrev FineRacy : Edge → Type 0
FineRacy e = IsOnResolved racy (operation_at racy.object e.point) e (on_at racy e.point e.kind)

at_racy : (e : Edge) → IsIn e (edges racy.object) → FineRacy e
at_racy e (inl is) = subst FineRacy (sym is) refl
at_racy e (inr (inl is)) = subst FineRacy (sym is) ((add_action, refl, refl), ((tt, tt), tt))
at_racy e (inr (inr (inl is))) = subst FineRacy (sym is) refl
at_racy e (inr (inr (inr (inl is)))) = subst FineRacy (sym is) ((look_action, refl, refl), ((tt, tt), tt))
at_racy e (inr (inr (inr (inr (inl is))))) = subst FineRacy (sym is) refl
at_racy e (inr (inr (inr (inr (inr none))))) = absurd none

pub racy_resolved : IsResolved racy
racy_resolved = record {
  object = refl;
  specification = refl;
  abstracts = refl;
  operations = (refl, refl, tt, (refl, refl, tt, tt));
  invariant = (refl, tt);
  idle = tt;
  actions = ((omega arith, (omega arith, (omega arith, (omega arith, tt)))), ((omega arith, (omega arith, tt)), tt));
  parameters = (omega arith, (omega arith, tt));
  asserts = asserted_racy;
  arguments = λ p point o at is. called_racy p (variable_count o);
  ons = at_racy;
}

pub both_resolved : AreResolved
both_resolved = (counter_resolved, racy_resolved)
