-- The other clients: their assertions are stable under the action that was taken.
use Rattle.std.proofs.Common.{◌≡◌, ℕ, suc, ◌+◌, ◌<◌, ◌≤◌, List, [], ◌∷◌, ◌++◌, ℤ, pos, ◌+ℤ◌, ◌≤ℤ◌, map, length, None, refl, sym, ap, ap₂, ◌∙◌, subst, arith, ltb-true}
use Rattle.std.proofs.lemmas.Int.{ints}
use Rattle.std.proofs.Math.ListN.{get_or-append}
use Rattle.std.proofs.lemmas.List.{get_or-append-add}
use Rattle.lc_term.specs.Updates.{stored_all, writes_of, variable}
use Rattle.lc_term.specs.Syntax.{Term, Variable, Base, Formula, Eq, Not}
use Rattle.lc_term.specs.Meaning.{State, Env, outside, value, Holds, EachHolds}
use Rattle.lc_term.specs.Replacement.{replacing, replace}
use Rattle.lc_term.proofs.Agree.{Holds-agree}
use Rattle.lc_term.proofs.Substituted.{Holds-replacing}
use Rattle.lc_term.specs.Lists.{Every}
use Rattle.lc_term.specs.Said.{after, told, variables_from}
use Rattle.lc_action.specs.Action.{Action, Acts}
use Rattle.lc_outline.specs.Development.{invariant_of, Development}
use Rattle.lc_cond.specs.Conditions.{range, stable_under}
use Rattle.lc_outline.specs.Resolved.{variables_below, IsBelow}
use Rattle.lc_sound.specs.Valid.{IsValid}
use Rattle.lc_term.proofs.Symbolic.{columns_by, values_by, columns_by-after, Holds-told, each-append, values_from}

-- a formula of the first n variables
pub below_agree : (m : State) (a b : Env) (n : ℕ) (f : Formula) → ((k : ℕ) → k < n → a k ≡ b k) → IsBelow n f → Holds m a outside f ≡ Holds m b outside f
below_agree m a b n f h is = Holds-agree (variables_below n) m m a b (λ c t. refl) (λ k t. h k (ltb-true k n t)) outside 0 f is

pub each_agree : (m : State) (a b : Env) (n : ℕ) (fs : List Formula) → ((k : ℕ) → k < n → a k ≡ b k) → Every (IsBelow n) fs → EachHolds m a fs → EachHolds m b fs
each_agree m a b n [] h is p = tt
each_agree m a b n (f ∷ fs) h is p = (subst (λ X. X) (below_agree m a b n f h is.0) p.0, each_agree m a b n fs h is.1 p.1)

module _ (D : Development) (clients : ℕ) (s m : State) (u r : ℕ) (vs xs : List ℤ) (a : Action) (zeroth : variable vs 0 ≡ pos clients) (first : variable vs 1 ≡ pos r) (two : 2 ≤ length vs) (fits : length xs ≡ length a.parameters) where
  -- the variables of the client, then u, then the action's parameters
  abbrev wide : Env
  wide = variable (vs ++ pos u ∷ xs)

  in_front : (k : ℕ) → k < length vs → wide k ≡ variable vs k
  in_front k h = get_or-append vs (pos u ∷ xs) (pos 0) k h

  at_u : wide (length vs) ≡ pos u
  at_u = ap wide (omega arith) ∙ get_or-append-add vs (pos u ∷ xs) 0 (pos 0)

  behind : (k : ℕ) → wide (suc (length vs) + k) ≡ variable xs k
  behind k = ap wide (omega arith) ∙ get_or-append-add vs (pos u ∷ xs) (suc k) (pos 0)

  abbrev τ : List Term
  τ = Variable 0 ∷ Variable (length vs) ∷ variables_from (suc (length vs)) (length a.parameters)

  values_are : values_by s wide τ ≡ pos clients ∷ pos u ∷ xs
  values_are =
      ap₂ (λ x ys. x ∷ ys) (in_front 0 (omega arith) ∙ zeroth) (ap₂ (λ x ys. x ∷ ys) at_u
      (subst (λ k. values_by s wide (variables_from (suc (length vs)) k) ≡ xs) fits (values_from s wide xs (suc (length vs)) behind)))

  state_is : Acts clients a u xs s m → columns_by s wide (after Base τ a.updates) ≡ m
  state_is h = columns_by-after s wide Base τ a.updates ∙ ((λ i. stored_all s (writes_of s (variable (values_are i)) a.updates)) ∙ sym h.1)

  same_said : Acts clients a u xs s m → (f : Formula) → Holds s wide outside (replace (replacing (after Base τ a.updates) Variable) f) ≡ Holds m wide outside f
  same_said h f = Holds-replacing s wide outside (after Base τ a.updates) Variable f ∙ (λ i. Holds (state_is h i) wide outside f)

  all_said : Acts clients a u xs s m → (fs : List Formula) → EachHolds m wide fs → EachHolds s wide (map (replace (replacing (after Base τ a.updates) Variable)) fs)
  all_said h [] p = tt
  all_said h (f ∷ fs) p = (subst (λ X. X) (sym (same_said h f)) p.0, all_said h fs p.1)

  ranged : (t : Term) (x : ℕ) → value s wide outside t ≡ pos x → x < clients → EachHolds s wide (range t)
  ranged t x is lt = (
    subst (λ z. pos 0 ≤ℤ z) (sym is) (omega (arith, ints)),
    (subst (λ z. (value s wide outside t +ℤ pos 1) ≤ℤ z) (sym (in_front 0 (omega arith) ∙ zeroth)) (subst (λ z. (z +ℤ pos 1) ≤ℤ pos clients) (sym is) (omega (arith, ints))), tt),
  )

  pub stable_holds : u < clients → r < clients → (r ≡ u → ⊥) → Acts clients a u xs s m →
      ((e : Env) → e 0 ≡ pos clients → EachHolds s e (invariant_of D)) → ((e : Env) → e 0 ≡ pos clients → EachHolds m e (invariant_of D)) →
      (frame asserts : List Formula) → Every (IsBelow (length vs)) frame → Every (IsBelow (length vs)) asserts →
      EachHolds s (variable vs) frame → EachHolds s (variable vs) asserts →
      (fs : List Formula) → Every (IsBelow (length vs)) fs → Every (λ f. IsValid (stable_under D None (length vs) (frame ++ ((invariant_of D) ++ asserts)) 0 f 0 a)) fs → EachHolds m (variable vs) fs
  stable_holds hu hr ne acts inv inv' frame asserts bf ba hf ha [] b v = tt
  stable_holds hu hr ne acts inv inv' frame asserts bf ba hf ha (f ∷ fs) b v = (
    subst (λ X. X) (below_agree m wide (variable vs) (length vs) f in_front b.0) (subst (λ X. X) (same_said acts f) (v.0.holds s wide hyps)),
    stable_holds hu hr ne acts inv inv' frame asserts bf ba hf ha fs b.1 v.1,
  )
    where
      back : (k : ℕ) → k < length vs → variable vs k ≡ wide k
      back k h = sym (in_front k h)

      zero-is : wide 0 ≡ pos clients
      zero-is = in_front 0 (omega arith) ∙ zeroth

      one-is : wide 1 ≡ pos r
      one-is = in_front 1 (omega arith) ∙ first

      distinct : Holds s wide outside (Not (Eq (Variable 1) (Variable (length vs))))
      distinct e = ne (omega (arith, ints, sym one-is ∙ (e ∙ at_u)))

      guard : Holds s wide outside (told Base τ a.guard)
      guard = subst (λ X. X) (sym (Holds-told s wide Base τ a.guard ∙ (λ i. Holds s (variable (values_are i)) outside a.guard))) acts.0

      base : EachHolds s wide (frame ++ ((invariant_of D) ++ asserts))
      base = each-append s wide frame ((invariant_of D) ++ asserts) (each_agree s (variable vs) wide (length vs) frame back bf hf)
          (each-append s wide (invariant_of D) asserts (inv wide zero-is) (each_agree s (variable vs) wide (length vs) asserts back ba ha))

      later : EachHolds s wide (map (replace (replacing (after Base τ a.updates) Variable)) (invariant_of D))
      later = all_said acts (invariant_of D) (inv' wide zero-is)

      hyps : EachHolds s wide (stable_under D None (length vs) (frame ++ ((invariant_of D) ++ asserts)) 0 f 0 a).hypotheses
      hyps =
          let tail : List Formula = told Base τ a.guard ∷ map (replace (replacing (after Base τ a.updates) Variable)) (invariant_of D) in
          let middle : List Formula = Not (Eq (Variable 1) (Variable (length vs))) ∷ ((frame ++ ((invariant_of D) ++ asserts)) ++ tail) in
          each-append s wide (range (Variable 1)) (range (Variable (length vs)) ++ middle) (ranged (Variable 1) r one-is hr)
          (each-append s wide (range (Variable (length vs))) middle (ranged (Variable (length vs)) u at_u hu)
          (distinct, each-append s wide (frame ++ ((invariant_of D) ++ asserts)) tail base (guard, later)))
