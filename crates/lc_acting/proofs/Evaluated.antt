-- The numbers of terms, one after another.
use Rattle.std.proofs.Common.{◌≡◌, ℕ, ◌<◌, ◌≤◌, ◌+◌, ℤ, List, [], ◌∷◌, ◌++◌, map, take, length, get_or, sym, ap, subst, ◌∙◌}
use Rattle.std.proofs.lemmas.List.{map_more, map-append, take_all}
use Rattle.lc_cond.proofs.Sized.{every_at}
use Rattle.lc_object.specs.View.{terms_of}
use Rattle.lc_term.specs.Meaning.{State, outside, value}
use Rattle.lc_term.specs.Syntax as S
use Rattle.lc_term.specs.Updates.{variable}
use Rattle.lc_term.specs.View.{term_of}
use Rattle.lc_term.specs.declared.term.Term.{Term}
use Rattle.lc_term.proofs.Chained.{every_one_more}
use Rattle.lc_acting.proofs.Viewed.{seen_at}
use Rattle.lc_acting.specs.Acting.{IsEvaluated, AreNumbers}

module _ (columns : ℕ) (m : State) (vs : List ℤ) (terms : List Term) (i : ℕ) where
  pub numbers_more : (t : Term) (n : ℤ) (ns new : List ℤ) → i < length terms → t ≡ get_or terms i t → IsEvaluated columns m vs (term_of t) → n ≡ value m (variable vs) outside (term_of t) → new ≡ ns ++ n ∷ [] →
      AreNumbers columns m vs (terms_of (take i terms)) ns → AreNumbers columns m vs (terms_of (take (i + 1) terms)) new
  numbers_more t n ns new lt is seen here more (all, same) =
      let f = value m (variable vs) outside in
      let before = terms_of (take i terms) in
      let longer : terms_of (take (i + 1) terms) ≡ before ++ term_of t ∷ [] = map_more term_of terms i t lt ∙ ap (λ (y : Term). before ++ term_of y ∷ []) (sym is) in
      let numbers : new ≡ map f (before ++ term_of t ∷ []) = more ∙ ((λ j. same j ++ here j ∷ []) ∙ sym (map-append f before (term_of t ∷ []))) in
      subst (λ (ts : List S.Term). AreNumbers columns m vs ts new) (sym longer) (every_one_more (IsEvaluated columns m vs) before (term_of t) all seen, numbers)

  pub numbers_none : (t : Term) → i < length terms → t ≡ get_or terms i t → (IsEvaluated columns m vs (term_of t) → ⊥) → (ns : List ℤ) → AreNumbers columns m vs (terms_of terms) ns → ⊥
  numbers_none t lt is not ns (all, same) = not (every_at (IsEvaluated columns m vs) (terms_of terms) i (term_of t) all (seen_at term_of terms i t lt is))

  pub numbers_all : (ns : List ℤ) → length terms ≤ i → AreNumbers columns m vs (terms_of (take i terms)) ns → AreNumbers columns m vs (terms_of terms) ns
  numbers_all ns past so = subst (λ (l : List Term). AreNumbers columns m vs (terms_of l) ns) (take_all i terms past) so
