-- Lists of formulas.
use Rattle.std.proofs.Common.{◌≡◌, ℕ, suc, zero, ◌<◌, Bool, true, false, ◌&&◌, List, [], ◌∷◌, length, drop, get_or, refl, ap, ◌∙◌, arith, take, ◌++◌, sym, append_assoc, append-nil}
use Rattle.lc_term.specs.Syntax.{formulas}
use Rattle.lc_term.specs.Equal.{formula_eq, formulas_eq}
use Rattle.lc_term.specs.View.{formulas_of, formula_of}
use Rattle.lc_term.specs.declared.formula.Formula.{Formula}
use Rattle.lc_term.specs.Lists.{Every, concat_map}
use Rattle.lc_term.proofs.Stores.{Every-append}

and_false : (b : Bool) → false ≡ (b && false)
and_false true = refl
and_false false = refl

pub formulas_eq_lengths : (fs gs : List Formula) → (length fs ≡ length gs → ⊥) → false ≡ formulas_eq (formulas (formulas_of fs)) (formulas (formulas_of gs))
formulas_eq_lengths [] [] h = absurd (h refl)
formulas_eq_lengths [] (g ∷ gs) h = refl
formulas_eq_lengths (f ∷ fs) [] h = refl
formulas_eq_lengths (f ∷ fs) (g ∷ gs) h =
    and_false (formula_eq (formula_of f) (formula_of g)) ∙ ap (λ b. formula_eq (formula_of f) (formula_of g) && b) (formulas_eq_lengths fs gs (λ e. h (ap suc e)))

pub formulas_eq_drop : (i : ℕ) (fs gs : List Formula) (d : Formula) → i < length fs → i < length gs →
    formulas_eq (formulas (formulas_of (drop i fs))) (formulas (formulas_of (drop i gs))) ≡
    (formula_eq (formula_of (get_or fs i d)) (formula_of (get_or gs i d)) && formulas_eq (formulas (formulas_of (drop (suc i) fs))) (formulas (formulas_of (drop (suc i) gs))))
formulas_eq_drop i [] gs d h k = absurd (omega arith)
formulas_eq_drop i (f ∷ fs) [] d h k = absurd (omega arith)
formulas_eq_drop zero (f ∷ fs) (g ∷ gs) d h k = refl
formulas_eq_drop (suc i) (f ∷ fs) (g ∷ gs) d h k = formulas_eq_drop i fs gs d (omega arith) (omega arith)

pub Every-take : {A : Type 0} (P : A → Type 0) (n : ℕ) (xs : List A) → Every P xs → Every P (take n xs)
Every-take P zero xs h = tt
Every-take P (suc n) [] h = tt
Every-take P (suc n) (x ∷ xs) h = (h.0, Every-take P n xs h.1)

pub joined_last : {A B : Type 0} (f : A → List B) (xs : List A) (y : A) → concat_map f (xs ++ y ∷ []) ≡ concat_map f xs ++ f y
joined_last f [] y = append-nil (f y)
joined_last f (x ∷ xs) y = ap (λ l. f x ++ l) (joined_last f xs y) ∙ sym (append_assoc (f x) (concat_map f xs) (f y))

pub every_joined : {A B : Type 0} (P : B → Type 0) (f : A → List B) (xs : List A) → Every (λ x. Every P (f x)) xs → Every P (concat_map f xs)
every_joined P f [] h = tt
every_joined P f (x ∷ xs) h = Every-append P (f x) (concat_map f xs) h.0 (every_joined P f xs h.1)
