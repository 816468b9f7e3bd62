-- The list of the conditions is that of its parts, one after another.
use Rattle.std.proofs.Common.{◌≡◌, ℕ, suc, List, [], ◌∷◌, ◌++◌, map, refl, ap, ap₂, ◌∙◌, append-nil}
use Rattle.lc_term.specs.Lists.{concat_map, numbered, concat_places}
use Rattle.lc_object.specs.Edges.{edges}
use Rattle.lc_outline.specs.Development.{Development}
use Rattle.lc_cond.specs.Conditions.{Begin, Pass, Stay, StayIdle, parts, conditions_in, conditions, idle_stability, start_conditions}
use Rattle.lc_rider.proofs.Lists.{concat_map-append}

concat_numbered : {A B C : Type 0} (f : B → List C) (g : ℕ → A → B) (k : ℕ) (xs : List A) → concat_map f (numbered g k xs) ≡ concat_places (λ n x. f (g n x)) k xs
concat_numbered f g k [] = refl
concat_numbered f g k (x ∷ xs) = ap (λ zs. f (g k x) ++ zs) (concat_numbered f g (suc k) xs)

concat_mapped : {A B C : Type 0} (f : B → List C) (g : A → B) (xs : List A) → concat_map f (map g xs) ≡ concat_map (λ x. f (g x)) xs
concat_mapped f g [] = refl
concat_mapped f g (x ∷ xs) = ap (λ zs. f (g x) ++ zs) (concat_mapped f g xs)

pub in_parts : (D : Development) → concat_map (conditions_in D) (parts D) ≡ conditions D
in_parts D =
    ap (λ zs. start_conditions D ++ zs)
    (concat_map-append (conditions_in D) (numbered Begin 0 D.object.operations) (map Pass (edges D.object) ++ (numbered Stay 0 D.object.points ++ StayIdle ∷ []))
    ∙ ap₂ (λ xs ys. xs ++ ys) (concat_numbered (conditions_in D) Begin 0 D.object.operations)
    (concat_map-append (conditions_in D) (map Pass (edges D.object)) (numbered Stay 0 D.object.points ++ StayIdle ∷ [])
    ∙ ap₂ (λ xs ys. xs ++ ys) (concat_mapped (conditions_in D) Pass (edges D.object))
    (concat_map-append (conditions_in D) (numbered Stay 0 D.object.points) (StayIdle ∷ [])
    ∙ ap₂ (λ xs ys. xs ++ ys) (concat_numbered (conditions_in D) Stay 0 D.object.points) (append-nil (idle_stability D)))))
