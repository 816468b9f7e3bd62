-- Lists that are mapped to lists and joined.
use Rattle.std.proofs.Common.{◌≡◌, List, [], ◌∷◌, ◌++◌, refl, sym, ap, ◌∙◌, append_assoc}
use Rattle.lc_term.specs.Lists.{concat_map}

pub concat_map-append : {A B : Type 0} (f : A → List B) (xs ys : List A) → concat_map f (xs ++ ys) ≡ concat_map f xs ++ concat_map f ys
concat_map-append f [] ys = refl
concat_map-append f (x ∷ xs) ys = ap (λ zs. f x ++ zs) (concat_map-append f xs ys) ∙ sym (append_assoc (f x) (concat_map f xs) (concat_map f ys))

pub concat_map-concat : {A B C : Type 0} (f : B → List C) (g : A → List B) (xs : List A) → concat_map f (concat_map g xs) ≡ concat_map (λ x. concat_map f (g x)) xs
concat_map-concat f g [] = refl
concat_map-concat f g (x ∷ xs) = concat_map-append f (g x) (concat_map g xs) ∙ ap (λ zs. concat_map f (g x) ++ zs) (concat_map-concat f g xs)

pub concat_map-each : {A : Type 0} (xs : List A) → concat_map (λ x. x ∷ []) xs ≡ xs
concat_map-each [] = refl
concat_map-each (x ∷ xs) = ap (λ zs. x ∷ zs) (concat_map-each xs)
