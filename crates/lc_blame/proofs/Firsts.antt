-- The first of some things, found part by part.
use Rattle.std.proofs.Common.{◌≡◌, ℕ, zero, suc, true, false, ◌<◌, ◌≤◌, ◌+◌, List, [], ◌∷◌, ◌++◌, map, take, length, get_or, refl, sym, ap, subst, ◌∙◌, arith}
use Rattle.std.specs.Prelude.{Option, Some, None, option_map, is_some, slice_get}
use Rattle.std.proofs.lemmas.Bool.{false≢true}
use Rattle.std.proofs.lemmas.List.{map_more, take_all, get_or_default}
use Rattle.std.proofs.lemmas.Option.{same_Some, slice_get_within, slice_get-map}
use Rattle.lc_cond.proofs.Sized.{every_at}
use Rattle.lc_lemmas.proofs.Lists.{kept_left, get_in_front, get_taken}
use Rattle.lc_term.specs.Lists.{Every}
use Rattle.lc_term.proofs.Chained.{every_one_more}
use Rattle.lc_acting.proofs.Viewed.{seen_at}
use Rattle.lc_blame.specs.Blame.{IsFirst}

-- of two lists for which each element is so, it is so of both together
pub every_joined : {A : Type 0} (P : A → Type 0) (xs ys : List A) → Every P xs → Every P ys → Every P (xs ++ ys)
every_joined P [] ys a b = b
every_joined P (x ∷ xs) ys a b = (a.0, every_joined P xs ys a.1 b)

module _ {A : Type 0} (Is : A → Type 0) where
  -- what is found in a list is found in a longer one
  in_longer : (cs rest : List A) (n : ℕ) → IsFirst Is cs (Some n) → IsFirst Is (cs ++ rest) (Some n)
  in_longer cs rest n (found, before) = ((found.0, kept_left cs rest n found.0 found.1, found.2), earlier)
    where
      earlier : (j : ℕ) (y : A) → j < n → slice_get (cs ++ rest) j ≡ Some y → Is y → ⊥
      earlier j y lt e is =
          let there : n < length cs = slice_get_within cs n found.0 found.1 in
          let below : j < length cs = omega (arith, lt, there) in
          before j y lt (sym (get_in_front cs rest j below) ∙ e) is

  -- one that is not so before it
  behind_one : (x : A) (xs : List A) (n : ℕ) → (Is x → ⊥) → IsFirst Is xs (Some n) → IsFirst Is (x ∷ xs) (Some (suc n))
  behind_one x xs n not (found, before) = ((found.0, found.1, found.2), earlier)
    where
      earlier : (j : ℕ) (y : A) → j < suc n → slice_get (x ∷ xs) j ≡ Some y → Is y → ⊥
      earlier zero y lt e is = not (subst Is (sym (same_Some x y e)) is)
      earlier (suc j) y lt e is = before j y (omega (arith, lt)) e is

  -- some that are not so before it
  behind : (passed xs : List A) (n m : ℕ) → m ≡ length passed + n → Every (λ x. Is x → ⊥) passed → IsFirst Is xs (Some n) → IsFirst Is (passed ++ xs) (Some m)
  behind [] xs n m e none first = subst (λ (k : ℕ). IsFirst Is xs (Some k)) (let same : n ≡ m = omega (arith, e) in same) first
  behind (x ∷ passed) xs n m e none first =
      let k = length passed + n in
      let same : suc k ≡ m = omega (arith, e) in
      subst (λ (i : ℕ). IsFirst Is (x ∷ passed ++ xs) (Some i)) same (behind_one x (passed ++ xs) k none.0 (behind passed xs n k refl none.1 first))

  -- what is found among those that come next
  pub found_next : (passed cs rest all : List A) (n m : ℕ) → passed ++ (cs ++ rest) ≡ all → m ≡ length passed + n → Every (λ x. Is x → ⊥) passed → IsFirst Is cs (Some n) → IsFirst Is all (Some m)
  found_next passed cs rest all n m same e none first =
      subst (λ (l : List A). IsFirst Is l (Some m)) same (behind passed (cs ++ rest) n m e none (in_longer cs rest n first))

  -- a part of them, in which one was found
  pub found_in_part : (passed cs rest all : List A) (first : ℕ) (place found : Option ℕ) → passed ++ (cs ++ rest) ≡ all → first ≡ length passed → Every (λ x. Is x → ⊥) passed → IsFirst Is cs place →
      found ≡ option_map (λ k. first + k) place → is_some found ≡ true → IsFirst Is all found
  found_in_part passed cs rest all first None found same e none so is some = absurd (false≢true (ap is_some (sym is) ∙ some))
  found_in_part passed cs rest all first (Some i) found same e none so is some =
      subst (λ (o : Option ℕ). IsFirst Is all o) (sym is) (found_next passed cs rest all i (first + i) same (omega (arith, e)) none so)

  -- or in which none was
  pub part_passed : (passed cs : List A) (first : ℕ) (place found : Option ℕ) → Every (λ x. Is x → ⊥) passed → IsFirst Is cs place → found ≡ option_map (λ k. first + k) place → is_some found ≡ false →
      Every (λ x. Is x → ⊥) (passed ++ cs)
  part_passed passed cs first None found none so is not = every_joined (λ x. Is x → ⊥) passed cs none so
  part_passed passed cs first (Some i) found none so is not = absurd (false≢true (sym not ∙ ap is_some is))

-- ---- elements, one after another, each of something

module _ {A B : Type 0} (Is : B → Type 0) (f : A → B) (xs : List A) (i : ℕ) where
  pub found_at : (x : A) → i < length xs → x ≡ get_or xs i x → Is (f x) → Every (λ y. Is y → ⊥) (map f (take i xs)) → IsFirst Is (map f xs) (Some i)
  found_at x lt is so none = ((f x, seen_at f xs i x lt is, so), earlier)
    where
      earlier : (j : ℕ) (y : B) → j < i → slice_get (map f xs) j ≡ Some y → Is y → ⊥
      earlier j y below e here =
          every_at (λ z. Is z → ⊥) (map f (take i xs)) j y none
          (slice_get-map f (take i xs) j ∙ (ap (option_map f) (get_taken xs i j below) ∙ (sym (slice_get-map f xs j) ∙ e))) here

  pub none_more : (x : A) → i < length xs → x ≡ get_or xs i x → (Is (f x) → ⊥) → Every (λ y. Is y → ⊥) (map f (take i xs)) → Every (λ y. Is y → ⊥) (map f (take (i + 1) xs))
  none_more x lt is not all =
      subst (λ (l : List B). Every (λ y. Is y → ⊥) l) (sym (map_more f xs i x lt ∙ ap (λ (y : A). map f (take i xs) ++ f y ∷ []) (sym is)))
      (every_one_more (λ y. Is y → ⊥) (map f (take i xs)) (f x) all not)

  pub none_all : length xs ≤ i → Every (λ y. Is y → ⊥) (map f (take i xs)) → Every (λ y. Is y → ⊥) (map f xs)
  none_all past all = subst (λ (l : List A). Every (λ y. Is y → ⊥) (map f l)) (take_all i xs past) all

  pub not_none : (x : A) → i < length xs → x ≡ get_or xs i x → Is (f x) → Every (λ y. Is y → ⊥) (map f xs) → ⊥
  not_none x lt is so none = every_at (λ y. Is y → ⊥) (map f xs) i (f x) none (seen_at f xs i x lt is) so

-- an element that is read is itself, whatever stands for one that is not there
pub read_is : {A : Type 0} (xs : List A) (i : ℕ) (d : A) → i < length xs → get_or xs i d ≡ get_or xs i (get_or xs i d)
read_is xs i d lt = get_or_default xs i d (get_or xs i d) lt
