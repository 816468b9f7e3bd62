-- The view of an element.
use Rattle.std.proofs.Common.{◌≡◌, ℕ, ◌<◌, List, map, length, get_or, sym, subst}
use Rattle.std.specs.Prelude.{Some, slice_get}
use Rattle.std.proofs.lemmas.List.{length-map}
use Rattle.lc_lemmas.proofs.Lists.{viewed_at}

pub seen_at : {A B : Type 0} (f : A → B) (xs : List A) (i : ℕ) (x : A) → i < length xs → x ≡ get_or xs i x → slice_get (map f xs) i ≡ Some (f x)
seen_at f xs i x lt is = viewed_at f xs i x (subst (λ n. i < n) (sym (length-map xs f)) lt) is
