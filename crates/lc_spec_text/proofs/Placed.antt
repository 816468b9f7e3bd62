-- Names that come before a place, and names that are declared one after another.
use Rattle.std.proofs.Common.{◌≡◌, ℕ, suc, zero, Bool, true, false, List, [], ◌∷◌, Option, Some, None, take, refl, sym, ap, ◌∙◌, cond, arith}
use Rattle.std.specs.Prelude.{option_map, ◌||◌, nat_lt}
use Rattle.std.specs.List.{list_any}
use Rattle.std.proofs.lemmas.Bool.Decides.{nat_tests}
use Rattle.lc_lemmas.proofs.Numbers.{later_test, first_test}
use Rattle.lc_reading.specs.Words.{is}
use Rattle.lc_reading.specs.Listed.{place_of}

-- the place is before this one
abbrev pub is_before : ℕ → Option ℕ → Bool
is_before k None = false
is_before k (Some p) = nat_lt p k

never : (o : Option ℕ) → false ≡ is_before 0 o
never None = refl
never (Some p) = grind (arith, nat_tests)

step : (here b : Bool) (k : ℕ) (o : Option ℕ) → b ≡ is_before k o → (here || b) ≡ is_before (suc k) (cond here (Some 0) (option_map suc o))
step true b k o e = first_test k
step false b k None e = e
step false b k (Some p) e = e ∙ later_test p k

-- a name is among the first of names exactly if its first place is before
pub stands_before : (vs : List (List ℕ)) (w : List ℕ) (k : ℕ) → list_any (is w) (take k vs) ≡ is_before k (place_of vs w)
stands_before [] w zero = refl
stands_before [] w (suc k) = refl
stands_before (v ∷ vs) w zero = never (place_of (v ∷ vs) w)
stands_before (v ∷ vs) w (suc k) = step (is w v) (list_any (is w) (take k vs)) k (place_of vs w) (stands_before vs w k)

pub not_placed : (vs : List (List ℕ)) (w : List ℕ) (k : ℕ) → place_of vs w ≡ None → false ≡ list_any (is w) (take k vs)
not_placed vs w k e = sym (stands_before vs w k ∙ ap (is_before k) e)

pub place_within_front : (vs : List (List ℕ)) (w : List ℕ) (k p : ℕ) → place_of vs w ≡ Some p → nat_lt p k ≡ list_any (is w) (take k vs)
place_within_front vs w k p e = sym (stands_before vs w k ∙ ap (is_before k) e)
