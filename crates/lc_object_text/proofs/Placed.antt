-- Names that come before a place.
use Rattle.std.proofs.Common.{◌≡◌, ℕ, suc, zero, ◌+◌, Bool, true, false, List, [], ◌∷◌, ◌++◌, length, Option, Some, None, take, refl, sym, ap, ◌∙◌, cond, arith}
use Rattle.std.proofs.Math.Seq.{take-append-add}
use Rattle.std.proofs.lemmas.List.Folds.{list_any-append}
use Rattle.std.specs.Prelude.{option_map, ◌||◌, nat_lt}
use Rattle.std.specs.List.{list_any}
use Rattle.std.specs.Option.{option_or}
use Rattle.std.proofs.lemmas.Bool.Decides.{nat_tests}
use Rattle.lc_lemmas.proofs.Numbers.{later_test, first_test}
use Rattle.lc_reading.specs.Words.{is}
use Rattle.lc_reading.specs.Listed.{place_of}
use Rattle.lc_reading.proofs.Places.{place_behind}

-- the place is before this one
abbrev pub is_before : ℕ → Option ℕ → Bool
is_before k None = false
is_before k (Some p) = nat_lt p k

never : (o : Option ℕ) → false ≡ is_before 0 o
never None = refl
never (Some p) = grind (arith, nat_tests)

step : (here b : Bool) (k : ℕ) (o : Option ℕ) → b ≡ is_before k o → (here || b) ≡ is_before (suc k) (cond here (Some 0) (option_map suc o))
step true b k o e = first_test k
step false b k None e = e
step false b k (Some p) e = e ∙ later_test p k

-- a name is among the first of names exactly if its first place is before
pub stands_before : (vs : List (List ℕ)) (w : List ℕ) (k : ℕ) → list_any (is w) (take k vs) ≡ is_before k (place_of vs w)
stands_before [] w zero = refl
stands_before [] w (suc k) = refl
stands_before (v ∷ vs) w zero = never (place_of (v ∷ vs) w)
stands_before (v ∷ vs) w (suc k) = step (is w v) (list_any (is w) (take k vs)) k (place_of vs w) (stands_before vs w k)

pub not_placed : (vs : List (List ℕ)) (w : List ℕ) (k : ℕ) → place_of vs w ≡ None → false ≡ list_any (is w) (take k vs)
not_placed vs w k e = sym (stands_before vs w k ∙ ap (is_before k) e)

pub placed_before_any : (vs : List (List ℕ)) (w : List ℕ) (k p : ℕ) → place_of vs w ≡ Some p → nat_lt p k ≡ list_any (is w) (take k vs)
placed_before_any vs w k p e = sym (stands_before vs w k ∙ ap (is_before k) e)

-- a name is among names and the first of those after them exactly if it is among either
pub stands_behind : (us vs : List (List ℕ)) (w : List ℕ) (k : ℕ) → (list_any (is w) us || list_any (is w) (take k vs)) ≡ list_any (is w) (take (length us + k) (us ++ vs))
stands_behind us vs w k = sym (ap (list_any (is w)) (take-append-add us vs k) ∙ list_any-append (is w) us (take k vs))

one_more : (here : Bool) (n : ℕ) (o p : Option ℕ) → cond here (Some 0) (option_map suc (option_or o (option_map (λ k. n + k) p))) ≡ option_or (cond here (Some 0) (option_map suc o)) (option_map (λ k. suc n + k) p)
one_more true n o p = refl
one_more false n (Some q) p = refl
one_more false n None None = refl
one_more false n None (Some k) = ap Some (omega arith)

pub among_first : (us vs : List (List ℕ)) (w : List ℕ) (p : ℕ) → place_of us w ≡ Some p → Some p ≡ place_of (us ++ vs) w
among_first us vs w p e = sym (place_behind us vs w ∙ ap (λ o. option_or o (option_map (λ k. length us + k) (place_of vs w))) e)

pub among_others : (us vs : List (List ℕ)) (w : List ℕ) (o : Option ℕ) → place_of us w ≡ None → place_of vs w ≡ o → option_map (λ k. length us + k) o ≡ place_of (us ++ vs) w
among_others us vs w o e f = sym (place_behind us vs w ∙ ap (λ q. option_or q (option_map (λ k. length us + k) (place_of vs w))) e ∙ ap (option_map (λ k. length us + k)) f)
