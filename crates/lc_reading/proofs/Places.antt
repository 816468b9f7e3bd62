-- Names that are listed, and the place of each one's first occurrence.
use Rattle.std.proofs.Common.{◌≡◌, ℕ, suc, ◌+◌, ◌<◌, Bool, true, false, List, [], ◌∷◌, ◌++◌, Option, Some, None, refl, ap, ◌∙◌, cond, arith}
use Rattle.std.specs.Prelude.{option_map, is_some, ◌||◌, length}
use Rattle.std.specs.List.{list_any}
use Rattle.std.specs.Option.{option_or}
use Rattle.lc_lemmas.proofs.Options.{map-zero, one_before}
use Rattle.lc_reading.specs.Words.{is}
use Rattle.lc_reading.specs.Listed.{place_of}

later : (here there : Bool) (p : Option ℕ) (n : ℕ) → cond here (Some 0) (option_map suc (option_or p (cond there (Some n) None))) ≡ option_or (cond here (Some 0) (option_map suc p)) (cond there (Some (suc n)) None)
later true there p n = refl
later false there (Some k) n = refl
later false true None n = refl
later false false None n = refl

-- the place of a name if one more comes after the others
pub place_of_last : (vs : List (List ℕ)) (v w : List ℕ) → place_of (vs ++ v ∷ []) w ≡ option_or (place_of vs w) (cond (is w v) (Some (length vs)) None)
place_of_last [] v w = refl
place_of_last (u ∷ vs) v w = ap (λ p. cond (is w u) (Some 0) (option_map suc p)) (place_of_last vs v w) ∙ later (is w u) (is w v) (place_of vs w) (length vs)

placed : (here b : Bool) (p : Option ℕ) → is_some p ≡ b → is_some (cond here (Some 0) (option_map suc p)) ≡ (here || b)
placed true b p e = refl
placed false b None e = e
placed false b (Some k) e = e

-- a name has a place exactly if it is listed
pub has_place : (vs : List (List ℕ)) (w : List ℕ) → is_some (place_of vs w) ≡ list_any (is w) vs
has_place [] w = refl
has_place (u ∷ vs) w = placed (is w u) (list_any (is w) vs) (place_of vs w) (has_place vs w)

below : (here : Bool) (o : Option ℕ) (n p : ℕ) → ((q : ℕ) → o ≡ Some q → q < n) → cond here (Some 0) (option_map suc o) ≡ Some p → p < suc n
below true o n p later_below e = let zero_is : 0 ≡ p = cc in omega arith
below false None n p later_below e = cc
below false (Some q) n p later_below e = let next : suc q ≡ p = cc in omega (arith, later_below q refl)

-- a place is below the count of names
pub place_below : (vs : List (List ℕ)) (w : List ℕ) (p : ℕ) → place_of vs w ≡ Some p → p < length vs
place_below [] w p e = cc
place_below (v ∷ vs) w p e = below (is w v) (place_of vs w) (length vs) p (λ q h. place_below vs w q h) e

pub placed_before : (own others : List (List ℕ)) (w : List ℕ) (k : ℕ) → place_of own w ≡ Some k → place_of (own ++ others) w ≡ Some k
placed_before [] others w k e = cc
placed_before (v ∷ own) others w k e = by_first (is w v) k (place_of own w) (place_of (own ++ others) w) (placed_before own others w) e where
  by_first : (b : Bool) (k : ℕ) (o p : Option ℕ) → ((j : ℕ) → o ≡ Some j → p ≡ Some j) → cond b (Some 0) (option_map suc o) ≡ Some k → cond b (Some 0) (option_map suc p) ≡ Some k
  by_first true k o p f e = e
  by_first false k None p f e = absurd (cc)
  by_first false k (Some j) p f e = ap (option_map suc) (f j refl) ∙ e

pub place_behind : (vs ws : List (List ℕ)) (w : List ℕ) → place_of (vs ++ ws) w ≡ option_or (place_of vs w) (option_map (λ k. length vs + k) (place_of ws w))
place_behind [] ws w = map-zero (place_of ws w)
place_behind (v ∷ vs) ws w =
    ap (λ o. cond (is w v) (Some 0) (option_map suc o)) (place_behind vs ws w) ∙ one_before (length vs) (is w v) (place_of vs w) (place_of ws w)
