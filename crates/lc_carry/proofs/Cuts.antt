-- A text that is cut byte by byte.
use Rattle.std.proofs.Common.{◌≡◌, ℕ, suc, ◌+◌, ◌-◌, ◌<◌, ◌≤◌, Bool, true, false, cond, eqb, List, [], ◌∷◌, ◌++◌, length, get_or, take, drop, sym, ap, ◌∙◌, arith, length-drop}
use Rattle.std.proofs.lemmas.List.{take_more, get_or-drop}
use Rattle.std.specs.List.{slice_range}
use Rattle.lc_carry.specs.Pieces.{depth_behind, begins, pieces_behind}

-- a part of a text with one byte more
pub range_more : (t : List ℕ) (a b : ℕ) → a ≤ b → b < length t → slice_range t a (b + 1) ≡ slice_range t a b ++ get_or t b 0 ∷ []
range_more t a b le lt =
    let next : (b + 1) - a ≡ (b - a) + 1 = omega (arith, le) in
    let within : b - a < length (drop a t) = omega (arith, le, lt, length-drop a t) in
    let place : a + (b - a) ≡ b = omega (arith, le) in
    let here : get_or (drop a t) (b - a) 0 ≡ get_or t b 0 = get_or-drop a t (b - a) 0 ∙ ap (λ n. get_or t n 0) place in
    ap (λ n. take n (drop a t)) next ∙ take_more (drop a t) (b - a) 0 within ∙ ap (λ y. take (b - a) (drop a t) ++ y ∷ []) here

at_most : (opens closes : Bool) (n i : ℕ) → n ≤ i → cond opens (suc n) (cond closes (n - 1) n) ≤ i + 1
at_most true closes n i le = omega (arith, le)
at_most false true n i le = omega (arith, le)
at_most false false n i le = omega (arith, le)

-- a byte has at most as many brackets around it as there are bytes before it
pub depth_within : (n b i : ℕ) → n ≤ i → depth_behind n b ≤ i + 1
depth_within n b i le = at_most (eqb b 40) (eqb b 41) n i le

-- a byte more in the piece that is begun
pub pieces_byte_longer : (done all : List (List ℕ)) (n : ℕ) (w now t : List ℕ) (b : ℕ) → begins n b ≡ false → now ≡ w ++ b ∷ [] → done ++ pieces_behind n w (b ∷ t) ≡ all → done ++ pieces_behind (depth_behind n b) now t ≡ all
pieces_byte_longer done all n w now t b not is_now before =
    ap (λ l. done ++ pieces_behind (depth_behind n b) l t) is_now
    ∙ sym (ap (λ c. done ++ cond c (w ∷ pieces_behind (depth_behind n b) (b ∷ []) t) (pieces_behind (depth_behind n b) (w ++ b ∷ []) t)) not) ∙ before
