-- Texts in pieces, each kept once.
use Rattle.std.specs.Prelude.{◌≡◌, ℕ, suc, ◌-◌, Bool, ◌&&◌, ◌==◌, if◌then◌else◌, List, [], ◌∷◌, ◌++◌, map, Option, Some, option_map, option_and_then, slice_index_or, Vec}
use Rattle.std.specs.List.{flat_map}
use Rattle.std.specs.declared.alloc.Global.{Global}
use Rattle.lc_reading.specs.Listed.{place_of}

-- how many brackets are around the byte after this one
abbrev pub depth_behind : ℕ → ℕ → ℕ
depth_behind n b = if b == 40 then suc n else if b == 41 then n - 1 else n

-- a piece begins with this byte: a bracket in one other
abbrev pub begins : ℕ → ℕ → Bool
begins n b = (b == 40) && (n == 1)

-- the pieces of a text inside n brackets, the first of which is begun
abbrev pub pieces_behind : ℕ → List ℕ → List ℕ → List (List ℕ)
pieces_behind n w [] = w ∷ []
pieces_behind n w (b ∷ t) = if begins n b then w ∷ pieces_behind (depth_behind n b) (b ∷ []) t else pieces_behind (depth_behind n b) (w ++ b ∷ []) t

-- the pieces of a text
abbrev pub pieces : List ℕ → List (List ℕ)
pieces t = pieces_behind 0 [] t

-- the pieces that are kept, by their numbers
abbrev pub kept_in : List (Vec ℕ Global) → List (List ℕ)
kept_in kept = map (λ (w : Vec ℕ Global). w.items) kept

-- no piece loses its number
abbrev pub KeepsPieces : List (List ℕ) → List (List ℕ) → Type 0
KeepsPieces old new = (more : List (List ℕ)) × (new ≡ old ++ more)

-- the numbers of these pieces, if all are kept
abbrev pub key_of : List (List ℕ) → List (List ℕ) → Option (List ℕ)
key_of kept [] = Some []
key_of kept (w ∷ ws) = option_and_then (λ (k : ℕ). option_map (λ (ks : List ℕ). k ∷ ks) (key_of kept ws)) (place_of kept w)

-- the text that consists of the pieces of these numbers
abbrev pub joined : List (List ℕ) → List ℕ → List ℕ
joined kept key = flat_map (λ (k : ℕ). slice_index_or kept k []) key
