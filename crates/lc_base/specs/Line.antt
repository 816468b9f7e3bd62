-- Lines of a word and numbers.
use Rattle.std.specs.Prelude.{ℕ, List, [], ◌∷◌, ◌++◌, codes, flat_map}
use Rattle.std.specs.Fmt.{decimal}
use Rattle.lc_base.specs.Refusal.{code_of, numbers_of}
use Rattle.lc_base.specs.declared.refusal.Refusal.{Refusal}

-- a word, each number after one space, and a line feed
abbrev pub line_of : List ℕ → List ℕ → List ℕ
line_of word numbers = word ++ flat_map (λ n. 32 ∷ decimal n) numbers ++ (10 ∷ [])

-- a refusal as it is displayed: `refused`, its code, and each of its numbers after one space
abbrev pub refusal_text : Refusal → List ℕ
refusal_text refusal = codes "refused" ++ flat_map (λ n. 32 ∷ decimal n) (code_of refusal ∷ numbers_of refusal)

-- the line that a refusal prints
abbrev pub refusal_line_of : Refusal → List ℕ
refusal_line_of refusal = line_of (codes "refused") (code_of refusal ∷ numbers_of refusal)
