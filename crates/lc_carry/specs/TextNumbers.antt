-- Numbers at texts.
use Rattle.std.specs.Prelude.{◌≡◌, ℕ, List, [], ◌∷◌, ◌++◌, Option, Some, is_some, if◌then◌else◌, Vec}
use Rattle.std.specs.Map.{lookup}
use Rattle.std.specs.declared.alloc.Global.{Global}
use Rattle.lc_reading.specs.Words.{is}
use Rattle.lc_carry.specs.Pieces.{pieces, key_of, joined}

-- the number at a text, if there is one
abbrev pub number_of : List (List ℕ × ℕ) → List ℕ → Option ℕ
number_of numbers t = lookup (is t) numbers

-- the texts of keys, with the numbers at them
abbrev pub listed : List (List ℕ) → List (Vec ℕ Global × ℕ) → List (List ℕ × ℕ)
listed kept [] = []
listed kept (e ∷ es) = (joined kept e.0.items, e.1) ∷ listed kept es

-- each key is that of its text
abbrev pub AreKeys : List (List ℕ) → List (Vec ℕ Global × ℕ) → Type 0
AreKeys kept [] = Unit {0}
AreKeys kept (e ∷ es) = (key_of kept (pieces (joined kept e.0.items)) ≡ Some e.0.items) × AreKeys kept es

-- the entries with a number more at a key, unless there is one already
abbrev pub noted : List (Vec ℕ Global × ℕ) → Vec ℕ Global → ℕ → List (Vec ℕ Global × ℕ)
noted es key number = if is_some (lookup (λ (k : Vec ℕ Global). is key.items k.items) es) then es else es ++ (key, number) ∷ []
