-- Names by the numbers of their entries in a table of the different names.
use Rattle.std.specs.Prelude.{ℕ, zero, suc, Bool, List, [], ◌∷◌, map, length, nat_lt}
use Rattle.std.specs.Borrow.{Bor}
use Rattle.std.specs.List.{list_all}

-- the name of an entry
abbrev pub name_at : List (Bor (List ℕ) × ℕ) → ℕ → List ℕ
name_at [] k = []
name_at (e ∷ es) zero = e.0.now
name_at (e ∷ es) (suc k) = name_at es k

-- and of each of these
abbrev pub names_at : List (Bor (List ℕ) × ℕ) → List ℕ → List (List ℕ)
names_at es ks = map (name_at es) ks

-- each of these numbers has an entry
abbrev pub are_within : List (Bor (List ℕ) × ℕ) → List ℕ → Bool
are_within es ks = list_all (λ k. nat_lt k (length es)) ks
