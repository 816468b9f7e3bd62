-- Words of a text, and names that are referred to.
use Rattle.std.specs.Prelude.{ℕ, Bool, List, map, length, nat_lt}
use Rattle.std.specs.Bool.{nat_eq}
use Rattle.std.specs.Borrow.{Bor}
use Rattle.std.specs.Cmp.Lexicographic.{pointwise}
use Rattle.lc_base.specs.Limits.{name_limit}

-- the two texts are the same
abbrev pub is : List ℕ → List ℕ → Bool
is w word = pointwise nat_eq w word

-- beyond the bytes of a name
abbrev pub is_long : List ℕ → Bool
is_long w = nat_lt name_limit (length w)

-- the texts that are referred to
abbrev pub names_in : List (Bor (List ℕ)) → List (List ℕ)
names_in names = map (λ name. name.now) names
