-- What a text reads as: a value, or what is wrong in it.
use Rattle.std.specs.Prelude.{ℕ, ◌+◌, Bool, List, if◌then◌else◌}
use Rattle.lc_sexp.specs.Trees.{Tree, Trees, atom, list, none, ◌▸◌, item_count}
use Rattle.lc_reading.specs.declared.pass.Pass.{Pass}
use Rattle.lc_reading.specs.declared.pass.Pass.TheVariants.{Shape, Bound}
use Rattle.lc_reading.specs.Words.{is}
use Rattle.lc_reading.specs.Flaws.{at, lesser}
use Rattle.lc_reading.specs.declared.flaw.Flaw.{Flaw}

-- a value, or a flaw
pub data Reading (X : Type 0) : Type 0 where
  fine : X → Reading X
  flawed : Flaw → Reading X

-- the item of this number is wrong in this pass
abbrev pub wrong : {X : Type 0} → Pass → ℕ → Reading X
wrong pass n = flawed (at pass n)

-- with one flaw more
abbrev pub flawed_too : {X : Type 0} → Flaw → Reading X → Reading X
flawed_too f (fine x) = flawed f
flawed_too f (flawed g) = flawed (lesser g f)

-- the item n, which is beyond a limit of its kind or not
abbrev pub limited : {X : Type 0} → Bool → ℕ → Reading X → Reading X
limited beyond n r = if beyond then flawed_too (at Bound n) r else r

-- what is made of a value
abbrev pub mapped : {X Y : Type 0} → (X → Y) → Reading X → Reading Y
mapped f (fine x) = fine (f x)
mapped f (flawed g) = flawed g

-- two parts together, or what is wrong in either
abbrev pub both : {X Y Z : Type 0} → (X → Y → Z) → Reading X → Reading Y → Reading Z
both f (fine x) (fine y) = fine (f x y)
both f (fine x) (flawed h) = flawed h
both f (flawed g) (fine y) = flawed g
both f (flawed g) (flawed h) = flawed (lesser g h)

-- three parts together
abbrev pub three : {X Y Z W : Type 0} → (X → Y → Z → W) → Reading X → Reading Y → Reading Z → Reading W
three {X} {Y} f r s q = both (λ (p : X × Y) z. f p.0 p.1 z) (both (λ x y. (x, y)) r s) q

-- no part may be left; of those from m on the first is one too many
abbrev pub ended : {X : Type 0} → ℕ → Trees → Reading X → Reading X
ended m none r = r
ended m (t ▸ ts) r = flawed_too (at Shape m) r

-- the item n, where a list is expected that begins with this word; its other parts, numbered from n + 2 on, read so
abbrev pub behind_reading : {X : Type 0} → List ℕ → (ℕ → ℕ → Trees → Reading X) → ℕ → Tree → Reading X
behind_reading word read n (list (atom w ▸ ts)) = if is w word then read n (n + 2) ts else wrong Shape n
behind_reading word read n _ = wrong Shape n

-- the item n, where a list is expected; its parts, numbered from n + 1 on, read so
abbrev pub listed_reading : {X : Type 0} → (ℕ → ℕ → Trees → Reading X) → ℕ → Tree → Reading X
listed_reading read n (list ts) = read n (n + 1) ts
listed_reading read n (atom w) = wrong Shape n

-- two parts from m on, and no other
abbrev pub two_of : {X Y Z : Type 0} → (X → Y → Z) → ℕ → Tree → Tree → Trees → Reading X → Reading Y → Reading Z
two_of f m t u ts r s = ended (m + item_count t + item_count u) ts (both f r s)

-- three parts from m on, and no other
abbrev pub three_of : {X Y Z W : Type 0} → (X → Y → Z → W) → ℕ → Tree → Tree → Tree → Trees → Reading X → Reading Y → Reading Z → Reading W
three_of f m t u v ts r s q = ended (m + item_count t + item_count u + item_count v) ts (three f r s q)
