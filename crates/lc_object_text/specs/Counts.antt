-- How many parts a list has.
use Rattle.std.specs.Prelude.{ℕ, zero, suc, ◌+◌, nat_lt, if◌then◌else◌, Option, Some, None}
use Rattle.lc_sexp.specs.Trees.{Tree, Trees, atom, list, none, ◌▸◌, item_count}
use Rattle.lc_sexp.specs.TreeCode.{tree_count}
use Rattle.lc_reading.specs.Readings.{Reading, fine, wrong, both, ended}
use Rattle.lc_reading.specs.declared.pass.Pass.TheVariants.{Shape}

-- of two parts the second
abbrev pub second : {X : Type 0} → Unit {0} → X → X
second u x = x

-- no part may be left after k of those from m on
abbrev pub ended_behind : {X : Type 0} → ℕ → ℕ → Trees → Reading X → Reading X
ended_behind zero m ts r = ended m ts r
ended_behind (suc k) m none r = r
ended_behind (suc k) m (t ▸ ts) r = ended_behind k (m + item_count t) ts r

-- `due` parts are expected from m on in the list n, if their number is known
abbrev pub count_reading : Option ℕ → ℕ → ℕ → Trees → Reading (Unit {0})
count_reading None n m ts = fine tt
count_reading (Some due) n m ts = if nat_lt (tree_count ts) due then wrong Shape n else ended_behind due m ts (fine tt)

-- the item n, where a list is expected with `due` parts, which read so
abbrev pub row_reading : {X : Type 0} → Option ℕ → (ℕ → Trees → Reading X) → ℕ → Tree → Reading X
row_reading due read n (atom w) = wrong Shape n
row_reading due read n (list ts) = both second (count_reading due n (n + 1) ts) (read (n + 1) ts)
