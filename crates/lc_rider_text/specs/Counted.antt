-- The paths that are counted by a text, before it is read, are those that the riders have which it reads as.
use Rattle.std.specs.Prelude.{◌≡◌, ℕ, ◌<◌, false, List, Option, Some, length, slice_get}
use Rattle.lc_sexp.specs.Trees.{Trees}
use Rattle.lc_reading.specs.Listed.{place_of}
use Rattle.lc_reading.specs.Readings.{fine}
use Rattle.lc_rider.specs.Paths.{Path, paths}
use Rattle.lc_rider.specs.Rider.{Rider}
use Rattle.lc_seq.specs.Branches.{op_branches}
use Rattle.lc_seq.specs.Sequential.{InOrder, ByName}
use Rattle.lc_seq.specs.Specification.{Branch, Operation, chosen}
use Rattle.lc_term.specs.Syntax.{Term}
use Rattle.lc_text.specs.Names.{Names}
use Rattle.lc_rider_text.specs.Known.{Known, Ways, has_choices}
use Rattle.lc_rider_text.specs.Paths.{path_count}
use Rattle.lc_rider_text.specs.Riders.{riders_reading}

-- An operation of these branches goes so: there are as many; if it has no choices, none of them has a name; and each of its
-- choices has a count of parameters, and leaves one branch if it is given as many terms
pub record GoesSo (ways : Ways) (bs : List Branch) : Type 0 where
  pub count : ways.count ≡ length bs
  pub in_order : has_choices ways ≡ false → chosen {A = Term} InOrder bs ≡ bs
  pub parameters : length ways.parameters ≡ length ways.choices
  pub by_name : (name : List ℕ) (j n : ℕ) (terms : List Term) → place_of ways.choices name ≡ Some j → slice_get ways.parameters j ≡ Some n → length terms ≡ n → length (chosen (ByName name terms) bs) ≡ 1

-- it is known how an operation of these branches goes
abbrev pub Goes : Option Ways → List Branch → Type 0
Goes ways bs = (w : Ways) × (ways ≡ Some w) × GoesSo w bs

-- the same for each operation
abbrev pub AreBranches : Known → List Operation → Type 0
AreBranches known operations = (k : ℕ) → k < length known.operations → Goes (slice_get known.ways k) (op_branches operations k)

-- in the body of the operation o
abbrev pub PathsAreCounted : Type 0
PathsAreCounted =
    (known : Known) (operations : List Operation) → AreBranches known operations →
    (o : ℕ) → o < length known.operations →
    (names : Names) (m : ℕ) (ts : Trees) (riders : List Rider) → riders_reading known names (slice_get known.ways o) m ts ≡ fine riders →
    (first n : ℕ) (variables : List Term) (p : Path) →
    length (paths operations first n o variables riders p) ≡ path_count known (slice_get known.ways o) ts
