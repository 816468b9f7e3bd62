-- What the duties of the code stand for.
use Rattle.std.specs.Prelude.{ℕ, ◌≤◌, List, [], ◌∷◌, take}
use Rattle.std.proofs.Props.{props}
use Rattle.lc_term.specs.Lists.{Every}
use Rattle.lc_table.specs.NodeTables.{Table}
use Rattle.lc_term.specs.Syntax.{Formula}
use Rattle.lc_table.specs.Tables.{formula_in, IsFormula}
use Rattle.lc_rider.specs.Paths as S
use Rattle.lc_rider.specs.declared.duty.Owing.{Owing}
use Rattle.lc_rider.specs.declared.duty.Owing.TheVariants.{Pending, Named, Enabled, Observing}
use Rattle.lc_rider.specs.declared.duty.Duty.{Duty}

abbrev pub owing_of : Owing → S.Owing
owing_of Pending = S.Pending
owing_of Named = S.Named
owing_of Enabled = S.Enabled
owing_of Observing = S.Observing

-- a duty as it is kept: how many of its path's facts, the first ones, are known
pub record Owed : Type 0 where
  pub kind : S.Owing
  pub rider : ℕ
  pub known : ℕ
  pub goal : Formula

-- that of the code, whose goal is in a table
abbrev pub owed_in : Table → Duty → Owed
owed_in ts d = record { kind = owing_of d.kind; rider = d.rider; known = d.known; goal = formula_in ts d.goal }

-- that duty on a path with these facts
abbrev pub duty_in : List Formula → Owed → S.Duty
duty_in facts d = record { kind = d.kind; rider = d.rider; facts = take d.known facts; goal = d.goal }

-- the goal of each is the number of a formula
abbrev pub AreGoals : Table → List Duty → Type 0
AreGoals ts ds = Every (λ (d : Duty). IsFormula ts d.goal) ds

-- each of these knows at most n facts
abbrev pub AreKnown : ℕ → List Duty → Type 0
AreKnown n ds = Every (λ (d : Duty). d.known ≤ n) ds

below_once : (m n : ℕ) → IsProp (m ≤ n)
below_once m n = hlevel props

-- this has one proof at most
pub known_once : (n : ℕ) (ds : List Duty) → IsProp (AreKnown n ds)
known_once n [] x y = λ i. tt
known_once n (d ∷ ds) x y = λ i. (below_once d.known n x.0 y.0 i, known_once n ds x.1 y.1 i)
