-- What conditions of the code stand for, in a table that has their formulas.
use Rattle.std.specs.Prelude.{List, option_map}
use Rattle.lc_term.specs.Lists.{Every}
use Rattle.lc_table.specs.NodeTables.{Table}
use Rattle.lc_table.specs.Tables.{formula_in, formulas_in, IsFormula, AreFormulas}
use Rattle.lc_rider.specs.DutyView.{owing_of}
use Rattle.lc_cond.specs.Conditions as S
use Rattle.lc_cond.specs.declared.condition.Kind.{Kind}
use Rattle.lc_cond.specs.declared.condition.Kind.TheVariants.{Init, InitIdle, Entry, First, Owed, Reply, Invariant, Next, Guard, Column, Stable}
use Rattle.lc_cond.specs.declared.condition.Passage.{Passage}
use Rattle.lc_cond.specs.declared.condition.Passage.TheVariants.{Nothing, Edge, Action}
use Rattle.lc_cond.specs.declared.condition.Which as W
use Rattle.lc_cond.specs.declared.condition.Which.{Which}
use Rattle.lc_cond.specs.declared.condition.Which.TheVariants.{Alone, Numbered}
use Rattle.lc_cond.specs.declared.condition.Place.{Place}
use Rattle.lc_cond.specs.declared.condition.Condition.{Condition}

abbrev pub kind_of : Kind → S.Kind
kind_of Init = S.Init
kind_of InitIdle = S.InitIdle
kind_of Entry = S.Entry
kind_of First = S.First
kind_of (Owed d) = S.Owed (owing_of d)
kind_of Reply = S.Reply
kind_of Invariant = S.Invariant
kind_of Next = S.NextKind
kind_of Guard = S.Guard
kind_of Column = S.ColumnKind
kind_of Stable = S.Stable

abbrev pub passage_of : Passage → S.Passage
passage_of Nothing = S.NoPassage
passage_of (Edge kind) = S.ByEdge kind
passage_of (Action a) = S.ByAction a

abbrev pub which_of : Which → S.Which
which_of Alone = S.Alone
which_of (Numbered k) = S.Numbered k
which_of (W.TheVariants.Column c) = S.OfColumn c.0

abbrev pub place_of : Place → S.Place
place_of p = record { point = option_map (λ q. q.0) p.point; passage = passage_of p.passage; path = p.path; which = which_of p.which }

-- the condition that it is in a table
abbrev pub condition_in : Table → Condition → S.Condition
condition_in ts c = record {
  kind = kind_of c.kind;
  place = place_of c.place;
  variables = c.goal.vars;
  hypotheses = formulas_in ts c.goal.hypotheses;
  goal = formula_in ts c.goal.goal;
}

-- the table has its formulas
abbrev pub IsCondition : Table → Condition → Type 0
IsCondition ts c = AreFormulas ts c.goal.hypotheses × IsFormula ts c.goal.goal

abbrev pub AreConditions : Table → List Condition → Type 0
AreConditions ts cs = Every (IsCondition ts) cs
