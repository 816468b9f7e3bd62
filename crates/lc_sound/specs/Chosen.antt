-- Developments by hand that choose, and that add: a coin, and the counter by fetch-and-add. Columns as in the counter.
use Rattle.std.specs.Prelude.{ℕ, List, [], ◌∷◌, ◌++◌, pos, negsuc, None, codes}
use Rattle.lc_term.specs.Syntax.{Term, Number, Variable, Read, Base, Formula, Le, Eq, And, formulas}
use Rattle.lc_seq.specs.Sequential.{Choice, Chosen, InOrder, ByName}
use Rattle.lc_seq.specs.Specification.{Specification}
use Rattle.lc_history.specs.History.{Entry}
use Rattle.lc_object.specs.Syntax.{Load, Faa, Return}
use Rattle.lc_object.specs.declared.instr.EdgeKind.TheVariants.{Next}
use Rattle.lc_rider.specs.Rider.{Own, Note, Marks, Marking}
use Rattle.lc_rider.specs.Paths.{Observing}
use Rattle.lc_outline.specs.Development.{Development}
use Rattle.lc_cond.specs.Conditions.{Condition, Kind, Owed, conditions}
use Rattle.lc_cond.specs.Counter.{rd, is_true, pending, settled, replied, counter_specification, add_action, look_action, see_action}

-- ---- the counter that adds in one access

abbrev pub adding : Development
adding = record {
  specification = counter_specification;
  object = record {
    name = codes "counter";
    abstracts = codes "v" ∷ [];
    concretes = record { name = codes "c"; slope = pos 0; start = pos 0 } ∷ [];
    auxiliaries = [];
    arrays = record { name = codes "cell"; columns = 1 ∷ [] } ∷ [];
    operations = record { name = codes "inc"; arguments = []; replies = 1; locals = codes "x" ∷ []; entry = 0 } ∷ record { name = codes "get"; arguments = []; replies = 1; locals = codes "y" ∷ []; entry = 2 } ∷ [];
    points =
        record { name = codes "p0"; operation = 0; instruction = Faa 0 (Number (pos 0)) (2 ∷ []) (Number (pos 1) ∷ []) 1 } ∷
        record { name = codes "p1"; operation = 0; instruction = Return (Variable 2 ∷ []) } ∷
        record { name = codes "q0"; operation = 1; instruction = Load 0 (Number (pos 0)) (2 ∷ []) 3 } ∷
        record { name = codes "q1"; operation = 1; instruction = Return (Variable 2 ∷ []) } ∷ [];
  };
  auxiliaries = [];
  actions = add_action ∷ look_action ∷ [];
  conjuncts = record { name = codes "tied"; formula = Eq (rd 1 (Number (pos 0))) (rd 0 (Number (pos 0))) } ∷ [];
  idle = [];
  outlines =
      record { asserts = pending ∷ []; ons = record { edge = Next; action = 0; arguments = []; riders = record { condition = None; deed = Marks Own InOrder } ∷ [] } ∷ [] } ∷
      record { asserts = settled ∷ replied ∷ []; ons = [] } ∷
      record { asserts = pending ∷ []; ons = record { edge = Next; action = 1; arguments = []; riders = record { condition = None; deed = Marks Own InOrder } ∷ [] } ∷ [] } ∷
      record { asserts = settled ∷ replied ∷ []; ons = [] } ∷ [];
}

-- ---- a coin: it shows heads, or a number that is picked

abbrev pub heads : List ℕ
heads = codes "heads"

abbrev pub pick : List ℕ
pick = codes "pick"

abbrev pub coin : Specification
coin = record {
  name = codes "coin";
  columns = record { name = codes "r"; slope = pos 0; start = pos 0 } ∷ [];
  operations =
      record {
        name = codes "flip";
        arguments = [];
        replies = 1;
        branches =
            record { label = ByName heads []; guard = is_true; updates = record { column = 0; index = Number (pos 0); value = Number (pos 1) } ∷ []; replies = Number (pos 1) ∷ [] } ∷
            record { label = ByName pick (codes "n" ∷ []); guard = Le (Number (pos 0)) (Variable 2); updates = []; replies = Variable 2 ∷ [] } ∷ [];
      } ∷ [];
}

-- an order of one flip that replies 7
abbrev pub flipped : Choice → List Entry
flipped choice = record { client = 0; call = record { op = 0; numbers = [] }; choice = choice; reply = pos 7 ∷ [] } ∷ []

-- it notes a reply under this choice
abbrev pub noting : Chosen Term → Development
noting by = record {
  specification = coin;
  object = record {
    name = codes "coin";
    abstracts = codes "r" ∷ [];
    concretes = record { name = codes "c"; slope = pos 0; start = pos 0 } ∷ [];
    auxiliaries = [];
    arrays = record { name = codes "cell"; columns = 1 ∷ [] } ∷ [];
    operations = record { name = codes "flip"; arguments = []; replies = 1; locals = codes "y" ∷ []; entry = 0 } ∷ [];
    points =
        record { name = codes "f0"; operation = 0; instruction = Load 0 (Number (pos 0)) (2 ∷ []) 1 } ∷
        record { name = codes "f1"; operation = 0; instruction = Return (Variable 2 ∷ []) } ∷ [];
  };
  auxiliaries = [];
  actions = see_action ∷ [];
  conjuncts = [];
  idle = [];
  outlines =
      record { asserts = pending ∷ []; ons = record { edge = Next; action = 0; arguments = []; riders = record { condition = None; deed = Marks Note by } ∷ [] } ∷ [] } ∷
      record { asserts = pending ∷ []; ons = [] } ∷ [];
}

-- the goal of a condition that asks for a branch without updates
abbrev pub observing_goal : Kind → Formula → List Formula
observing_goal (Owed Observing) f = f ∷ []
observing_goal kind f = []

abbrev pub observing_goals : List Condition → List Formula
observing_goals [] = []
observing_goals (c ∷ cs) = observing_goal c.kind c.goal ++ observing_goals cs
