-- Developments by hand: a counter, and a register that notes. Columns: 0 is the abstract one, 1 the concrete one,
-- then the system columns from 2 on.
use Rattle.std.specs.Prelude.{ℕ, [], ◌∷◌, pos, None, codes}
use Rattle.lc_term.specs.Syntax.{Term, Number, Variable, Add, Read, Base, Formula, Eq, And, formulas}
use Rattle.lc_seq.specs.Sequential.{InOrder}
use Rattle.lc_seq.specs.Specification.{Specification}
use Rattle.lc_object.specs.Syntax as O
use Rattle.lc_object.specs.Syntax.{Load, Store, Cas, Return}
use Rattle.lc_object.specs.declared.instr.EdgeKind.TheVariants.{Next, Then}
use Rattle.lc_rider.specs.Rider.{Own, Note, Marks, Marking}
use Rattle.lc_action.specs.Action.{Action}
use Rattle.lc_outline.specs.Development.{Development}

abbrev pub rd : ℕ → Term → Term
rd c t = Read (Base c) t

abbrev pub is_true : Formula
is_true = And (formulas [])

abbrev pub pending : Formula
pending = Eq (rd 2 (Variable 1)) (Number (pos 1))

abbrev pub counter_specification : Specification
counter_specification = record {
  name = codes "counter";
  columns = record { name = codes "v"; slope = pos 0; start = pos 0 } ∷ [];
  operations =
      record { name = codes "inc"; arguments = []; replies = 1; branches = record { label = InOrder; guard = is_true; updates = record { column = 0; index = Number (pos 0); value = Add (rd 0 (Number (pos 0))) (Number (pos 1)) } ∷ []; replies = rd 0 (Number (pos 0)) ∷ [] } ∷ [] } ∷
      record { name = codes "get"; arguments = []; replies = 1; branches = record { label = InOrder; guard = is_true; updates = []; replies = rd 0 (Number (pos 0)) ∷ [] } ∷ [] } ∷ [];
}

abbrev pub counter_object : O.Object
counter_object = record {
  name = codes "counter";
  abstracts = codes "v" ∷ [];
  concretes = record { name = codes "c"; slope = pos 0; start = pos 0 } ∷ [];
  auxiliaries = [];
  arrays = record { name = codes "cell"; columns = 1 ∷ [] } ∷ [];
  operations = record { name = codes "inc"; arguments = []; replies = 1; locals = codes "x" ∷ []; entry = 0 } ∷ record { name = codes "get"; arguments = []; replies = 1; locals = codes "y" ∷ []; entry = 3 } ∷ [];
  points =
      record { name = codes "p0"; operation = 0; instruction = Load 0 (Number (pos 0)) (2 ∷ []) 1 } ∷
      record { name = codes "p1"; operation = 0; instruction = Cas 0 (Number (pos 0)) (Variable 2 ∷ []) (Add (Variable 2) (Number (pos 1)) ∷ []) 2 0 } ∷
      record { name = codes "p2"; operation = 0; instruction = Return (Variable 2 ∷ []) } ∷
      record { name = codes "q0"; operation = 1; instruction = Load 0 (Number (pos 0)) (2 ∷ []) 4 } ∷
      record { name = codes "q1"; operation = 1; instruction = Return (Variable 2 ∷ []) } ∷ [];
}

abbrev pub settled : Formula
settled = Eq (rd 2 (Variable 1)) (Number (pos 2))

abbrev pub replied : Formula
replied = Eq (rd 7 (Variable 1)) (Variable 2)

abbrev pub add_action : Action
add_action = record {
  name = codes "add";
  parameters = [];
  guard = And (formulas (pending ∷ Eq (rd 3 (Variable 1)) (Number (pos 0)) ∷ []));
  updates =
      record { column = 1; index = Number (pos 0); value = Add (rd 1 (Number (pos 0))) (Number (pos 1)) } ∷
      record { column = 0; index = Number (pos 0); value = Add (rd 0 (Number (pos 0))) (Number (pos 1)) } ∷
      record { column = 2; index = Variable 1; value = Number (pos 2) } ∷
      record { column = 7; index = Variable 1; value = rd 0 (Number (pos 0)) } ∷ [];
}

abbrev pub look_action : Action
look_action = record {
  name = codes "look";
  parameters = [];
  guard = pending;
  updates = record { column = 2; index = Variable 1; value = Number (pos 2) } ∷ record { column = 7; index = Variable 1; value = rd 0 (Number (pos 0)) } ∷ [];
}

-- the counter, with this marking where `inc` adds
abbrev pub counter_by : Marking → Development
counter_by marking = record {
  specification = counter_specification;
  object = counter_object;
  auxiliaries = [];
  actions = add_action ∷ look_action ∷ [];
  conjuncts = record { name = codes "tied"; formula = Eq (rd 1 (Number (pos 0))) (rd 0 (Number (pos 0))) } ∷ [];
  idle = [];
  outlines =
      record { asserts = pending ∷ []; ons = [] } ∷
      record { asserts = pending ∷ []; ons = record { edge = Then; action = 0; arguments = []; riders = record { condition = None; deed = Marks marking InOrder } ∷ [] } ∷ [] } ∷
      record { asserts = settled ∷ replied ∷ []; ons = [] } ∷
      record { asserts = pending ∷ []; ons = record { edge = Next; action = 1; arguments = []; riders = record { condition = None; deed = Marks Own InOrder } ∷ [] } ∷ [] } ∷
      record { asserts = settled ∷ replied ∷ []; ons = [] } ∷ [];
}

abbrev pub counter : Development
counter = counter_by Own

-- the counter's code with a plain store in place of the `cas`
abbrev pub racy_object : O.Object
racy_object = record {
  name = codes "counter";
  abstracts = codes "v" ∷ [];
  concretes = record { name = codes "c"; slope = pos 0; start = pos 0 } ∷ [];
  auxiliaries = [];
  arrays = record { name = codes "cell"; columns = 1 ∷ [] } ∷ [];
  operations = record { name = codes "inc"; arguments = []; replies = 1; locals = codes "x" ∷ []; entry = 0 } ∷ record { name = codes "get"; arguments = []; replies = 1; locals = codes "y" ∷ []; entry = 3 } ∷ [];
  points =
      record { name = codes "p0"; operation = 0; instruction = Load 0 (Number (pos 0)) (2 ∷ []) 1 } ∷
      record { name = codes "p1"; operation = 0; instruction = Store 0 (Number (pos 0)) (Add (Variable 2) (Number (pos 1)) ∷ []) 2 } ∷
      record { name = codes "p2"; operation = 0; instruction = Return (Variable 2 ∷ []) } ∷
      record { name = codes "q0"; operation = 1; instruction = Load 0 (Number (pos 0)) (2 ∷ []) 4 } ∷
      record { name = codes "q1"; operation = 1; instruction = Return (Variable 2 ∷ []) } ∷ [];
}

-- and with what is beside the counter's code: everything is in order but its conditions
abbrev pub racy : Development
racy = record {
  specification = counter_specification;
  object = racy_object;
  auxiliaries = [];
  actions = add_action ∷ look_action ∷ [];
  conjuncts = record { name = codes "tied"; formula = Eq (rd 1 (Number (pos 0))) (rd 0 (Number (pos 0))) } ∷ [];
  idle = [];
  outlines =
      record { asserts = pending ∷ []; ons = [] } ∷
      record { asserts = pending ∷ []; ons = record { edge = Next; action = 0; arguments = []; riders = record { condition = None; deed = Marks Own InOrder } ∷ [] } ∷ [] } ∷
      record { asserts = settled ∷ replied ∷ []; ons = [] } ∷
      record { asserts = pending ∷ []; ons = record { edge = Next; action = 1; arguments = []; riders = record { condition = None; deed = Marks Own InOrder } ∷ [] } ∷ [] } ∷
      record { asserts = settled ∷ replied ∷ []; ons = [] } ∷ [];
}

-- a register that is read, and notes what it read
abbrev pub see_action : Action
see_action = record {
  name = codes "see";
  parameters = [];
  guard = pending;
  updates = record { column = 10; index = Variable 1; value = Number (pos 1) } ∷ record { column = 11; index = Variable 1; value = rd 0 (Number (pos 0)) } ∷ [];
}

abbrev pub register : Development
register = record {
  specification = record {
    name = codes "reg";
    columns = record { name = codes "r"; slope = pos 0; start = pos 0 } ∷ [];
    operations = record { name = codes "get"; arguments = []; replies = 1; branches = record { label = InOrder; guard = is_true; updates = []; replies = rd 0 (Number (pos 0)) ∷ [] } ∷ [] } ∷ [];
  };
  object = record {
    name = codes "reg";
    abstracts = codes "r" ∷ [];
    concretes = record { name = codes "c"; slope = pos 0; start = pos 0 } ∷ [];
    auxiliaries = [];
    arrays = record { name = codes "cell"; columns = 1 ∷ [] } ∷ [];
    operations = record { name = codes "get"; arguments = []; replies = 1; locals = codes "y" ∷ []; entry = 0 } ∷ [];
    points =
        record { name = codes "g0"; operation = 0; instruction = Load 0 (Number (pos 0)) (2 ∷ []) 1 } ∷
        record { name = codes "g1"; operation = 0; instruction = Return (Variable 2 ∷ []) } ∷ [];
  };
  auxiliaries = [];
  actions = see_action ∷ [];
  conjuncts = record { name = codes "tied"; formula = Eq (rd 1 (Number (pos 0))) (rd 0 (Number (pos 0))) } ∷ [];
  idle = [];
  outlines =
      record { asserts = pending ∷ []; ons = record { edge = Next; action = 0; arguments = []; riders = record { condition = None; deed = Marks Note InOrder } ∷ [] } ∷ [] } ∷
      record { asserts = pending ∷ Eq (rd 10 (Variable 1)) (Number (pos 1)) ∷ Eq (rd 11 (Variable 1)) (Variable 2) ∷ []; ons = [] } ∷ [];
}
