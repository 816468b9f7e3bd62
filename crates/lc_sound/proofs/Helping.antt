-- A run in which a client settles the call of another.
use Rattle.std.proofs.Common.{List, [], ◌∷◌, pos, refl, inl}
use Rattle.std.specs.Prelude.{codes}
use Rattle.lc_term.specs.Updates.{stored_all, Write}
use Rattle.lc_term.specs.Meaning.{State}
use Rattle.lc_term.specs.Syntax.{Number, Variable, Add}
use Rattle.lc_object.specs.Syntax as O
use Rattle.lc_object.specs.Syntax.{Load, Cas, Return}
use Rattle.lc_object.specs.declared.instr.EdgeKind.TheVariants.{Next, Then}
use Rattle.lc_machine.specs.World.{World, In}
use Rattle.lc_machine.specs.Step.{Invoked, Moved, after, with_row}
use Rattle.lc_rider.specs.Rider.{invocation_writes, mark_writes}
use Rattle.lc_sound.specs.Instrumented.{Instrumented, start_world, with_columns}
use Rattle.lc_sound.specs.Examples.{helping, helped_mark, HelpedCall}

abbrev inc : O.Operation
inc = record { name = codes "inc"; arguments = []; replies = 1; locals = codes "x" ∷ []; entry = 0 }

abbrev p0 : O.Point
p0 = record { name = codes "p0"; operation = 0; instruction = Load 0 (Number (pos 0)) (2 ∷ []) 1 }

abbrev p1 : O.Point
p1 = record { name = codes "p1"; operation = 0; instruction = Cas 0 (Number (pos 0)) (Variable 2 ∷ []) (Add (Variable 2) (Number (pos 1)) ∷ []) 2 0 }

abbrev u0 : World
u0 = start_world helping 2

abbrev m1 : World
m1 = after u0 u0.columns 0 (In 0 (pos 2 ∷ pos 0 ∷ pos 0 ∷ []))

abbrev u1 : World
u1 = with_columns m1 (stored_all m1.columns (invocation_writes 2 0 0 []))

one : Instrumented helping u0 0 (Invoked 0 []) [] u1
one = (m1, (inc, refl, refl, refl, refl), refl, refl)

abbrev m2 : World
m2 = after u1 u1.columns 1 (In 0 (pos 2 ∷ pos 1 ∷ pos 0 ∷ []))

abbrev u2 : World
u2 = with_columns m2 (stored_all m2.columns (invocation_writes 2 1 0 []))

two : Instrumented helping u1 1 (Invoked 0 []) [] u2
two = (m2, (inc, refl, refl, refl, refl), refl, refl)

abbrev m3 : World
m3 = after u2 u2.columns 1 (In 1 (pos 2 ∷ pos 1 ∷ pos 0 ∷ []))

abbrev u3 : World
u3 = with_columns m3 m3.columns

three : Instrumented helping u2 1 (Moved 0 Next) [] u3
three = (
  m3,
  1,
  pos 2 ∷ pos 1 ∷ pos 0 ∷ [],
  m3.columns,
  (pos 2 ∷ pos 1 ∷ pos 0 ∷ [], p0.instruction, record { client = refl; code = (p0, refl, refl) }, u2.columns, 1, pos 2 ∷ pos 1 ∷ pos 0 ∷ [], (refl, refl, refl), refl),
  refl,
  (refl, refl),
  refl,
)

abbrev m4 : World
m4 = after u3 (with_row u3.columns (1 ∷ []) (pos 0) (pos 1 ∷ [])) 1 (In 2 (pos 2 ∷ pos 1 ∷ pos 0 ∷ []))

abbrev stores : List Write
stores = record { column = 0; index = pos 0; value = pos 1 } ∷ []

abbrev c4 : State
c4 = stored_all m4.columns (record { column = 0; index = pos 0; value = pos 1 } ∷ mark_writes 2 0 (pos 0 ∷ []))

four : Instrumented helping u3 1 (Moved 1 Then) (helped_mark ∷ []) (with_columns m4 c4)
four = (
  m4,
  2,
  pos 2 ∷ pos 1 ∷ pos 0 ∷ [],
  c4,
  (pos 2 ∷ pos 1 ∷ pos 0 ∷ [], p1.instruction, record { client = refl; code = (p1, refl, refl) }, with_row u3.columns (1 ∷ []) (pos 0) (pos 1 ∷ []), 2, pos 2 ∷ pos 1 ∷ pos 0 ∷ [], inl (refl, refl, refl, refl), refl),
  refl,
  (c4, helped_mark ∷ [], [], (0, refl, refl, (stores, pos 0 ∷ [], refl, refl, refl, refl)), (refl, refl), refl),
  refl,
)

pub call_is_helped : HelpedCall
call_is_helped = ((with_columns m4 c4, (u1, one, (u2, two, (u3, three, (with_columns m4 c4, four, refl))))), refl, refl)
