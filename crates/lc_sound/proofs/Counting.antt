-- A run of the counter: two clients increment it.
use Rattle.std.proofs.Common.{[], ◌∷◌, pos, refl, inl, inr}
use Rattle.std.specs.Prelude.{codes}
use Rattle.lc_term.specs.Syntax.{Number, Variable, Add}
use Rattle.lc_object.specs.Syntax as O
use Rattle.lc_object.specs.Syntax.{Load, Store, Cas, Return}
use Rattle.lc_object.specs.declared.instr.EdgeKind.TheVariants.{Next, Then, Else}
use Rattle.lc_machine.specs.World.{World, Idle, In, initial_world}
use Rattle.lc_machine.specs.Step.{Invoked, Moved, Returned, Steps, after, with_row}
use Rattle.lc_machine.specs.Runs.{IsBareRun}
use Rattle.lc_cond.specs.Counter.{counter_object}
use Rattle.lc_sound.specs.Examples.{two_labels, TwoClientsCount}

abbrev counter_object_inc : O.Operation
counter_object_inc = record { name = codes "inc"; arguments = []; replies = 1; locals = codes "x" ∷ []; entry = 0 }

abbrev counter_object_p0 : O.Point
counter_object_p0 = record { name = codes "p0"; operation = 0; instruction = Load 0 (Number (pos 0)) (2 ∷ []) 1 }

abbrev counter_object_p1 : O.Point
counter_object_p1 = record { name = codes "p1"; operation = 0; instruction = Cas 0 (Number (pos 0)) (Variable 2 ∷ []) (Add (Variable 2) (Number (pos 1)) ∷ []) 2 0 }

abbrev counter_object_p2 : O.Point
counter_object_p2 = record { name = codes "p2"; operation = 0; instruction = Return (Variable 2 ∷ []) }

abbrev pub w0 : World
w0 = initial_world counter_object 2

abbrev w1 : World
w1 = after w0 w0.columns 0 (In 0 (pos 2 ∷ pos 0 ∷ pos 0 ∷ []))

abbrev w2 : World
w2 = after w1 w1.columns 1 (In 0 (pos 2 ∷ pos 1 ∷ pos 0 ∷ []))

abbrev w3 : World
w3 = after w2 w2.columns 0 (In 1 (pos 2 ∷ pos 0 ∷ pos 0 ∷ []))

abbrev w4 : World
w4 = after w3 w3.columns 1 (In 1 (pos 2 ∷ pos 1 ∷ pos 0 ∷ []))

abbrev w5 : World
w5 = after w4 (with_row w4.columns (1 ∷ []) (pos 0) (pos 1 ∷ [])) 0 (In 2 (pos 2 ∷ pos 0 ∷ pos 0 ∷ []))

abbrev w6 : World
w6 = after w5 w5.columns 1 (In 0 (pos 2 ∷ pos 1 ∷ pos 0 ∷ []))

abbrev w7 : World
w7 = after w6 w6.columns 1 (In 1 (pos 2 ∷ pos 1 ∷ pos 1 ∷ []))

abbrev w8 : World
w8 = after w7 (with_row w7.columns (1 ∷ []) (pos 0) (pos 2 ∷ [])) 1 (In 2 (pos 2 ∷ pos 1 ∷ pos 1 ∷ []))

abbrev w9 : World
w9 = after w8 w8.columns 0 Idle

abbrev w10 : World
w10 = after w9 w9.columns 1 Idle

step_w1 : Steps counter_object w0 0 (Invoked 0 []) w1
step_w1 = (counter_object_inc, refl, refl, refl, refl)

step_w2 : Steps counter_object w1 1 (Invoked 0 []) w2
step_w2 = (counter_object_inc, refl, refl, refl, refl)

step_w3 : Steps counter_object w2 0 (Moved 0 Next) w3
step_w3 = (pos 2 ∷ pos 0 ∷ pos 0 ∷ [], (counter_object_p0).instruction, record { client = refl; code = (counter_object_p0, refl, refl) }, w2.columns, 1, pos 2 ∷ pos 0 ∷ pos 0 ∷ [], (refl, refl, refl), refl)

step_w4 : Steps counter_object w3 1 (Moved 0 Next) w4
step_w4 = (pos 2 ∷ pos 1 ∷ pos 0 ∷ [], (counter_object_p0).instruction, record { client = refl; code = (counter_object_p0, refl, refl) }, w3.columns, 1, pos 2 ∷ pos 1 ∷ pos 0 ∷ [], (refl, refl, refl), refl)

step_w5 : Steps counter_object w4 0 (Moved 1 Then) w5
step_w5 = (pos 2 ∷ pos 0 ∷ pos 0 ∷ [], (counter_object_p1).instruction, record { client = refl; code = (counter_object_p1, refl, refl) }, with_row w4.columns (1 ∷ []) (pos 0) (pos 1 ∷ []), 2, pos 2 ∷ pos 0 ∷ pos 0 ∷ [], inl (refl, refl, refl, refl), refl)

step_w6 : Steps counter_object w5 1 (Moved 1 Else) w6
step_w6 = (pos 2 ∷ pos 1 ∷ pos 0 ∷ [], (counter_object_p1).instruction, record { client = refl; code = (counter_object_p1, refl, refl) }, w5.columns, 0, pos 2 ∷ pos 1 ∷ pos 0 ∷ [], inr ((λ e. absurd (cc e)), refl, refl, refl), refl)

step_w7 : Steps counter_object w6 1 (Moved 0 Next) w7
step_w7 = (pos 2 ∷ pos 1 ∷ pos 0 ∷ [], (counter_object_p0).instruction, record { client = refl; code = (counter_object_p0, refl, refl) }, w6.columns, 1, pos 2 ∷ pos 1 ∷ pos 1 ∷ [], (refl, refl, refl), refl)

step_w8 : Steps counter_object w7 1 (Moved 1 Then) w8
step_w8 = (pos 2 ∷ pos 1 ∷ pos 1 ∷ [], (counter_object_p1).instruction, record { client = refl; code = (counter_object_p1, refl, refl) }, with_row w7.columns (1 ∷ []) (pos 0) (pos 2 ∷ []), 2, pos 2 ∷ pos 1 ∷ pos 1 ∷ [], inl (refl, refl, refl, refl), refl)

step_w9 : Steps counter_object w8 0 (Returned (pos 0 ∷ [])) w9
step_w9 = (2, pos 2 ∷ pos 0 ∷ pos 0 ∷ [], (counter_object_p2).instruction, record { client = refl; code = (counter_object_p2, refl, refl) }, Next, w8.columns, (refl, refl, refl), refl)

step_w10 : Steps counter_object w9 1 (Returned (pos 1 ∷ [])) w10
step_w10 = (2, pos 2 ∷ pos 1 ∷ pos 1 ∷ [], (counter_object_p2).instruction, record { client = refl; code = (counter_object_p2, refl, refl) }, Next, w9.columns, (refl, refl, refl), refl)

count_run : IsBareRun counter_object 2 two_labels
count_run = (w10, (w1, step_w1, (w2, step_w2, (w3, step_w3, (w4, step_w4, (w5, step_w5, (w6, step_w6, (w7, step_w7, (w8, step_w8, (w9, step_w9, (w10, step_w10, refl)))))))))))

pub two_count : TwoClientsCount
two_count = (count_run, refl)
