use Rattle.std.proofs.Common.{◌≡◌, drop}
use Rattle.lc_object.specs.View.{locals_of}
use Rattle.lc_term.specs.State.{variable_count}
use Rattle.lc_machine.specs.Step.{assigned}
use Rattle.lc_machine.specs.Below.{AreBelow}
use Rattle.lc_machine.proofs.numbers.assign.Given as goal

-- what is left to be put gives the same variables
abbrev pub invariant-loop-i : goal.invariant-loop-i
invariant-loop-i l =
    let rest = locals_of (drop l.i l.targets) in
    record {
      same : assigned l.variables.values.items rest (drop l.i l.numbers) ≡ assigned l.initial.variables.values.items (locals_of l.targets) l.numbers;
      there : AreBelow (variable_count l.variables) rest;
    }
