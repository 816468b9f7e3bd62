use Rattle.std.proofs.Common.{◌≡◌, ap, subst, arith}
use Rattle.std.proofs.lemmas.Result.{IfOk-weaker}
use Rattle.std.specs.Prelude.{◌≢◌}
use Rattle.lc_put.specs.Filling.{IsFilled}
use Rattle.lc_put.specs.Put.{replacement_of, variables_put}
use Rattle.lc_put.proofs.Filled.{variable_unput, variable_stays, numbered_variable, putting_here, putting_elsewhere}
use Rattle.lc_put.proofs.replacing.replaced_variable.Goals as goal

pub returns-in_ok-raised-in-Variable-clause-id : goal.returns-in_ok-raised-in-Variable-clause-id
returns-in_ok-raised-in-Variable-clause-id g c =
    let put = subst (λ p. IsFilled p c.args.table.now g.R.Filled.replacement) c.in-Variable.is c.requires.put in
    let same : c.args.number ≡ c.in-Variable.variable = omega arith in
    putting_here g.R.Filled.replacement c.args.depth c.args.table.now c.raised.new.table c.in-Variable.term c.in_ok-raised-in-Variable.field-0 put.0 c.in-Variable.variable c.args.number put.2 put.1 same
    c.in_ok-raised-in-Variable.ensures.id

pub returns-else-number-variable-clause-id : goal.returns-else-number-variable-clause-id
returns-else-number-variable-clause-id g c =
    let put = subst (λ p. IsFilled p c.args.table.now g.R.Filled.replacement) c.in-Variable.is c.requires.put in
    let other : c.args.number ≢ c.in-Variable.variable = omega arith in
    putting_elsewhere g.R.Filled.replacement c.args.depth c.args.table.now c.args.part put.0 c.in-Variable.variable c.args.number put.2 other c.requires.there

pub returns-in-Opening-clause-id : goal.returns-in-Opening-clause-id
returns-in-Opening-clause-id g c = variable_unput c.args.put.now g.R.Filled.replacement c.args.depth c.args.table.now c.args.part c.args.number c.in-Opening.is c.requires.put c.requires.there

pub returns-in-Opening-2-clause-id : goal.returns-in-Opening-2-clause-id
returns-in-Opening-2-clause-id g c = variable_unput c.args.put.now g.R.Filled.replacement c.args.depth c.args.table.now c.args.part c.args.number c.in-Opening.is c.requires.put c.requires.there

pub returns-in-Own-clause-id : goal.returns-in-Own-clause-id
returns-in-Own-clause-id g c =
    let filled = subst (λ p. IsFilled p c.args.table.now g.R.Filled.replacement) c.in-Put.is c.requires.put in
    variable_stays g.R.Filled.replacement (replacement_of c.in-Put.put) c.args.depth c.args.table.now c.args.part c.args.number filled (ap (λ v. variables_put v c.args.number) c.in-Own.is) c.requires.there

pub returns-in-Numbers-clause-id : goal.returns-in-Numbers-clause-id
returns-in-Numbers-clause-id g c =
    let r = g.R.Filled.replacement in
    let filled = subst (λ p. IsFilled p c.args.table.now r) c.in-Numbers.is c.requires.put in
    IfOk-weaker c.numbered_variable.result _ _
    (λ k h. numbered_variable r c.args.table.now c.numbered_variable.new.table c.args.depth c.in-Numbers.put.columns.now c.in-Numbers.put.variables.now k c.args.number filled.2 h)
    c.numbered_variable.ensures.id
