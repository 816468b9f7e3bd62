use Rattle.std.proofs.Common.{subst}
use Rattle.std.proofs.lemmas.Result.{IfOk-weaker}
use Rattle.lc_put.specs.Filling.{IsFilled}
use Rattle.lc_put.specs.Put.{replacement_of}
use Rattle.lc_put.proofs.Filled.{column_unput, column_stays, numbered_column}
use Rattle.lc_put.proofs.replacing.replaced_base.Goals as goal

pub returns-in-Variable-clause-id : goal.returns-in-Variable-clause-id
returns-in-Variable-clause-id g c = column_unput c.args.put.now g.R.Filled.replacement c.args.depth c.args.table.now c.args.part c.args.number.0 c.in-Variable.is c.requires.put c.requires.there

pub returns-in-Variable-2-clause-id : goal.returns-in-Variable-2-clause-id
returns-in-Variable-2-clause-id g c = column_unput c.args.put.now g.R.Filled.replacement c.args.depth c.args.table.now c.args.part c.args.number.0 c.in-Variable.is c.requires.put c.requires.there

pub returns-in-Variable-3-clause-id : goal.returns-in-Variable-3-clause-id
returns-in-Variable-3-clause-id g c = column_unput c.args.put.now g.R.Filled.replacement c.args.depth c.args.table.now c.args.part c.args.number.0 c.in-Variable.is c.requires.put c.requires.there

pub returns-then-column_stays-clause-id : goal.returns-then-column_stays-clause-id
returns-then-column_stays-clause-id g c =
    let filled = subst (λ p. IsFilled p c.args.table.now g.R.Filled.replacement) c.in-Put.is c.requires.put in
    column_stays g.R.Filled.replacement (replacement_of c.in-Put.put) c.args.depth c.args.table.now c.args.part c.args.number.0 filled (c.column_stays.ensures c.if-column_stays.true) c.requires.there

pub returns-in-Numbers-clause-id : goal.returns-in-Numbers-clause-id
returns-in-Numbers-clause-id g c =
    let r = g.R.Filled.replacement in
    let filled = subst (λ p. IsFilled p c.args.table.now r) c.in-Numbers.is c.requires.put in
    IfOk-weaker c.numbered_base.result _ _
    (λ k h. numbered_column r c.args.table.now c.numbered_base.new.table c.args.depth c.in-Numbers.put.columns.now c.in-Numbers.put.variables.now k c.args.number.0 filled.2 h)
    c.numbered_base.ensures.id
