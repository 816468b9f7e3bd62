use Rattle.std.proofs.Common.{ap₂, subst}
use Rattle.std.proofs.lemmas.Result.{IfOk-weaker}
use Rattle.lc_term.specs.Syntax.{Read}
use Rattle.lc_table.specs.Tables.{HasTerm}
use Rattle.lc_table.proofs.Later.{column_is, column_later, term_is}
use Rattle.lc_cond.proofs.matching.raised_cell.Goals as goal

pub returns-clause-id : goal.returns-clause-id
returns-clause-id c =
    let t1 = c.raise_column.new.table in
    let t2 = c.bound.new.self in
    let column = column_is t2 c.in_ok-raised.raised _ (column_later t1 t2 c.in_ok-raised.raised _ c.in_ok-raised.ensures.id c.in_ok-index.ensures.kept) in
    IfOk-weaker c.read.result _ _ (λ k h. subst (HasTerm c.read.new.self k) (ap₂ Read column (term_is t2 c.in_ok-index.index _ c.in_ok-index.ensures.id)) h) c.read.ensures.id
