use Rattle.std.proofs.Common.{◌++◌, ap, ◌∙◌}
use Rattle.lc_object.specs.View.{columns_of}
use Rattle.lc_outline_text.specs.Paths.{stands}
use Rattle.lc_outline_text.proofs.stored.row_of.Goals as goal

pub returns-clause-row : goal.returns-clause-row
returns-clause-row c = ap stands c.in_ok-row.ensures ∙ c.in_ok-put_all.ensures.more ∙ ap (λ cs. stands (cs ++ columns_of c.args.columns.now)) c.in_ok-clear.ensures.none
