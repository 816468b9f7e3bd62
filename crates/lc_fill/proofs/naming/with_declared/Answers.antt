use Rattle.std.proofs.Common.{◌++◌, ap, sym, ◌∙◌}
use Rattle.std.specs.Prelude.{codes}
use Rattle.lc_reading.specs.Parts.{tree_of}
use Rattle.lc_reading.specs.TableView.{listed}
use Rattle.lc_fill.proofs.Names.{begins-is, named, unnamed}
use Rattle.lc_fill.proofs.naming.with_declared.Goals as goal

pub returns-in_default : goal.returns-in_default
returns-in_default c = unnamed (listed c.args.names) (tree_of c.args.part) c.in_default.ensures.1

pub returns : goal.returns
returns c = c.in_ok-more.ensures ∙ ap (λ xs. listed c.args.names ++ xs) (sym (named (tree_of c.args.part) (begins-is (codes "action") c.args.part c.in-Ok.field-0 c.in-Ok.ensures)))
