use Rattle.std.proofs.Common.{◌≡◌, Some}
use Rattle.std.specs.Map.{lookup}
use Rattle.lc_put.specs.Put.{occurrence_eq}
use Rattle.lc_table.proofs.Chained.{where_some}
use Rattle.lc_put.proofs.Remembered.{column_remembered}
use Rattle.lc_put.proofs.replacing.replaced_below.Goals as goal

pub returns-in-Some-clause-id : goal.returns-in-Some-clause-id
returns-in-Some-clause-id g c =
    column_remembered g.R.Filled.replacement c.args.table.now c.args.done.now c.args.chain.now.base c.args.depth c.in-Some.number c.requires.done.remembers c.requires.there
    (where_some (λ n. lookup (occurrence_eq (record { number = c.args.chain.now.base.0; depth = c.args.depth })) c.args.done.now.parts.entries ≡ Some n) c.args.chain.now.known c.in-Some.number c.in-Some.is c.requires.known)
