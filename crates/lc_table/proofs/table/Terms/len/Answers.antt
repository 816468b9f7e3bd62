use Rattle.std.proofs.Common.{rules}
use Rattle.lc_table.proofs.Tables.{entry_count}
use Rattle.lc_table.proofs.table.Terms.len.Goals as goal

pub returns : goal.returns
returns c =
    let count = entry_count c.args.self.now c.self.inside.terms.keys c.self.inside.formulas.keys c.self.view_is in
    search (rules, count)
