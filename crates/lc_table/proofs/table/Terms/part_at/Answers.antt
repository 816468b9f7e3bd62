use Rattle.std.proofs.Common.{rules, ◌≡◌, slice_get}
use Rattle.lc_table.proofs.Found.{part_found}
use Rattle.lc_table.proofs.table.Terms.part_at.Goals as goal

pub returns : goal.returns
returns c =
    let same : slice_get c.self.inside.terms.keys c.args.part ≡ c.copied.result = search rules in
    part_found c.args.self.now c.self.inside.terms.keys _ c.args.part c.copied.result c.self.view_is c.self.invariant same
