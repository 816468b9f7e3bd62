use Rattle.std.proofs.Common.{rules}
use Rattle.std.specs.Cmp.Rules.{signed_items}
use Rattle.lc_run.proofs.sameness.are_same_numbers.Goals as goal

pub returns : goal.returns
returns c = search (rules, signed_items)
