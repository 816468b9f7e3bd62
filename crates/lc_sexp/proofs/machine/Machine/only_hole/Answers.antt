use Rattle.std.proofs.Common.{arith}
use Rattle.lc_sexp.proofs.Cuts.{one_item}
use Rattle.lc_sexp.proofs.machine.Machine.only_hole.Goals as goal

pub returns : goal.returns
returns c = one_item c.args.self.now.holes.items c.index.result.now (let k = c.args.self.now.holes.ok.0 in omega (arith, k, c.requires)) c.index.ensures
