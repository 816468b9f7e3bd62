use Rattle.std.proofs.Common.{arith}
use Rattle.lc_sexp.proofs.Cuts.{later_under_way}
use Rattle.lc_sexp.proofs.machine.Machine.drop_word.Goals as goal

pub invariant_of-self-clause-under_way : goal.invariant_of-self-clause-under_way
invariant_of-self-clause-under_way c =
    later_under_way c.args.self.now.text.items c.args.self.now.start c.len-self.result c.args.self.now.nodes.items c.args.self.now.holes.items
    (omega (arith, c.args.self.now.begun, c.len-self.ensures)) c.args.self.now.under_way
