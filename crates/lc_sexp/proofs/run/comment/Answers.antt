use Rattle.std.proofs.Common.{refl}
use Rattle.lc_sexp.proofs.Runs.{comment_open, comment_ended}
use Rattle.lc_sexp.proofs.run.comment.Goals as goal

pub returns-then-byte-eq10 : goal.returns-then-byte-eq10
returns-then-byte-eq10 c = comment_ended c.args.bytes.now c.loop-at.at _ 0 c.loop-at-test.true refl c.if-byte-eq10.true c.loop-at.invariant

pub returns : goal.returns
returns c = comment_open c.args.bytes.now c.loop-at.at c.requires c.loop-at-test.false c.loop-at.invariant
