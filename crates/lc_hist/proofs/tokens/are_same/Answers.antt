use Rattle.std.proofs.Common.{IsTrue, subst}
use Rattle.std.proofs.lemmas.Slice.Eq.{bytes_eq-Decides}
use Rattle.lc_hist.proofs.tokens.are_same.Goals as goal

pub returns-clause-same : goal.returns-clause-same
returns-clause-same c = λ h. (bytes_eq-Decides c.args.a.now c.args.b.now).0 (subst IsTrue c.by_bytes.ensures h)
