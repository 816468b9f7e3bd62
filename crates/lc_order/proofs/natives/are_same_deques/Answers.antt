use Rattle.std.proofs.lemmas.Bool.Decides.{Decides-int_eq}
use Rattle.std.proofs.lemmas.Slice.Eq.{slice_eq-Decides}
use Rattle.lc_order.proofs.natives.are_same_deques.Goals as goal

pub returns : goal.returns
returns c = (slice_eq-Decides Decides-int_eq c.args.a.now.items c.args.b.now.items c.eq.result c.eq.ensures).0
