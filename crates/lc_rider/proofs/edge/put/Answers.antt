use Rattle.std.proofs.lemmas.List.{map-set}
use Rattle.lc_term.specs.View.{term_of}
use Rattle.lc_rider.proofs.edge.put.Goals as goal

pub returns : goal.returns
returns c = map-set term_of c.args.terms.items c.args.place c.args.term
