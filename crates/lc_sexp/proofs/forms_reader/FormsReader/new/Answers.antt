use Rattle.lc_sexp.proofs.FedForms.{taken_none}
use Rattle.lc_sexp.proofs.forms_reader.FormsReader.new.Goals as goal

pub returns-clause-start : goal.returns-clause-start
returns-clause-start c =
    let n = c.new.ensures in
    taken_none c.new.result (record { offset = n.offset; outside = n.outside; holes = n.holes; nodes = n.nodes; text = n.text; start = n.start })
