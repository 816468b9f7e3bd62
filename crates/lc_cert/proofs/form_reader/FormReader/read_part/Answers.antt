use Rattle.std.proofs.Common.{sym, ap, ◌∙◌}
use Rattle.std.proofs.lemmas.Result.{on_ok_weaker}
use Rattle.lc_sexp.specs.Trees.{◌▸◌}
use Rattle.lc_reading.specs.Parts.{tree_of, place_of}
use Rattle.lc_reading.specs.TableView.{listed}
use Rattle.lc_cert.specs.Pieces.{form_due}
use Rattle.lc_cert.proofs.form_reader.FormReader.read_part.Goals as goal

pub returns-in-Proofs-clause-reads : goal.returns-in-Proofs-clause-reads
returns-in-Proofs-clause-reads c =
    on_ok_weaker c.read_proof.result
    (λ reads taken ts. reads c.args.name.now taken ts c.in-Proofs.is
    ∙ ap (λ due. form_due (listed c.args.columns.now) c.args.name.now taken c.args.self.now due (place_of c.args.part) (tree_of c.args.part ▸ ts)) (sym c.in-Proofs.is))
    c.read_proof.ensures.reads
