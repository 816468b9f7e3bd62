use Rattle.std.proofs.Common.{sym, ◌∙◌, ◌++◌, subst}
use Rattle.lc_sexp.specs.Shown.{rest_of}
use Rattle.lc_reading.specs.Parts.{tree_of}
use Rattle.lc_reading.specs.Results.{IsReading}
use Rattle.lc_cert.proofs.FormSteps.{one_form}
use Rattle.lc_cert.specs.Pieces.{waiting_in}
use Rattle.lc_cert.specs.Readings.{file_reading}
use Rattle.lc_cert.proofs.form_reader.FormReader.finish.Goals as goal

pub returns : goal.returns
returns c = λ columns name taken ts n h rest owner.
    subst (IsReading (λ _. taken ++ waiting_in c.args.self.now) (file_reading columns name ts)) (sym c.ended_at.ensures)
    (one_form columns name taken c.args.self.now n ts (tree_of c.in_ok-first.first) (rest_of c.in_ok-first.others) c.end_of.result (sym c.in_ok-first.ensures.0 ∙ rest) h (c.end_of.ensures columns name taken))
