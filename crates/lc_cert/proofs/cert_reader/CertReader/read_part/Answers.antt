use Rattle.std.proofs.Common.{refl, arith}
use Rattle.std.proofs.lemmas.Result.{on_ok_weaker}
use Rattle.lc_reading.specs.TableView.{listed}
use Rattle.lc_cert.proofs.FormSteps.{other_form, form_same}
use Rattle.lc_cert.proofs.cert_reader.CertReader.read_part.Goals as goal

pub returns-then-part-ne0-clause-form : goal.returns-then-part-ne0-clause-form
returns-then-part-ne0-clause-form c = λ parts taken h.
    form_same (listed c.args.columns.now) c.args.name.now parts c.args.part.now taken c.args.self.now.form (other_form c.args.part.now.form c.if-part-ne0.true) h

pub returns-clause-form : goal.returns-clause-form
returns-clause-form c =
    on_ok_weaker c.read_item.result (λ g parts taken h. g parts c.args.part.now taken (omega (arith, c.if-part-ne0.false)) refl h) c.read_item.ensures.form
