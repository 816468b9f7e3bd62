use Rattle.lc_sexp.proofs.FedForms.{fault_answer, forms_answer}
use Rattle.lc_sexp.proofs.forms_reader.FormsReader.finish.Goals as goal

pub returns-in-Some-clause-answer : goal.returns-in-Some-clause-answer
returns-in-Some-clause-answer c = λ fed h. fault_answer fed c.args.self.machine c.args.self.fault c.in-Some.offset c.in-Some.is h

pub returns-clause-answer : goal.returns-clause-answer
returns-clause-answer c = λ fed h.
    forms_answer fed c.args.self.machine c.args.self.fault c.finish.result c.in_default.is h c.finish.ensures.told c.finish.ensures.sound c.finish.ensures.err
