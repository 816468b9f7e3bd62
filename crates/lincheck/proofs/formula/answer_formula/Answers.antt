use Rattle.std.proofs.Common.{refl}
use Rattle.lincheck.proofs.Verdicts.{verdict_answers_file}
use Rattle.lincheck.proofs.formula.answer_formula.Goals as goal

pub check_fed-verdict-requires : goal.check_fed-verdict-requires
check_fed-verdict-requires g c =
    let fed = c.in_ok-reader.ensures.fed in
    (fed.0, fed.1)

pub returns-clause-answers : goal.returns-clause-answers
returns-clause-answers g c =
    let fed = c.in_ok-reader.ensures.fed in
    verdict_answers_file (g.F.Files.bytes_at c.args.files.now c.args.path.now) fed.0 fed.0 c.check_fed-verdict.result
    c.in_ok-told.field-0.text.items c.in_ok-told.field-0.status fed.2 refl (c.check_fed-verdict.ensures fed.0 fed.1) c.in_ok-told.ensures
