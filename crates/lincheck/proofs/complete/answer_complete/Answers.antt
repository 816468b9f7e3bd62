use Rattle.lincheck.proofs.Completed.{made_answered, refused_answered}
use Rattle.lincheck.proofs.complete.answer_complete.Goals as goal

pub returns-in_ok-answer-in-Ok-clause-answers : goal.returns-in_ok-answer-in-Ok-clause-answers
returns-in_ok-answer-in-Ok-clause-answers g c =
    let fed = c.in_ok-reader.ensures.fed in
    let answer = c.in_ok-answer-in-Ok.answer in
    made_answered (g.F.Files.bytes_at c.args.files.now c.args.path.now) fed.0 answer.text.items answer.status c.in-Ok.made
    fed.2 (c.in-Ok.ensures fed.0 fed.1) c.in_ok-answer-in-Ok.ensures

pub returns-in_ok-told_fault-in-Err-clause-answers : goal.returns-in_ok-told_fault-in-Err-clause-answers
returns-in_ok-told_fault-in-Err-clause-answers g c =
    let fed = c.in_ok-reader.ensures.fed in
    refused_answered (g.F.Files.bytes_at c.args.files.now c.args.path.now) fed.0 c.in_ok-told_fault-in-Err.field-0.text.items c.in_ok-told_fault-in-Err.field-0.status c.in-Err.fault
    fed.2 (c.in-Err.ensures fed.0 fed.1) c.in_ok-told_fault-in-Err.ensures
