use Rattle.lc_seq.specs.TextView.{specification_of}
use Rattle.lincheck.proofs.Judgements.{history_answered}
use Rattle.lincheck.proofs.judge.answer_history.Goals as goal

pub returns-clause-answers : goal.returns-clause-answers
returns-clause-answers g c =
    history_answered (specification_of c.args.spec.now) (g.F.Files.bytes_at c.args.files.now c.args.path.now) c.in_ok-bytes.bytes.items c.deref.result.now
    c.judge_history-judgement.result c.in_ok-tell_judgement.field-0.text.items c.in_ok-tell_judgement.field-0.status
    c.in_ok-bytes.ensures.bytes c.deref.ensures.value c.judge_history-judgement.ensures c.in_ok-tell_judgement.ensures
