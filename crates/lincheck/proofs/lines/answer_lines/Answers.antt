use Rattle.std.proofs.Common.{Vec, ℕ}
use Rattle.std.specs.declared.alloc.Global.{Global}
use Rattle.lincheck.proofs.LaidOut.{lines_answered, lines_refused}
use Rattle.lincheck.proofs.lines.answer_lines.Goals as goal

pub returns-in-Ok-clause-answers : goal.returns-in-Ok-clause-answers
returns-in-Ok-clause-answers g c =
    let fed = c.in_ok-reader.ensures.fed in
    lines_answered (λ (t : Vec ℕ Global). t.items) (g.F.Files.bytes_at c.args.files.now c.args.path.now) fed.0 c.in-Ok.text fed.2 (c.in-Ok.ensures fed.0 fed.1)

pub returns-in_ok-told_fault-in-Err-clause-answers : goal.returns-in_ok-told_fault-in-Err-clause-answers
returns-in_ok-told_fault-in-Err-clause-answers g c =
    let fed = c.in_ok-reader.ensures.fed in
    lines_refused (λ (t : Vec ℕ Global). t.items) (g.F.Files.bytes_at c.args.files.now c.args.path.now) fed.0 c.in-Err.fault
    c.in_ok-told_fault-in-Err.field-0.text.items c.in_ok-told_fault-in-Err.field-0.status
    fed.2 (c.in-Err.ensures fed.0 fed.1) c.in_ok-told_fault-in-Err.ensures
