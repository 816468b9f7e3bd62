use Rattle.lc_seq.specs.TextView.{specification_of}
use Rattle.lincheck.proofs.Drawn.{drawn_answered}
use Rattle.lincheck.proofs.draw.answer_drawn.Goals as goal

pub returns-clause-answers : goal.returns-clause-answers
returns-clause-answers g c =
    drawn_answered c.args.shown (specification_of c.args.spec.now) (g.F.Files.bytes_at c.args.files.now c.args.path.now) c.in_ok-bytes.bytes.items c.deref.result.now
    c.in_ok-shown_of.field-0.text.items c.in_ok-shown_of.field-0.status
    c.in_ok-bytes.ensures.bytes c.deref.ensures.value c.in_ok-shown_of.ensures
