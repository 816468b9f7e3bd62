use Rattle.std.proofs.Common.{◌++◌, Ok, Err, sym, ap, ◌∙◌, subst}
use Rattle.lc_sexp.specs.Trees.{item_count_of_all}
use Rattle.lc_outline.specs.DevelopmentView.{development_view}
use Rattle.lc_cert.proofs.Pieces.{text_answer, trees_answer}
use Rattle.lc_outline.specs.ColumnNames.{column_names}
use Rattle.lc_cert.specs.Pieces.{waiting, IsAnswerOf}
use Rattle.lc_cert.proofs.cert_reader.CertReader.finish.Goals as goal

pub returns-in-Err-clause-answer : goal.returns-in-Err-clause-answer
returns-in-Err-clause-answer c = λ fed taken h.
    let D = development_view c.args.development.now in
    subst (λ fault. IsAnswerOf D fed (taken ++ waiting c.args.self) (Err fault)) (sym c.text_told.ensures)
    (text_answer D fed h.parts (taken ++ waiting c.args.self) c.in-Err.fault (c.in-Err.ensures.answer_without fed h.parts h.read))

pub returns-in-Ok-finish-clause-answer : goal.returns-in-Ok-finish-clause-answer
returns-in-Ok-finish-clause-answer c = λ fed taken h.
    let D = development_view c.args.development.now in
    trees_answer D fed taken c.args.self c.in-Ok.forms (Ok c.in-Ok-finish.field-0) h (c.in-Ok.ensures.answer_without fed h.parts h.read)
    (λ ts n form rest. c.in-Ok-finish.ensures (column_names D) D.object.name taken ts n form (c.cursor.ensures.rest ∙ rest) (c.cursor.ensures.owner ∙ ap item_count_of_all (sym c.cursor.ensures.rest)))

pub returns-clause-answer : goal.returns-clause-answer
returns-clause-answer c = λ fed taken h.
    let D = development_view c.args.development.now in
    subst (λ fault. IsAnswerOf D fed (taken ++ waiting c.args.self) (Err fault)) (sym c.trees_told.ensures)
    (trees_answer D fed taken c.args.self c.in-Ok.forms (Err c.in-Err-finish.fault) h (c.in-Ok.ensures.answer_without fed h.parts h.read)
    (λ ts n form rest. c.in-Err-finish.ensures (column_names D) D.object.name taken ts n form (c.cursor.ensures.rest ∙ rest) (c.cursor.ensures.owner ∙ ap item_count_of_all (sym c.cursor.ensures.rest))))
