use Rattle.lc_seq.specs.TextView.{specification_of}
use Rattle.lc_native.specs.FormView.{form_of}
use Rattle.lc_native.proofs.Tested.{columns-tested, operations-tested, form-tested, form-failed}
use Rattle.lc_native.proofs.form.Form.is_of.Goals as goal

pub returns-then-all_match : goal.returns-then-all_match
returns-then-all_match c =
    let spec = c.args.spec.now in
    let form = c.args.self.now in
    form-tested (specification_of spec) (form_of form) c.all_match.result c.all_match-then-all_match.result
    (columns-tested c.all_match.result c.columns.result.now spec.columns.items c.deref.result.now form.columns.items c.columns.ensures c.deref.ensures.value c.all_match.ensures)
    (operations-tested c.all_match-then-all_match.result c.operations.result.now spec.operations.items c.deref-then-all_match.result.now form.operations.items c.operations.ensures c.deref-then-all_match.ensures.value c.all_match-then-all_match.ensures)
    c.if-all_match.true

pub returns-else-all_match : goal.returns-else-all_match
returns-else-all_match c =
    let spec = c.args.spec.now in
    let form = c.args.self.now in
    form-failed (specification_of spec) (form_of form) c.all_match.result
    (columns-tested c.all_match.result c.columns.result.now spec.columns.items c.deref.result.now form.columns.items c.columns.ensures c.deref.ensures.value c.all_match.ensures)
    c.if-all_match.false
