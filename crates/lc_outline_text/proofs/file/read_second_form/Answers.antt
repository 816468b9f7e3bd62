use Rattle.std.proofs.Common.{sym, subst}
use Rattle.lc_sexp.specs.Shown.{rest_of, number_of}
use Rattle.lc_object_text.specs.Seen.{sections_view}
use Rattle.lc_reading.proofs.Combined.{ended_read}
use Rattle.lc_reading.specs.Parts.{tree_of}
use Rattle.lc_reading.specs.Results.{IsReading}
use Rattle.lc_outline_text.proofs.PlacedReads.{second_at}
use Rattle.lc_outline_text.specs.DeclarationsView.{declarations_view}
use Rattle.lc_outline_text.specs.Views.{object_parts_view}
use Rattle.lc_outline_text.proofs.file.read_second_form.Goals as goal

pub returns : goal.returns
returns c =
    let (at, next) = c.in-Ok.ensures in
    let rest = c.next_part.new.list in
    let same = second_at (declarations_view c.args.declarations.now) (sections_view c.args.sections.now) (number_of c.args.forms) c.number-number.result (number_of rest) (tree_of c.in-Ok.field-0) (rest_of rest) (rest_of c.args.forms)
    next.rest c.number-number.ensures next.number in
    subst (λ r. IsReading object_parts_view r c.ended.result) (sym same)
    (subst (IsReading object_parts_view _) (sym c.ended.ensures) (ended_read object_parts_view (number_of rest) (rest_of rest) _ c.read_object.result c.read_object.ensures))
