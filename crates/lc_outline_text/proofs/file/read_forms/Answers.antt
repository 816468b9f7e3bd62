use Rattle.std.proofs.Common.{sym, ap, ap₂, ◌∙◌, subst}
use Rattle.std.specs.Prelude.{Vec}
use Rattle.std.specs.declared.alloc.Global.{Global}
use Rattle.lc_sexp.specs.Shown.{rest_of, number_of}
use Rattle.lc_object.specs.declared.parts.Point.{Point}
use Rattle.lc_object_text.specs.Seen.{sections_view}
use Rattle.lc_object_text.specs.declared.body.BodyText.{BodyText}
use Rattle.lc_object_text.specs.declared.tables.Tables.{Tables}
use Rattle.lc_outline.specs.declared.parts.Outline.{Outline}
use Rattle.lc_outline.specs.PartsView.{parts_view}
use Rattle.lc_reading.proofs.Combined.{both_read, ok_arm}
use Rattle.lc_reading.specs.Parts.{tree_of, place_of}
use Rattle.lc_reading.specs.Readings.{fine}
use Rattle.lc_reading.specs.Results.{IsReading}
use Rattle.lc_seq.specs.TextView.{specification_of}
use Rattle.lc_seq.specs.declared.specification.TextSpec.{TextSpec}
use Rattle.lc_outline_text.proofs.Assembled.{object_is_one, development_is_resolved, text_is_resolved}
use Rattle.lc_outline_text.proofs.PlacedReads.{forms_at}
use Rattle.lc_outline_text.specs.DeclarationsView.{declarations_view}
use Rattle.lc_outline_text.specs.Developments.{development_of, forms_reading}
use Rattle.lc_outline_text.specs.Views.{object_parts_view}
use Rattle.lc_outline_text.specs.declared.sides.Sides.{Sides}
use Rattle.lc_outline_text.proofs.file.read_forms.Goals as goal

pub made_development-requires : goal.made_development-requires
made_development-requires c =
    let (at, next) = c.in-Ok.ensures in
    let us = rest_of c.args.forms in
    let rest = c.next_part.new.list in
    let D = declarations_view c.args.declarations.now in
    let S = sections_view c.args.sections.now in
    let view = λ (p : TextSpec × ((Tables × Sides) × Vec (BodyText (Point × Outline)) Global)). development_of (specification_of p.0) (object_parts_view p.1) in
    let together = subst (IsReading view _) (sym c.both.ensures) (both_read specification_of object_parts_view development_of _ _ c.read_specification-specification.result c.read_second_form-object.result c.read_specification-specification.ensures c.read_second_form-object.ensures) in
    let value = ok_arm view _ c.both.result (c.in_ok-specification.specification, c.in_ok-specification.object) together c.in_ok-specification.was in
    let same = forms_at D S (number_of c.args.forms) (place_of c.in-Ok.part) (number_of rest) (tree_of c.in-Ok.part) (rest_of rest) us next.rest at next.number in
    object_is_one us _ (sym (ap₂ (λ d s. forms_reading d s 0 us) c.requires.declared c.requires.sections) ∙ sym (ap (λ n. forms_reading D S n us) c.requires.start) ∙ same ∙ value)

pub returns-clause-read : goal.returns-clause-read
returns-clause-read c =
    let (at, next) = c.in-Ok.ensures in
    let us = rest_of c.args.forms in
    let rest = c.next_part.new.list in
    let D = declarations_view c.args.declarations.now in
    let S = sections_view c.args.sections.now in
    let view = λ (p : TextSpec × ((Tables × Sides) × Vec (BodyText (Point × Outline)) Global)). development_of (specification_of p.0) (object_parts_view p.1) in
    let together = subst (IsReading view _) (sym c.both.ensures) (both_read specification_of object_parts_view development_of _ _ c.read_specification-specification.result c.read_second_form-object.result c.read_specification-specification.ensures c.read_second_form-object.ensures) in
    let value = ok_arm view _ c.both.result (c.in_ok-specification.specification, c.in_ok-specification.object) together c.in_ok-specification.was in
    let same = forms_at D S (number_of c.args.forms) (place_of c.in-Ok.part) (number_of rest) (tree_of c.in-Ok.part) (rest_of rest) us next.rest at next.number in
    sym (ap₂ (λ d s. forms_reading d s 0 us) c.requires.declared c.requires.sections) ∙ sym (ap (λ n. forms_reading D S n us) c.requires.start) ∙ same ∙ value ∙ ap fine (sym c.in_ok-parts.ensures.shown)

pub returns-clause-resolved : goal.returns-clause-resolved
returns-clause-resolved c =
    development_is_resolved (rest_of c.args.forms) (parts_view c.in_ok-parts.parts) (returns-clause-read c) (text_is_resolved c.in_ok-parts.parts.specification)
