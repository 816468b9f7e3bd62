use Rattle.std.proofs.Common.{map, sym, ap, ◌∙◌}
use Rattle.lc_object_text.specs.ObjectNames.{first_text}
use Rattle.lc_reading.specs.Listed.{place_of}
use Rattle.lc_rider_text.specs.KnownView.{ways_view}
use Rattle.lc_outline_text.specs.Declarations.{choices_in, form_at}
use Rattle.lc_outline_text.specs.Rests.{rests_of}
use Rattle.lc_outline_text.proofs.StoredThere.{names_there}
use Rattle.lc_outline_text.proofs.declarations.Declarations.choice_place.Goals as goal

pub returns : goal.returns
returns c =
    let d = c.args.self.now in
    let operations = rests_of d.operations.items in
    let ways = c.in_ok-ways.ensures.lookup in
    let there = names_there operations c.deref.result.now c.in_ok-operation.field-0 c.in_ok-ways.ways.now (ap (map ways_view) c.deref.ensures.value ∙ d.ways_counted) ways.3.0 ways.1 in
    c.place.ensures ∙ ap (λ names. place_of names c.args.name.now) there ∙ ap (λ o. place_of (map first_text (choices_in (form_at operations o))) c.args.name.now) (sym c.in_ok-operation.was)
