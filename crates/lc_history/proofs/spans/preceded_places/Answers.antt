use Rattle.std.proofs.Common.{◌≡◌, ◌+◌, ◌-◌, ◌<◌, None, length, get_or, arith, ap, ◌∙◌}
use Rattle.std.proofs.lemmas.List.{length-set}
use Rattle.std.proofs.lemmas.Option.{slice_get-get_or}
use Rattle.lc_history.specs.Spans.{earlier}
use Rattle.lc_history.proofs.Preceded.{preceded_next, earliest_next}
use Rattle.lc_history.proofs.spans.preceded_places.Goals as goal

pub loop-place-preserved : goal.loop-place-preserved
loop-place-preserved c =
    let spans = c.args.spans.now in
    let n = c.loop-place.place - 1 in
    let next : c.loop-place.place ≡ n + 1 = omega arith in
    let within : n < length spans = omega arith in
    let at = slice_get-get_or spans n None within in
    let before = c.loop-place.invariant in
    record {
      size = length-set c.loop-place.preceded.items n c.is_before.result ∙ before.size;
      each = preceded_next spans c.loop-place.preceded.items c.loop-place.place n (get_or spans n None) c.is_before.result c.loop-place.earliest next before.size within at before.each before.earliest c.is_before.ensures;
      earliest = earliest_next spans c.loop-place.place n (get_or spans n None) c.loop-place.earliest c.earlier-earliest.result next at before.earliest
          (c.earlier-earliest.ensures ∙ ap (earlier c.loop-place.earliest) c.return_of.ensures);
    }
