use Rattle.std.proofs.Common.{◌≡◌, true, false, Some, ap, subst, sym, ◌∙◌, slice_get}
use Rattle.std.proofs.lemmas.Bool.{false≢true}
use Rattle.std.proofs.lemmas.Option.{get_or_from_slice_get, slice_get-get_or}
use Rattle.lc_run.specs.LabelView.{labels_of}
use Rattle.lc_run.specs.Labels.{labels_by}
use Rattle.lc_run.specs.Seated.{HasOwn}
use Rattle.lc_run.proofs.seating.strange_seat.Goals as goal

pub returns-then-not-is_list_of : goal.returns-then-not-is_list_of
returns-then-not-is_list_of g c =
    let held = labels_of c.args.labels.now in
    let seats = c.args.seats.now in
    let i = c.loop-seat.seat-index in
    let item = c.seat-item.result in
    record {
      place = i;
      seat = item;
      there = slice_get-get_or seats i item c.loop-seat-test.true ∙ ap Some (sym c.seat-item.is);
      client = sym c.client-then-not-is_list_of.ensures.client;
      strange = λ own.
          let same : c.is_list_of.result ≡ true = c.is_list_of.ensures.1 (ap (λ k. labels_by k held) c.client.ensures.client ∙ (own ∙ sym c.labels.ensures)) in
          false≢true (sym c.if-not-is_list_of.true ∙ same);
      first = λ k s below is. subst (HasOwn held) (get_or_from_slice_get seats k s s is) (c.loop-seat.invariant k s below);
    }
