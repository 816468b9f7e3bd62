use Rattle.lc_sexp.specs.Shown.{rest_of, number_of, owner_of}
use Rattle.lc_reading.proofs.Combined.{ended_read}
use Rattle.lc_reading.specs.Readings.{mapped}
use Rattle.lc_rider.specs.Rider.{Marks, Own, Note}
use Rattle.lc_rider_text.specs.Choices.{in_order_reading, by_reading}
use Rattle.lc_rider_text.specs.KnownView.{known_view, ways_there}
use Rattle.lc_rider_text.specs.Seen.{deed_of}
use Rattle.lc_rider_text.specs.Updates.{update_reading}
use Rattle.lc_rider_text.specs.declared.update.Stores.TheVariants.{InAuxiliary}
use Rattle.lc_rider_text.proofs.rider.read_headed.Goals as goal

pub returns-in-Set : goal.returns-in-Set
returns-in-Set g c =
    let l = c.args.list in
    rw c.in-Set.is (c.made_store.ensures (update_reading InAuxiliary (known_view c.args.known) (g.S.Scope.names c.args.scope.now) (owner_of l) (number_of l) (rest_of l)) c.read_update.ensures)

pub returns-in-Lin : goal.returns-in-Lin
returns-in-Lin g c =
    let l = c.args.list in
    let by = in_order_reading (ways_there c.args.own) (owner_of l) in
    rw (c.in-Lin.is, c.ended.ensures)
    (ended_read deed_of (number_of l) (rest_of l) (mapped (Marks Own) by) c.made_lin.result (c.made_lin.ensures by (rw c.owner.ensures at c.read_in_order.ensures)))

pub returns-in-Note : goal.returns-in-Note
returns-in-Note g c =
    let l = c.args.list in
    let by = in_order_reading (ways_there c.args.own) (owner_of l) in
    rw (c.in-Note.is, c.ended-in-Note.ensures)
    (ended_read deed_of (number_of l) (rest_of l) (mapped (Marks Note) by) c.made_note.result (c.made_note.ensures by (rw c.owner-in-Note.ensures at c.read_in_order-in-Note.ensures)))

pub returns-in-LinBy : goal.returns-in-LinBy
returns-in-LinBy g c =
    let l = c.args.list in
    rw c.in-LinBy.is (c.made_lin-in-LinBy.ensures (by_reading (g.S.Scope.names c.args.scope.now) (ways_there c.args.own) (owner_of l) (number_of l) (rest_of l)) c.read_by.ensures)

pub returns-in-NoteBy : goal.returns-in-NoteBy
returns-in-NoteBy g c =
    let l = c.args.list in
    rw c.in-NoteBy.is (c.made_note-in-NoteBy.ensures (by_reading (g.S.Scope.names c.args.scope.now) (ways_there c.args.own) (owner_of l) (number_of l) (rest_of l)) c.read_by-in-NoteBy.ensures)
