use Rattle.std.proofs.Common.{◌++◌, ◌∙◌, take, drop, sym, subst, arith}
use Rattle.lincheck.specs.Reading.{IsFedOn}
use Rattle.lincheck.proofs.Fed.{filled_front_length, fed_on, front_given, fed_more, fed_kept}
use Rattle.lincheck.proofs.reading.feed_to_limit.Goals as goal
use Rattle.lincheck.proofs.reading.feed_to_limit.Goals.{in-Ok+else-is_err, in-Err+else-ne}

pub loop-turn-preserved : goal.loop-turn-preserved
loop-turn-preserved g c =
    let so_far = c.loop-turn.invariant.1 in
    let left = g.R.Read.remaining c.args.reader.now in
    let mid = g.R.Read.remaining c.loop-turn.reader in
    let right = g.R.Read.remaining c.read.new.self in
    let room = filled_front_length c.read.new.buf c.loop-turn.piece c.min-room.result c.loop-turn.left c.min-room.ensures c.loop-turn.invariant.0 c.read.auto.buf in (
      room.2,
      elim c.match-read.branch [
        | in-Ok+else-is_err w ↦
            let given = front_given w.in-Ok.n c.read.new.buf (drop c.min-room.result c.loop-turn.piece) w.in-Ok.ensures.bound.0 in
            rw w.left-is (rw w.sink-is (fed_more g.S.Sink.WasFed c.args.sink.now c.loop-turn.sink w.take_piece.new.sink left mid right c.loop-turn.left w.in-Ok.n (take w.in-Ok.n c.read.new.buf)
            so_far w.in-Ok.ensures.bytes.0 (sym w.in-Ok.ensures.bound.1) (omega (arith, room.0, room.1, w.in-Ok.ensures.bound.0)) (subst (IsFedOn g.S.Sink.WasFed c.loop-turn.sink w.take_piece.new.sink) given (fed_on w.take_piece.result (IsFedOn g.S.Sink.WasFed c.loop-turn.sink w.take_piece.new.sink (take w.in-Ok.n (c.read.new.buf ++ drop c.min-room.result c.loop-turn.piece))) w.if-is_err.ensures.value w.take_piece.ensures.fed))))
        | in-Err+else-ne w ↦
            rw w.left-is (rw w.sink-is (fed_kept g.S.Sink.WasFed c.args.sink.now c.loop-turn.sink left mid right c.loop-turn.left so_far w.in-Err.ensures.bytes))
      ],
      elim c.match-read.branch [
        | in-Ok+else-is_err w ↦ rw w.files-is (λ other. w.take_piece.ensures.keeps other ∙ c.loop-turn.invariant.2 other)
        | in-Err+else-ne w ↦ rw w.files-is c.loop-turn.invariant.2
      ],
      elim c.match-read.branch [
        | in-Ok+else-is_err w ↦ rw w.files-is (λ other none. w.take_piece.ensures.closed other (c.loop-turn.invariant.3 other none))
        | in-Err+else-ne w ↦ rw w.files-is c.loop-turn.invariant.3
      ],
    )
