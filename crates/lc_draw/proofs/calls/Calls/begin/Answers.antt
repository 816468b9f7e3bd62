use Rattle.std.proofs.Common.{vec_len, arith}
use Rattle.lc_draw.proofs.Turning.{call-up}
use Rattle.lc_draw.proofs.calls.Calls.begin.Goals as goal

pub returns : goal.returns
returns c = λ events call up.
    let self = c.args.self.now in
    call-up events (vec_len self.calls) self.turns.entries c.next_turn.new.turns.entries self.numbers.entries c.put_number.new.numbers.entries c.args.client c.in_ok-turn.turn c.len-number.result (vec_len c.push.new.self) call
    c.in_ok-turn.ensures.turn c.len-number.ensures (omega (arith, c.in_ok-push.ensures.len)) c.in_ok-turn.ensures.more c.in_ok-put_number.ensures up
