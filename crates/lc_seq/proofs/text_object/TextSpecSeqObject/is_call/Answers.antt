use Rattle.lc_seq.specs.TextLaws.{calls_differ, calls_agree}
use Rattle.lc_seq.proofs.text_object.TextSpecSeqObject.is_call.Goals as goal

pub returns-then-call-code : goal.returns-then-call-code
returns-then-call-code c = calls_differ c.args.call.now.op.0 c.args.code c.args.call.now.numbers.items c.args.given.now c.if-call-code.true

pub returns : goal.returns
returns c =
    let equal = rw c.deref.ensures.value at c.are_equal.ensures in
    calls_agree c.args.call.now.op.0 c.args.code c.args.call.now.numbers.items c.args.given.now c.are_equal.result c.if-call-code.false equal
