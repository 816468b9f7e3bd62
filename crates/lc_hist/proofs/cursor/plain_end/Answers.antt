use Rattle.std.proofs.Common.{◌<◌, get_or, length, arith, rules}
use Rattle.lc_hist.specs.JsonCursor.{IsPlain}
use Rattle.lc_hist.proofs.JsonLexed.{plain_begins, plain_next}
use Rattle.lc_hist.proofs.cursor.plain_end.Goals as goal

pub plain-init : goal.plain-init
plain-init c = plain_begins c.args.text.now c.args.from

pub plain-preserved : goal.plain-preserved
plain-preserved c =
    let l = c.plain in
    let lt : l.end < length c.args.text.now = omega arith in
    let is : IsPlain (get_or c.args.text.now l.end 0) = search rules in
    plain_next c.args.text.now c.args.from l.end lt is l.invariant
