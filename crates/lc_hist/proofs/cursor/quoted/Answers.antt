use Rattle.std.proofs.Common.{◌≡◌, ◌+◌, ◌<◌, get_or, length, refl, arith}
use Rattle.lc_hist.proofs.JsonLexed.{quoted_found}
use Rattle.lc_hist.proofs.cursor.quoted.Goals as goal

pub returns : goal.returns
returns c =
    let text = c.args.text.now in
    let lt : c.args.at < length text = omega arith in
    let opens : get_or text c.args.at 0 ≡ 34 = omega arith in
    let under : c.plain_end-end.result < length text = omega arith in
    let closes : get_or text c.plain_end-end.result 0 ≡ 34 = omega arith in
    quoted_found text c.args.at (c.args.at + 1) c.plain_end-end.result lt opens refl c.plain_end-end.ensures under closes
