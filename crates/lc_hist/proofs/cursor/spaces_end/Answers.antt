use Rattle.std.proofs.Common.{◌≡◌, ◌<◌, get_or, length, true, arith}
use Rattle.json.specs.Align.{is_blank}
use Rattle.json.specs.Lex.{class}
use Rattle.lc_hist.proofs.JsonLexed.{spaces_next}
use Rattle.lc_hist.proofs.cursor.spaces_end.Goals as goal

pub spaces-preserved : goal.spaces-preserved
spaces-preserved c p =
    let l = c.spaces in
    let lt : l.end < length c.args.text.now = omega arith in
    let blank : is_blank (class (get_or c.args.text.now l.end 0)) ≡ true = grind arith in
    spaces_next p c.args.text.now l.end c.args.from lt blank (l.invariant p)
