use Rattle.std.proofs.Common.{◌≡◌, ◌<◌, get_or, length, true, sym, ◌∙◌, arith}
use Rattle.lc_hist.specs.JsonCursor.{begins_at}
use Rattle.lc_hist.proofs.JsonLexed.{at_array}
use Rattle.lc_hist.proofs.cursor.Cursor.begins_array.Goals as goal

pub returns : goal.returns
returns c holds =
    let a = c.self.inside in
    let lt : a.at < length a.text.now = omega arith in
    let is : get_or a.text.now a.at 0 ≡ 91 = omega arith in
    let may : begins_at a.place ≡ true = grind arith in
    sym c.self.view_is ∙ at_array a.place a.text.now a.at lt is may
