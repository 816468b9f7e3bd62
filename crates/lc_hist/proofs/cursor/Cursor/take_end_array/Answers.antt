use Rattle.std.proofs.Common.{◌≡◌, ◌<◌, Some, get_or, length, true, sym, ap, ◌∙◌, arith}
use Rattle.json.specs.Json.{after_end_array}
use Rattle.lc_hist.specs.JsonCursor.{closes_at}
use Rattle.lc_hist.proofs.JsonLexed.{at_end}
use Rattle.lc_hist.proofs.cursor.Cursor.take_end_array.Goals as goal

pub returns-clause-taken : goal.returns-clause-taken
returns-clause-taken c holds =
    let a = c.self.inside in
    let lt : a.at < length a.text.now = omega arith in
    let is : get_or a.text.now a.at 0 ≡ 93 = omega arith in
    let may : closes_at a.place ≡ true = grind arith in
    ap after_end_array (sym c.self.view_is ∙ at_end a.place a.text.now a.at lt is may) ∙ ap Some (sym c.behind-next.ensures)
