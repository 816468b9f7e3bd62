use Rattle.std.proofs.Common.{◌≡◌, ◌<◌, ◌≤◌, get_or, length, true, sym, ◌∙◌, arith}
use Rattle.lc_hist.specs.JsonCursor.{closes_at}
use Rattle.lc_hist.specs.declared.cursor.Place.TheVariants.{AfterValue}
use Rattle.lc_hist.proofs.JsonLexed.{at_last}
use Rattle.lc_hist.proofs.cursor.Cursor.is_over.Goals as goal

pub returns : goal.returns
returns c holds =
    let a = c.self.inside in
    let lt : a.at < length a.text.now = omega arith in
    let is : get_or a.text.now a.at 0 ≡ 125 = omega arith in
    let may : closes_at a.place ≡ true = grind arith in
    let past : length a.text.now ≤ c.spaces_end.result = grind arith in
    sym c.self.view_is ∙ at_last a.place a.text.now a.at c.spaces_end.result lt is may (c.spaces_end.ensures AfterValue) past
