use Rattle.std.proofs.Common.{◌≡◌, ◌+◌, ◌∷◌, ◌<◌, ◌^◌, length, get_or, true, sym, ap, ◌∙◌, refl, arith, pos, neg_ℤ}
use Rattle.std.specs.Str.Parse.{digits_value}
use Rattle.json.specs.Token.{Token}
use Rattle.lc_hist.specs.JsonCursor.{begins_at}
use Rattle.lc_hist.proofs.JsonLexed.{at_below, below_of, given_of, some_of, wrapped_negated}
use Rattle.lc_hist.proofs.cursor.Cursor.next_negative.Goals as goal

pub returns : goal.returns
returns c =
    let a = c.self.inside in
    let found = c.in_ok-found.found in
    let written = c.in_ok-found.ensures in
    let lt : a.at < length a.text.now = omega arith in
    let is : get_or a.text.now a.at 0 ≡ 45 = omega arith in
    let may : begins_at a.place ≡ true = grind arith in
    let value = written.value in
    let small = written.small in
    let given = given_of found.0 c.in_ok-number.number small c.in_ok-number.ensures in
    let some = some_of found.0 c.in_ok-number.number given c.if-number-eq0.false in
    let more : 0 < digits_value 10 written.digits = omega (arith, value, some) in
    let fits : digits_value 10 written.digits < 2 ^ 63 = omega (arith, value, small) in (
      45 ∷ written.digits,
      sym c.self.view_is ∙ at_below a.place a.text.now a.at (a.at + 1) found.0 found.1 may lt is refl written ∙ ap (λ ts. Token.number (45 ∷ written.digits) ∷ ts) (sym c.behind-next.ensures),
      below_of written.digits _ written.are written.some written.short more fits (wrapped_negated found.0 c.in_ok-number.number small given ∙ ap (λ n. neg_ℤ (pos n)) value),
    )
