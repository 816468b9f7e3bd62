use Rattle.std.proofs.Common.{◌≡◌, ◌∷◌, ◌<◌, ◌^◌, Some, true, sym, ap, ◌∙◌, arith}
use Rattle.json.specs.Token.{Token}
use Rattle.serde_json.specs.Data.{unsigned}
use Rattle.std.specs.Str.Parse.{digits_value}
use Rattle.lc_hist.specs.JsonCursor.{begins_at}
use Rattle.lc_hist.proofs.JsonLexed.{at_natural, natural_of}
use Rattle.lc_hist.proofs.cursor.Cursor.next_natural.Goals as goal

pub returns : goal.returns
returns c =
    let a = c.self.inside in
    let found = c.in_ok-found.found in
    let written = c.in_ok-found.ensures in
    let value = written.value in
    let small = written.small in
    let may : begins_at a.place ≡ true = grind arith in
    let fits : digits_value 10 written.digits < 2 ^ 64 = omega (arith, value, small) in (
      written.digits,
      sym c.self.view_is ∙ at_natural a.place a.text.now a.at found.0 found.1 may written ∙ ap (λ ts. Token.number written.digits ∷ ts) (sym c.behind-next.ensures),
      natural_of written.digits written.are written.some written.short fits ∙ ap (λ n. Some (unsigned n)) (sym value),
    )
