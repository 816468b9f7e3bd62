use Rattle.std.proofs.Common.{◌≡◌, ◌∷◌, refl, true, sym, ap, ◌∙◌, arith}
use Rattle.json.specs.Token.{Token}
use Rattle.serde_json.specs.Data.{string}
use Rattle.lc_hist.specs.JsonCursor.{begins_at}
use Rattle.lc_hist.proofs.JsonLexed.{at_text}
use Rattle.lc_hist.proofs.JsonTokens.{begins_string}
use Rattle.lc_hist.proofs.cursor.Cursor.next_text.Goals as goal

pub returns : goal.returns
returns c =
    let a = c.self.inside in
    let found = c.in_ok-found.found in
    let may : begins_at a.place ≡ true = grind arith in
    let over = c.if-not-ends_item.ensures refl in
    let is = sym c.self.view_is ∙ at_text a.place a.text.now found.0.now a.at found.1 may c.in_ok-found.ensures.0 c.in_ok-found.ensures.1 over.0 over.1 ∙ ap (λ ts. Token.string found.0.now ∷ ts) (sym c.behind-next.ensures) in
    (string found.0.now, refl, begins_string c.args.self.now found.0.now _ is)
