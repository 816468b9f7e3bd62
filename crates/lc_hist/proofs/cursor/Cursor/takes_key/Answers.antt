use Rattle.std.proofs.Common.{◌≡◌, ◌<◌, ◌∷◌, Some, drop, get_or, length, true, sym, ap, ◌∙◌, arith}
use Rattle.json.specs.Json.{read_key}
use Rattle.json.specs.Token.{Token}
use Rattle.lc_hist.specs.JsonCursor.{begins_at, tokens_at}
use Rattle.lc_hist.specs.declared.cursor.Place.TheVariants.{Fresh}
use Rattle.lc_hist.proofs.JsonLexed.{at_key}
use Rattle.lc_hist.proofs.cursor.Cursor.takes_key.Goals as goal

pub returns : goal.returns
returns c holds =
    let a = c.self.inside in
    let found = c.in-Some.found in
    let may : begins_at a.place ≡ true = grind arith in
    let under : found.1 < length a.text.now = omega arith in
    let colon : get_or a.text.now found.1 0 ≡ 58 = omega arith in
    let same : found.0.now ≡ c.args.key.now = grind arith in
    let is = sym c.self.view_is ∙ at_key a.place a.text.now found.0.now a.at found.1 may c.in-Some.ensures.0 c.in-Some.ensures.1 under colon ∙ ap (λ ts. Token.key found.0.now ∷ ts) (sym (c.spaces_end-self-inside.ensures Fresh)) in
    let rest = tokens_at Fresh (drop c.spaces_end-self-inside.result a.text.now) in
    ap read_key is ∙ ap (λ s. Some (Some s, rest)) same
