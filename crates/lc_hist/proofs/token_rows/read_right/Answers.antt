use Rattle.std.proofs.Common.{◌≡◌, ◌∷◌, sym, ◌∙◌, arith}
use Rattle.json.specs.Lex.{tokens}
use Rattle.json.specs.Token.{Token}
use Rattle.lc_history.specs.Histories.{events_in}
use Rattle.lc_hist.specs.JsonRecorded.{order_view}
use Rattle.lc_hist.specs.JsonSeen.{all_of}
use Rattle.lc_hist.specs.JsonTokens.{AreMembers, AreSaid}
use Rattle.lc_hist.proofs.JsonWhole.{text_read, each_found}
use Rattle.lc_hist.proofs.token_rows.read_right.Goals as goal

pub returns : goal.returns
returns c =
    let operations = all_of c.args.operations.now in
    let text = c.args.text.now in
    let inner = c.begins_object.new.self in
    let first : c.new-reader.result ≡ Token.begin_object ∷ inner = grind arith in
    let opens : tokens text ≡ Token.begin_object ∷ inner = sym c.new-reader.ensures ∙ first in
    each_found (λ answer. AreMembers operations inner (events_in answer.0) (order_view answer.1)) (λ answer. AreSaid operations text (events_in answer.0) (order_view answer.1))
    (λ answer members. text_read operations text inner (events_in answer.0) (order_view answer.1) opens members) c.next_parts.result c.next_parts.ensures
