use Rattle.serde_json.specs.Data.{unsigned}
use Rattle.lc_hist.proofs.JsonTokens.{says_client}
use Rattle.lc_hist.proofs.cursor.Cursor.next_client.Goals as goal

pub returns : goal.returns
returns c =
    let said = c.in_ok-number.ensures in
    says_client c.args.self.now said.0 (unsigned c.in_ok-number.number) c.next_natural.new.self c.as_client.result said.1 said.2 c.as_client.ensures
