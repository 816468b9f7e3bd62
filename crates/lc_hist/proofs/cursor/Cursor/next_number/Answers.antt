use Rattle.serde_json.specs.Data.{unsigned}
use Rattle.lc_hist.proofs.JsonTokens.{says_number, says_negative}
use Rattle.lc_hist.proofs.cursor.Cursor.next_number.Goals as goal

pub returns-then-self-eq45 : goal.returns-then-self-eq45
returns-then-self-eq45 c = says_negative c.args.self.now c.next_negative.new.self c.next_negative.result c.next_negative.ensures

pub returns-in_ok-number : goal.returns-in_ok-number
returns-in_ok-number c =
    let said = c.in_ok-number.ensures in
    says_number c.args.self.now said.0 (unsigned c.in_ok-number.number) c.next_natural.new.self c.as_integer.result said.1 said.2 c.as_integer.ensures
