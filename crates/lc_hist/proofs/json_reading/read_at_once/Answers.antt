use Rattle.std.proofs.Common.{◌≤◌, length, refl, arith}
use Rattle.std.specs.Prelude.{IsUtf8}
use Rattle.lc_base.specs.Limits.{file_limit}
use Rattle.lc_history.specs.Histories.{events_in}
use Rattle.lc_hist.specs.JsonRecorded.{order_view}
use Rattle.lc_hist.specs.JsonSeen.{all_of, AreInText}
use Rattle.lc_hist.specs.JsonTokens.{AreSaid}
use Rattle.lc_hist.proofs.JsonWhole.{each_found, says_all}
use Rattle.lc_hist.proofs.json_reading.read_at_once.Goals as goal

pub returns : goal.returns
returns c =
    let operations = all_of c.args.operations.now in
    let bytes = c.args.bytes.now in
    let utf8 : IsUtf8 bytes = c.if-not-is_utf8.ensures.0 refl in
    let limit : length bytes ≤ file_limit = omega arith in
    each_found (λ answer. AreSaid operations bytes (events_in answer.0) (order_view answer.1)) (λ answer. AreInText operations bytes (events_in answer.0) (order_view answer.1))
    (λ answer said. says_all operations bytes (events_in answer.0) (order_view answer.1) limit utf8 said)
    c.read_right.result c.read_right.ensures
