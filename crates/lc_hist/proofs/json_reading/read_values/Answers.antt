use Rattle.std.proofs.Common.{MatchOption, subst}
use Rattle.lc_hist.specs.JsonHistories.{HasParts}
use Rattle.lc_hist.specs.JsonItems.{data_at, AreTokensOf}
use Rattle.lc_hist.specs.JsonSeen.{all_of, parts_view, IsNoJson}
use Rattle.lc_hist.proofs.JsonAnswers.{has_parts, history_of}
use Rattle.lc_hist.proofs.json_reading.read_values.Goals as goal

pub returns : goal.returns
returns c =
    let bytes = c.args.bytes.now in
    let d = data_at c.in-Some-root.value in
    let parts = parts_view c.in-Some-parts.parts in
    let tokens : AreTokensOf bytes c.in-Some.tape = subst (λ found. MatchOption found (IsNoJson bytes) (λ tape. AreTokensOf bytes tape)) c.in-Some.is c.in_ok-tape.ensures in
    let has : HasParts bytes parts = has_parts bytes d parts (c.in-Some-root.ensures bytes tokens) c.in-Some-parts.ensures in
    history_of (all_of c.args.operations.now) bytes parts has c.read_lists.result c.read_lists.ensures
