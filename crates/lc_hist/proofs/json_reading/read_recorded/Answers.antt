use Rattle.std.proofs.Common.{MatchOption, subst}
use Rattle.lc_hist.specs.JsonItems.{data_at, AreTokensOf}
use Rattle.lc_hist.specs.JsonRecorded.{HasRecorded}
use Rattle.lc_hist.specs.JsonSeen.{all_of, recorded_view, IsNoJson}
use Rattle.lc_hist.proofs.JsonAnswers.{has_recorded, recorded_of}
use Rattle.lc_hist.proofs.json_reading.read_recorded.Goals as goal

pub returns : goal.returns
returns c =
    let bytes = c.args.bytes.now in
    let d = data_at c.in-Some-root.value in
    let parts = recorded_view c.in-Some-recorded.parts in
    let tokens : AreTokensOf bytes c.in-Some.tape = subst (λ found. MatchOption found (IsNoJson bytes) (λ tape. AreTokensOf bytes tape)) c.in-Some.is c.in_ok-tape.ensures in
    let has : HasRecorded bytes parts = has_recorded bytes d parts (c.in-Some-root.ensures bytes tokens) c.in-Some-recorded.ensures in
    recorded_of (all_of c.args.operations.now) bytes parts has c.read_lists.result c.read_lists.ensures
