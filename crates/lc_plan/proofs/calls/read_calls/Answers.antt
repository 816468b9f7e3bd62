use Rattle.std.proofs.Common.{refl}
use Rattle.lc_reading.proofs.Combined.{headed_at}
use Rattle.lc_plan.specs.Readings.{head_of, calls_with, calls_reading}
use Rattle.lc_plan.specs.View.{all_in, calls_of}
use Rattle.lc_plan.proofs.calls.read_calls.Goals as goal

pub returns : goal.returns
returns c =
    let os = all_in c.args.operations.now in
    let w = c.in_ok-word.word.now in
    headed_at calls_of (calls_reading os) (λ n m ts. calls_with os n m ts (head_of w)) _ _ c.in-List.list c.in_ok-word.parts w _
    c.in-List.ensures.tree c.in-List.ensures.number c.in-List.ensures.placed c.in_ok-word.ensures (λ n ts. refl) (rw c.head_of.ensures at c.read_headed.ensures)
