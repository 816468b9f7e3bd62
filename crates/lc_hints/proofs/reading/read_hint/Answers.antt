use Rattle.std.proofs.Common.{refl}
use Rattle.lc_reading.proofs.Combined.{headed_at}
use Rattle.lc_hints.specs.Readings.{head_of, hint_with, hint_reading}
use Rattle.lc_hints.specs.View.{hint_of}
use Rattle.lc_hints.proofs.reading.read_hint.Goals as goal

pub returns : goal.returns
returns g c =
    let names = g.S.Scope.names c.args.scope.now in
    let w = c.in_ok-word.word.now in
    headed_at hint_of (hint_reading names) (λ n m ts. hint_with names n m ts (head_of w)) _ _ c.in-List.list c.in_ok-word.parts w _
    c.in-List.ensures.tree c.in-List.ensures.number c.in-List.ensures.placed c.in_ok-word.ensures (λ n ts. refl) (rw c.head_of.ensures at c.read_headed.ensures)
