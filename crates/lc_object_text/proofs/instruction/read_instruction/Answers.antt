use Rattle.std.proofs.Common.{sym, ◌∙◌, refl}
use Rattle.lc_object.specs.View.{instruction_of}
use Rattle.lc_reading.proofs.Combined.{headed_at}
use Rattle.lc_object_text.specs.Instructions.{headed_reading, return_reading, instruction_reading}
use Rattle.lc_object_text.proofs.instruction.read_instruction.Goals as goal

pub returns-then-eq : goal.returns-then-eq
returns-then-eq g c =
    let names = g.S.Scope.names c.args.scope.now in
    let code = g.S.CodeScope.code c.args.scope.now in
    let met = sym c.eq.ensures ∙ c.if-eq.true in
    headed_at instruction_of (instruction_reading names code) (return_reading names code) _ _ c.in-List.list c.in_ok-word.parts c.in_ok-word.word.now _
    c.in-List.ensures.tree c.in-List.ensures.number c.in-List.ensures.placed c.in_ok-word.ensures (λ n ts. rw met refl) c.read_return.ensures

pub returns-in-Some : goal.returns-in-Some
returns-in-Some g c =
    let names = g.S.Scope.names c.args.scope.now in
    let code = g.S.CodeScope.code c.args.scope.now in
    let other = sym c.eq.ensures ∙ c.if-eq.false in
    headed_at instruction_of (instruction_reading names code) (λ n m ts. headed_reading names code n m ts c.in-Some.head) _ _ c.in-List.list c.in_ok-word.parts c.in_ok-word.word.now _
    c.in-List.ensures.tree c.in-List.ensures.number c.in-List.ensures.placed c.in_ok-word.ensures (λ n ts. rw (other, sym c.in-Some.ensures) refl) c.read_headed.ensures
