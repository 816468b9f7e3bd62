use Rattle.std.proofs.Common.{◌∙◌, ap, ap₂, sym}
use Rattle.lc_term.specs.View.{term_of}
use Rattle.lc_object.specs.Syntax as S
use Rattle.lc_object.specs.View.{locals_of, terms_of, instruction_of, operation_of, parts_of}
use Rattle.lc_object.specs.WellFormed.{is_instruction}
use Rattle.lc_object.proofs.testing.is_instruction.Goals as goal

-- the lists are those of the instruction
pub returns-in-Faa : goal.returns-in-Faa
returns-in-Faa c =
    let passes = is_instruction (parts_of c.args.parts.now) c.args.number.0 (operation_of c.args.operation.now) in
    c.is_faa.ensures ∙
    ap₂ (λ rs ds. passes (S.Faa c.in-Faa.array.0 (term_of c.in-Faa.index) (locals_of rs) (terms_of ds) c.in-Faa.next.0)) c.deref-in-Faa.ensures.value c.deref-in-Faa-2.ensures.value ∙
    ap (λ i. passes (instruction_of i)) (sym c.in-Faa.is)
