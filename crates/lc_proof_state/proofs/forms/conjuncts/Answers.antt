use Rattle.std.proofs.Common.{Some, ap, sym, ◌∙◌}
use Rattle.lc_term.specs.View.{formulas_of}
use Rattle.lc_proof_state.proofs.Trees.{conjuncts_of}
use Rattle.lc_proof_state.proofs.forms.conjuncts.Goals as goal

pub returns-in_ok-copy_formulas-in-And : goal.returns-in_ok-copy_formulas-in-And
returns-in_ok-copy_formulas-in-And c =
    ap Some (c.in_ok-copy_formulas-in-And.ensures ∙ ap formulas_of c.deref.ensures.value) ∙ sym (conjuncts_of c.args.formula.now c.in-And.parts c.in-And.is)
