use Rattle.std.proofs.Common.{sym, ◌∙◌}
use Rattle.lc_term.specs.View.{formula_of}
use Rattle.lc_term.specs.EqualLaws.{Decides-formula_eq}
use Rattle.lc_native.proofs.matching.FormulaMatches.matches.Goals as goal

pub returns : goal.returns
returns c =
    let decides = Decides-formula_eq (formula_of c.args.self.now) (formula_of c.args.form.now) in
    (λ equal. decides.0 (sym c.eq.ensures ∙ equal), λ same. c.eq.ensures ∙ decides.1 same)
