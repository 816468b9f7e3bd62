use Rattle.std.proofs.Common.{sym, ◌∙◌}
use Rattle.lc_term.specs.View.{term_of}
use Rattle.lc_term.specs.EqualLaws.{Decides-term_eq}
use Rattle.lc_native.proofs.matching.TermMatches.matches.Goals as goal

pub returns : goal.returns
returns c =
    let decides = Decides-term_eq (term_of c.args.self.now) (term_of c.args.form.now) in
    (λ equal. decides.0 (sym c.eq.ensures ∙ equal), λ same. c.eq.ensures ∙ decides.1 same)
