use Rattle.std.proofs.Common.{[], ◌∷◌, ◌++◌, map, sym, ap, ◌∙◌}
use Rattle.std.proofs.lemmas.List.{map-append}
use Rattle.lc_term.specs.Syntax as S
use Rattle.lc_term.specs.View.{term_of}
use Rattle.lc_term.specs.declared.term.Term.TheVariants as V
use Rattle.lc_rider.proofs.PathSteps.{first_more}
use Rattle.lc_rider.proofs.edge.variables.Goals as goal

pub loop-number-preserved : goal.loop-number-preserved
loop-number-preserved c =
    ap (map term_of) c.in_ok-push.ensures.items
    ∙ (map-append term_of c.loop-number.terms.items (V.Variable c.loop-number.number ∷ [])
    ∙ (ap (λ ts. ts ++ S.Variable c.loop-number.number ∷ []) c.loop-number.invariant ∙ sym (first_more c.loop-number.number)))
