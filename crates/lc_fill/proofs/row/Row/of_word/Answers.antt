use Rattle.std.proofs.Common.{◌++◌, [], ◌∷◌, ap, ◌∙◌}
use Rattle.lc_sexp.specs.Trees.{atom}
use Rattle.lc_fill.specs.Filled.{kept}
use Rattle.lc_fill.proofs.Rows.{made_kept}
use Rattle.lc_fill.proofs.row.Row.of_word.Goals as goal

pub returns : goal.returns
returns c = λ r.
    let row = c.new-row.result in
    let word = atom c.args.word.now in
    made_kept row.items.items c.push.new.self.items row.gaps.items row.lacking.items word r (c.in_ok-push.ensures.items ∙ ap (λ t. row.items.items ++ t ∷ []) c.in_ok-atom.ensures)
    ∙ c.new-row.ensures (kept word r)
