use Rattle.std.proofs.Common.{sym, ap, ◌∙◌, subst}
use Rattle.lc_sexp.specs.Trees.{list, none, ◌▸◌}
use Rattle.lc_sexp.specs.TreeCode.{head_tree}
use Rattle.lc_sexp.specs.Flat.{trees_of, IsOne}
use Rattle.lc_sexp.proofs.Pieced.{one_part}
use Rattle.lc_sexp.proofs.forms.Forms.into_part.Goals as goal

pub new-requires : goal.new-requires
new-requires c =
    let f = c.self.inside in
    subst (IsOne f.text.items) (sym c.remove.ensures.items)
    (one_part f.text.items f.nodes.items c.requires.0 c.self.invariant (c.self.view_is ∙ c.requires.1)).0

pub returns : goal.returns
returns c =
    let f = c.self.inside in
    c.requires.1
    ∙ ap (λ t. list (t ▸ none) ▸ none)
    (sym (c.new.ensures
    ∙ ap (λ ns. head_tree (trees_of f.text.items ns)) c.remove.ensures.items
    ∙ (one_part f.text.items f.nodes.items c.requires.0 c.self.invariant (c.self.view_is ∙ c.requires.1)).1))
