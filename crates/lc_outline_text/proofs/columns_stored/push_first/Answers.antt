use Rattle.std.proofs.Common.{◌++◌, take, sym, ap, ◌∙◌}
use Rattle.std.proofs.lemmas.List.{map-append, take-map}
use Rattle.lc_base.specs.declared.ids.ColId.{ColId}
use Rattle.lc_object.specs.View.{columns_of}
use Rattle.lc_outline_text.proofs.columns_stored.push_first.Goals as goal

pub returns : goal.returns
returns c =
    ap columns_of c.in_ok-extend_from_slice-2.ensures.items ∙ map-append (λ (x : ColId). x.0) c.args.stored.items (take c.args.count c.args.row.now)
    ∙ ap (λ xs. columns_of c.args.stored.items ++ xs) (sym (take-map (λ (x : ColId). x.0) c.args.count c.args.row.now))
