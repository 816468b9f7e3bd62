use Rattle.std.proofs.Common.{sym, ap, ◌∙◌}
use Rattle.lc_fill.specs.Gaps.{meant}
use Rattle.lc_fill.proofs.Rows.{append_nil}
use Rattle.lc_fill.proofs.files.Filling.meant.Goals as goal

pub returns : goal.returns
returns c =
    let gaps = c.args.self.now.row.gaps.items in
    c.meant.ensures ∙ ap (λ gs. meant gs c.args.item) (c.deref.ensures.value ∙ sym (append_nil gaps))
