use Rattle.std.proofs.Common.{sym, ap, ◌∙◌}
use Rattle.lc_sexp.specs.Shown.{rest_of, number_of}
use Rattle.lc_reading.specs.Parts.{tree_of}
use Rattle.lc_fill.specs.Forms.{while_forms}
use Rattle.lc_fill.specs.Seen.{onto}
use Rattle.lc_fill.proofs.Lists.{while_forms-end, while_forms-more, none_begins}
use Rattle.lc_fill.proofs.row.Row.keep_forms.Goals as goal

pub returns-then-not-is_at_form : goal.returns-then-not-is_at_form
returns-then-not-is_at_form c = λ next.
    let d = c.items.rest in
    ap (onto c.items.self) (sym (while_forms-end c.args.word.now next (number_of d) (rest_of d) (sym c.is_at_form.ensures ∙ c.if-not-is_at_form.true))) ∙ c.items.invariant next

pub items-preserved : goal.items-preserved
items-preserved c = λ next.
    let (at, behind) = c.in-Ok.ensures in
    let d = c.next_part.new.list in
    let l = c.items.rest in
    let word = c.args.word.now in
    c.in_ok-keep.ensures (while_forms word next (number_of d) (rest_of d))
    ∙ ap (onto c.items.self) (sym (while_forms-more word next (number_of l) (number_of d) (tree_of c.in-Ok.part) (rest_of l) (rest_of d) behind.rest behind.number (sym c.is_at_form.ensures ∙ c.if-not-is_at_form.false)))
    ∙ c.items.invariant next

pub returns-in_default : goal.returns-in_default
returns-in_default c = absurd (none_begins c.args.word.now (rest_of c.items.rest) c.in_default.ensures.1 (sym c.is_at_form.ensures ∙ c.if-not-is_at_form.false))
