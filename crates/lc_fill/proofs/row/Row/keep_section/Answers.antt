use Rattle.std.proofs.Common.{sym, ap, ap₂, ◌∙◌}
use Rattle.lc_sexp.specs.Shown.{rest_of, number_of}
use Rattle.lc_reading.specs.Parts.{tree_of, place_of}
use Rattle.lc_fill.specs.Filled.{put, followed}
use Rattle.lc_fill.specs.Seen.{onto}
use Rattle.lc_fill.proofs.Lists.{section-there, section-out, none_begins}
use Rattle.lc_fill.proofs.row.Row.keep_section.Goals as goal

pub returns-then-not-is_at_form : goal.returns-then-not-is_at_form
returns-then-not-is_at_form c = λ next.
    let d = c.args.rest.now in
    let others = next (number_of d) (rest_of d) in
    c.in_ok-put.ensures others
    ∙ ap₂ (λ n t. onto c.args.self.now (put n t others)) c.number.ensures c.in_ok-form.ensures
    ∙ ap (onto c.args.self.now) (sym (section-out c.args.word.now (rest_of c.args.more) next (number_of d) (rest_of d) (sym c.is_at_form.ensures ∙ c.if-not-is_at_form.true)))

pub returns : goal.returns
returns c = λ next.
    let (at, behind) = c.in-Ok.ensures in
    let l = c.args.rest.now in
    let d = c.next_part.new.list in
    let others = next (number_of d) (rest_of d) in
    c.in_ok-push.ensures others
    ∙ ap (λ f. onto c.args.self.now (followed f others)) c.in_ok-filled.ensures
    ∙ ap (onto c.args.self.now) (sym (section-there c.args.word.now (rest_of c.args.more) next (number_of l) (number_of d) (place_of c.in-Ok.part) (tree_of c.in-Ok.part) (rest_of l) (rest_of d)
    behind.rest behind.number at (sym c.is_at_form.ensures ∙ c.if-not-is_at_form.false)))

pub returns-in_default : goal.returns-in_default
returns-in_default c = absurd (none_begins c.args.word.now (rest_of c.args.rest.now) c.in_default.ensures.1 (sym c.is_at_form.ensures ∙ c.if-not-is_at_form.false))
