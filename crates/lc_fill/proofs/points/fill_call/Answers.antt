use Rattle.std.proofs.Common.{sym, ap, ◌∙◌}
use Rattle.lc_sexp.specs.Shown.{rest_of, number_of}
use Rattle.lc_fill.specs.Seen.{acts_view, onto}
use Rattle.lc_fill.proofs.Calls.{has-call, no-call}
use Rattle.lc_fill.proofs.points.fill_call.Goals as goal

pub returns-then-has_call : goal.returns-then-has_call
returns-then-has_call c =
    let a = acts_view c.args.acts.now in
    c.in_ok-keep_all.ensures ∙ ap (onto c.args.row.now) (sym (has-call a (number_of c.args.list) (rest_of c.args.list) (sym c.has_call.ensures ∙ c.if-has_call.true)))

pub returns : goal.returns
returns c =
    let a = acts_view c.args.acts.now in
    c.in_ok-put_call_before.ensures
    ∙ ap (onto c.args.row.now) (sym (no-call a (number_of c.args.list) (rest_of c.args.list) (sym c.has_call.ensures ∙ c.if-has_call.false)))
