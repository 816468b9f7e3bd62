use Rattle.std.proofs.Common.{sym, ap, ◌∙◌}
use Rattle.lc_fill.specs.Acts.{stand_in_of}
use Rattle.lc_fill.specs.Filled.{put, put_all}
use Rattle.lc_fill.specs.Seen.{acts_view, onto}
use Rattle.lc_fill.proofs.Lists.{is_nil-true, is_nil-false}
use Rattle.lc_fill.proofs.files.put_actions.Goals as goal

pub returns-then-is_empty : goal.returns-then-is_empty
returns-then-is_empty c = λ r.
    let a = acts_view c.args.acts.now in
    rw (is_nil-true c.args.lacking.now (sym c.is_empty.ensures ∙ c.if-is_empty.true))
    (c.in_ok-put_all.ensures r ∙ ap (λ ts. onto c.args.row.now (put_all c.args.place ts r)) c.cursor.ensures.rest)

pub returns : goal.returns
returns c = λ r.
    let a = acts_view c.args.acts.now in
    let more = put c.args.place (stand_in_of a) r in
    rw (is_nil-false c.args.lacking.now (sym c.is_empty.ensures ∙ c.if-is_empty.false))
    (c.in_ok-put.ensures r
    ∙ ap (λ t. onto c.put_all.new.self (put c.args.place t r)) c.in_ok-stand_in.ensures
    ∙ c.in_ok-put_all.ensures more ∙ ap (λ ts. onto c.args.row.now (put_all c.args.place ts more)) c.cursor.ensures.rest)
