use Rattle.std.proofs.Common.{ap, ◌∙◌}
use Rattle.lc_sexp.specs.Shown.{rest_of}
use Rattle.lc_fill.specs.Acts.{call_at}
use Rattle.lc_fill.specs.Filled.{as_is}
use Rattle.lc_fill.specs.Points.{put_call}
use Rattle.lc_fill.specs.Seen.{acts_view, onto}
use Rattle.lc_fill.proofs.Calls.{called-put}
use Rattle.lc_fill.proofs.points.put_call_before.Goals as goal

pub returns : goal.returns
returns c =
    let a = acts_view c.args.acts.now in
    let ts = rest_of c.args.list in
    c.in_ok-keep_all.ensures
    ∙ called-put a c.args.row.now c.put_call.new.self c.number-place.result c.in_ok-call.call c.is_lacking.result (as_is ts) c.in_ok-call.ensures c.is_lacking.ensures c.in_ok-put_call.ensures
    ∙ ap (λ m. onto c.args.row.now (put_call a m (call_at a m) (as_is ts))) c.number-place.ensures
