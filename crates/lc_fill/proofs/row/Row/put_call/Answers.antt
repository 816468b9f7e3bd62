use Rattle.std.proofs.Common.{◌∙◌}
use Rattle.lc_fill.specs.Filled.{put, lacking_at}
use Rattle.lc_fill.proofs.Rows.{made_lacking, made_put_lacking}
use Rattle.lc_fill.proofs.row.Row.put_call.Goals as goal

pub returns-then-not-is_lacking : goal.returns-then-not-is_lacking
returns-then-not-is_lacking c = λ r. rw (c.if-not-is_lacking.true) (c.in_ok-put.ensures r)

pub returns : goal.returns
returns c = λ r.
    let row = c.put.new.self in
    rw (c.if-not-is_lacking.false) (made_put_lacking c.args.self.now row c.push.new.self.items c.args.place c.args.item r c.in_ok-put.ensures c.in_ok-push.ensures.items)
