use Rattle.std.proofs.Common.{◌≡◌, ◌<◌, ◌≤◌, ◌++◌, length, arith, rules}
use Rattle.lc_outline.specs.DevelopmentView.{development_view}
use Rattle.lc_run.specs.LabelView.{label_of}
use Rattle.lc_run.specs.Ordering.{calls_in}
use Rattle.lc_term.specs.UpdateView.{writes_view}
use Rattle.lc_trace.specs.Lines.{step_text}
use Rattle.lc_trace.specs.Replays.{world_of}
use Rattle.lc_trace.proofs.Tracing.{told_first, told_next, told_all}
use Rattle.lc_trace.proofs.telling.trace.Goals as goal

pub loop-label-init : goal.loop-label-init
loop-label-init c = record {
  ready = c.in_ok-replay.ensures.ready;
  leads = told_first (development_view c.args.development.now) c.args.clients c.args.labels.now (world_of c.in_ok-replay.replay) c.in_ok-calls.calls.items c.new-text.result.items c.in_ok-replay.ensures.start
      c.in_ok-calls.ensures c.new-text.ensures.items;
}

pub loop-label-preserved : goal.loop-label-preserved
loop-label-preserved c =
    let D = development_view c.args.development.now in
    let l = c.label-item.result in
    let calls = calls_in c.loop-label.calls.items in
    let cells = writes_view c.in_ok-cells.cells.items in
    let lt : c.loop-label.label-index < length c.args.labels.now = search rules in
    let more : c.push_step.new.text.items ≡ c.loop-label.text.items ++ step_text D calls (label_of l) cells = search rules in
    record {
      ready = c.in_ok-cells.ensures.ready;
      leads = told_next D c.args.clients c.args.labels.now c.loop-label.label-index l (world_of c.loop-label.replay) (world_of c.take_again.new.replay) calls (calls_in c.in_ok-calls-2.calls.items) cells
          c.loop-label.text.items c.push_step.new.text.items lt c.label-item.is c.in_ok-cells.ensures.step c.in_ok-cells.ensures.changed c.in_ok-calls-2.ensures more c.loop-label.invariant.leads;
    }

pub returns : goal.returns
returns c =
    let past : length c.args.labels.now ≤ c.loop-label.label-index = omega (arith, c.loop-label-test.false) in
    told_all (development_view c.args.development.now) c.args.clients c.args.labels.now c.loop-label.label-index (world_of c.loop-label.replay) (calls_in c.loop-label.calls.items) c.loop-label.text.items past
    c.loop-label.invariant.leads
