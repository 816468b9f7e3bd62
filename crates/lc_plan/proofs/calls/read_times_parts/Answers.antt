use Rattle.std.proofs.Common.{refl}
use Rattle.lc_sexp.specs.Shown.{owner_of}
use Rattle.lc_reading.proofs.Combined.{two_parts}
use Rattle.lc_seq.specs.SpecView.{text_call_of}
use Rattle.lc_plan.specs.Numbers.{turns_reading}
use Rattle.lc_plan.specs.Readings.{pair, call_form_reading, times_parts_reading}
use Rattle.lc_plan.specs.View.{all_in}
use Rattle.lc_plan.proofs.calls.read_times_parts.Goals as goal

pub returns : goal.returns
returns c =
    let os = all_in c.args.operations.now in
    two_parts (λ k. k) text_call_of pair turns_reading (call_form_reading os) (times_parts_reading os (owner_of c.args.list)) c.args.list
    c.in_ok-first.rest c.in_ok-first.first c.in_ok-first.second _ _ _ _
    c.in_ok-first.ensures c.read_turns-count.ensures c.read_call_form-call.ensures c.both.ensures c.ended.ensures (λ m ts. refl)
