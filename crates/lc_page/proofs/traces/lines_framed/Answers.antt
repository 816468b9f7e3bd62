use Rattle.lc_page.specs.Pages.{trace_page_with}
use Rattle.lc_page.specs.Unmarked.{unmarked}
use Rattle.lc_page.specs.declared.head.TheConstants.{HEAD}
use Rattle.lc_page.specs.declared.steps.TheConstants.{STEPS_TAIL}
use Rattle.lc_page.proofs.Plainly.{framed_text}
use Rattle.lc_page.proofs.traces.lines_framed.Goals as goal

pub returns : goal.returns
unfolding trace_page_with
returns c =
    framed_text HEAD.now (unmarked c.args.lines.now) STEPS_TAIL.now c.new-text.result.items c.extend_from_slice.new.self.items c.push_unmarked.new.text.items c.extend_from_slice-2.new.self.items c.new-text.ensures.items
    c.in_ok-extend_from_slice.ensures.items c.in_ok-push_unmarked.ensures c.in_ok-extend_from_slice-2.ensures.items
