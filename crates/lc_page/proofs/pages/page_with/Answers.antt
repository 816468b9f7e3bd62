use Rattle.lc_page.specs.Pages.{page_with}
use Rattle.lc_page.specs.Unmarked.{unmarked}
use Rattle.lc_page.specs.declared.head.TheConstants.{HEAD}
use Rattle.lc_page.specs.declared.tail.TheConstants.{TAIL}
use Rattle.lc_page.proofs.Plainly.{framed_text}
use Rattle.lc_page.proofs.pages.page_with.Goals as goal

pub returns : goal.returns
unfolding page_with
returns c =
    framed_text HEAD.now (unmarked c.args.bytes.now) TAIL.now c.new-text.result.items c.extend_from_slice.new.self.items c.push_unmarked.new.text.items c.extend_from_slice-2.new.self.items c.new-text.ensures.items
    c.in_ok-extend_from_slice.ensures.items c.in_ok-push_unmarked.ensures c.in_ok-extend_from_slice-2.ensures.items
