use Rattle.std.proofs.Common.{◌∙◌, ap}
use Rattle.lc_hist.specs.JsonWritten.{history_text}
use Rattle.lc_history.specs.View.{entries_view}
use Rattle.lc_findings.proofs.printing.history_of.Goals as goal

pub returns : goal.returns
returns c =
    let entries = ap entries_view c.deref.ensures.value ∙ c.in_ok-recorded.ensures.order in
    c.in_ok-text.ensures.text ∙ (λ i. history_text ((c.parts.ensures.shown i).specification.operations) (c.in_ok-recorded.ensures.history i) (entries i))
