use Rattle.std.proofs.Common.{◌≡◌, subst, ◌∙◌}
use Rattle.serde_json.specs.View.{view}
use Rattle.lc_lemmas.proofs.Booleans.{right_true}
use Rattle.lc_seq.specs.Specification.{names_differ}
use Rattle.lc_seq.specs.SpecView.{operations_of}
use Rattle.lc_seq.specs.TextView.{specification_of}
use Rattle.lc_history.specs.Histories.{events_in}
use Rattle.lc_hist.specs.JsonKept.{Each, IsKeptEvent}
use Rattle.lc_hist.specs.JsonWritten.{history_data}
use Rattle.lc_history.specs.View.{events_of, entries_view}
use Rattle.lc_hist.proofs.JsonWriting.{history_is_read, history_written, history_reads, says_only}
use Rattle.lc_hist.proofs.NamesApart.{names_apart}
use Rattle.lc_hist.proofs.json_writing.history_to_json.Goals as goal

pub returns-clause-text : goal.returns-clause-text
returns-clause-text c =
    let operations = (specification_of c.args.spec.now).operations in
    let events = events_in c.args.history.now in
    let order = entries_view c.args.order.now in
    let same : view c.in_ok-value.value ≡ history_data operations events order = c.in_ok-value.ensures
    ∙ history_is_read _ _ (operations_of c.operations-operations.result.now) operations (events_of c.events.result.now) events order c.in_ok-events.ensures.value c.in_ok-order.ensures.value c.operations-operations.ensures c.events.ensures in
    history_written c.in_ok-to_vec.field-0.items (view c.in_ok-value.value) operations events order same c.in_ok-to_vec.ensures.text

pub returns-clause-reads_back : goal.returns-clause-reads_back
returns-clause-reads_back c =
    let operations = (specification_of c.args.spec.now).operations in
    let events = events_in c.args.history.now in
    let order = entries_view c.args.order.now in
    let same : view c.in_ok-value.value ≡ history_data operations events order = c.in_ok-value.ensures
    ∙ history_is_read _ _ (operations_of c.operations-operations.result.now) operations (events_of c.events.result.now) events order c.in_ok-events.ensures.value c.in_ok-order.ensures.value c.operations-operations.ensures c.events.ensures in
    let reads = history_reads c.in_ok-to_vec.field-0.items (view c.in_ok-value.value) operations events order same c.in_ok-to_vec.ensures.reads_back in
    says_only operations c.in_ok-to_vec.field-0.items events order reads
    (names_apart operations (right_true _ (names_differ operations) c.args.spec.now.is_resolved)) (subst (Each IsKeptEvent) c.events.ensures c.in_ok-events.ensures.kept) c.in_ok-order.ensures.kept
