use Rattle.std.proofs.Common.{◌≡◌, ◌<◌, ◌≤◌, ◌+◌, ◌++◌, List, [], length, get_or, sym, ap, subst, ◌∙◌, append-nil, arith, rules}
use Rattle.std.specs.Prelude.{pos}
use Rattle.lc_lemmas.proofs.Lists.{dropped_all}
use Rattle.lc_term.specs.Meaning.{State}
use Rattle.lc_term.specs.State.{state_of}
use Rattle.lc_term.specs.Updates as U
use Rattle.lc_term.specs.Updates.{stored_all}
use Rattle.lc_term.specs.UpdateView.{writes_view}
use Rattle.lc_term.specs.declared.update.Write.{Write}
use Rattle.lc_ride.specs.Drafts.{written_in_draft, saved_in_draft, draft_columns}
use Rattle.lc_trace.specs.Changes.{Changes, IsTakenOver}
use Rattle.lc_trace.proofs.Changing.{LeadsTo, leads_next, over_next, within_at}
use Rattle.lc_trace.proofs.changes.changes.Goals as goal

-- no write
abbrev none : Write
none = record { column = record { 0 = 0 }; index = pos 0; value = pos 0 }

pub loop-write-init : goal.loop-write-init
loop-write-init c = record {
  left = ap (λ (s : State). stored_all s (writes_view c.writes-writes.result.now)) c.requires.saved ∙ sym c.writes-writes.ensures.written;
  leads = λ rest so. subst (λ (cells : List Write). Changes (written_in_draft c.args.draft.now) (saved_in_draft c.args.draft.now) (writes_view cells ++ rest)) (sym c.new-cells.ensures.items)
      (subst (λ (s : State). Changes (written_in_draft c.args.draft.now) s rest) c.requires.saved so);
  columns = c.requires.columns;
}

pub take_over-requires-clause-there : goal.take_over-requires-clause-there
take_over-requires-clause-there c =
    let ws = c.writes-writes.result.now in
    let k = c.loop-write.write-index in
    let lt : k < length ws = search rules in
    subst (λ n. (get_or ws k none).column.0 < n) (sym c.loop-write.invariant.columns) (within_at (draft_columns c.args.draft.now) ws k none c.writes-writes.ensures.within lt)

pub take_over-requires-clause-after : goal.take_over-requires-clause-after
take_over-requires-clause-after c =
    let ws = c.writes-writes.result.now in
    let k = c.loop-write.write-index in
    let lt : k < length ws = search rules in
    subst (λ n. (get_or ws k none).column.0 < n) (sym c.state-after.ensures.columns) (within_at (draft_columns c.args.draft.now) ws k none c.writes-writes.ensures.within lt)

pub loop-write-preserved : goal.loop-write-preserved
loop-write-preserved c =
    let ws = c.writes-writes.result.now in
    let k = c.loop-write.write-index in
    let lt : k < length ws = search rules in
    let m = written_in_draft c.args.draft.now in
    let s = state_of c.loop-write.state in
    let t = state_of c.take_over.new.state in
    let w = get_or ws k none in
    let found = c.in_ok-found.found in
    let cells = c.loop-write.cells.items in
    let taken : IsTakenOver m s t w.column.0 w.index found = subst (λ (u : State). IsTakenOver u s t w.column.0 w.index found) c.state-after.ensures.written c.in_ok-found.ensures.taken in
    record {
      left = over_next m s t ws k none found lt taken c.loop-write.invariant.left;
      leads = subst (λ (l : List Write). LeadsTo m (saved_in_draft c.args.draft.now) t l) (sym c.in_ok-push_found.ensures)
          (leads_next m (saved_in_draft c.args.draft.now) s t cells w.column.0 w.index found taken c.loop-write.invariant.leads);
      columns = c.take_over.ensures.columns ∙ c.loop-write.invariant.columns;
    }

pub returns-clause-changed : goal.returns-clause-changed
returns-clause-changed c =
    let ws = c.writes-writes.result.now in
    let k = c.loop-write.write-index in
    let past : length ws ≤ k = omega (arith, c.loop-write-test.false) in
    let m = written_in_draft c.args.draft.now in
    let s = state_of c.loop-write.state in
    let same : s ≡ m = ap (λ (l : List Write). stored_all s (writes_view l)) (sym (dropped_all ws k past)) ∙ c.loop-write.invariant.left in
    subst (λ (l : List U.Write). Changes m (saved_in_draft c.args.draft.now) l) (append-nil (writes_view c.loop-write.cells.items)) (c.loop-write.invariant.leads [] same)
