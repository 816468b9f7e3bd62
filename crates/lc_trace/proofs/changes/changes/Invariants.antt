use Rattle.std.proofs.Common.{◌≡◌, drop}
use Rattle.lc_term.specs.State.{state_of, column_count}
use Rattle.lc_term.specs.Updates.{stored_all}
use Rattle.lc_term.specs.UpdateView.{writes_view}
use Rattle.lc_ride.specs.Drafts.{written_in_draft, saved_in_draft, draft_columns}
use Rattle.lc_trace.proofs.Changing.{LeadsTo}
use Rattle.lc_trace.proofs.changes.changes.Given as goal

-- what is left to be written makes the columns of the draft, and the cells so far lead to those of the state
abbrev pub invariant-loop-write : goal.invariant-loop-write
invariant-loop-write l = record {
  left : stored_all (state_of l.state) (writes_view (drop l.write-index l.writes)) ≡ written_in_draft l.draft;
  leads : LeadsTo (written_in_draft l.draft) (saved_in_draft l.draft) (state_of l.state) l.cells.items;
  columns : column_count l.state ≡ draft_columns l.draft;
}
