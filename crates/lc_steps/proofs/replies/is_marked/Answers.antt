use Rattle.std.proofs.Common.{length}
use Rattle.lc_term.specs.State.{state_of, column_count}
use Rattle.lc_term.specs.SystemColumns.{rep_columns}
use Rattle.lc_action.specs.ActionView.{first_of}
use Rattle.lc_steps.proofs.Replying.{replies-there, stand_in_row}
use Rattle.lc_steps.proofs.replies.is_marked.Goals as goal

pub is_row-requires-clause-there : goal.is_row-requires-clause-there
is_row-requires-clause-there c =
    replies-there (first_of c.args.system) (column_count c.args.state.now) (length c.args.numbers.now) c.replies-columns.result c.replies-columns.ensures c.requires.there

pub returns : goal.returns
returns c =
    let first = first_of c.args.system in
    stand_in_row first (state_of c.args.state.now) c.args.client c.args.numbers.now (rep_columns first) c.replies-columns.result c.is_row.result c.replies-columns.ensures c.is_row.ensures
