use Rattle.std.proofs.Common.{◌≡◌, ◌++◌, vec_len, string_bytes}
use Rattle.lc_term.specs.Chains.{AreInside}
use Rattle.lc_term.specs.View.{column_of}
use Rattle.lc_text.proofs.Stores.{opened, IsWritten}
use Rattle.lc_text.proofs.printing.+push_term.Given as goal

-- the words of `counter` stores are written
abbrev pub invariant-push_column-loop : goal.invariant-push_column-loop
invariant-push_column-loop g l = string_bytes l.out ≡ string_bytes l.fn.out ++ opened l.counter

-- what is below the stores that are left is written after their words
abbrev pub invariant-push_column-stores : goal.invariant-push_column-stores
invariant-push_column-stores g l =
    AreInside l.fn.column l.chain.stores.items × IsWritten (g.S.Spelling.spelled l.spelling) l.depth (string_bytes l.fn.out) (string_bytes l.out) (column_of l.fn.column) l.chain.stores.items

abbrev pub decreases-push_column-stores : goal.decreases-push_column-stores
decreases-push_column-stores g l = vec_len l.chain.stores

abbrev pub decreases-push_column : goal.decreases-push_column
decreases-push_column g l = goal.size-push_column g l

abbrev pub decreases-push_term : goal.decreases-push_term
decreases-push_term g l = goal.size-push_term g l
