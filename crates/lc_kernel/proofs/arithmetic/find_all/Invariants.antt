use Rattle.std.proofs.Common.{◌≡◌, drop, map}
use Rattle.lc_linear.specs.Closing.{entries_in, AreEntries}
use Rattle.lc_kernel.specs.Settings.{hypotheses_at}
use Rattle.lc_kernel.specs.Table.{entries}
use Rattle.lc_kernel.specs.View.{multiple_of}
use Rattle.lc_kernel.proofs.Entries.{behind}
use Rattle.lc_kernel.proofs.arithmetic.find_all.Given as goal

-- those that are found, and those that are left
abbrev pub invariant-loop-multiple : goal.invariant-loop-multiple
invariant-loop-multiple l =
    AreEntries l.terms l.found.items ×
    (entries (hypotheses_at l.terms l.setting) (map multiple_of l.multiples) ≡ behind (entries_in l.terms l.found.items) (entries (hypotheses_at l.terms l.setting) (map multiple_of (drop l.multiple-index l.multiples))))
