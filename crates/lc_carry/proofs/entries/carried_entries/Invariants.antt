use Rattle.std.proofs.Common.{◌≡◌, ◌++◌}
use Rattle.lc_carry.specs.Carried.{carried_from}
use Rattle.lc_carry.specs.OldProofs.{proof_for}
use Rattle.lc_cert.specs.EntryView.{entries_of}
use Rattle.lc_cond.specs.Conditions.{conditions}
use Rattle.lc_cond.specs.Stream.{conditions_left, parts_left, next_number}
use Rattle.lc_outline.specs.DevelopmentView.{development_view}
use Rattle.lc_carry.proofs.entries.carried_entries.Given as goal

-- what is carried so far, with what is left, is all
abbrev pub invariant-parts : goal.invariant-parts
invariant-parts l =
    entries_of l.entries.items ++ carried_from (development_view l.development) (proof_for l.proofs) (next_number l.stream) (conditions_left (development_view l.development) l.stream)
    ≡ carried_from (development_view l.development) (proof_for l.proofs) 0 (conditions (development_view l.development))

abbrev pub decreases-parts : goal.decreases-parts
decreases-parts l = parts_left (development_view l.development) l.stream
