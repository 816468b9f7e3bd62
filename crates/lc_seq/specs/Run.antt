-- What is computed of the branches of a call.
use Rattle.std.specs.Prelude.{List, ℤ, Option, Some, None}
use Rattle.lc_term.specs.Updates.{Write}
use Rattle.lc_term.specs.UpdateView.{writes_view}
use Rattle.lc_seq.specs.declared.fault.SeqFault.{SeqFault}
use Rattle.lc_seq.specs.declared.fault.SeqFault.TheVariants.{Overflow, OutOfMemory}
use Rattle.lc_seq.specs.declared.running.Outcome.{Outcome}

-- what a fault says of whether the numbers that are reached fit
abbrev pub seq_says : SeqFault → Type 0 → Type 0
seq_says Overflow fits = fits → ⊥
seq_says OutOfMemory fits = Unit {0}

abbrev pub outcome_of : Outcome → List Write × List ℤ
outcome_of o = (writes_view o.writes.items, o.replies.items)

abbrev pub outcome_in : Option Outcome → Option (List Write × List ℤ)
outcome_in None = None
outcome_in (Some o) = Some (outcome_of o)
