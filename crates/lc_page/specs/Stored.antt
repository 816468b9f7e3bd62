-- What calls store.
use Rattle.std.specs.Prelude.{ℕ, Option, IfSome}
use Rattle.lc_term.specs.UpdateView.{writes_view}
use Rattle.lc_term.specs.Updates.{AreWithin}
use Rattle.lc_seq.specs.declared.running.Outcome.{Outcome}

-- it stores in the first n columns alone
abbrev pub IsWithinColumns : ℕ → Option Outcome → Type 0
IsWithinColumns n found = IfSome found (λ outcome. AreWithin n (writes_view outcome.writes.items))
