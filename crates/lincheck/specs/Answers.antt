-- What is printed of a check, and with which exit status.
use Rattle.std.specs.Prelude.{◌≡◌, ℕ, List, [], Result, Ok, Err}
use Rattle.lc_base.specs.Line.{line_of, refusal_line_of}
use Rattle.lc_base.specs.declared.refusal.Fault.{Fault}
use Rattle.lc_base.specs.declared.refusal.Fault.TheVariants.{Refused, OutOfMemory}

-- a refusal is reported by its line and status 1
abbrev pub ToldFault : Fault → List ℕ → ℕ → Type 0
ToldFault (Refused refusal) text status = (text ≡ refusal_line_of refusal) × (status ≡ 1)
ToldFault OutOfMemory text status = ⊥

-- a check that passed is reported by the word and status 0, a refusal by its line and status 1
abbrev pub Told : List ℕ → Result (Unit {0}) Fault → List ℕ → ℕ → Type 0
Told word (Ok u) text status = (text ≡ line_of word []) × (status ≡ 0)
Told word (Err fault) text status = ToldFault fault text status
