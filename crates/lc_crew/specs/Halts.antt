-- Why a client makes no further call, in a word; and what it says of the client's last call.
use Rattle.std.specs.Prelude.{ℕ, Bool, true, not, List, codes, Option, Some, None}
use Rattle.lc_crew.specs.declared.halt.Halt.{Halt}
use Rattle.lc_crew.specs.declared.halt.Halt.TheVariants.{Spent, Overflow, Full}

abbrev pub word_of : Halt → List ℕ
word_of Spent = codes "spent"
word_of Overflow = codes "overflow"
word_of Full = codes "full"

-- a client that makes further calls has returned from its last one; one whose turns are spent has not
abbrev pub fits : Option Halt → (unfinished : Bool) → Bool
fits None unfinished = not unfinished
fits (Some Spent) unfinished = unfinished
fits (Some Overflow) unfinished = true
fits (Some Full) unfinished = true
