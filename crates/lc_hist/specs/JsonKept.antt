-- Numbers that are read back.
use Rattle.std.specs.Prelude.{◌≡◌, ℕ, List, ℤ, Some, slice_get}
use Rattle.lc_seq.specs.Sequential.{given_in}
use Rattle.lc_history.specs.History.{Event, Called, Replied, Entry}
use Rattle.lc_hist.specs.JsonValues.{numbers_in}
use Rattle.lc_hist.specs.JsonWritten.{numbers_data}

-- what is written of the numbers reads as these
abbrev pub AreKept : List ℤ → Type 0
AreKept zs = numbers_in (numbers_data zs) ≡ Some zs

-- the numbers of an event
abbrev pub IsKeptEvent : Event → Type 0
IsKeptEvent (Called c call) = AreKept call.numbers
IsKeptEvent (Replied c reply) = AreKept reply

-- the numbers of an entry
abbrev pub IsKeptEntry : Entry → Type 0
IsKeptEntry e = AreKept e.call.numbers × AreKept e.reply × AreKept (given_in e.choice)

-- of each element this holds
abbrev pub Each : {A : Type 0} → (A → Type 0) → List A → Type 0
Each {A} P xs = (i : ℕ) (x : A) → slice_get xs i ≡ Some x → P x
