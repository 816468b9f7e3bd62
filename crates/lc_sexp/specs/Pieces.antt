-- Forms that are read in pieces.
use Rattle.std.specs.Prelude.{◌≡◌, ℕ, ◌++◌, Bool, false, List, Option, Some, None, vec_len}
use Rattle.lc_sexp.specs.Text.{uncommented, lexed}
use Rattle.lc_sexp.specs.Progress.{told, fault_from}
use Rattle.lc_sexp.specs.declared.machine.Machine.{Machine}
use Rattle.lc_sexp.specs.declared.forms_reader.FormsReader.{FormsReader}

-- the tokens of these bytes and more are those that the machine holds and those that it is still to find
abbrev pub HasTokens : Machine → List ℕ → Type 0
HasTokens m fed = (rest : List ℕ) → told m.text.items m.start m.nodes.items (uncommented m.in_comment rest) ≡ lexed (uncommented false (fed ++ rest))

-- their first fault is the one that it is still to find
abbrev pub HasNoFault : Machine → List ℕ → Type 0
HasNoFault m fed = (rest : List ℕ) → fault_from m.offset (vec_len m.holes) (uncommented m.in_comment rest) ≡ fault_from 0 0 (uncommented false (fed ++ rest))

-- the machine has taken these bytes; or their first fault is known, whatever comes next
abbrev pub HasTaken : Option ℕ → Machine → List ℕ → Type 0
HasTaken None m fed = HasTokens m fed × HasNoFault m fed
HasTaken (Some offset) m fed = (rest : List ℕ) → fault_from 0 0 (uncommented false (fed ++ rest)) ≡ Some offset

-- the reader has been fed these bytes
abbrev pub WasFed : FormsReader → List ℕ → Type 0
WasFed r fed = HasTaken r.fault r.machine fed

-- it is out of memory, so the reader returns nothing else any more
abbrev pub is_spent : FormsReader → Bool
is_spent r = r.out_of_memory
