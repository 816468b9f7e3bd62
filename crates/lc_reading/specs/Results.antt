-- What readers answer.
use Rattle.std.specs.Prelude.{◌≡◌, ℕ, Bool, true, false, if◌then◌else◌, [], ◌∷◌, ◌++◌, Vec, Result, Ok, Err}
use Rattle.std.specs.declared.alloc.Global.{Global}
use Rattle.lc_base.specs.declared.refusal.Fault.{Fault}
use Rattle.lc_base.specs.declared.refusal.Fault.TheVariants as F
use Rattle.lc_base.specs.NameText.{is_name}
use Rattle.lc_sexp.specs.Shown.{text_of, atom_number}
use Rattle.lc_sexp.specs.Trees.{Tree, Trees, none, ◌▸◌}
use Rattle.lc_sexp.specs.declared.cursor.Atom.{Atom}
use Rattle.lc_reading.specs.Naming.{text_in}
use Rattle.lc_reading.specs.declared.pass.Pass.TheVariants.{Shape, Bound}
use Rattle.lc_reading.specs.Flaws.{at, lesser, refusal_of}
use Rattle.lc_reading.specs.Readings.{Reading, fine, flawed}
use Rattle.lc_reading.specs.declared.flaw.ReadFault.{ReadFault}
use Rattle.lc_reading.specs.declared.flaw.ReadFault.TheVariants.{Flawed, OutOfMemory}

-- why nothing is read of a text that reads so
abbrev pub IsReadFault : {X : Type 0} → Reading X → ReadFault → Type 0
IsReadFault read (Flawed flaw) = read ≡ flawed flaw
IsReadFault read OutOfMemory = Unit {0}

-- the value that a text reads as, seen by this view; or what is wrong in it
abbrev pub IsReading : {T X : Type 0} → (T → X) → Reading X → Result T ReadFault → Type 0
IsReading view read (Ok value) = read ≡ fine (view value)
IsReading view read (Err fault) = IsReadFault read fault

-- the atom that the item n is, which is a name; or the item is none
abbrev pub IsNameAt : ℕ → Tree → Result Atom ReadFault → Type 0
IsNameAt n t (Ok name) = (is_name (text_in t) ≡ true) × (text_in t ≡ text_of name) × (atom_number name ≡ n)
IsNameAt n t (Err fault) = (is_name (text_in t) ≡ false) × (fault ≡ Flawed (at Shape n))

-- both of two faults
abbrev pub joined : ReadFault → ReadFault → ReadFault
joined (Flawed f) (Flawed g) = Flawed (lesser f g)
joined _ _ = OutOfMemory

-- both values, else what is wrong in either
abbrev pub both_results : {A B : Type 0} → Result A ReadFault → Result B ReadFault → Result (A × B) ReadFault
both_results (Ok a) (Ok b) = Ok (a, b)
both_results (Ok a) (Err g) = Err g
both_results (Err f) (Ok b) = Err f
both_results (Err f) (Err g) = Err (joined f g)

-- what is wrong in either
abbrev pub also_results : Result (Unit {0}) ReadFault → Result (Unit {0}) ReadFault → Result (Unit {0}) ReadFault
also_results (Ok u) b = b
also_results (Err f) (Ok u) = Err f
also_results (Err f) (Err g) = Err (joined f g)

-- with the flaw too that this item is misshapen
abbrev pub misshapen_too : {A : Type 0} → ℕ → Result A ReadFault → Result A ReadFault
misshapen_too m (Ok a) = Err (Flawed (at Shape m))
misshapen_too m (Err f) = Err (joined f (Flawed (at Shape m)))

-- the value if no part is left, else the first of these is one too many
abbrev pub ended_result : {A : Type 0} → ℕ → Trees → Result A ReadFault → Result A ReadFault
ended_result m none r = r
ended_result m (t ▸ ts) r = misshapen_too m r

-- these values, then this one
abbrev pub IsLonger : {T : Type 0} → Vec T Global → T → Result (Vec T Global) ReadFault → Type 0
IsLonger xs x (Ok ys) = ys.items ≡ xs.items ++ x ∷ []
IsLonger xs x (Err fault) = fault ≡ OutOfMemory

-- the same if all are read
abbrev pub IsPushed : {T : Type 0} → Result (Vec T Global) ReadFault → Result T ReadFault → Result (Vec T Global) ReadFault → Type 0
IsPushed (Ok xs) (Ok x) result = IsLonger xs x result
IsPushed (Ok xs) (Err g) result = result ≡ Err g
IsPushed (Err f) (Ok x) result = result ≡ Err f
IsPushed (Err f) (Err g) result = result ≡ Err (joined f g)

-- with the flaw too that this item is beyond a limit
abbrev pub limited_result : {A : Type 0} → Bool → ℕ → Result A ReadFault → Result A ReadFault
limited_result beyond n (Ok a) = if beyond then Err (Flawed (at Bound n)) else Ok a
limited_result beyond n (Err f) = if beyond then Err (joined f (Flawed (at Bound n))) else Err f

-- what is returned when nothing is read
abbrev pub told : ReadFault → Fault
told (Flawed f) = F.Refused (refusal_of f)
told OutOfMemory = F.OutOfMemory
