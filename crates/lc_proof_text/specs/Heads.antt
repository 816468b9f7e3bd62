-- What the first word of a step says.
use Rattle.std.specs.Prelude.{ℕ, Bool, true, false, if◌then◌else◌, codes, List, Option, Some, None}
use Rattle.lc_reading.specs.Words.{is}
use Rattle.lc_proof_text.specs.declared.head.Head.{Head}
use Rattle.lc_proof_text.specs.declared.head.Head.TheVariants.{Split, Cases, Push, Instantiate, Fresh, Cut, Written, Same, Affine, Trichotomy, Divide, Opposite, Open}
use Rattle.lc_proof_text.specs.declared.head.Due.{Due}
use Rattle.lc_proof_text.specs.declared.head.Due.TheVariants.{Nothing, One, Two, Any}

-- what it says, if it is any but `sum`
abbrev pub head_of : List ℕ → Option Head
head_of w =
    if is w (codes "split") then Some Split
    else (if is w (codes "cases") then Some Cases
    else (if is w (codes "push") then Some Push
    else (if is w (codes "inst") then Some Instantiate
    else (if is w (codes "fresh") then Some Fresh
    else (if is w (codes "cut") then Some Cut
    else (if is w (codes "written") then Some Written
    else (if is w (codes "same") then Some Same
    else (if is w (codes "affine") then Some Affine
    else (if is w (codes "trich") then Some Trichotomy
    else (if is w (codes "divide") then Some Divide
    else (if is w (codes "opposite") then Some Opposite
    else (if is w (codes "open") then Some Open
    else None))))))))))))

-- how many parts of its own a step has before its proofs
abbrev pub own_parts : Head → ℕ
own_parts Split = 1
own_parts Cases = 1
own_parts Push = 1
own_parts Instantiate = 2
own_parts Fresh = 1
own_parts Cut = 1
own_parts Written = 4
own_parts Same = 3
own_parts Affine = 3
own_parts Trichotomy = 1
own_parts Divide = 3
own_parts Opposite = 2
own_parts Open = 0

-- how many proofs come after them
abbrev pub proofs_due : Head → Due
proofs_due Split = One
proofs_due Cases = Any
proofs_due Push = One
proofs_due Instantiate = One
proofs_due Fresh = One
proofs_due Cut = Two
proofs_due Written = One
proofs_due Same = One
proofs_due Affine = One
proofs_due Trichotomy = Two
proofs_due Divide = One
proofs_due Opposite = Nothing
proofs_due Open = Nothing

-- those that are expected after one proof
abbrev pub later : Due → Due
later Nothing = Nothing
later One = Nothing
later Two = One
later Any = Any

-- no further one is required
abbrev pub is_met : Due → Bool
is_met Nothing = true
is_met One = false
is_met Two = false
is_met Any = true

-- no further one is allowed
abbrev pub is_full : Due → Bool
is_full Nothing = true
is_full _ = false
