-- What the first words of terms, column expressions and formulas say.
use Rattle.std.specs.Prelude.{ℕ, Bool, true, false, not, ◌&&◌, if◌then◌else◌, codes, List, Option, Some, None}
use Rattle.lc_reading.specs.Words.{is}
use Rattle.lc_text.specs.Names.{Names}
use Rattle.lc_text.specs.declared.scope.Extra.TheVariants.{Quantifiers, BuiltColumns}
use Rattle.lc_text.specs.declared.words.Operation.{Operation}
use Rattle.lc_text.specs.declared.words.Operation.TheVariants.{Add, Subtract, Multiply, Read}
use Rattle.lc_text.specs.declared.words.Built.{Built}
use Rattle.lc_text.specs.declared.words.Built.TheVariants.{Store, Affine}
use Rattle.lc_text.specs.declared.words.Connective.{Connective}
use Rattle.lc_text.specs.declared.words.Connective.TheVariants.{Le, Eq, Not, And, Or, Implies, Forall, Exists}

-- (+ T T), (- T T), (* NUMBER T), (rd C T)
abbrev pub operation_of : List ℕ → Option Operation
operation_of w =
    if is w (codes "+") then Some Add
    else (if is w (codes "-") then Some Subtract
    else (if is w (codes "*") then Some Multiply
    else (if is w (codes "rd") then Some Read
    else None)))

-- (store C T T), (affine NUMBER NUMBER)
abbrev pub built_of : List ℕ → Option Built
built_of w =
    if is w (codes "store") then Some Store
    else (if is w (codes "affine") then Some Affine
    else None)

-- the same, where columns may be built
abbrev pub built_due : Names → List ℕ → Option Built
built_due names w = if names.allows BuiltColumns then built_of w else None

-- (<= T T), (= T T), (not F), (and F*), (or F*), (=> F F), (forall NAME F), (exists NAME F)
abbrev pub connective_of : List ℕ → Option Connective
connective_of w =
    if is w (codes "<=") then Some Le
    else (if is w (codes "=") then Some Eq
    else (if is w (codes "not") then Some Not
    else (if is w (codes "and") then Some And
    else (if is w (codes "or") then Some Or
    else (if is w (codes "=>") then Some Implies
    else (if is w (codes "forall") then Some Forall
    else (if is w (codes "exists") then Some Exists
    else None)))))))

abbrev pub is_quantifier : Connective → Bool
is_quantifier Forall = true
is_quantifier Exists = true
is_quantifier _ = false

-- this one, if quantifiers are allowed here, or it is none
abbrev pub allowed : Bool → Option Connective → Option Connective
allowed quantifiers None = None
allowed quantifiers (Some c) = if is_quantifier c && not quantifiers then None else Some c

-- the same, by what the names allow
abbrev pub connective_due : Names → List ℕ → Option Connective
connective_due names w = allowed (names.allows Quantifiers) (connective_of w)
