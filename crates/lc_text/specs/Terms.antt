-- What a text reads as where a term or a column expression is expected.
use Rattle.std.specs.Prelude.{ℕ, ℤ, ◌+◌, if◌then◌else◌, List, [], ◌∷◌, length, Option, Some, None}
use Rattle.std.specs.Option.{option_or}
use Rattle.lc_base.specs.NameText.{is_name}
use Rattle.lc_sexp.specs.Trees.{Tree, Trees, atom, list, ◌▸◌, item_count}
use Rattle.lc_sexp.specs.Parts.{Fit, fits, misshapen, beyond, integer_fit, variable_fit}
use Rattle.lc_term.specs.Syntax as S
use Rattle.lc_term.specs.Syntax.{Term, Column}
use Rattle.lc_text.specs.Names.{Names}
use Rattle.lc_text.specs.declared.scope.ColumnUse.{ColumnUse}
use Rattle.lc_text.specs.declared.scope.ColumnUse.TheVariants.{Usable, Misplaced, Hidden, Undeclared}
use Rattle.lc_text.specs.declared.scope.Extra.TheVariants.{NumberedVariables}
use Rattle.lc_reading.specs.Naming.{within}
use Rattle.lc_reading.specs.Readings.{Reading, fine, wrong, mapped, two_of, three_of}
use Rattle.lc_reading.specs.Words.{is}
use Rattle.lc_reading.specs.declared.pass.Pass.TheVariants.{Shape, Unknown, Auxiliary, Bound}
use Rattle.lc_text.specs.Heads.{operation_of, built_due}
use Rattle.lc_text.specs.declared.words.Operation.{Operation}
use Rattle.lc_text.specs.declared.words.Operation.TheVariants as O
use Rattle.lc_text.specs.declared.words.Built.{Built}
use Rattle.lc_text.specs.declared.words.Built.TheVariants as B

-- how many quantifiers are between a place and the innermost one that binds this name
abbrev pub bound_index : List (List ℕ) → List ℕ → Option ℕ
bound_index [] w = None
bound_index (b ∷ bound) w = option_or (bound_index bound w) (if is w b then Some (length bound) else None)

-- the bound variable, else the free one
abbrev pub bound_or_free : ℕ → List ℕ → Option ℕ → Option ℕ → Reading Term
bound_or_free n w (Some k) free = within n w (S.Bound k)
bound_or_free n w None (Some k) = within n w (S.Variable k)
bound_or_free n w None None = wrong Unknown n

-- the variable of a name
abbrev pub variable_reading : Names → List (List ℕ) → ℕ → List ℕ → Reading Term
variable_reading names bound n w = bound_or_free n w (bound_index bound w) (names.variable w)

-- what fits
abbrev pub fit_reading : {X : Type 0} → ℕ → Fit X → Reading X
fit_reading n (fits x) = fine x
fit_reading n misshapen = wrong Shape n
fit_reading n beyond = wrong Bound n

-- a NUMBER
abbrev pub number_reading : ℕ → Tree → Reading ℤ
number_reading n t = fit_reading n (integer_fit t)

-- a variable `?k`, where such variables are allowed
abbrev pub numbered_reading : Names → ℕ → List ℕ → Reading Term
numbered_reading names n w =
    if names.allows NumberedVariables then mapped S.Variable (fit_reading n (variable_fit (atom w))) else wrong Shape n

-- a NAME or a variable `?k`
abbrev pub word_reading : Names → List (List ℕ) → ℕ → List ℕ → Reading Term
word_reading names bound n w = if is_name w then variable_reading names bound n w else numbered_reading names n w

-- the NUMBER, else another word
abbrev pub number_or : ℕ → Fit ℤ → Reading Term → Reading Term
number_or n (fits z) other = fine (S.Number z)
number_or n beyond other = wrong Bound n
number_or n misshapen other = other

-- a NUMBER, a NAME or a variable `?k`
abbrev pub atom_reading : Names → List (List ℕ) → ℕ → List ℕ → Reading Term
atom_reading names bound n w = number_or n (integer_fit (atom w)) (word_reading names bound n w)

-- the column of the name n. One that may not be read there is reported at its reader
abbrev pub used : ColumnUse → ℕ → ℕ → List ℕ → Reading Column
used Misplaced reader n w = wrong Shape reader
used Undeclared reader n w = if is_name w then wrong Unknown n else wrong Shape n
used Hidden reader n w = if is_name w then wrong Auxiliary reader else wrong Shape n
used (Usable c) reader n w = if is_name w then within n w (S.Base c.0) else wrong Shape n

abbrev pub base_reading : Names → ℕ → ℕ → List ℕ → Reading Column
base_reading names reader n w = used (names.column w) reader n w

-- two parts
abbrev pub pair : {X Y : Type 0} → X → Y → X × Y
pair x y = (x, y)

-- two and one more
abbrev pub triple : {X Y Z : Type 0} → X → Y → Z → (X × Y) × Z
triple x y z = ((x, y), z)

-- NUMBER NUMBER: the parts of the list n, numbered from m on
abbrev pub numbers_reading : ℕ → ℕ → Trees → Reading (ℤ × ℤ)
numbers_reading n m (t ▸ u ▸ ts) = two_of pair m t u ts (number_reading m t) (number_reading (m + item_count t) u)
numbers_reading n m _ = wrong Shape n

-- two terms together
abbrev pub sum_of : Operation → Term × Term → Term
sum_of O.Add p = S.Add p.0 p.1
sum_of _ p = S.Subtract p.0 p.1

abbrev pub product_of : ℤ × Term → Term
product_of p = S.Multiply p.0 p.1

abbrev pub access_of : Column × Term → Term
access_of p = S.Read p.0 p.1

abbrev pub affine_of : ℤ × ℤ → Column
affine_of p = S.Affine p.0 p.1

abbrev pub store_of : (Column × Term) × Term → Column
store_of p = S.Store p.0.0 p.0.1 p.1

-- the list n that begins so, if its parts read so as two terms, as a number and a term, as a column and a term
abbrev pub operation_reading : ℕ → Option Operation → Reading (Term × Term) → Reading (ℤ × Term) → Reading (Column × Term) → Reading Term
operation_reading n None terms product access = wrong Shape n
operation_reading n (Some O.Add) terms product access = mapped (sum_of O.Add) terms
operation_reading n (Some O.Subtract) terms product access = mapped (sum_of O.Subtract) terms
operation_reading n (Some O.Multiply) terms product access = mapped product_of product
operation_reading n (Some O.Read) terms product access = mapped access_of access

-- the list n that begins so, if its parts read so as two numbers, as a column and two terms
abbrev pub built_reading : ℕ → Option Built → Reading (ℤ × ℤ) → Reading ((Column × Term) × Term) → Reading Column
built_reading n None numbers store = wrong Shape n
built_reading n (Some B.Affine) numbers store = mapped affine_of numbers
built_reading n (Some B.Store) numbers store = mapped store_of store

abbrev mutual
  -- the item n, where a term is expected and quantifiers bind these names
  pub term_reading : Names → List (List ℕ) → ℕ → Tree → Reading Term
  term_reading names bound n (atom w) = atom_reading names bound n w
  term_reading names bound n (list (atom w ▸ ts)) =
      operation_reading n (operation_of w) (terms_reading names bound n (n + 2) ts) (product_reading names bound n (n + 2) ts) (access_reading names bound n (n + 2) ts)
  term_reading names bound n (list _) = wrong Shape n

  -- T T: the parts of the list n, numbered from m on
  pub terms_reading : Names → List (List ℕ) → ℕ → ℕ → Trees → Reading (Term × Term)
  terms_reading names bound n m (t ▸ u ▸ ts) = two_of pair m t u ts (term_reading names bound m t) (term_reading names bound (m + item_count t) u)
  terms_reading names bound n m _ = wrong Shape n

  -- NUMBER T
  pub product_reading : Names → List (List ℕ) → ℕ → ℕ → Trees → Reading (ℤ × Term)
  product_reading names bound n m (t ▸ u ▸ ts) = two_of pair m t u ts (number_reading m t) (term_reading names bound (m + item_count t) u)
  product_reading names bound n m _ = wrong Shape n

  -- C T
  pub access_reading : Names → List (List ℕ) → ℕ → ℕ → Trees → Reading (Column × Term)
  access_reading names bound n m (t ▸ u ▸ ts) = two_of pair m t u ts (column_reading names bound n m t) (term_reading names bound (m + item_count t) u)
  access_reading names bound n m _ = wrong Shape n

  -- the item n, where a column expression is expected. A column that may not be read there is reported at its reader
  pub column_reading : Names → List (List ℕ) → ℕ → ℕ → Tree → Reading Column
  column_reading names bound reader n (atom w) = base_reading names reader n w
  column_reading names bound reader n (list (atom w ▸ ts)) =
      built_reading n (built_due names w) (numbers_reading n (n + 2) ts) (store_reading names bound n (n + 2) ts)
  column_reading names bound reader n (list _) = wrong Shape n

  -- C T T
  pub store_reading : Names → List (List ℕ) → ℕ → ℕ → Trees → Reading ((Column × Term) × Term)
  store_reading names bound n m (t ▸ u ▸ v ▸ ts) =
      three_of triple m t u v ts (column_reading names bound n m t) (term_reading names bound (m + item_count t) u)
      (term_reading names bound (m + item_count t + item_count u) v)
  store_reading names bound n m _ = wrong Shape n

-- the list n that begins so, whose other parts are numbered from m on
abbrev pub operation_with : Names → List (List ℕ) → Operation → ℕ → ℕ → Trees → Reading Term
operation_with names bound o n m ts =
    operation_reading n (Some o) (terms_reading names bound n m ts) (product_reading names bound n m ts) (access_reading names bound n m ts)

abbrev pub built_with : Names → List (List ℕ) → Built → ℕ → ℕ → Trees → Reading Column
built_with names bound b n m ts = built_reading n (Some b) (numbers_reading n m ts) (store_reading names bound n m ts)
