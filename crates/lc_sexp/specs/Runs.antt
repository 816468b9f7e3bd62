-- Runs of bytes, which are read at once.
use Rattle.std.specs.Prelude.{◌≡◌, ℕ, ◌≤◌, ◌<◌, Bool, false, List, [], ◌∷◌, ◌++◌, length, get_or, take}
use Rattle.lc_sexp.specs.Text.{class_of, uncommented}
use Rattle.lc_sexp.specs.declared.class.Class.{Class}
use Rattle.lc_sexp.specs.declared.class.Class.TheVariants.{White, Open, Close, Letter, Other}
use Rattle.lc_sexp.specs.declared.run.Run.{Run}

-- each byte is of this class
abbrev pub AreOf : Class → List ℕ → Type 0
AreOf k [] = Unit {0}
AreOf k (b ∷ s) = (class_of b ≡ k) × AreOf k s

-- white bytes and letters may be read together, each other byte is read alone
abbrev pub IsCount : Class → ℕ → Type 0
IsCount White n = Unit {0}
IsCount Letter n = Unit {0}
IsCount Open n = n ≡ 1
IsCount Close n = n ≡ 1
IsCount Other n = n ≡ 1

-- Bytes as they count if comments are spaces: all are of one class, and letters are themselves.
pub record AreSeen (class : Class) (bytes seen : List ℕ) : Type 0 where
  pub of_class : AreOf class seen
  pub size : length seen ≡ length bytes
  pub count : IsCount class (length seen)
  pub letters : class ≡ Letter → seen ≡ bytes

-- The run is at the front of bytes that begin in a comment or not.
pub record IsRun (in_comment : Bool) (bytes : List ℕ) (run : Run) : Type 0 where
  pub some : 0 < run.length
  pub within : run.length ≤ length bytes
  pub seen : List ℕ
  pub counts : AreSeen run.class (take run.length bytes) seen
  pub outside : run.class ≡ Letter → run.in_comment ≡ false
  pub uncomments : (rest : List ℕ) → uncommented in_comment (take run.length bytes ++ rest) ≡ seen ++ uncommented run.in_comment rest

-- The run is a word, followed by a white byte.
pub record IsBeforeWhite (run : Run) (bytes : List ℕ) : Type 0 where
  pub word : run.class ≡ Letter
  pub within : run.length < length bytes
  pub white : class_of (get_or bytes run.length 0) ≡ White
