-- One coefficient of a list divided.
use Rattle.std.specs.Prelude.{◌≡◌, ℕ, Some, ℤ, ◌*ℤ◌, List, slice_get}
use Rattle.std.specs.Map.{values_of}
use Rattle.indexmap.specs.Layout.{set_value_at}
use Rattle.lc_table.specs.declared.node.TermId.{TermId}

-- the coefficient of entry i is k times a number, which takes its place
pub record DividesAt (k : ℤ) (i : ℕ) (old new : List (TermId × ℤ)) : Type 0 where
  pub coefficient : ℤ
  pub quotient : ℤ
  pub stands : slice_get (values_of old) i ≡ Some coefficient
  pub exact : coefficient ≡ k *ℤ quotient
  pub replaced : new ≡ set_value_at old i quotient

-- the coefficient of entry i is no multiple of k
pub record IsNoMultipleAt (k : ℤ) (i : ℕ) (es : List (TermId × ℤ)) : Type 0 where
  pub coefficient : ℤ
  pub stands : slice_get (values_of es) i ≡ Some coefficient
  pub none : (n : ℤ) → coefficient ≡ k *ℤ n → ⊥
