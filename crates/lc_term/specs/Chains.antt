-- Column expressions as chains of stores.
use Rattle.std.specs.Prelude.{List, [], ◌∷◌, Bool, true, false, ◌<◌, map}
use Rattle.lc_term.specs.Lists.{Every}
use Rattle.lc_term.specs.Syntax as S
use Rattle.lc_term.specs.View.{term_of}
use Rattle.lc_term.specs.declared.term.Term.{size-Term}
use Rattle.lc_term.specs.declared.term.ColExpr.{ColExpr, size-ColExpr}
use Rattle.lc_term.specs.declared.chain.StoreAt.{StoreAt}

-- a value that is stored at an index
pub record Stored : Type 0 where
  pub index : S.Term
  pub value : S.Term

-- a column expression with these stores, the outermost first
abbrev pub with_stores : S.Column → List Stored → S.Column
with_stores c [] = c
with_stores c (w ∷ ws) = S.Store (with_stores c ws) w.index w.value

abbrev pub is_store : S.Column → Bool
is_store (S.Store c i v) = true
is_store _ = false

abbrev pub stored_of : StoreAt → Stored
stored_of s = record { index = term_of s.index.now; value = term_of s.value.now }

abbrev pub stores_of : List StoreAt → List Stored
stores_of ss = map stored_of ss

-- the terms are inside the column expression
abbrev pub AreInside : ColExpr → List StoreAt → Type 0
AreInside c ss = Every (λ s. (size-Term s.index.now < size-ColExpr c) × (size-Term s.value.now < size-ColExpr c)) ss
