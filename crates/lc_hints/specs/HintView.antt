-- What the hints of a file stand for.
use Rattle.std.specs.Prelude.{◌≡◌, ℕ, nat_eq, List, [], map, Option, Some, None, Vec}
use Rattle.std.specs.declared.alloc.Global.{Global}
use Rattle.indexmap.specs.IndexMap.{get}
use Rattle.lc_term.specs.Syntax.{Term, Formula}
use Rattle.lc_term.specs.View.{term_of, formulas_of}
use Rattle.lc_cert.specs.Certificates.{Entry}
use Rattle.lc_cert.specs.EntryView.{entries_of}
use Rattle.lc_hints.specs.Hints.{Hint, proofs_of, terms_for, formulas_for}
use Rattle.lc_hints.specs.declared.by_number.ByNumber.{ByNumber}
use Rattle.lc_hints.specs.declared.given.Given.{Given}
use Rattle.lc_hints.specs.declared.hints.Hints.{Hints}

-- the items of a vector, if there is one
abbrev pub items_of : {T : Type 0} → Option (Vec T Global) → List T
items_of None = []
items_of (Some v) = v.items

-- the list of this number
abbrev pub items_at : {T : Type 0} → ByNumber T → ℕ → List T
items_at lists k = items_of (get nat_eq lists.lists k)

-- the proofs that are given, in their order
abbrev pub proofs_given : Given → List Entry
proofs_given g = entries_of g.proofs.items

-- the terms that are given for the condition k
abbrev pub terms_given : Given → ℕ → List Term
terms_given g k = map term_of (items_at g.terms k)

-- the formulas that are given for the condition k
abbrev pub formulas_given : Given → ℕ → List Formula
formulas_given g k = formulas_of (items_at g.formulas k)

-- just this is given by these hints
pub record IsGiven (hs : List Hint) (g : Given) : Type 0 where
  pub proofs : proofs_given g ≡ proofs_of hs
  pub terms : (k : ℕ) → terms_given g k ≡ terms_for k hs
  pub formulas : (k : ℕ) → formulas_given g k ≡ formulas_for k hs

abbrev pub proofs_in : Hints → List Entry
proofs_in h = proofs_given h.given

abbrev pub terms_in : Hints → ℕ → List Term
terms_in h k = terms_given h.given k

abbrev pub formulas_in : Hints → ℕ → List Formula
formulas_in h k = formulas_given h.given k

-- these hints: their proofs in the order of the file, and for each condition their terms and formulas in that order
pub record HasHints (hs : List Hint) (h : Hints) : Type 0 where
  pub proofs : proofs_in h ≡ proofs_of hs
  pub terms : (k : ℕ) → terms_in h k ≡ terms_for k hs
  pub formulas : (k : ℕ) → formulas_in h k ≡ formulas_for k hs
