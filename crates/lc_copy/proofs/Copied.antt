-- What is copied from one table is in the other, now and later.
use Rattle.std.proofs.Common.{◌≡◌, ℕ, Bool, true, false, List, slice_get, Some, cond, refl, sym, ap, ◌∙◌, subst}
use Rattle.std.specs.Prelude.{nat_eq}
use Rattle.std.specs.Map.{lookup}
use Rattle.std.proofs.lemmas.Option.{same_Some}
use borrow.Author.Tests.{eqb-true}
use Rattle.lc_lemmas.proofs.Lists.{kept_left}
use Rattle.lc_table.specs.declared.node.TermId.{TermId}
use Rattle.lc_table.specs.declared.node.ColExprId.{ColExprId}
use Rattle.lc_table.specs.declared.node.FormulaId.{FormulaId}
use Rattle.lc_copy.specs.declared.copying.Copied.{Copied}
use Rattle.lc_table.specs.NodeTables.{Table}
use Rattle.lc_table.specs.Rows.{Extends}
use Rattle.lc_table.specs.Tables.{parts, formulas, term_in, column_in, formula_in, HasTerm, HasColumn, HasFormula, IsTerm, IsColumn, IsFormula, Keeps}
use Rattle.lc_copy.specs.Copies.{AreCopied, Copies}
use Rattle.lc_term.specs.Syntax as S
use Rattle.lc_table.specs.NodeChains.{stored_to}
use Rattle.lc_table.proofs.Later.{term_later, column_later, term_is, column_is, kept_on, same_store}
use Rattle.lc_table.proofs.FormulaNodes.{formula-there}
use Rattle.lc_table.proofs.TermNodes.{term-there, column-there}

copied_kept : {T : Type 0} (there here later : List T) (es : List (ℕ × ℕ)) → AreCopied there here es → Extends here later → AreCopied there later es
copied_kept there here later es h e k v t found at = ap (λ l. slice_get l v) e.1 ∙ kept_left here e.0 v t (h k v t found at)

pub copies_kept : (there here later : Table) (copied : Copied) → Copies there here copied → Keeps here later → Copies there later copied
copies_kept there here later copied h kept = record {
  parts_copied = copied_kept (parts there) (parts here) (parts later) copied.parts.entries h.parts_copied kept.parts_kept;
  formulas_copied = copied_kept (formulas there) (formulas here) (formulas later) copied.formulas.entries h.formulas_copied kept.formulas_kept;
}

-- the number of the copy of a term is the number of a term
pub term_standing : (there here : Table) (k : TermId) (v : ℕ) → IsTerm there k → slice_get (parts here) v ≡ slice_get (parts there) k.0 → HasTerm here (record { 0 = v }) (term_in there k)
term_standing there here k v h e = e ∙ term-there (parts there) k h

pub term_found : (there here : Table) (copied : Copied) (k : TermId) (v : ℕ) → Copies there here copied → IsTerm there k → lookup (nat_eq k.0) copied.parts.entries ≡ Some v
    → HasTerm here (record { 0 = v }) (term_in there k)
term_found there here copied k v h is found = h.parts_copied k.0 v _ found (term-there (parts there) k is)

pub column_found : (there here : Table) (copied : Copied) (k : ColExprId) (v : ℕ) → Copies there here copied → IsColumn there k → lookup (nat_eq k.0) copied.parts.entries ≡ Some v
    → HasColumn here (record { 0 = v }) (column_in there k)
column_found there here copied k v h is found = h.parts_copied k.0 v _ found (column-there (parts there) k is)

pub formula_found : (there here : Table) (copied : Copied) (k : FormulaId) (v : ℕ) → Copies there here copied → IsFormula there k → lookup (nat_eq k.0) copied.formulas.entries ≡ Some v
    → HasFormula here (record { 0 = v }) (formula_in there k)
formula_found there here copied k v h is found = h.formulas_copied k.0 v _ found (formula-there (formulas there) k is)

noted : {T : Type 0} (there here : List T) (es fs : List (ℕ × ℕ)) (k v : ℕ) → AreCopied there here es → slice_get here v ≡ slice_get there k
    → ((q : ℕ) → lookup (nat_eq q) fs ≡ cond (nat_eq k q) (Some v) (lookup (nat_eq q) es)) → AreCopied there here fs
noted {T} there here es fs k v h at now q w t found stands = by (nat_eq k q) refl
  where
    by : (b : Bool) → nat_eq k q ≡ b → slice_get here w ≡ Some t
    by true e =
        let same : w ≡ v = same_Some w v (sym found ∙ now q ∙ ap (λ b. cond b (Some v) (lookup (nat_eq q) es)) e) in
        ap (slice_get here) same ∙ at ∙ ap (slice_get there) (eqb-true k q e) ∙ stands
    by false e = h q w t (sym (ap (λ b. cond b (Some v) (lookup (nat_eq q) es)) e) ∙ sym (now q) ∙ found) stands

pub part_noted : (there here : Table) (old new : Copied) (k v : ℕ) → Copies there here old → slice_get (parts here) v ≡ slice_get (parts there) k
    → ((q : ℕ) → lookup (nat_eq q) new.parts.entries ≡ cond (nat_eq k q) (Some v) (lookup (nat_eq q) old.parts.entries)) → new.formulas ≡ old.formulas → Copies there here new
part_noted there here old new k v h at now rest = record {
  parts_copied = noted (parts there) (parts here) old.parts.entries new.parts.entries k v h.parts_copied at now;
  formulas_copied = subst (λ m. AreCopied (formulas there) (formulas here) m.entries) (sym rest) h.formulas_copied;
}

pub column_noted : (there here : Table) (old new : Copied) (k v : ColExprId) → Copies there here old → IsColumn there k → HasColumn here v (column_in there k)
    → ((q : ℕ) → lookup (nat_eq q) new.parts.entries ≡ cond (nat_eq k.0 q) (Some v.0) (lookup (nat_eq q) old.parts.entries)) → new.formulas ≡ old.formulas → Copies there here new
column_noted there here old new k v h is at now rest = part_noted there here old new k.0 v.0 h (at ∙ sym (column-there (parts there) k is)) now rest

-- a store is copied, from what it stores to and its terms, which are copied one after another
pub copied_store : (there t0 t1 t2 : Table) (store b : ColExprId) (d : S.Column) (i v : S.Term) (l m : TermId) → column_in there store ≡ S.Store d i v → Keeps t0 t1 → Keeps t1 t2 →
    HasColumn t0 b (stored_to (column_in there store)) → HasTerm t1 l i → HasTerm t2 m v → S.Store (column_in t2 b) (term_in t2 l) (term_in t2 m) ≡ column_in there store
copied_store there t0 t1 t2 store b d i v l m tree k1 k2 below index value =
    let at = column_is t2 b _ (column_later t0 t2 b _ below (kept_on t0 t1 t2 k1 k2)) ∙ ap stored_to tree in
    same_store _ _ _ _ _ _ at (term_is t2 l _ (term_later t1 t2 l _ index k2)) (term_is t2 m _ value) ∙ sym tree

pub formula_noted : (there here : Table) (old new : Copied) (k : FormulaId) (v : FormulaId) → Copies there here old → IsFormula there k → HasFormula here v (formula_in there k)
    → ((q : ℕ) → lookup (nat_eq q) new.formulas.entries ≡ cond (nat_eq k.0 q) (Some v.0) (lookup (nat_eq q) old.formulas.entries)) → new.parts ≡ old.parts → Copies there here new
formula_noted there here old new k v h is at now rest = record {
  parts_copied = subst (λ m. AreCopied (parts there) (parts here) m.entries) (sym rest) h.parts_copied;
  formulas_copied = noted (formulas there) (formulas here) old.formulas.entries new.formulas.entries k.0 v.0 h.formulas_copied (at ∙ sym (formula-there (formulas there) k is)) now;
}
