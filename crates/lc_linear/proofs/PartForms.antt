-- Forms that are made are put into a list, and taken out of it.
use Rattle.std.proofs.Common.{◌≡◌, ℕ, Bool, true, false, List, Some, None, cond, refl, sym, ap, ◌∙◌, subst}
use Rattle.std.specs.Prelude.{Option, nat_eq}
use Rattle.std.specs.Map.{lookup}
use Rattle.std.proofs.lemmas.Option.{same_Some}
use borrow.Author.Tests.{eqb-true}
use Rattle.lc_table.specs.NodeTables.{Table}
use Rattle.lc_table.specs.declared.node.TermId.{TermId}
use Rattle.lc_linear.specs.PartForms.{IsMade, AreMade}
use Rattle.lc_linear.specs.declared.form.LinForm.{LinForm}

none_some : {T : Type 0} (x : T) → None ≡ Some x → ⊥
none_some x e = cc

pub made_noted : (ts : Table) (es fs : List (ℕ × Option LinForm)) (k : TermId) (made : Option LinForm) → AreMade ts es → IsMade ts k made →
    ((q : ℕ) → lookup (nat_eq q) fs ≡ cond (nat_eq k.0 q) (Some made) (lookup (nat_eq q) es)) → AreMade ts fs
made_noted ts es fs k made h is now q found at = by (nat_eq k.0 q.0) refl
  where
    by : (b : Bool) → nat_eq k.0 q.0 ≡ b → IsMade ts q found
    by true e =
        let same : made ≡ found = same_Some made found (sym (ap (λ b. cond b (Some made) (lookup (nat_eq q.0) es)) e) ∙ sym (now q.0) ∙ at) in
        subst (IsMade ts q) same (subst (λ n. IsMade ts (record { 0 = n }) made) (eqb-true k.0 q.0 e) is)
    by false e = h q found (sym (ap (λ b. cond b (Some made) (lookup (nat_eq q.0) es)) e) ∙ sym (now q.0) ∙ at)
