-- Entries of a sum, found one after the other.
use Rattle.std.proofs.Common.{◌≡◌, ℕ, ◌+◌, ◌<◌, List, [], ◌∷◌, ◌++◌, map, drop, length, get_or, refl, sym, ap, subst, ◌∙◌, append_assoc}
use Rattle.std.specs.Prelude.{ℤ, Option, Some, None}
use Rattle.std.proofs.lemmas.List.{drop_more, map-append}
use Rattle.lc_term.specs.Syntax.{Formula}
use Rattle.lc_table.specs.NodeTables.{Table}
use Rattle.lc_table.specs.Tables.{formula_in, IsFormula}
use Rattle.lc_table.specs.declared.node.FormulaId.{FormulaId}
use Rattle.lc_linear.specs.Closing.{Entry, entries_in, AreEntries}
use Rattle.lc_kernel.specs.Table.{hypothesis, entry_before, entries}
use Rattle.lc_kernel.specs.View.{multiple_of}
use Rattle.lc_kernel.specs.declared.proof.Multiple.{Multiple}

-- entries in front of others, if these are there
abbrev pub behind : List Entry → Option (List Entry) → Option (List Entry)
behind es None = None
behind es (Some fs) = Some (es ++ fs)

behind_more : (es : List Entry) (f : Formula) (m : ℤ) (rest : Option (List Entry)) → behind es (entry_before (Some f) m rest) ≡ behind (es ++ (f, m) ∷ []) rest
behind_more es f m None = refl
behind_more es f m (Some fs) = ap Some (sym (append_assoc es ((f, m) ∷ []) fs))

are_more : (ts : Table) (found : List (FormulaId × ℤ)) (k : FormulaId) (m : ℤ) → AreEntries ts found → IsFormula ts k → AreEntries ts (found ++ (k, m) ∷ [])
are_more ts [] k m are is = (is, tt)
are_more ts (e ∷ es) k m are is = (are.0, are_more ts es k m are.1 is)

-- one entry more is found
pub found_more : (ts : Table) (H : List Formula) (ms : List Multiple) (i : ℕ) (d : Multiple) (k : FormulaId) (found new : List (FormulaId × ℤ)) → i < length ms →
    new ≡ found ++ (k, (get_or ms i d).multiplier) ∷ [] → IsFormula ts k → hypothesis H (get_or ms i d).hypothesis ≡ Some (formula_in ts k) →
    AreEntries ts found × (entries H (map multiple_of ms) ≡ behind (entries_in ts found) (entries H (map multiple_of (drop i ms)))) →
    AreEntries ts new × (entries H (map multiple_of ms) ≡ behind (entries_in ts new) (entries H (map multiple_of (drop (i + 1) ms))))
found_more ts H ms i d k found new below items is there before =
    let m = get_or ms i d in
    let rest = entries H (map multiple_of (drop (i + 1) ms)) in
    let here : entries H (map multiple_of (drop i ms)) ≡ entry_before (Some (formula_in ts k)) m.multiplier rest =
    ap (λ l. entries H (map multiple_of l)) (drop_more ms i d below) ∙ ap (λ o. entry_before o m.multiplier rest) there in
    let trees : entries_in ts new ≡ entries_in ts found ++ (formula_in ts k, m.multiplier) ∷ [] =
    ap (entries_in ts) items ∙ map-append (λ (e : FormulaId × ℤ). (formula_in ts e.0, e.1)) found ((k, m.multiplier) ∷ []) in (
      subst (AreEntries ts) (sym items) (are_more ts found k m.multiplier before.0 is),
      before.1 ∙ ap (behind (entries_in ts found)) here ∙ behind_more (entries_in ts found) (formula_in ts k) m.multiplier rest ∙ ap (λ es. behind es rest) (sym trees),
    )
