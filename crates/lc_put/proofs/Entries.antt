-- The first entry of a column in a list of columns by number.
use Rattle.std.proofs.Common.{◌≡◌, ℕ, zero, suc, ◌<◌, ◌≤◌, arith, true, ◌==◌, List, [], ◌∷◌, length, take, map, get_or, refl, subst}
use Rattle.std.proofs.lemmas.List.{take_all}
use Rattle.lc_base.specs.declared.ids.ColId.{ColId}
use Rattle.lc_term.specs.Syntax.{Base}
use Rattle.lc_term.proofs.Entries.{IsAbsent, column_at_absent, mapped_found}
use Rattle.lc_put.specs.PutNumbers.{entry_in, columns_at}
use Rattle.lc_table.specs.NodeTables.{Table}
use Rattle.lc_table.specs.Tables.{column_in}
use Rattle.lc_table.specs.declared.node.ColExprId.{ColExprId}

-- an element of the list, whatever default there is for one that is not
same_default : {A : Type 0} (xs : List A) (i : ℕ) (d : A) → i < length xs → get_or xs i d ≡ get_or xs i (get_or xs i d)
same_default [] i d h = absurd (omega arith)
same_default (x ∷ xs) zero d h = refl
same_default (x ∷ xs) (suc i) d h = same_default xs i d (omega arith)

pub numbered_found : (ts : Table) (cs : List (ColId × ColExprId)) (i : ℕ) (d : ColId × ColExprId) (c : ℕ) → i < length cs → ((get_or cs i d).0.0 == c) ≡ true →
    IsAbsent c (map (entry_in ts) (take i cs)) → columns_at ts cs c ≡ column_in ts (get_or cs i d).1
numbered_found ts cs i d c h at absent = mapped_found (entry_in ts) cs i (get_or cs i d) c h (same_default cs i d h) at absent

pub numbered_missing : (ts : Table) (cs : List (ColId × ColExprId)) (i c : ℕ) → length cs ≤ i → IsAbsent c (map (entry_in ts) (take i cs)) → columns_at ts cs c ≡ Base c
numbered_missing ts cs i c end absent = column_at_absent c (map (entry_in ts) cs) (subst (λ ps. IsAbsent c (map (entry_in ts) ps)) (take_all i cs end) absent)
