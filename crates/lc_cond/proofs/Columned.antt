-- The conditions of columns, one after another, and what columns hold, by number.
use Rattle.std.proofs.Common.{◌≡◌, ℕ, zero, suc, ◌+◌, ◌<◌, ◌&&◌, ◌==◌, List, [], ◌∷◌, ◌++◌, length, take, get_or, if◌then◌else◌, refl, sym, subst, ap, ap₂, ◌∙◌, arith, append_assoc, append-nil, add-zero, add-one, true, false}
use Rattle.std.proofs.lemmas.List.{take_more}
use Rattle.lc_lemmas.proofs.Numbers.{equal_to_itself}
use Rattle.lc_base.specs.declared.ids.ColId.{ColId}
use Rattle.lc_term.specs.Lists.{Every}
use Rattle.lc_table.specs.NodeTables.{Table}
use Rattle.lc_put.specs.PutNumbers.{columns_at}
use Rattle.lc_term.specs.Syntax.{Column, Formula, Base}
use Rattle.lc_table.specs.Tables.{Keeps, column_in}
use Rattle.lc_table.specs.declared.node.ColExprId.{ColExprId}
use Rattle.lc_term.proofs.Stores.{Every-append}
use Rattle.lc_cond.specs.Adding.{HasColumns, Adds}
use Rattle.lc_cond.specs.Heads.{condition_made}
use Rattle.lc_cond.specs.declared.condition.Condition as M
use Rattle.lc_cond.specs.declared.making.Head.{Head}
use Rattle.lc_cond.proofs.Adding.{adds_on, adds_nothing}
use Rattle.lc_cond.specs.Conditions.{Condition, OfColumn, is_base, same_column, column_conditions}

abbrev pub column_part : (ℕ → Formula → Condition) → (ℕ → Column) → (ℕ → Column) → ℕ → List Condition
column_part made σ π c = if is_base c (σ c) && is_base c (π c) then [] else made c (same_column (σ c) (π c)) ∷ []

columns_snoc : (made : ℕ → Formula → Condition) (σ π : ℕ → Column) (c n : ℕ) → column_conditions made c (suc n) σ π ≡ column_conditions made c n σ π ++ column_part made σ π (c + n)
columns_snoc made σ π c zero = append-nil (column_part made σ π c) ∙ ap (column_part made σ π) (sym (add-zero c))
columns_snoc made σ π c (suc n) =
    let e : suc c + n ≡ c + suc n = omega arith in
    ap (λ l. column_part made σ π c ++ l) (columns_snoc made σ π (suc c) n) ∙ sym (append_assoc (column_part made σ π c) (column_conditions made (suc c) n σ π) (column_part made σ π (suc c + n)))
    ∙ ap (λ k. (column_part made σ π c ++ column_conditions made (suc c) n σ π) ++ column_part made σ π k) e

-- one more column
pub columns_more : (made : ℕ → Formula → Condition) (σ π : ℕ → Column) (n : ℕ) → column_conditions made 0 (n + 1) σ π ≡ column_conditions made 0 n σ π ++ column_part made σ π n
columns_more made σ π n =
    let e : 0 + n ≡ n = omega arith in
    ap (λ k. column_conditions made 0 k σ π) (add-one n) ∙ columns_snoc made σ π 0 n ∙ ap (λ k. column_conditions made 0 n σ π ++ column_part made σ π k) e

-- ---- columns by number

-- no entry is of this column
abbrev pub HasNone : ℕ → List (ColId × ColExprId) → Type 0
HasNone c ps = Every (λ (p : ColId × ColExprId). (p.0.0 == c) ≡ false) ps

-- one more entry that is not
pub none_more : (ps : List (ColId × ColExprId)) (i c : ℕ) (d : ColId × ColExprId) → i < length ps → ((get_or ps i d).0.0 == c) ≡ false → HasNone c (take i ps) → HasNone c (take (i + 1) ps)
none_more ps i c d below other so_far =
    subst (HasNone c) (sym (take_more ps i d below)) (Every-append (λ (p : ColId × ColExprId). (p.0.0 == c) ≡ false) (take i ps) (get_or ps i d ∷ []) so_far (other, tt))

-- so it holds the column itself
pub none_stored : (ts : Table) (ps : List (ColId × ColExprId)) (c : ℕ) → HasNone c ps → columns_at ts ps c ≡ Base c
none_stored ts [] c h = refl
none_stored ts (p ∷ ps) c h = ap (λ b. if b then column_in ts p.1 else columns_at ts ps c) h.0 ∙ none_stored ts ps c h.1

-- a column in which nothing is stored has no condition
pub column_absent : (h : Head) (c : ℕ) (hs : List Formula) (ts : Table) (ps qs : List (ColId × ColExprId)) (σ π : ℕ → Column) → HasColumns ts ps σ → HasColumns ts qs π → columns_at ts ps c ≡ Base c → columns_at ts qs c ≡ Base c →
    (before : List M.Condition) → Adds before ts before (if is_base c (σ c) && is_base c (π c) then [] else condition_made h (OfColumn c) hs (same_column (σ c) (π c)) ∷ [])
column_absent h c hs ts ps qs σ π columns action left right before =
    let l : σ c ≡ Base c = ap (λ (ρ : ℕ → Column). ρ c) (sym columns.columns) ∙ left in
    let r : π c ≡ Base c = ap (λ (ρ : ℕ → Column). ρ c) (sym action.columns) ∙ right in
    let unwritten : (is_base c (σ c) && is_base c (π c)) ≡ true = ap₂ (λ x y. is_base c x && is_base c y) l r ∙ ap (λ b. b && b) (equal_to_itself c) in
    subst (λ b. Adds before ts before (if b then [] else condition_made h (OfColumn c) hs (same_column (σ c) (π c)) ∷ [])) (sym unwritten) (adds_nothing before ts)

-- the condition for what it holds
pub column_sides : (h : Head) (c : ℕ) (hs : List Formula) (before now : List M.Condition) (ts : Table) (x y : Column) (σ π : ℕ → Column) → x ≡ σ c → y ≡ π c →
    Adds before ts now (if is_base c x && is_base c y then [] else condition_made h (OfColumn c) hs (same_column x y) ∷ []) →
    Adds before ts now (if is_base c (σ c) && is_base c (π c) then [] else condition_made h (OfColumn c) hs (same_column (σ c) (π c)) ∷ [])
column_sides h c hs before now ts x y σ π left right adds =
    subst (Adds before ts now) (ap₂ (λ u v. if is_base c u && is_base c v then [] else condition_made h (OfColumn c) hs (same_column u v) ∷ []) left right) adds

pub columns_step : (made : ℕ → Formula → Condition) (σ π : ℕ → Column) (n k : ℕ) (x y : Column) (a b c : List M.Condition) (old new : Table) → k ≡ n → x ≡ σ k → y ≡ π k →
    Adds a old b (column_conditions made 0 n σ π) → Keeps old new → Adds b new c (if is_base k x && is_base k y then [] else made k (same_column x y) ∷ []) →
    Adds a new c (column_conditions made 0 (n + 1) σ π)
columns_step made σ π n k x y a b c old new place left right so_far kept one =
    let says : (if is_base k x && is_base k y then [] else made k (same_column x y) ∷ []) ≡ column_part made σ π n =
    ap₂ (λ u v. if is_base k u && is_base k v then [] else made k (same_column u v) ∷ []) left right ∙ ap (column_part made σ π) place in
    subst (Adds a new c) (sym (columns_more made σ π n)) (adds_on a b c old new _ _ so_far kept (subst (Adds b new c) says one))
