-- Columns by number: the place of a column, and what is stored there.
use Rattle.std.proofs.Common.{◌≡◌, ◌==◌, ◌<◌, ◌≤◌, ◌+◌, ℕ, zero, suc, true, false, List, [], ◌∷◌, ◌++◌, Some, length, map, take, drop, get_or, slice_get, refl, sym, ap, ap₂, ◌∙◌, subst, arith, add-one}
use Rattle.std.specs.Prelude.{slice_set, option_map}
use Rattle.std.proofs.lemmas.List.{set_split, map-set, map-append, take_all}
use Rattle.std.proofs.lemmas.Option.{slice_get-map, slice_get-get_or, slice_get_within}
use Rattle.std.proofs.lemmas.Bool.{eqb-true}
use Rattle.lc_base.specs.declared.ids.ColId.{ColId}
use Rattle.lc_table.specs.NodeTables.{Table}
use Rattle.lc_term.specs.Entries.{column_at}
use Rattle.lc_put.specs.PutNumbers.{entry_in, columns_at, AreColumns}
use Rattle.lc_term.specs.Said.{put}
use Rattle.lc_term.specs.Syntax as S
use Rattle.lc_table.specs.Nodes.{column, is_column}
use Rattle.lc_table.specs.Tables.{term_in, column_in, IsTerm, IsColumn, HasColumn, Keeps}
use Rattle.lc_table.specs.declared.node.ColExprId.{ColExprId}
use Rattle.lc_table.specs.declared.node.TermId.{TermId}
use Rattle.lc_put.proofs.ByNumber.{are_columns_later}
use Rattle.lc_term.proofs.Entries.{IsAbsent}
use Rattle.lc_table.proofs.Later.{column_is, term_still, column_still}
use Rattle.lc_action.proofs.Columns.{put_in_place, put_behind}
use Rattle.lc_rider.specs.Stored.{HasNone, IsFirst}

abbrev Entry : Type 0
Entry = ColId × ColExprId

number_of : Entry → ℕ
number_of p = p.0.0

-- ---- the place of a column

-- its first entry
pub first_here : (ps : List Entry) (k c : ℕ) (d : Entry) → k < length ps → ((get_or ps k d).0.0 == c) ≡ true → HasNone c (take k ps) → IsFirst c ps k
first_here ps k c d h at none = record {
  there = slice_get-map (λ (q : Entry). q.0.0) ps k ∙ ap (option_map (λ (q : Entry). q.0.0)) (slice_get-get_or ps k d h) ∙ ap Some (eqb-true (get_or ps k d).0.0 c at);
  before = none;
}

-- one more entry of another
pub none_more : (ps : List Entry) (k c : ℕ) (d : Entry) → k < length ps → ((get_or ps k d).0.0 == c) ≡ false → HasNone c (take k ps) → HasNone c (take (k + 1) ps)
none_more ps k c d h other none = subst (λ n. HasNone c (take n ps)) (sym (add-one k)) (by ps k h other none)
  where
    by : (ps : List Entry) (k : ℕ) → k < length ps → ((get_or ps k d).0.0 == c) ≡ false → HasNone c (take k ps) → HasNone c (take (suc k) ps)
    by [] k h other none = absurd (omega arith)
    by (x ∷ ps) zero h other none = (other, tt)
    by (x ∷ ps) (suc k) h other none = (none.0, by ps k (omega arith) other none.1)

pub none_all : (ps : List Entry) (k : ℕ) (c : ℕ) → length ps ≤ k → HasNone c (take k ps) → HasNone c ps
none_all ps k c h none = subst (HasNone c) (take_all k ps h) none

pub first_within : (ps : List Entry) (k c : ℕ) → IsFirst c ps k → k < length ps
first_within ps k c f = within ps k f.there
  where
    within : (ps : List Entry) (k : ℕ) → slice_get (map (λ (q : Entry). q.0.0) ps) k ≡ Some c → k < length ps
    within [] k e = absurd (cc (e))
    within (x ∷ ps) zero e = omega arith
    within (x ∷ ps) (suc k) e = (let h : k < length ps = within ps k e in omega (arith, h))

-- ---- what is stored in its place

entries_still : (old new : Table) (ps : List Entry) → AreColumns old ps → Keeps old new → map (entry_in new) ps ≡ map (entry_in old) ps
entries_still old new [] h kept = refl
entries_still old new (p ∷ ps) h kept = ap₂ (λ c es. (p.0.0, c) ∷ es) (column_still old new p.1 h.0 kept) (entries_still old new ps h.1 kept)

absent_before : (ts : Table) (ps : List Entry) (k c : ℕ) → HasNone c (take k ps) → IsAbsent c (take k (map (entry_in ts) ps))
absent_before ts ps zero c h = tt
absent_before ts [] (suc k) c h = tt
absent_before ts (p ∷ ps) (suc k) c h = (h.0, absent_before ts ps k c h.1)

absent_of : (ts : Table) (ps : List Entry) (c : ℕ) → HasNone c ps → IsAbsent c (map (entry_in ts) ps)
absent_of ts [] c h = tt
absent_of ts (p ∷ ps) c h = (h.0, absent_of ts ps c h.1)

parted : {A : Type 0} (xs : List A) (k : ℕ) (x : A) → slice_get xs k ≡ Some x → xs ≡ take k xs ++ x ∷ drop (suc k) xs
parted [] k x e = absurd (cc (e))
parted (y ∷ xs) zero x e = ap (λ z. z ∷ xs) (grind (arith, e))
parted (y ∷ xs) (suc k) x e = ap (λ zs. y ∷ zs) (parted xs k x e)

put_there : (qs : List (ℕ × S.Column)) (k c : ℕ) (x : S.Column) (i v : S.Term) → slice_get qs k ≡ Some (c, x) → IsAbsent c (take k qs) →
    column_at (slice_set qs k (c, S.Store x i v)) ≡ put (column_at qs) (record { column = c; index = i; value = v })
put_there qs k c x i v e absent =
    ap column_at (set_split qs k (c, S.Store x i v) (slice_get_within qs k (c, x) e))
    ∙ put_in_place c (take k qs) (drop (suc k) qs) x i v absent
    ∙ ap (λ (σ : ℕ → S.Column). put σ (record { column = c; index = i; value = v })) (ap column_at (sym (parted qs k (c, x) e)))

pub stored_there : (old new : Table) (ps : List Entry) (k : ℕ) (p : Entry) (c : ColId) (id : ColExprId) (i v : S.Term) → IsFirst c.0 ps k → p ≡ get_or ps k p → AreColumns old ps → Keeps old new →
    HasColumn new id (S.Store (column_in old p.1) i v) → columns_at new (slice_set ps k (c, id)) ≡ put (columns_at old ps) (record { column = c.0; index = i; value = v })
stored_there old new ps k p c id i v f is are kept has =
    let within = first_within ps k c.0 f in
    let at : slice_get ps k ≡ Some p = slice_get-get_or ps k p within ∙ ap Some (sym is) in
    let column : Some p.0.0 ≡ Some c.0 = sym (slice_get-map (λ (q : Entry). q.0.0) ps k ∙ ap (option_map (λ (q : Entry). q.0.0)) at) ∙ f.there in
    let number : p.0.0 ≡ c.0 = grind (arith, column) in
    let seen : slice_get (map (entry_in old) ps) k ≡ Some (c.0, column_in old p.1) =
    slice_get-map (entry_in old) ps k ∙ ap (option_map (entry_in old)) at ∙ ap (λ (n : ℕ). Some (n, column_in old p.1)) number in
    ap column_at (map-set (entry_in new) ps k (c, id))
    ∙ ap₂ (λ (qs : List (ℕ × S.Column)) (y : S.Column). column_at (slice_set qs k (c.0, y))) (entries_still old new ps are kept) (column_is new id (S.Store (column_in old p.1) i v) has)
    ∙ put_there (map (entry_in old) ps) k c.0 (column_in old p.1) i v seen (absent_before old ps k c.0 f.before)

pub are_stored_there : (old new : Table) (ps : List Entry) (k : ℕ) (c : ColId) (id : ColExprId) (x : S.Column) → AreColumns old ps → Keeps old new → HasColumn new id x → AreColumns new (slice_set ps k (c, id))
are_stored_there old new ps k c id x are kept has = by ps k (are_columns_later old new ps are kept)
  where
    by : (ps : List Entry) (k : ℕ) → AreColumns new ps → AreColumns new (slice_set ps k (c, id))
    by [] k h = tt
    by (p ∷ ps) zero h = (ap is_column has, h.1)
    by (p ∷ ps) (suc k) h = (h.0, by ps k h.1)

pub column_there : (ts : Table) (ps : List Entry) (k : ℕ) (p : Entry) → k < length ps → p ≡ get_or ps k p → AreColumns ts ps → IsColumn ts p.1
column_there ts [] k p h is are = absurd (omega arith)
column_there ts (x ∷ ps) zero p h is are = subst (λ (q : Entry). IsColumn ts q.1) (sym is) are.0
column_there ts (x ∷ ps) (suc k) p h is are = column_there ts ps k p (omega arith) is are.1

-- ---- what is stored in a column that comes after the others

pub stored_behind : (old new : Table) (ps qs : List Entry) (c : ColId) (id : ColExprId) (i v : S.Term) → qs ≡ ps ++ (c, id) ∷ [] → HasNone c.0 ps → AreColumns old ps → Keeps old new →
    HasColumn new id (S.Store (S.Base c.0) i v) → columns_at new qs ≡ put (columns_at old ps) (record { column = c.0; index = i; value = v })
stored_behind old new ps qs c id i v e none are kept has =
    ap (columns_at new) e
    ∙ ap column_at (map-append (entry_in new) ps ((c, id) ∷ []))
    ∙ ap₂ (λ (es : List (ℕ × S.Column)) (y : S.Column). column_at (es ++ (c.0, y) ∷ [])) (entries_still old new ps are kept) (column_is new id (S.Store (S.Base c.0) i v) has)
    ∙ put_behind c.0 (map (entry_in old) ps) i v (absent_of old ps c.0 none)

pub are_stored_behind : (old new : Table) (ps qs : List Entry) (c : ColId) (id : ColExprId) (x : S.Column) → qs ≡ ps ++ (c, id) ∷ [] → AreColumns old ps → Keeps old new → HasColumn new id x → AreColumns new qs
are_stored_behind old new ps qs c id x e are kept has = subst (AreColumns new) (sym e) (by ps (are_columns_later old new ps are kept))
  where
    by : (ps : List Entry) → AreColumns new ps → AreColumns new (ps ++ (c, id) ∷ [])
    by [] h = (ap is_column has, tt)
    by (p ∷ ps) h = (h.0, by ps h.1)

-- the column itself, with a value stored in it
pub base_stored : (old mid new : Table) (base id : ColExprId) (index value : TermId) (c : ColId) → IsTerm old index → IsTerm old value → Keeps old mid → HasColumn mid base (S.Base c.0) →
    HasColumn new id (S.Store (column_in mid base) (term_in mid index) (term_in mid value)) → HasColumn new id (S.Store (S.Base c.0) (term_in old index) (term_in old value))
base_stored old mid new base id index value c i v kept at has =
    has ∙ ap (λ (x : S.Column). Some (column x)) (λ j. S.Store (column_is mid base (S.Base c.0) at j) (term_still old mid index i kept j) (term_still old mid value v kept j))
