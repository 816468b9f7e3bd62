-- The entries of a list of columns, and updates, one after another.
use Rattle.std.proofs.Common.{◌≡◌, ℕ, zero, suc, ◌+◌, ◌<◌, true, ◌==◌, List, [], ◌∷◌, ◌++◌, length, take, drop, map, get_or, sym, ap, ap₂, ◌∙◌, subst, arith, add-one}
use Rattle.std.specs.Prelude.{slice_set}
use Rattle.std.proofs.lemmas.List.{drop_more, map-append, set_split, set-set, get_or-set_same}
use Rattle.std.proofs.lemmas.Bool.{eqb-true}
use Rattle.lc_base.specs.declared.ids.ColId.{ColId}
use Rattle.lc_term.specs.Syntax as S
use Rattle.lc_term.specs.Said.{put, puts, said}
use Rattle.lc_term.specs.View.{column_of}
use Rattle.lc_term.specs.declared.term.ColExpr.{ColExpr}
use Rattle.lc_term.specs.UpdateView.{update_of, updates_of}
use Rattle.lc_term.specs.declared.update.Update.{Update}
use Rattle.lc_action.specs.Telling.{column_at, entry_of, columns_in}
use Rattle.lc_action.proofs.Columns.{IsAbsent, put_in_place, put_behind}
pub use Rattle.lc_term.proofs.Entries.{list_split_at, entry_found, absent_step}

-- the entries round one
split_entries : (cs : List (ColId × ColExpr)) (i : ℕ) (p : ColId × ColExpr) → i < length cs → p ≡ get_or cs i p →
    map entry_of cs ≡ map entry_of (take i cs) ++ entry_of p ∷ map entry_of (drop (i + 1) cs)
split_entries cs i p h is =
    ap (map entry_of) (list_split_at cs i p h) ∙ map-append entry_of (take i cs) (get_or cs i p ∷ drop (i + 1) cs)
    ∙ ap (λ x. map entry_of (take i cs) ++ entry_of x ∷ map entry_of (drop (i + 1) cs)) (sym is)

-- one more update
pub puts_more : (σ : ℕ → S.Column) (τ : List S.Term) (us : List Update) (i : ℕ) (u : Update) (stored : ℕ → S.Column) → i < length us → u ≡ get_or us i u →
    puts stored (map (said σ τ) (updates_of (drop i us))) ≡ puts (put stored (said σ τ (update_of u))) (map (said σ τ) (updates_of (drop (i + 1) us)))
puts_more σ τ us i u stored h is =
    ap (λ vs. puts stored (map (said σ τ) (updates_of vs))) (drop_more us i u h ∙ ap (λ x. x ∷ drop (i + 1) us) (sym is))

-- one more store: in place of an entry, or after all of them
pub store_in_place : (cs : List (ColId × ColExpr)) (k : ℕ) (p new : ColId × ColExpr) (c : ℕ) (i v : S.Term) → k < length cs → p ≡ get_or cs k p → (p.0.0 == c) ≡ true →
    IsAbsent c (map entry_of (take k cs)) → entry_of new ≡ (c, S.Store (column_of p.1) i v) →
    columns_in (slice_set cs k new) ≡ put (columns_in cs) (record { column = c; index = i; value = v })
store_in_place cs k p new c i v h is at absent becomes =
    ap (λ xs. columns_in xs) (set_split cs k new h ∙ ap (λ n. take k cs ++ new ∷ drop n cs) (sym (add-one k)))
    ∙ ap column_at (map-append entry_of (take k cs) (new ∷ drop (k + 1) cs) ∙ ap (λ x. map entry_of (take k cs) ++ x ∷ map entry_of (drop (k + 1) cs)) becomes)
    ∙ put_in_place c (map entry_of (take k cs)) (map entry_of (drop (k + 1) cs)) (column_of p.1) i v absent
    ∙ ap (λ (σ : ℕ → S.Column). put σ (record { column = c; index = i; value = v }))
    (ap column_at (ap (λ m. map entry_of (take k cs) ++ (m, column_of p.1) ∷ map entry_of (drop (k + 1) cs)) (sym (eqb-true p.0.0 c at)) ∙ sym (split_entries cs k p h is)))

pub store_behind : (cs : List (ColId × ColExpr)) (new : ColId × ColExpr) (c : ℕ) (i v : S.Term) → IsAbsent c (map entry_of cs) → entry_of new ≡ (c, S.Store (S.Base c) i v) →
    columns_in (cs ++ new ∷ []) ≡ put (columns_in cs) (record { column = c; index = i; value = v })
store_behind cs new c i v absent becomes =
    ap column_at (map-append entry_of cs (new ∷ []) ∙ ap (λ x. map entry_of cs ++ x ∷ []) becomes) ∙ put_behind c (map entry_of cs) i v absent

-- the element at a place, whatever would be taken for it elsewhere
same_item : {A : Type 0} (xs : List A) (k : ℕ) (x y : A) → k < length xs → x ≡ get_or xs k x → y ≡ get_or xs k y → x ≡ y
same_item [] k x y h a b = absurd (omega arith)
same_item (z ∷ xs) zero x y h a b = a ∙ sym b
same_item (z ∷ xs) (suc k) x y h a b = same_item xs k x y (omega arith) a b

-- an entry whose column is taken out, and put back with one more store
pub replaced_entry : (cs : List (ColId × ColExpr)) (k : ℕ) (p m n : ColId × ColExpr) (dest x before : ColExpr) (c : ℕ) (i v : S.Term) → k < length cs →
    p ≡ get_or cs k p → m ≡ get_or cs k m → n ≡ get_or (slice_set cs k (m.0, dest)) k n → (p.0.0 == c) ≡ true → before ≡ m.1 → column_of x ≡ S.Store (column_of before) i v →
    IsAbsent c (map entry_of (take k cs)) →
    columns_in (slice_set (slice_set cs k (m.0, dest)) k (n.0, x)) ≡ put (columns_in cs) (record { column = c; index = i; value = v })
replaced_entry cs k p m n dest x before c i v h isp ism isn test was becomes absent =
    let there : (m.0.0 == c) ≡ true = subst (λ (q : ColId × ColExpr). (q.0.0 == c) ≡ true) (same_item cs k p m h isp ism) test in
    let column : n.0.0 ≡ c = ap (λ (q : ColId × ColExpr). q.0.0) (isn ∙ get_or-set_same cs k (m.0, dest) n h) ∙ eqb-true m.0.0 c there in
    let value : column_of x ≡ S.Store (column_of m.1) i v = becomes ∙ ap (λ y. S.Store (column_of y) i v) was in
    ap (λ xs. columns_in xs) (set-set cs k (m.0, dest) (n.0, x))
    ∙ store_in_place cs k m (n.0, x) c i v h ism there absent (ap₂ (λ a b. (a, b)) column value)
