-- The first entry of a column in a list.
use Rattle.std.proofs.Common.{◌≡◌, ℕ, ◌+◌, ◌<◌, true, false, ◌==◌, if◌then◌else◌, List, [], ◌∷◌, ◌++◌, length, take, drop, map, get_or, refl, sym, ap, ◌∙◌, subst, inl, inr}
use Rattle.std.proofs.lemmas.Bool.Decides.{eqb_tells}
use Rattle.std.proofs.lemmas.List.{drop_more, map_more, map-append, take-append-drop}
use Rattle.std.proofs.lemmas.Bool.{eqb-true}
use Rattle.lc_base.specs.declared.ids.ColId.{ColId}
use Rattle.lc_term.specs.Syntax.{Column, Base}
use Rattle.lc_term.specs.Lists.{Every}
use Rattle.lc_term.specs.View.{column_of}
use Rattle.lc_term.specs.declared.term.ColExpr.{ColExpr}
use Rattle.lc_term.specs.Entries.{column_at, entry_of, columns_in}

-- no entry is of this column
abbrev pub IsAbsent : ℕ → List (ℕ × Column) → Type 0
IsAbsent c ps = Every (λ (p : ℕ × Column). (p.0 == c) ≡ false) ps

-- an entry of a column, after others that are not
pub column_at_entry : (c : ℕ) (ps qs : List (ℕ × Column)) (x : Column) → IsAbsent c ps → column_at (ps ++ (c, x) ∷ qs) c ≡ x
column_at_entry c [] qs x h = elim (eqb_tells c c) [ inl t ↦ ap (λ b. if b then x else column_at qs c) t.0 | inr f ↦ absurd (f.1 refl) ]
column_at_entry c (p ∷ ps) qs x h = ap (λ b. if b then p.1 else column_at (ps ++ (c, x) ∷ qs) c) h.0 ∙ column_at_entry c ps qs x h.1

pub column_at_absent : (c : ℕ) (ps : List (ℕ × Column)) → IsAbsent c ps → column_at ps c ≡ Base c
column_at_absent c [] h = refl
column_at_absent c (p ∷ ps) h = ap (λ b. if b then p.1 else column_at ps c) h.0 ∙ column_at_absent c ps h.1

pub absent-more : (c : ℕ) (ps : List (ℕ × Column)) (p : ℕ × Column) → IsAbsent c ps → (p.0 == c) ≡ false → IsAbsent c (ps ++ p ∷ [])
absent-more c [] p h n = (n, tt)
absent-more c (q ∷ ps) p h n = (h.0, absent-more c ps p h.1 n)

-- the front, the element at a place, and the rest
pub list_split_at : {A : Type 0} (xs : List A) (i : ℕ) (d : A) → i < length xs → xs ≡ take i xs ++ get_or xs i d ∷ drop (i + 1) xs
list_split_at xs i d h = sym (take-append-drop i xs) ∙ ap (λ ys. take i xs ++ ys) (drop_more xs i d h)

-- lists of whatever has an entry
module _ {A : Type 0} (entry : A → ℕ × Column) where
  split_mapped : (cs : List A) (i : ℕ) (p : A) → i < length cs → p ≡ get_or cs i p → map entry cs ≡ map entry (take i cs) ++ entry p ∷ map entry (drop (i + 1) cs)
  split_mapped cs i p h is =
      ap (map entry) (list_split_at cs i p h) ∙ map-append entry (take i cs) (get_or cs i p ∷ drop (i + 1) cs)
      ∙ ap (λ x. map entry (take i cs) ++ entry x ∷ map entry (drop (i + 1) cs)) (sym is)

  pub mapped_found : (cs : List A) (i : ℕ) (p : A) (c : ℕ) → i < length cs → p ≡ get_or cs i p → ((entry p).0 == c) ≡ true →
      IsAbsent c (map entry (take i cs)) → column_at (map entry cs) c ≡ (entry p).1
  mapped_found cs i p c h is at absent =
      ap (λ ps. column_at ps c) (split_mapped cs i p h is)
      ∙ ap (λ k. column_at (map entry (take i cs) ++ (k, (entry p).1) ∷ map entry (drop (i + 1) cs)) c) (eqb-true (entry p).0 c at)
      ∙ column_at_entry c (map entry (take i cs)) (map entry (drop (i + 1) cs)) (entry p).1 absent

  pub mapped_absent : (cs : List A) (i : ℕ) (p : A) (c : ℕ) → i < length cs → p ≡ get_or cs i p → ((entry p).0 == c) ≡ false →
      IsAbsent c (map entry (take i cs)) → IsAbsent c (map entry (take (i + 1) cs))
  mapped_absent cs i p c h is other absent =
      subst (IsAbsent c) (sym (map_more entry cs i p h ∙ ap (λ x. map entry (take i cs) ++ entry x ∷ []) (sym is)))
      (absent-more c (map entry (take i cs)) (entry p) absent other)

pub split_entries : (cs : List (ColId × ColExpr)) (i : ℕ) (p : ColId × ColExpr) → i < length cs → p ≡ get_or cs i p →
    map entry_of cs ≡ map entry_of (take i cs) ++ entry_of p ∷ map entry_of (drop (i + 1) cs)
split_entries cs i p h is = split_mapped entry_of cs i p h is

pub entry_found : (cs : List (ColId × ColExpr)) (i : ℕ) (p : ColId × ColExpr) (c : ℕ) → i < length cs → p ≡ get_or cs i p → (p.0.0 == c) ≡ true →
    IsAbsent c (map entry_of (take i cs)) → columns_in cs c ≡ column_of p.1
entry_found cs i p c h is at absent = mapped_found entry_of cs i p c h is at absent

pub absent_step : (cs : List (ColId × ColExpr)) (i : ℕ) (p : ColId × ColExpr) (c : ℕ) → i < length cs → p ≡ get_or cs i p → (p.0.0 == c) ≡ false →
    IsAbsent c (map entry_of (take i cs)) → IsAbsent c (map entry_of (take (i + 1) cs))
absent_step cs i p c h is other absent = mapped_absent entry_of cs i p c h is other absent
