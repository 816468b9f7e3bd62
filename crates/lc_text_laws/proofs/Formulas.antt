-- What is printed of a formula has the shape of what was read, and reads as the same formula.
use Rattle.std.proofs.Common.{◌≡◌, ℕ, ◌+◌, ◌≤◌, Bool, true, false, cond, List, [], ◌∷◌, ◌++◌, Option, Some, None, map, refl, ap, ap₂, ◌∙◌, length, not, arith}
use Rattle.std.proofs.lemmas.Bool.{and_parts, cond-true, cond-false}
use Rattle.std.proofs.lemmas.Bool.Decides.{nat_tests}
use Rattle.std.specs.Prelude.{option_map, nat_le, ◌==◌, ◌&&◌, ◌||◌, zero, suc, pos}
use Rattle.std.specs.Option.{option_or}
use Rattle.std.specs.List.{list_all}
use Rattle.lc_base.specs.NameText.{is_name, begins_name, continues_name}
use Rattle.lc_base.specs.declared.ids.ColId.{ColId}
use Rattle.lc_sexp.specs.Numerals.{are_digits, natural_of, integer_of, negative_of, is_empty, value_of_digits}
use Rattle.lc_sexp.specs.Parts.{integer_within}
use Rattle.lc_sexp.specs.Trees.{Tree, Trees, none, ◌▸◌, item_count, item_count_of_all, row}
use Rattle.lc_reading.proofs.Fine.{IfFine, if_fine_weaker, both_fine}
use Rattle.lc_reading.proofs.Words.{is-true}
use Rattle.lc_reading.specs.Readings.{Reading, fine, flawed, both}
use Rattle.lc_reading.specs.Rows.{each_reading}
use Rattle.lc_reading.specs.Words.{is, is_long}
use Rattle.lc_term.specs.Syntax as S
use Rattle.lc_term.specs.Syntax.{Formula}
use Rattle.lc_text.proofs.Kept.{IsUsed, AreSpelled, formula_kept}
use Rattle.lc_text.proofs.ReadBack.{formula_back}
use Rattle.lc_text.specs.Formulas.{formula_reading}
use Rattle.lc_text.specs.Names.{Names}
use Rattle.lc_text.specs.Spelled.{binder}
use Rattle.lc_text.specs.SpelledTree.{formula_tree, binders, FormulaReadsBack}
use Rattle.lc_text.specs.Spelling.{Spelled}
use Rattle.lc_text.specs.Terms.{atom_reading, base_reading, used, number_or, word_reading, bound_index, bound_or_free}
use Rattle.lc_text.specs.declared.scope.ColumnUse.TheVariants.{Usable}
use Rattle.lc_text_laws.specs.Spellings.{IsSpelledSo, AreUnbound}
use Rattle.lc_text_laws.proofs.Alike.{Alike, AllAlike, Readable, same_count}
use Rattle.lc_text_laws.proofs.Terms.{formula_shape}

-- ---- names are no numbers

begins_later : (b : ℕ) → begins_name b ≡ true → (nat_le 48 b && nat_le b 57) ≡ false
unfolding begins_name
begins_later b h = grind (arith, nat_tests)

no_minus : (b : ℕ) → begins_name b ≡ true → (b == 45) ≡ false
unfolding begins_name
no_minus b h = grind (arith, nat_tests)

no_digits : (b : ℕ) (w : List ℕ) → begins_name b ≡ true → natural_of (b ∷ w) ≡ None
no_digits b w h = ap (λ d. cond ((d && are_digits w) && (is_empty w || not (b == 48))) (Some (value_of_digits (b ∷ w))) None) (begins_later b h)

no_number : (w : List ℕ) → is_name w ≡ true → integer_of w ≡ None
no_number [] h = absurd (cc)
no_number (b ∷ w) h =
    let p = and_parts (begins_name b) (list_all continues_name w) h in
    cond-false (b == 45) (negative_of (natural_of w)) (option_map pos (natural_of (b ∷ w))) (no_minus b p.0) ∙ ap (option_map pos) (no_digits b w p.0)

-- ---- names that no quantifier binds

unbound_at : (w b : List ℕ) (n : ℕ) (same : Bool) (o : Option ℕ) → is w b ≡ same → o ≡ None → (w ≡ b → ⊥) → option_or o (cond same (Some n) None) ≡ None
unbound_at w b n true o e found other = absurd (other (is-true w b e))
unbound_at w b n false o e found other = ap (λ o. option_or o None) found

-- if neither finds a name, both together find none
neither_inner : (o : Option ℕ) (same : Bool) (n : ℕ) → option_or o (cond same (Some n) None) ≡ None → o ≡ None
neither_inner None same n e = refl
neither_inner (Some k) same n e = absurd (cc)

neither_outer : (o : Option ℕ) (same : Bool) (n : ℕ) → option_or o (cond same (Some n) None) ≡ None → same ≡ false
neither_outer None true n e = absurd (cc)
neither_outer None false n e = refl
neither_outer (Some k) same n e = absurd (cc)

in_front : (bound : List (List ℕ)) (b w : List ℕ) → bound_index bound w ≡ None → (w ≡ b → ⊥) → bound_index (bound ++ (b ∷ [])) w ≡ None
in_front [] b w e other = unbound_at w b 0 (is w b) None refl refl other
in_front (x ∷ bound) b w e other =
    let inner = neither_inner (bound_index bound w) (is w x) (length bound) e in
    let outer = neither_outer (bound_index bound w) (is w x) (length bound) e in
    ap₂ (λ o same. option_or o (cond same (Some (length (bound ++ (b ∷ [])))) None)) (in_front bound b w inner other) outer

unbound : (d : ℕ) (w : List ℕ) → ((k : ℕ) → w ≡ binder k → ⊥) → bound_index (binders d) w ≡ None
unbound zero w other = refl
unbound (suc d) w other = in_front (binders d) (binder d) w (unbound d w other) (other d)

module _ (names : Names) (by : Spelled) (spelled : IsSpelledSo names by) (free : AreUnbound names) where
  variable_back : (w : List ℕ) (k d n : ℕ) → IsUsed w → names.variable w ≡ Some k → atom_reading names (binders d) n (by.variable k) ≡ fine (S.Variable k)
  variable_back w k d n u e =
      ap (atom_reading names (binders d) n) (spelled.variables w k e)
      ∙ ap (λ o. number_or n (integer_within o) (word_reading names (binders d) n w)) (no_number w u.name)
      ∙ cond-true (is_name w) _ _ u.name
      ∙ ap₂ (bound_or_free n w) (unbound d w (λ j same. free w k j e same)) e
      ∙ cond-false (is_long w) _ _ u.short

  column_back : (w : List ℕ) (c : ColId) (reader n : ℕ) → IsUsed w → names.column w ≡ Usable c → base_reading names reader n (by.column c.0) ≡ fine (S.Base c.0)
  column_back w c reader n u e =
      ap (base_reading names reader n) (spelled.columns w c e) ∙ ap (λ u. used u reader n w) e ∙ cond-true (is_name w) _ _ u.name ∙ cond-false (is_long w) _ _ u.short

  spelled_back : AreSpelled names by
  spelled_back = record {
    variables = variable_back;
    numbered = λ k d n here small. absurd (let no = spelled.unnumbered in cc);
    columns = column_back;
  }

  -- of the same shape, and the same formula
  abbrev pub IsAgain : ℕ → Tree → Formula → Type 0
  IsAgain n t f = Alike Readable (formula_tree by 0 f) t × (formula_reading names [] n (formula_tree by 0 f) ≡ fine f)

  both_of : {X : Type 0} (P Q : X → Type 0) (r : Reading X) → IfFine r P → IfFine r Q → IfFine r (λ x. P x × Q x)
  both_of P Q (fine x) p q = (p, q)
  both_of P Q (flawed f) p q = tt

  pub formula_again : (n : ℕ) (t : Tree) → item_count t ≤ 4294967296 → IfFine (formula_reading names [] n t) (IsAgain n t)
  formula_again n t small =
      both_of (λ f. Alike Readable (formula_tree by 0 f) t) (λ f. formula_reading names [] n (formula_tree by 0 f) ≡ fine f) (formula_reading names [] n t) (formula_shape names by spelled n t)
      (if_fine_weaker (FormulaReadsBack names by 0) (λ f. formula_reading names [] n (formula_tree by 0 f) ≡ fine f) (formula_reading names [] n t) (λ f h. formula_back names by 0 n f (omega arith) h)
      (formula_kept names by spelled_back [] 0 n t refl (omega (arith, small))))

-- ---- rows of what reads again

module _ {X : Type 0} (tree : X → Tree) (read : ℕ → Tree → Reading X) where
  -- trees of the same shapes, that read as the same
  pub record RowAgain (m : ℕ) (ts : Trees) (xs : List X) : Type 0 where
    pub alike : AllAlike Readable (row (map tree xs)) ts
    pub reads : each_reading read m (row (map tree xs)) ≡ fine xs

  row_again : (m : ℕ) (t : Tree) (ts : Trees) (x : X) (xs : List X) → Alike Readable (tree x) t → read m (tree x) ≡ fine x → RowAgain (m + item_count t) ts xs → RowAgain m (t ▸ ts) (x ∷ xs)
  row_again m t ts x xs alike again others = record {
    alike = (alike, others.alike);
    reads = ap₂ (both (λ x xs. x ∷ xs)) again (ap (λ k. each_reading read (m + k) (row (map tree xs))) (same_count (tree x) t alike) ∙ others.reads);
  }

  pub each_again : ((n : ℕ) (t : Tree) → item_count t ≤ 4294967296 → IfFine (read n t) (λ x. Alike Readable (tree x) t × (read n (tree x) ≡ fine x)))
      → (m : ℕ) (ts : Trees) → item_count_of_all ts ≤ 4294967296 → IfFine (each_reading read m ts) (RowAgain m ts)
  each_again h m none small = record { alike = tt; reads = refl }
  each_again h m (t ▸ ts) small =
      both_fine (λ x. Alike Readable (tree x) t × (read m (tree x) ≡ fine x)) (RowAgain (m + item_count t) ts) (RowAgain m (t ▸ ts)) (λ x xs. x ∷ xs) (read m t) (each_reading read (m + item_count t) ts)
      (h m t (omega arith)) (each_again h (m + item_count t) ts (omega arith)) (λ x xs a b. row_again m t ts x xs a.0 a.1 b)
