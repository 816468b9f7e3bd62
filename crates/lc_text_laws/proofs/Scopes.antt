-- Names that are read beside the code of an object are printed as they are read.
use Rattle.std.proofs.Common.{◌≡◌, ℕ, ◌+◌, inl, inr, Bool, true, false, cond, List, [], ◌∷◌, ◌++◌, append-nil, Option, Some, None, length, refl, sym, ap, ◌∙◌, subst, arith}
use Rattle.std.specs.Prelude.{codes, suc, option_map, slice_index_or}
use Rattle.lc_base.specs.declared.ids.ColId.{ColId}
use Rattle.lc_reading.proofs.Words.{is-true}
use Rattle.lc_reading.specs.Listed.{place_of}
use Rattle.lc_reading.specs.Words.{is}
use Rattle.lc_term.specs.Lists.{IsIn}
use Rattle.lc_term.specs.SystemColumns.{system_columns}
use Rattle.lc_text.specs.Spelled.{binder}
use Rattle.lc_text.specs.declared.scope.ColumnUse.TheVariants.{Usable}
use Rattle.lc_rider_text.specs.Scopes.{place_or, column_place, column_at, variable_names, beside_names}
use Rattle.lc_outline_print.specs.Naming.{with_client, named_by}
use Rattle.lc_text_laws.specs.ReadsBack.{HaveNoBinder}
use Rattle.lc_text_laws.specs.Spellings.{IsSpelledSo, AreUnbound}
use Rattle.lc_text_laws.proofs.Rows.{at_place, behind_place}

-- a name is at its place
pub placed_name : (names : List (List ℕ)) (w : List ℕ) (k : ℕ) → place_of names w ≡ Some k → slice_index_or names k [] ≡ w
placed_name names w k e = ap (λ l. slice_index_or l k []) (sym (append-nil names)) ∙ at_place names [] w k e

-- ---- columns

behind_columns : (columns : List (List ℕ)) (w : List ℕ) (k : ℕ) (o : Option ℕ) → place_of system_columns w ≡ o → option_map (λ k. length columns + k) o ≡ Some k → slice_index_or (columns ++ system_columns) k [] ≡ w
behind_columns columns w k None at e = absurd (cc)
behind_columns columns w k (Some j) at e =
    let same : length columns + j ≡ k = cc in subst (λ k. slice_index_or (columns ++ system_columns) k [] ≡ w) same (behind_place columns system_columns w j at)

either_column : (columns : List (List ℕ)) (w : List ℕ) (k : ℕ) (o : Option ℕ) → place_of columns w ≡ o → place_or (length columns) o (place_of system_columns w) ≡ Some k → slice_index_or (columns ++ system_columns) k [] ≡ w
either_column columns w k None at e = behind_columns columns w k (place_of system_columns w) refl e
either_column columns w k (Some j) at e = let same : j ≡ k = cc in subst (λ k. slice_index_or (columns ++ system_columns) k [] ≡ w) same (at_place columns system_columns w j at)

used_column : (names : List (List ℕ)) (w : List ℕ) (c : ColId) (o : Option ℕ) → ((k : ℕ) → o ≡ Some k → slice_index_or names k [] ≡ w) → column_at o ≡ Usable c → slice_index_or names c.0 [] ≡ w
used_column names w c None h e = absurd (cc)
used_column names w c (Some k) h e = let same : k ≡ c.0 = cc in subst (λ k. slice_index_or names k [] ≡ w) same (h k refl)

module _ (columns names : List (List ℕ)) (are : names ≡ columns ++ system_columns) where
  pub column_stood : (w : List ℕ) (k : ℕ) → column_place columns w ≡ Some k → slice_index_or names k [] ≡ w
  column_stood w k e = ap (λ l. slice_index_or l k []) are ∙ either_column columns w k (place_of columns w) refl e

  pub beside_spelled : (others : Option (List (List ℕ))) → IsSpelledSo (beside_names columns others) (named_by names (variable_names others))
  beside_spelled others = record {
    variables = λ w k e. placed_name (variable_names others) w k e;
    columns = λ w c e. used_column names w c (column_place columns w) (λ k at. column_stood w k at) e;
    unnumbered = refl;
    unbuilt = refl;
  }

-- ---- no variable is named as one of a quantifier is printed

placed_in : (names : List (List ℕ)) (w : List ℕ) (k : ℕ) → place_of names w ≡ Some k → IsIn w names
placed_in [] w k e = absurd (cc)
placed_in (v ∷ vs) w k e = at (λ j is. placed_in vs w j is) (is w v) (place_of vs w) refl refl e
  where
    at : ((j : ℕ) → place_of vs w ≡ Some j → IsIn w vs) → (b : Bool) (o : Option ℕ) → is w v ≡ b → place_of vs w ≡ o → cond b (Some 0) (option_map suc o) ≡ Some k → IsIn w (v ∷ vs)
    at behind true o same is e = inl (is-true w v same)
    at behind false None same is e = absurd (cc)
    at behind false (Some j) same is e = inr (behind j is)

first_code : List ℕ → ℕ
first_code [] = 0
first_code (b ∷ w) = b

apart : (b : ℕ) (v w : List ℕ) → 98 ∷ v ≡ b ∷ w → 98 ≡ b
unfolding first_code
apart b v w e = ap first_code e

not_first : (d b : ℕ) (w : List ℕ) (vs : List (List ℕ)) → (98 ≡ b → ⊥) → HaveNoBinder vs → IsIn (binder d) ((b ∷ w) ∷ vs) → ⊥
not_first d b w vs other unbound (inl e) = other (apart b _ w e)
not_first d b w vs other unbound (inr h) = unbound d h

none_binder : HaveNoBinder []
none_binder d h = h

client_count_first : (vs : List (List ℕ)) → HaveNoBinder vs → HaveNoBinder (codes "N" ∷ vs)
client_count_first vs unbound d h = not_first d 78 [] vs (λ e. omega (arith, e)) unbound h

pub with_client_free : (vs : List (List ℕ)) → HaveNoBinder vs → HaveNoBinder (with_client vs)
with_client_free vs unbound = client_count_first (codes "self" ∷ vs) (λ d h. not_first d 115 (codes "elf") vs (λ e. omega (arith, e)) unbound h)

pub alone_free : HaveNoBinder (codes "N" ∷ [])
alone_free = client_count_first [] none_binder

pub beside_unbound : (columns : List (List ℕ)) (others : Option (List (List ℕ))) → HaveNoBinder (variable_names others) → AreUnbound (beside_names columns others)
beside_unbound columns others unbound w k d e same = unbound d (subst (λ w. IsIn w (variable_names others)) same (placed_in (variable_names others) w k e))
