-- The names of a certificate are spelled as they are read.
use Rattle.std.proofs.Common.{◌≡◌, ℕ, suc, Bool, true, false, cond, List, [], ◌∷◌, Option, Some, None, refl, sym, ap, ◌∙◌, subst}
use Rattle.std.proofs.lemmas.Bool.{cond-true, cond-false}
use Rattle.std.specs.Prelude.{option_map, slice_index_or}
use Rattle.lc_base.specs.NameText.{is_name}
use Rattle.lc_base.specs.declared.ids.ColId.{ColId}
use Rattle.lc_reading.proofs.Words.{is-true}
use Rattle.lc_reading.specs.Listed.{place_of}
use Rattle.lc_reading.specs.Readings.{fine}
use Rattle.lc_reading.specs.Words.{is, is_long}
use Rattle.lc_term.specs.Syntax.{Base}
use Rattle.lc_text.proofs.Kept.{IsUsed, AreSpelled}
use Rattle.lc_text.proofs.ReadBack.{numbered_back}
use Rattle.lc_text.specs.Names.{column_at}
use Rattle.lc_text.specs.SpelledTree.{binders}
use Rattle.lc_text.specs.Terms.{base_reading, used}
use Rattle.lc_text.specs.declared.scope.ColumnUse.TheVariants.{Usable}
use Rattle.lc_cert.specs.ColumnNames.{names_with, spelled_with}

-- a name is at its first place
first_name : (v w : List ℕ) (vs : List (List ℕ)) (k : ℕ) (b : Bool) (o : Option ℕ) → is w v ≡ b → ((j : ℕ) → o ≡ Some j → slice_index_or vs j [] ≡ w)
    → cond b (Some 0) (option_map suc o) ≡ Some k → slice_index_or (v ∷ vs) k [] ≡ w
first_name v w vs k true o same later e = let here : 0 ≡ k = cc in subst (λ i. slice_index_or (v ∷ vs) i [] ≡ w) here (sym (is-true w v same))
first_name v w vs k false None same later e = absurd (cc)
first_name v w vs k false (Some j) same later e = let behind : suc j ≡ k = cc in subst (λ i. slice_index_or (v ∷ vs) i [] ≡ w) behind (later j refl)

name_at_place : (columns : List (List ℕ)) (w : List ℕ) (k : ℕ) → place_of columns w ≡ Some k → slice_index_or columns k [] ≡ w
name_at_place [] w k e = absurd (cc)
name_at_place (v ∷ vs) w k e = first_name v w vs k (is w v) (place_of vs w) refl (λ j is. name_at_place vs w j is) e

column_spelled : (columns : List (List ℕ)) (w : List ℕ) (c : ColId) (reader n : ℕ) (o : Option ℕ) → IsUsed w → place_of columns w ≡ o → column_at o ≡ Usable c
    → base_reading (names_with columns) reader n (slice_index_or columns c.0 []) ≡ fine (Base c.0)
column_spelled columns w c reader n None u p e = absurd (cc)
column_spelled columns w c reader n (Some k) u p e =
    let same : k ≡ c.0 = cc in
    subst (λ i. base_reading (names_with columns) reader n (slice_index_or columns i []) ≡ fine (Base i)) same
    (ap (base_reading (names_with columns) reader n) (name_at_place columns w k p) ∙ ap (λ o. used (column_at o) reader n w) p ∙ cond-true (is_name w) _ _ u.name ∙ cond-false (is_long w) _ _ u.short)

pub names_spelled : (columns : List (List ℕ)) → AreSpelled (names_with columns) (spelled_with columns)
names_spelled columns = record {
  variables = λ w k d n u e. absurd (cc);
  numbered = λ k d n here small. numbered_back (names_with columns) (binders d) n k here small;
  columns = λ w c reader n u e. column_spelled columns w c reader n (place_of columns w) u refl e;
}
