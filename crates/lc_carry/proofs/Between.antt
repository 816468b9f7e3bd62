-- Columns of the same names.
use Rattle.std.proofs.Common.{◌≡◌, ℕ, List, map, Option, Some, None, option_map, slice_get, refl, sym, ap, ◌∙◌}
use Rattle.std.proofs.lemmas.Option.{slice_get-map}
use Rattle.std.specs.Prelude.{option_and_then}
use Rattle.lc_base.specs.declared.ids.ColId.{ColId}
use Rattle.lc_carry.specs.Renaming.{column_for}

-- the number of a column, if there is one
abbrev pub number_in : Option ColId → Option ℕ
number_in o = option_map (λ (c : ColId). c.0) o

abbrev inner : Option (Option ℕ) → Option ℕ
inner o = option_and_then (λ (x : Option ℕ). x) o

and_mapped : {A : Type 0} (f : A → Option ℕ) (o : Option A) → option_and_then f o ≡ inner (option_map f o)
and_mapped f None = refl
and_mapped f (Some x) = refl

-- if the columns are those of the names, so is each
pub same_columns : (columns : List (Option ColId)) (names : List (List ℕ)) (place : List ℕ → Option ℕ) → map number_in columns ≡ map place names
    → column_for columns ≡ (λ (k : ℕ). option_and_then place (slice_get names k))
same_columns columns names place h = λ i k. at k i
  where
    at : (k : ℕ) → column_for columns k ≡ option_and_then place (slice_get names k)
    at k = and_mapped number_in (slice_get columns k)
        ∙ ap inner (sym (slice_get-map number_in columns k) ∙ ap (λ l. slice_get l k) h ∙ slice_get-map place names k)
        ∙ sym (and_mapped place (slice_get names k))
