-- A proof that is carried to the same condition derives it.
use Rattle.std.proofs.Common.{◌≡◌, ℕ, List, Option, Some, None, length, sym, subst, refl, ◌∙◌}
use Rattle.std.specs.Prelude.{option_and_then, slice_get}
use Rattle.std.proofs.lemmas.Option.{slice_get_within}
use Rattle.lc_carry.proofs.Keys.{piece_at}
use Rattle.lc_carry.specs.Carried.{column_between}
use Rattle.lc_carry.specs.CarriedDerives.{AreApart, CarriedDerives}
use Rattle.lc_kernel.specs.Derivation.{DerivesGoal}
use Rattle.lc_outline.specs.ColumnNames.{column_names}
use Rattle.lc_outline.specs.Development.{Development}
use Rattle.lc_reading.proofs.Places.{place_below}
use Rattle.lc_reading.specs.Listed.{place_of}
use Rattle.lc_carry.proofs.Extended.{renamed-derives}
use Rattle.lc_carry.specs.RenamedDerivations.{IsOneToOne}
use Rattle.lc_carry.specs.RenamedProofs.{renamed}

module _ (D E : Development) where
  -- a column and the one of its name
  record HasName (k j : ℕ) : Type 0 where
    name : List ℕ
    here : slice_get (column_names D) k ≡ Some name
    there : place_of (column_names E) name ≡ Some j

  named : (k j : ℕ) → column_between D E k ≡ Some j → HasName k j
  named k j e = by (slice_get (column_names D) k) refl e
    where
      by : (o : Option (List ℕ)) → slice_get (column_names D) k ≡ o → option_and_then (place_of (column_names E)) o ≡ Some j → HasName k j
      by None is e = absurd (let none : None ≡ Some j = e in cc)
      by (Some w) is e = record { name = w; here = is; there = e }

  one_name : (i k j : ℕ) → AreApart (column_names D) → HasName i j → HasName k j → i ≡ k
  one_name i k j apart a b =
      let same : a.name ≡ b.name = sym (piece_at (column_names E) a.name j a.there) ∙ piece_at (column_names E) b.name j b.there in
      apart i k b.name (subst (λ w. slice_get (column_names D) i ≡ Some w) same a.here) b.here

  one-to-one : AreApart (column_names D) → IsOneToOne (column_between D E) (length (column_names D)) (length (column_names E))
  one-to-one apart = record {
    within = λ k j e. (let h = named k j e in (slice_get_within (column_names D) k h.name h.here, place_below (column_names E) h.name j h.there));
    apart = λ i k j a b. one_name i k j apart (named i j a) (named k j b);
  }

pub carried-derives : CarriedDerives
carried-derives D es E k j p from apart same derived =
    subst (λ v. DerivesGoal v from.new.hypotheses from.new.goal (renamed (column_between D E) p)) (sym same.variables)
    (renamed-derives (column_between D E) (length (column_names D)) (length (column_names E)) from.old.variables from.old.hypotheses from.new.hypotheses from.old.goal from.new.goal p (one-to-one D E apart)
    same.hypotheses same.goal from.covered derived)
