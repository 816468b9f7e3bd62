-- The atoms in a list of coefficients, by their places.
use Rattle.std.proofs.Common.{◌≡◌, ◌∙◌, ℕ, List, Option, Some, None, refl, sym, ap}
use Rattle.std.specs.Prelude.{ℤ, pos, slice_get, option_map, unwrap_or}
use Rattle.std.specs.Map.{keys_of, lookup}
use Rattle.std.proofs.lemmas.Map.Entries.{place_from_lookup}
use Rattle.std.proofs.lemmas.Option.{slice_get-map}
use Rattle.lc_table.specs.declared.node.TermId.{TermId}
use Rattle.lc_linear.specs.Numbered.{is_same, coefficient_in}
use Rattle.lc_linear.proofs.Entries.{coefficient_in-lookup}
use Rattle.lc_linear.proofs.Ids.{Decides-is_same}

-- an atom has the place of its entry
pub atom_place : (es : List (TermId × ℤ)) (i : ℕ) (o : Option (TermId × ℤ)) → o ≡ slice_get es i → slice_get (keys_of es) i ≡ option_map (λ e. e.0) o
atom_place es i o is = slice_get-map (λ e. e.0) es i ∙ ap (option_map (λ e. e.0)) (sym is)

-- an atom that a look-up finds has a place
found_place : (es : List (TermId × ℤ)) (a : TermId) (o : Option ℤ) → lookup (is_same a) es ≡ o → (coefficient_in es a ≡ pos 0 → ⊥) → (i : ℕ) × (slice_get (keys_of es) i ≡ Some a)
found_place es a None is h = absurd (h (sym (coefficient_in-lookup a es) ∙ ap (λ o. unwrap_or o (pos 0)) is))
found_place es a (Some n) is h =
    let found = place_from_lookup (is_same a) es n is in
    (found.0, atom_place es found.0 (Some (found.1, n)) (sym found.2) ∙ ap Some (sym ((Decides-is_same a found.1).0 found.3)))

pub nonzero_place : (es : List (TermId × ℤ)) (a : TermId) → (coefficient_in es a ≡ pos 0 → ⊥) → (i : ℕ) × (slice_get (keys_of es) i ≡ Some a)
nonzero_place es a h = found_place es a (lookup (is_same a) es) refl h
