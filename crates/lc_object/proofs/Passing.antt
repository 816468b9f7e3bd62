-- Tests of lists, seen through their views.
use Rattle.std.proofs.Common.{◌≡◌, ℕ, Bool, List, map, sym, ◌∙◌}
use Rattle.std.specs.List.{list_all}
use Rattle.std.proofs.lemmas.List.Folds.{list_all-map}
use Rattle.lc_term.specs.View.{term_of}
use Rattle.lc_term.specs.declared.term.Term.{Term}
use Rattle.lc_object.specs.Syntax.{Object}
use Rattle.lc_object.specs.View.{terms_of, array_of, point_of}
use Rattle.lc_object.specs.WellFormed.{is_code_term, are_code_terms, is_array, is_point}
use Rattle.lc_object.specs.declared.parts.Array.{Array}
use Rattle.lc_object.specs.declared.parts.Point.{Point}

pub terms_test : (variables : ℕ) (ts : List Term) (r : Bool) → r ≡ list_all (λ t. is_code_term variables (term_of t)) ts → r ≡ are_code_terms variables (terms_of ts)
terms_test variables ts r e = e ∙ sym (list_all-map (is_code_term variables) term_of ts)

pub arrays_test : (object : Object) (rows : List Array) (r : Bool) → r ≡ list_all (λ a. is_array object (array_of a)) rows → r ≡ list_all (is_array object) (map array_of rows)
arrays_test object rows r e = e ∙ sym (list_all-map (is_array object) array_of rows)

pub points_test : (object : Object) (ps : List Point) (r : Bool) → r ≡ list_all (λ p. is_point object (point_of p)) ps → r ≡ list_all (is_point object) (map point_of ps)
points_test object ps r e = e ∙ sym (list_all-map (is_point object) point_of ps)
