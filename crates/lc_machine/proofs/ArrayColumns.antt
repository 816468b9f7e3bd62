-- The columns of an object's arrays.
use Rattle.std.proofs.Common.{◌≡◌, ℕ, ◌≤◌, ◌+◌, ◌-◌, ◌&&◌, true, List, [], ◌∷◌, length, map, ap₂, ◌∙◌, arith, Some, replicate}
use Rattle.std.specs.Prelude.{pos, nat_lt, nat_le, slice_get}
use Rattle.std.specs.List.{list_all}
use Rattle.std.proofs.lemmas.Bool.Decides.{nat_tests}
use Rattle.std.proofs.lemmas.List.{length-append, length-map, length-replicate}
use Rattle.lc_lemmas.proofs.Lists.{at_all}
use Rattle.lc_lemmas.proofs.Booleans.{left_true, right_true}
use Rattle.lc_base.specs.Limits.{width_limit}
use Rattle.lc_object.specs.Syntax.{Array, Object}
pub use Rattle.lc_object.proofs.ObjectParts.{operations_pass}
use Rattle.lc_object.specs.WellFormed.{is_object, is_array, is_point}
use Rattle.lc_machine.specs.World.{initial_numbers}
use Rattle.lc_machine.specs.Below.{AreBelow}

pub initial_count : (object : Object) → length (initial_numbers object) ≡ length object.abstracts + length object.concretes
initial_count object =
    length-append (replicate (length object.abstracts) (pos 0, pos 0)) (map (λ c. (c.slope, c.start)) object.concretes) ∙
    ap₂ (λ a b. a + b) (length-replicate (length object.abstracts) (pos 0, pos 0)) (length-map object.concretes (λ c. (c.slope, c.start)))

pub arrays_pass : (object : Object) → is_object object ≡ true → list_all (is_array object) object.arrays ≡ true
arrays_pass object e = right_true _ _ (left_true _ _ (left_true _ _ e))

pub points_pass : (object : Object) → is_object object ≡ true → list_all (is_point object) object.points ≡ true
points_pass object e = right_true _ _ e

concrete_below : (first count : ℕ) (cs : List ℕ) → list_all (λ c. nat_le first c && nat_lt (c - first) count) cs ≡ true → AreBelow (first + count) cs
concrete_below first count [] e = tt
concrete_below first count (c ∷ cs) e =
    let here = left_true (nat_le first c && nat_lt (c - first) count) (list_all (λ c. nat_le first c && nat_lt (c - first) count) cs) e in
    let low = left_true (nat_le first c) (nat_lt (c - first) count) here in
    let high = right_true (nat_le first c) (nat_lt (c - first) count) here in
    (grind (arith, nat_tests), concrete_below first count cs (right_true (nat_le first c && nat_lt (c - first) count) _ e))

-- an array has at most four columns
pub few_columns : (object : Object) (k : ℕ) (a : Array) → is_object object ≡ true → slice_get object.arrays k ≡ Some a → length a.columns ≤ width_limit
few_columns object k a e f =
    let array = at_all (is_array object) object.arrays k a (arrays_pass object e) f in
    let few : nat_le (length a.columns) 4 ≡ true = right_true _ _ (left_true _ _ (left_true _ _ array)) in
    grind (arith, nat_tests)

-- its columns are below the count of those up to the concrete ones
pub concrete_columns : (object : Object) (k : ℕ) (a : Array) → is_object object ≡ true → slice_get object.arrays k ≡ Some a → AreBelow (length (initial_numbers object)) a.columns
concrete_columns object k a e f =
    let array = at_all (is_array object) object.arrays k a (arrays_pass object e) f in
    rw (initial_count object) (concrete_below (length object.abstracts) (length object.concretes) a.columns (right_true _ _ array))
