use Rattle.std.proofs.Common.{◌<◌, ◌≤◌, sym, subst, length}
use Rattle.std.proofs.lemmas.List.{length-map}
use Rattle.lc_lemmas.proofs.Lists.{viewed_at}
use Rattle.lc_base.specs.declared.ids.ColId.{ColId}
use Rattle.lc_base.specs.Limits.{width_limit}
use Rattle.lc_object.specs.Objects.{object_view}
use Rattle.lc_object.specs.Syntax as S
use Rattle.lc_object.specs.View.{array_of, columns_of, parts_of}
use Rattle.lc_machine.specs.World.{initial_numbers}
use Rattle.lc_machine.specs.Below.{AreBelow}
use Rattle.lc_machine.proofs.ArrayColumns.{few_columns, concrete_columns}
use Rattle.lc_machine.proofs.instruction.row_columns.Goals as goal

pub returns-clause-few : goal.returns-clause-few
returns-clause-few c =
    let parts = c.parts.result.now in
    let array = c.index.result.now in
    let there = subst (λ (o : S.Object). c.args.array.0 < length o.arrays) (sym c.parts.ensures.shown) c.requires in
    let at = viewed_at array_of parts.arrays.items c.args.array.0 array there c.index.ensures in
    let few = few_columns (parts_of parts) c.args.array.0 (array_of array) c.parts.ensures.well_formed at in
    subst (λ cs. length cs ≤ width_limit) (sym c.deref.ensures.value) (subst (λ n. n ≤ width_limit) (length-map array.columns.items (λ (column : ColId). column.0)) few)

pub returns-clause-there : goal.returns-clause-there
returns-clause-there c =
    let parts = c.parts.result.now in
    let array = c.index.result.now in
    let there = subst (λ (o : S.Object). c.args.array.0 < length o.arrays) (sym c.parts.ensures.shown) c.requires in
    let at = viewed_at array_of parts.arrays.items c.args.array.0 array there c.index.ensures in
    let below = concrete_columns (parts_of parts) c.args.array.0 (array_of array) c.parts.ensures.well_formed at in
    subst (λ cs. AreBelow (length (initial_numbers (object_view c.args.object.now))) (columns_of cs)) (sym c.deref.ensures.value)
    (subst (λ o. AreBelow (length (initial_numbers o)) (columns_of array.columns.items)) c.parts.ensures.shown below)
