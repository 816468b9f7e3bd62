use Rattle.std.proofs.Common.{◌++◌, length, map, ap, ap₂, ◌∙◌}
use Rattle.lc_sexp.specs.Shown.{rest_of}
use Rattle.lc_object_text.specs.ObjectNames.{first_text, call_of, names_of_columns, columns_of_arrays, spans_from, bodies_from, bodies_due, labels_of_bodies, arrays_in, operations_in}
use Rattle.lc_object_text.specs.Seen.{sections_view}
use Rattle.lc_object_text.proofs.SectionWalk.{same_declared, mapped_length}
use Rattle.lc_object_text.proofs.declared_names.read_declarations.Goals as goal

pub returns : goal.returns
returns c =
    let s = sections_view c.args.sections.now in
    let ops = operations_in s in
    let a = c.in_ok-first.ensures.names ∙ ap₂ (λ xs ts. xs ++ names_of_columns ts) c.new-nothing.ensures c.items_in_first-abstract_items.ensures.rest in
    let b = c.in_ok-arrays.ensures.columns ∙ ap (λ xs. xs ++ columns_of_arrays (arrays_in s)) a in
    let all = c.in_ok-all.ensures.names ∙ ap₂ (λ xs ts. xs ++ names_of_columns ts) b c.items_in_first-auxiliary_items.ensures.rest in
    let names = c.in_ok-operations.ensures.names in
    let calls = c.in_ok-operations.ensures.calls in
    let due = c.bodies_due-due.ensures ∙ ap bodies_due (c.len-4.ensures ∙ ap length names ∙ mapped_length first_text ops) in
    let rest = rest_of c.args.sections.now.bodies in
    let whole = ap₂ (λ ns cs. bodies_from ns cs 0 0 c.bodies_due-due.result rest) names calls ∙ ap (λ n. bodies_from (map first_text ops) (map call_of ops) 0 0 n rest) due in
    same_declared all (c.in_ok-abstracts.ensures ∙ c.len.ensures ∙ ap length a) (c.in_ok-auxiliaries.ensures ∙ c.len-2.ensures ∙ ap length b) c.in_ok-arrays.ensures.names
    (c.in_ok-arrays.ensures.spans ∙ ap (λ k. spans_from k (arrays_in s)) (ap length a)) names calls (c.in_ok-bodies.ensures.points ∙ ap labels_of_bodies whole) (c.in_ok-bodies.ensures.bodies ∙ whole)
