use Rattle.std.proofs.Common.{◌≡◌, ◌++◌, Ok, Err, ap, sym, ◌∙◌}
use Rattle.std.specs.Prelude.{codes, map, IfOk, Result}
use Rattle.lc_sexp.specs.Shown.{rest_of}
use Rattle.lc_reading.specs.Listed.{names_among}
use Rattle.lc_reading.specs.TableView.{listed}
use Rattle.lc_object_text.specs.DeclaredView.{body_view, calls_view}
use Rattle.lc_object_text.specs.ObjectNames as N
use Rattle.lc_object_text.specs.ObjectNames.{first_text, within_first, later, call_named}
use Rattle.lc_object_text.specs.Sections.{some_forms_in}
use Rattle.lc_object_text.specs.declared.declared.Body.{Body}
use Rattle.lc_object_text.proofs.SectionWalk.{same_body}
use Rattle.lc_object_text.proofs.declared_names.read_body.Goals as goal

seen_as : {E : Type 0} (r : Result Body E) (b b' : N.Body) → b ≡ b' → IfOk r (λ body. body_view body ≡ b) → IfOk r (λ body. body_view body ≡ b')
seen_as (Ok body) b b' e h = h ∙ e
seen_as (Err fault) b b' e h = h

pub returns : goal.returns
returns c =
    let names = listed c.args.operations.now.names in
    let calls = calls_view c.args.operations.now.calls.items in
    let behind = c.behind_first-behind_name.ensures.rest in
    let found = c.find_call-call.ensures ∙ ap (call_named names calls) c.first_text.ensures in
    let call = c.call_parts-replies.ensures in
    seen_as c.body.result _ _
    (same_body c.operation_name-operation.ensures
    (sym call.arguments ∙ ap (λ (k : N.Call). k.arguments) found)
    (sym call.replies ∙ ap (λ (k : N.Call). k.replies) found)
    (c.in_ok-locals.ensures ∙ ap (λ xs. xs ++ names_among (rest_of c.within_first-local_items.result)) c.new-2.ensures ∙ ap names_among (c.within_first-local_items.ensures.rest ∙ ap within_first behind))
    (c.in_ok-labels.ensures.names ∙ ap (λ xs. xs ++ map first_text (some_forms_in (codes "point") (rest_of c.behind_first.result))) c.new.ensures
    ∙ ap (λ us. map first_text (some_forms_in (codes "point") us)) (c.behind_first.ensures.rest ∙ ap later behind)))
    c.body.ensures
