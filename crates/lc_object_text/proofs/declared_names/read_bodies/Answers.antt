use Rattle.std.proofs.Common.{◌≡◌, ℕ, ◌+◌, ◌-◌, ◌++◌, ◌∷◌, [], List, length, length-append, map, ap, sym, ◌∙◌, arith}
use Rattle.std.specs.Prelude.{codes}
use Rattle.lc_sexp.specs.Shown.{rest_of}
use Rattle.lc_reading.specs.TableView.{listed}
use Rattle.lc_object_text.specs.DeclaredView.{body_view, bodies_view, calls_view}
use Rattle.lc_object_text.specs.ObjectNames.{Body, first_text, later, points_in, body_of, labels_of_bodies}
use Rattle.lc_object_text.specs.Sections.{some_forms_in}
use Rattle.lc_object_text.proofs.SectionWalk.{bodies_more, bodies_ended, bodies_done, labels_last, mapped_length}
use Rattle.std.proofs.lemmas.List.{map-append}
use Rattle.lc_object_text.proofs.declared_names.read_bodies.Goals as goal

abbrev labels_of : Body → List (List ℕ)
labels_of b = b.labels

pub returns-in_default-clause-bodies : goal.returns-in_default-clause-bodies
returns-in_default-clause-bodies c =
    bodies_ended (listed c.args.operations.now.names) (calls_view c.args.operations.now.calls.items) c.loop-number.number (length (listed c.loop-number.points)) (c.args.due - c.loop-number.number)
    c.loop-number.list c.item.new.self c.in_default.field-0 (bodies_view c.loop-number.bodies.items) _ c.in_default.ensures c.loop-number.invariant.bodies

pub returns-in_default-clause-points : goal.returns-in_default-clause-points
returns-in_default-clause-points c =
    c.loop-number.invariant.points ∙ ap labels_of_bodies
    (bodies_ended (listed c.args.operations.now.names) (calls_view c.args.operations.now.calls.items) c.loop-number.number (length (listed c.loop-number.points)) (c.args.due - c.loop-number.number)
    c.loop-number.list c.item.new.self c.in_default.field-0 (bodies_view c.loop-number.bodies.items) _ c.in_default.ensures c.loop-number.invariant.bodies)

pub returns-clause-bodies : goal.returns-clause-bodies
returns-clause-bodies c =
    bodies_done (listed c.args.operations.now.names) (calls_view c.args.operations.now.calls.items) c.loop-number.number (length (listed c.loop-number.points)) (c.args.due - c.loop-number.number)
    (rest_of c.loop-number.list) (bodies_view c.loop-number.bodies.items) _ (omega arith) c.loop-number.invariant.bodies

pub returns-clause-points : goal.returns-clause-points
returns-clause-points c =
    c.loop-number.invariant.points ∙ ap labels_of_bodies
    (bodies_done (listed c.args.operations.now.names) (calls_view c.args.operations.now.calls.items) c.loop-number.number (length (listed c.loop-number.points)) (c.args.due - c.loop-number.number)
    (rest_of c.loop-number.list) (bodies_view c.loop-number.bodies.items) _ (omega arith) c.loop-number.invariant.bodies)

pub loop-number-preserved : goal.loop-number-preserved
loop-number-preserved c =
    let names = listed c.args.operations.now.names in
    let calls = calls_view c.args.operations.now.calls.items in
    let k = c.loop-number.number in
    let p = length (listed c.loop-number.points) in
    let parts = rest_of c.items_in_first-parts.result in
    let body = body_view c.in_ok-body.body in
    let points = points_in parts in
    let items = c.behind_first-point_items.ensures.rest ∙ ap later c.behind_first-behind_name.ensures.rest in
    let own = c.in_ok-body.ensures ∙ ap (λ first. body_of names calls k first parts) (c.in_ok-first.ensures ∙ c.len.ensures) in
    let labels = c.in_ok-more.ensures.names ∙ ap (λ us. listed c.loop-number.points ++ map first_text (some_forms_in (codes "point") us)) items in
    let pushed = ap (map body_view) c.in_ok-push.ensures.items ∙ map-append body_view c.loop-number.bodies.items (c.in_ok-body.body ∷ []) in
    let next : length (listed c.in_ok-more.more) ≡ p + length points = omega (arith, ap length labels, length-append (listed c.loop-number.points) (map first_text points), mapped_length first_text points) in
    record {
      bodies = bodies_more names calls k p (length (listed c.in_ok-more.more)) (c.args.due - k) (c.args.due - (k + 1)) c.loop-number.list c.item.new.self c.in-Ok.field-0 parts body
          (bodies_view c.loop-number.bodies.items) (bodies_view c.push.new.self.items) c.in-Ok.ensures c.items_in_first-parts.ensures.rest own pushed next (omega arith) ∙ c.loop-number.invariant.bodies;
      points = labels ∙ ap (λ xs. xs ++ map first_text points) c.loop-number.invariant.points ∙ ap (λ xs. labels_of_bodies (bodies_view c.loop-number.bodies.items) ++ xs) (sym (ap labels_of own))
          ∙ sym (labels_last (bodies_view c.loop-number.bodies.items) body) ∙ ap labels_of_bodies (sym pushed);
    }
