use Rattle.std.proofs.Common.{refl, ap, ◌∙◌}
use Rattle.lc_sexp.specs.Trees.{◌▸◌}
use Rattle.lc_sexp.specs.Shown.{rest_of, item_tree}
use Rattle.lc_layout.specs.Layout.{spot_of, stage_within}
use Rattle.lc_layout.specs.declared.walk.Row.{Row}
use Rattle.lc_layout.proofs.Rows.{told_list, steps_list}
use Rattle.lc_layout.proofs.walk.Walk.put.Goals as goal

pub returns-in_ok-push-in-List-2-clause-told : goal.returns-in_ok-push-in-List-2-clause-told
returns-in_ok-push-in-List-2-clause-told c =
    let w = c.args.self.now in
    let r = w.row in
    let s = c.spot_of-spot.result in
    let b = c.brackets_behind-brackets.result in
    let behind : Row = record { rest = c.args.rest; stage = s.stage; column = s.behind; indent = r.indent; brackets = r.brackets } in
    told_list c.args.text.now.items c.push_gap.new.text.items c.push.new.self.items r behind c.of_list-self.result (rest_of c.in-List.inner) (rest_of c.args.rest) b s c.stage_within-stage.result
    w.around.items c.push-in-List.new.self.items
    c.in_ok-push_gap.ensures c.in_ok-push-in-List.ensures.items
    (c.requires ∙ ap (λ x. item_tree x ▸ rest_of c.args.rest) c.in-List.is)
    c.brackets_behind-brackets.ensures
    (c.spot_of-spot.ensures ∙ ap (λ x. spot_of r.stage r.column r.indent b (item_tree x)) c.in-List.is)
    refl
    (c.stage_within-stage.ensures ∙ ap (λ x. stage_within r.stage s.column b (item_tree x)) c.in-List.is)
    c.of_list-self.ensures.text c.in_ok-push-in-List-2.ensures.items

pub returns-in_ok-push-in-List-2-clause-fewer : goal.returns-in_ok-push-in-List-2-clause-fewer
returns-in_ok-push-in-List-2-clause-fewer c =
    let w = c.args.self.now in
    let r = w.row in
    let s = c.spot_of-spot.result in
    let behind : Row = record { rest = c.args.rest; stage = s.stage; column = s.behind; indent = r.indent; brackets = r.brackets } in
    steps_list r behind c.of_list-self.result (rest_of c.in-List.inner) (rest_of c.args.rest) w.around.items c.push-in-List.new.self.items
    (c.requires ∙ ap (λ x. item_tree x ▸ rest_of c.args.rest) c.in-List.is) refl (ap rest_of c.of_list-self.ensures.rest) c.in_ok-push-in-List-2.ensures.items
