use Rattle.std.proofs.Common.{length, ap, subst, ◌∙◌}
use Rattle.std.proofs.lemmas.Result.{on_ok_weaker}
use Rattle.lc_term.specs.View.{formula_of}
use Rattle.lc_outline.specs.DevelopmentView.{development_view}
use Rattle.lc_cond.specs.Adding.{Adds}
use Rattle.lc_cond.proofs.Few.{seen_length}
use Rattle.lc_cond.proofs.Stretched.{whole, whole_within, whole_idle}
use Rattle.lc_cond.proofs.list.push_idle.Goals as goal

pub push_idle_stretch-requires : goal.push_idle_stretch-requires
push_idle_stretch-requires c =
    let idle = (development_view c.args.development.now).idle in
    whole_within (length idle) c.all_of-all.result (c.all_of-all.ensures ∙ ap whole (seen_length formula_of c.idle_of.result.now idle c.idle_of.ensures))

pub returns-clause-list : goal.returns-clause-list
returns-clause-list c =
    let D = development_view c.args.development.now in
    let is = c.all_of-all.ensures ∙ ap whole (seen_length formula_of c.idle_of.result.now D.idle c.idle_of.ensures) in
    on_ok_weaker c.push_idle_stretch.result
    (λ list. subst (Adds c.args.conditions.now.items c.push_idle_stretch.new.terms c.push_idle_stretch.new.conditions.items) (whole_idle D c.all_of-all.result is) list) c.push_idle_stretch.ensures.list
