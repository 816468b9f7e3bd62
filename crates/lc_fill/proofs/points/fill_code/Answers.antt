use Rattle.std.proofs.Common.{sym, ap, ap₂, ◌∙◌}
use Rattle.std.specs.Prelude.{codes, Option}
use Rattle.lc_sexp.specs.Shown.{rest_of, number_of}
use Rattle.lc_reading.specs.Parts.{tree_of}
use Rattle.lc_fill.specs.Filled.{kept, each}
use Rattle.lc_fill.specs.Forms.{section}
use Rattle.lc_fill.specs.Points.{on_filled, closed, unless_named, storing, head_of, code_filled}
use Rattle.lc_fill.specs.PlanView.{found}
use Rattle.lc_fill.specs.Seen.{acts_view, onto}
use Rattle.lc_fill.specs.declared.edge.Edge.{Edge}
use Rattle.lc_fill.proofs.points.fill_code.Goals as goal

pub returns-in_default : goal.returns-in_default
returns-in_default c = ap (λ ts. onto c.args.row.now (code_filled (acts_view c.args.acts.now) (number_of c.args.list) ts)) (sym c.in_default.ensures.1)

pub returns : goal.returns
returns c =
    let a = acts_view c.args.acts.now in
    let (at, behind) = c.in-Ok.ensures in
    let list = c.args.list in
    let code = tree_of c.in-Ok.code in
    let d = c.next_part.new.list in
    let ons = λ (e : Option Edge). each (on_filled a) (closed a e) in
    let edge = unless_named (rest_of d) (storing (head_of code)) in
    c.in_ok-fill_ons.ensures
    ∙ c.in_ok-keep_section.ensures (ons c.edge_left_out-edge.result)
    ∙ ap₂ (λ more e. onto c.keep.new.self (section (codes "assert") more (ons e) (number_of d) (rest_of d))) (c.found-more.ensures ∙ ap₂ (λ ps n. found ps n) c.deref.ensures.value c.number.ensures) c.edge_left_out-edge.ensures
    ∙ c.in_ok-keep.ensures (section (codes "assert") (a.plan.asserts (number_of d)) (ons edge) (number_of d) (rest_of d))
    ∙ ap (λ m. onto c.args.row.now (kept code (section (codes "assert") (a.plan.asserts m) (ons edge) m (rest_of d)))) behind.number
    ∙ ap (λ ts. onto c.args.row.now (code_filled a (number_of list) ts)) (sym behind.rest)
