use Rattle.std.proofs.Common.{ap, ap₂, ◌∙◌}
use Rattle.std.specs.Prelude.{codes}
use Rattle.lc_sexp.specs.Trees.{none}
use Rattle.lc_sexp.specs.Shown.{rest_of, number_of}
use Rattle.lc_fill.specs.Filled.{each, ended}
use Rattle.lc_fill.specs.Files.{body_filled}
use Rattle.lc_fill.specs.Forms.{section}
use Rattle.lc_fill.specs.Seen.{acts_view, onto}
use Rattle.lc_fill.proofs.files.fill_claims.Goals as goal

pub returns : goal.returns
returns c =
    let a = acts_view c.args.acts.now in
    let list = c.args.list in
    let bodies = each (body_filled a) ended in
    let first = c.new-row.result in
    let second = c.keep_section.new.self in
    let d = c.keep_section.new.rest in
    c.in_ok-fill_bodies.ensures
    ∙ c.in_ok-keep_section-2.ensures bodies
    ∙ ap (λ more. onto second (section (codes "idle") more bodies (number_of d) (rest_of d))) c.cursor.ensures.rest
    ∙ c.in_ok-keep_section.ensures (section (codes "idle") a.plan.idle bodies)
    ∙ ap (λ more. onto first (section (codes "invariant") more (section (codes "idle") a.plan.idle bodies) (number_of list) (rest_of list))) c.empty.ensures.rest
    ∙ c.new-row.ensures (section (codes "invariant") none (section (codes "idle") a.plan.idle bodies) (number_of list) (rest_of list))
