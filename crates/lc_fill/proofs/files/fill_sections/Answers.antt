use Rattle.std.proofs.Common.{sym, ap, ap₂, ◌∙◌}
use Rattle.std.specs.Prelude.{codes, if◌then◌else◌}
use Rattle.lc_sexp.specs.Trees.{none}
use Rattle.lc_sexp.specs.Shown.{rest_of, number_of}
use Rattle.lc_fill.specs.Filled.{Filled, Filler, as_is}
use Rattle.lc_fill.specs.Files.{is_nil, claims_filled, standing_in}
use Rattle.lc_fill.specs.Forms.{section, while_forms}
use Rattle.lc_fill.specs.Seen.{acts_view, onto, row_view}
use Rattle.lc_fill.proofs.Rows.{lacking_alone}
use Rattle.lc_fill.specs.Acts.{stand_in_of}
use Rattle.lc_fill.specs.Filled.{put, put_all}
use Rattle.lc_fill.proofs.files.fill_sections.Goals as goal

pub returns : goal.returns
returns c =
    let a = acts_view c.args.acts.now in
    let list = c.args.list in
    let claims : Filler = λ n ts. standing_in a n (claims_filled a n ts) in
    let actions : Filler = while_forms (codes "action") claims in
    let row = c.keep_forms-2.new.self in
    let d = c.keep_forms-2.new.rest in
    c.in_ok-append.ensures (as_is none)
    ∙ c.in_ok-put_actions.ensures (row_view c.in_ok-claims.claims)
    ∙ ap (λ b. onto row (put_all c.number.result a.plan.actions (if b then row_view c.in_ok-claims.claims else put c.number.result (stand_in_of a) (row_view c.in_ok-claims.claims))))
    (ap is_nil c.deref.ensures.value ∙ lacking_alone c.in_ok-claims.claims)
    ∙ ap₂ (λ n r. onto row (standing_in a n r)) c.number.ensures c.in_ok-claims.ensures
    ∙ c.in_ok-keep_forms-2.ensures claims
    ∙ c.in_ok-keep_section.ensures actions
    ∙ ap (λ more. onto c.keep_forms.new.self (section (codes "aux") more actions (number_of c.keep_forms.new.rest) (rest_of c.keep_forms.new.rest))) c.empty.ensures.rest
    ∙ c.in_ok-keep_forms.ensures (section (codes "aux") none actions)
