use Rattle.std.proofs.Common.{ap, ◌∙◌, slice_get}
use Rattle.std.proofs.lemmas.Result.{IfOk-weaker}
use Rattle.lc_table.proofs.Tables.{part_added}
use Rattle.lc_table.proofs.table.Terms.enter_part.Goals as goal

pub invariant_of-self-2 : goal.invariant_of-self-2
invariant_of-self-2 c = (part_added c.args.self.now c.self.inside.terms.keys c.insert_full.new.self.keys c.self.inside.formulas.keys c.args.node _ c.in_ok-index.index c.self.view_is c.self.invariant c.requires c.in_ok-index.ensures.keys c.in_ok-index.ensures.stored.1 c.in_ok-index.ensures.stored.2).table

pub returns-clause-part : goal.returns-clause-part
returns-clause-part c =
    let e = part_added c.args.self.now c.self.inside.terms.keys c.insert_full.new.self.keys c.self.inside.formulas.keys c.args.node _ c.in_ok-index.index c.self.view_is c.self.invariant c.requires c.in_ok-index.ensures.keys c.in_ok-index.ensures.stored.1 c.in_ok-index.ensures.stored.2 in
    IfOk-weaker c.number_of.result _ _ (λ k h. ap (slice_get _) h ∙ e.here) c.number_of.ensures

pub returns-clause-kept : goal.returns-clause-kept
returns-clause-kept c = (part_added c.args.self.now c.self.inside.terms.keys c.insert_full.new.self.keys c.self.inside.formulas.keys c.args.node _ c.in_ok-index.index c.self.view_is c.self.invariant c.requires c.in_ok-index.ensures.keys c.in_ok-index.ensures.stored.1 c.in_ok-index.ensures.stored.2).kept
