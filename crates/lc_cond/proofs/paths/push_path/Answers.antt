use Rattle.std.proofs.Common.{◌++◌, subst}
use Rattle.std.proofs.lemmas.Result.{on_ok_weaker}
use Rattle.lc_table.specs.Tables.{formulas_in}
use Rattle.lc_cond.specs.Adding.{Adds}
use Rattle.lc_cond.proofs.Adding.{formulas_are, formulas_joined, formulas_listed, adds_on}
use Rattle.lc_cond.proofs.Scening.{facts_along}
use Rattle.lc_cond.proofs.Ridden.{path_said}
use Rattle.lc_cond.proofs.paths.push_path.Goals as goal

pub push_duties-requires : goal.push_duties-requires
push_duties-requires c = record { trees = c.facts-facts.ensures.trees; are = c.facts-facts.ensures.are; all = c.in_ok-known.ensures }

pub returns-clause-list : goal.returns-clause-list
returns-clause-list c =
    let s = c.args.scene.now in
    let t0 = c.args.terms.now in
    let t1 = c.push_outcome.new.terms in
    let items = s.hypotheses.items in
    let hs = formulas_in t0 items in
    let before = formulas_are t0 items c.requires.scene.hypotheses in
    on_ok_weaker c.push_outcome.result
    (λ list p along.
    (let facts = facts_along t0 c.args.path.now p c.facts-facts.result.now along (c.facts-facts.ensures.trees t0) (c.facts-facts.ensures.are t0) in
    let known = formulas_listed t0 (items ++ c.facts-facts.result.now) c.in_ok-known.known (hs ++ p.facts) (formulas_joined t0 items c.facts-facts.result.now hs p.facts before facts) c.in_ok-known.ensures in
    subst (Adds c.args.conditions.now.items t1 c.push_outcome.new.conditions.items) (path_said s c.args.number hs p)
    (adds_on c.args.conditions.now.items c.push_duties.new.conditions.items c.push_outcome.new.conditions.items t0 t1 _ _
    (c.in_ok-push_duties.ensures t0 hs p before along) c.push_outcome.ensures.kept (list (hs ++ p.facts) known p along)))) c.push_outcome.ensures.list
