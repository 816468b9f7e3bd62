use Rattle.lc_outline.specs.DevelopmentView.{development_view}
use Rattle.lc_cond.specs.ConditionView.{condition_in}
use Rattle.lc_pool.proofs.Desks.{due_at, bounded_at, still_laid}
use Rattle.lc_pool.proofs.laid.derives.Goals as goal

pub prove_one-requires-clause-bounded : goal.prove_one-requires-clause-bounded
prove_one-requires-clause-bounded c =
    let D = development_view c.args.development.now in
    let x = c.index-condition.result.now in
    bounded_at D c.args.number (condition_in c.args.laid.now.terms x) c.conditions_use_their_variables.ensures c.conditions_have_few_variables.ensures
    (due_at D c.args.laid.now c.args.number c.in-Some.place x c.requires.laid c.in-Some.ensures.1 c.in-Some.ensures.0 c.index-condition.ensures)

pub returns-in-Ok-clause-derived : goal.returns-in-Ok-clause-derived
returns-in-Ok-clause-derived c = λ good.
    let D = development_view c.args.development.now in
    let x = c.index-condition.result.now in
    record {
      condition = condition_in c.args.laid.now.terms x;
      due = due_at D c.args.laid.now c.args.number c.in-Some.place x c.requires.laid c.in-Some.ensures.1 c.in-Some.ensures.0 c.index-condition.ensures;
      derives = c.in-Ok.ensures.exactly;
    }

pub returns-in-Ok-clause-laid : goal.returns-in-Ok-clause-laid
returns-in-Ok-clause-laid c = still_laid (development_view c.args.development.now) c.args.laid.now.part c.args.laid.now.terms c.prove_one.new.terms c.prove_one.ensures.kept c.requires.laid

pub returns-in-Err-Refused-clause-laid : goal.returns-in-Err-Refused-clause-laid
returns-in-Err-Refused-clause-laid c =
    still_laid (development_view c.args.development.now) c.args.laid.now.part c.args.laid.now.terms c.prove_one.new.terms c.prove_one.ensures.kept c.requires.laid

pub returns-in-Err-OutOfMemory-clause-laid : goal.returns-in-Err-OutOfMemory-clause-laid
returns-in-Err-OutOfMemory-clause-laid c =
    still_laid (development_view c.args.development.now) c.args.laid.now.part c.args.laid.now.terms c.prove_one.new.terms c.prove_one.ensures.kept c.requires.laid
