use Rattle.lc_verdict_claims.proofs.meaning.leaving_columns.Goals as goal

pub returns : goal.returns
returns c = λ D resolved w mid client variables e what ordinary along m marks step.
    let gone = (c.edges_go_by_paths.ensures.steps D resolved w mid client variables e what ordinary along m).0 (marks, step) in
    (gone.0, gone.1, gone.2.columns)
