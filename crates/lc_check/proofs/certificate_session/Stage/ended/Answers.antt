use Rattle.lc_check.proofs.certificate_session.Stage.ended.Goals as goal

pub counted-count-requires : goal.counted-count-requires
counted-count-requires g c = c.requires

pub finished-requires : goal.finished-requires
finished-requires g c = (c.requires.0, c.counted-count.ensures c.requires.0 c.requires.1)

pub returns-clause-exactly : goal.returns-clause-exactly
returns-clause-exactly g c = λ cert up. c.finished.ensures.exactly cert (c.counted-count.ensures cert up)
