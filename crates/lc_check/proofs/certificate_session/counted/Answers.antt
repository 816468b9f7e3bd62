use Rattle.std.proofs.Common.{◌++◌}
use Rattle.lc_outline.specs.DevelopmentView.{development_view}
use Rattle.lc_cert.proofs.Rising.{certificate_rises}
use Rattle.lc_cert.specs.Pieces.{waiting}
use Rattle.lc_check.proofs.Answered.{not_counted, counted_on, read_all}
use Rattle.lc_check.proofs.certificate_session.counted.Goals as goal

pub returns-in-Err : goal.returns-in-Err
returns-in-Err g c = λ cert up.
    not_counted (development_view c.args.development.now) cert (up.taken ++ waiting c.args.reader) c.in-Err.fault (c.in-Err.ensures.answer cert up.taken up.read)

pub answer-requires : goal.answer-requires
answer-requires g c = (c.requires.1.taken, c.requires.1.progress)

pub returns : goal.returns
returns g c = λ cert up.
    let D = development_view c.args.development.now in
    let certifies = read_all D cert c.args.reader c.args.progress.now tt up (c.in_default.ensures.answer cert up.taken up.read) in
    counted_on D cert up.taken c.answer.result certifies (c.answer.ensures up.taken up.progress (certificate_rises D cert up.taken certifies))
