use Rattle.lincheck.proofs.Verdicts.{derived_makes_verdict, not_proved}
use Rattle.lincheck.proofs.formula.check_forms.Goals as goal

pub returns-in-Ok : goal.returns-in-Ok
returns-in-Ok c = λ bytes reads. derived_makes_verdict bytes c.in_ok-file.file c.in-Ok.field-0 (c.in_ok-file.ensures.answer bytes reads) c.in-Ok.ensures.exactly

pub returns : goal.returns
returns c = λ bytes reads.
    rw c.fault_of.ensures (not_proved bytes c.in_ok-file.file c.in-Err.fault (c.in_ok-file.ensures.answer bytes reads) c.in-Err.ensures.exactly)
