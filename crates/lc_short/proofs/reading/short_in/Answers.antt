use Rattle.std.proofs.Common.{inl, refl}
use Rattle.lc_short.proofs.Shortened.{filled_answer}
use Rattle.lc_short.proofs.reading.short_in.Goals as goal

pub returns-in-Err-Refused : goal.returns-in-Err-Refused
returns-in-Err-Refused c = λ bytes reads.
    let told = c.in-Err-Refused.ensures bytes reads in
    filled_answer bytes c.args.forms.now c.in-Err-Refused.field-0-0 c.read_filled.result reads (rw c.in-Err-Refused.field-0-is at told) c.read_filled.ensures

pub returns-in-Ok : goal.returns-in-Ok
returns-in-Ok c = λ bytes reads. inl (c.in-Ok.ensures bytes reads, c.new.ensures.items)
