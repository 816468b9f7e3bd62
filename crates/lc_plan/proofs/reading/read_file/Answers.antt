use Rattle.std.proofs.Common.{refl}
use Rattle.lc_sexp.specs.Shown.{owner_of}
use Rattle.lc_reading.proofs.Combined.{one_part}
use Rattle.lc_plan.specs.Readings.{form_reading, only_reading}
use Rattle.lc_plan.specs.View.{all_in, plan_of}
use Rattle.lc_plan.proofs.reading.read_file.Goals as goal

pub returns : goal.returns
returns c =
    let os = all_in c.args.operations.now in
    one_part plan_of (form_reading os) (only_reading os (owner_of c.args.forms)) c.args.forms c.in_ok-form.rest c.in_ok-form.form _ _ c.in_ok-form.ensures c.read_form.ensures c.ended.ensures (λ m ts. refl)
