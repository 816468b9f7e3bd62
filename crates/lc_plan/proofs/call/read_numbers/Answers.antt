use Rattle.lc_sexp.specs.Shown.{rest_of, number_of, owner_of}
use Rattle.lc_plan.proofs.Parts.{numbers_read}
use Rattle.lc_plan.specs.Readings.{numbers_reading}
use Rattle.std.proofs.Common.{Some, None}
use Rattle.lc_plan.proofs.call.read_numbers.Goals as goal

pub returns-in-Some : goal.returns-in-Some
returns-in-Some c =
    let l = c.args.list in
    rw c.in-Some.is (numbers_read (numbers_reading (Some c.in-Some.count) (owner_of l) (number_of l) (rest_of l)) c.read_counted.result c.read_counted.ensures)

pub returns-in-None : goal.returns-in-None
returns-in-None c =
    let l = c.args.list in
    rw c.in-None.is (numbers_read (numbers_reading None (owner_of l) (number_of l) (rest_of l)) c.read_each.result c.read_each.ensures)
