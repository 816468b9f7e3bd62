use Rattle.std.proofs.Common.{◌≡◌, arith, length, string_bytes}
use Rattle.lc_outline_print.proofs.Forms.{concrete_there, concrete_past}
use Rattle.lc_outline_print.proofs.object.write_concrete.Goals as goal

pub returns-in_ok-write_concrete_column : goal.returns-in_ok-write_concrete_column
returns-in_ok-write_concrete_column c =
    let counted : c.len.result ≡ length c.args.object.now.abstracts.items = omega (arith, c.len.ensures, c.args.object.now.abstracts.ok.0) in
    concrete_there c.args.object.now.concretes.items c.deref.result.now c.args.object.now.abstracts.items c.args.column.0 c.len.result c.saturating_sub-place.result c.in-Some.column.now
    (string_bytes c.args.out.now) (string_bytes c.write_concrete_column.new.out)
    c.saturating_sub-place.ensures counted c.deref.ensures.value c.in-Some.ensures.lookup.3.0 c.in-Some.ensures.lookup.1 c.in_ok-write_concrete_column.ensures

pub returns-in_default : goal.returns-in_default
returns-in_default c =
    let counted : c.len.result ≡ length c.args.object.now.abstracts.items = omega (arith, c.len.ensures, c.args.object.now.abstracts.ok.0) in
    concrete_past c.args.object.now.concretes.items c.deref.result.now c.args.object.now.abstracts.items c.args.column.0 c.len.result c.saturating_sub-place.result
    (string_bytes c.args.out.now) c.saturating_sub-place.ensures counted c.deref.ensures.value c.in_default.ensures.lookup.3
