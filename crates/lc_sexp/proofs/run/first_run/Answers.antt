use Rattle.std.proofs.Common.{refl}
use Rattle.lc_sexp.specs.declared.class.Class.TheVariants.{White, Open, Close}
use Rattle.lc_sexp.proofs.Runs.{letters_first, alone_first, no_comment}
use Rattle.lc_sexp.proofs.run.first_run.Goals as goal

pub returns-in-Letter : goal.returns-in-Letter
returns-in-Letter c =
    let w = c.word_length.ensures in
    letters_first c.args.in_comment c.args.bytes.now c.word_length.result c.if-in_comment.false c.in-Letter.ensures c.requires w.within w.letters w.some

pub returns-in-White : goal.returns-in-White
returns-in-White c = alone_first c.args.in_comment c.args.bytes.now White c.alone.result c.if-in_comment.false c.requires (no_comment _ White c.in-White.ensures refl) c.in-White.ensures c.alone.ensures

pub returns-in-Open : goal.returns-in-Open
returns-in-Open c = alone_first c.args.in_comment c.args.bytes.now Open c.alone-in-Open.result c.if-in_comment.false c.requires (no_comment _ Open c.in-Open.ensures refl) c.in-Open.ensures c.alone-in-Open.ensures

pub returns-in-Close : goal.returns-in-Close
returns-in-Close c = alone_first c.args.in_comment c.args.bytes.now Close c.alone-in-Close.result c.if-in_comment.false c.requires (no_comment _ Close c.in-Close.ensures refl) c.in-Close.ensures c.alone-in-Close.ensures
