use Rattle.std.proofs.Common.{string_bytes}
use Rattle.lc_draw.proofs.Written.{bar_path_formed, bar_path_written}
use Rattle.lc_draw.proofs.svg.write_bar_path.Goals as goal

pub returns-clause-formed : goal.returns-clause-formed
returns-clause-formed c = bar_path_formed c.args.class.now c.args.close.now c.args.begins c.args.ends c.args.top c.requires.class c.requires.close c.ranges.begins.fits c.ranges.ends.fits c.ranges.top.fits

pub returns-clause-text : goal.returns-clause-text
returns-clause-text c =
    bar_path_written c.args.class.now c.args.close.now c.args.begins c.args.ends c.args.top (string_bytes c.args.out.now) (string_bytes c.write.new.self) (string_bytes c.write-2.new.self) (string_bytes c.write-3.new.self)
    c.in_ok-write.ensures.bytes c.in_ok-write-2.ensures.bytes c.in_ok-write-3.ensures.bytes
