use Rattle.std.proofs.Common.{◌∙◌, codes, ap}
use Rattle.lc_words.specs.Tables.{with_described}
use Rattle.lc_words.proofs.Tables.{begun_program, next_described}
use Rattle.lc_words.proofs.commands.program_of.Goals as goal

pub loop-described-init : goal.loop-described-init
loop-described-init c =
    ap (λ a. with_described a c.args.commands.now)
    (begun_program (codes "lincheck") c.new.result c.version.result c.about.result c.after_help.result c.subcommand_required-program.result _ _ _ c.new.ensures.app c.version.ensures
    c.about.ensures c.after_help.ensures c.subcommand_required-program.ensures)

pub loop-described-preserved : goal.loop-described-preserved
loop-described-preserved c =
    next_described c.loop-described.program c.in_ok-command_of.field-0 c.in_ok-program.program c.args.commands.now c.loop-described.described-index _ c.loop-described-test.true
    c.in_ok-command_of.ensures.app c.in_ok-command_of.ensures.local c.in_ok-program.ensures
    ∙ c.loop-described.invariant
