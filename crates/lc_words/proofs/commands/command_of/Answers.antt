use Rattle.std.proofs.Common.{◌∙◌}
use Rattle.lc_words.proofs.Tables.{next_argument, stays_local}
use Rattle.lc_words.proofs.commands.command_of.Goals as goal

pub loop-argument-preserved : goal.loop-argument-preserved
loop-argument-preserved c = record {
  rules = next_argument c.loop-argument.command c.in_ok-command.command c.arg_of.result c.args.described.now.arguments.now c.loop-argument.argument-index _ c.loop-argument-test.true
      c.arg_of.ensures.rule c.arg_of.ensures.local c.in_ok-command.ensures ∙ c.loop-argument.invariant.rules;
  local = stays_local c.loop-argument.command c.in_ok-command.command c.arg_of.result c.loop-argument.invariant.local c.arg_of.ensures.local c.in_ok-command.ensures;
}
