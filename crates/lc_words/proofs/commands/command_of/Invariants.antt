use Rattle.std.proofs.Common.{◌≡◌, false, drop}
use Rattle.clap.specs.Words.{app_of}
use Rattle.clap.specs.declared.builder.command.Command.TheViews.{out-Command}
use Rattle.lc_words.specs.Tables.{app_for, with_arguments}
use Rattle.lc_words.proofs.commands.command_of.Given as goal

abbrev pub invariant-loop-argument : goal.invariant-loop-argument
invariant-loop-argument l = record {
  rules : with_arguments (app_of l.command) (drop l.argument-index l.described.arguments.now) ≡ app_for l.described;
  local : (out-Command l.command).has_globals ≡ false;
}
