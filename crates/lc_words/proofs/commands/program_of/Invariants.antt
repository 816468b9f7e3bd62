use Rattle.std.proofs.Common.{◌≡◌, drop}
use Rattle.clap.specs.Words.{app_of}
use Rattle.lc_words.specs.Tables.{program_for, with_described}
use Rattle.lc_words.proofs.commands.program_of.Given as goal

abbrev pub invariant-loop-described : goal.invariant-loop-described
invariant-loop-described l = with_described (app_of l.program) (drop l.described-index l.commands) ≡ program_for l.commands
