use Rattle.std.proofs.Common.{None, Some, codes}
use Rattle.clap.specs.Words.{found_of}
use Rattle.lc_words.specs.Tasks.{JudgeHistory}
use Rattle.lc_words.proofs.Found.{two_found, two_unfound}
use Rattle.lc_words.proofs.reading.judge_request.Goals as goal

pub returns-in_err-development : goal.returns-in_err-development
returns-in_err-development c = rw c.from_residual.ensures (two_unfound JudgeHistory (codes "HISTORY") (found_of c.args.command.now) c.in_err-development.ensures)

pub returns-in_err-history : goal.returns-in_err-history
returns-in_err-history c =
    rw c.from_residual-in_err-history.ensures
    (two_found JudgeHistory (codes "HISTORY") (found_of c.args.command.now) (Some c.in_ok-development.development.now) None c.in_ok-development.ensures c.in_err-history.ensures)

pub returns : goal.returns
returns c =
    two_found JudgeHistory (codes "HISTORY") (found_of c.args.command.now) (Some c.in_ok-development.development.now) (Some c.in_ok-history.history.now) c.in_ok-development.ensures c.in_ok-history.ensures
