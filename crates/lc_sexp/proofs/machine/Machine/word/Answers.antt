use Rattle.std.proofs.Common.{◌-◌, length, drop, ap, ◌∙◌}
use Rattle.lc_sexp.specs.Text.{are_letters}
use Rattle.lc_sexp.proofs.Nodes.{letters_take, letters_drop}
use Rattle.lc_sexp.proofs.machine.Machine.word.Goals as goal

pub returns-clause-letters : goal.returns-clause-letters
returns-clause-letters c =
    letters_take (drop c.args.self.now.start c.deref.result.now) (length c.deref.result.now - c.args.self.now.start)
    (letters_drop c.deref.result.now c.args.self.now.start (ap are_letters c.deref.ensures.value ∙ c.args.self.now.letters))
