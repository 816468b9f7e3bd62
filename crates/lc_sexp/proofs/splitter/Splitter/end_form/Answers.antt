use Rattle.std.proofs.Common.{◌∷◌, arith}
use Rattle.lc_sexp.specs.Trees.{close_list}
use Rattle.lc_sexp.proofs.Nodes.{lexed_close}
use Rattle.lc_sexp.proofs.Splits.{close_step, bracket_alone}
use Rattle.lc_sexp.proofs.splitter.Splitter.end_form.Goals as goal

pub returns-clause-splits : goal.returns-clause-splits
returns-clause-splits c = λ whole rest taken byte k inside o h.
    close_step whole (λ x. byte ∷ rest x) rest taken c.args.self.now c.push_list.new.self c.in_ok-self.field-0 inside o c.in_ok-push_list.ensures c.in_ok-self.ensures
    (λ x. bracket_alone c.args.self.now close_list byte (rest x) o h.rooted (let n = c.args.self.now.machine.text.ok.0 in omega (arith, n, c.requires.ended)) (lexed_close byte (rest x) k)) h
