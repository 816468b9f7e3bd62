use Rattle.std.proofs.Common.{◌≡◌, ◌∷◌, true, false, length, ap, sym, ◌∙◌, arith}
use Rattle.lc_sexp.specs.Trees.{open_list}
use Rattle.lc_sexp.proofs.Nodes.{lexed_open}
use Rattle.lc_sexp.proofs.Splits.{machine_step, open_step, bracket_alone, bracket_taken}
use Rattle.lc_sexp.proofs.splitter.Splitter.open_list.Goals as goal

pub returns-then-self-clause-splits : goal.returns-then-self-clause-splits
returns-then-self-clause-splits c = λ whole rest taken byte k h.
    let n = c.args.self.now.machine.text.ok.0 in
    machine_step whole (λ x. byte ∷ rest x) rest taken c.args.self.now c.open_list.new.self
    (λ x. bracket_taken c.args.self.now.machine c.open_list.new.self open_list byte (rest x) c.in_ok-open_list.ensures.told
    (omega (arith, n, c.requires.ended)) (omega (arith, n, c.requires.ended, c.open_list.ensures.start, ap (λ v. length v.items) c.open_list.ensures.text)) (lexed_open byte (rest x) k))
    c.in_ok-open_list.ensures.rooted (λ e o. absurd (let f : true ≡ false = sym c.if-self.true ∙ e in cc)) h

pub returns-clause-splits : goal.returns-clause-splits
returns-clause-splits c = λ whole rest taken byte k h.
    open_step whole (λ x. byte ∷ rest x) rest taken c.args.self.now c.in_ok-self.field-0 c.if-self.false c.in_ok-self.ensures
    (λ x. bracket_alone c.args.self.now open_list byte (rest x) (h.outside c.if-self.false) h.rooted (let n = c.args.self.now.machine.text.ok.0 in omega (arith, n, c.requires.ended)) (lexed_open byte (rest x) k)) h
