use Rattle.std.proofs.Common.{rules, ◌≡◌, true}
use Rattle.lc_table.specs.Tables.{term_in}
use Rattle.lc_text.specs.Spelled.{spelled_term}
use Rattle.lc_cond_text.specs.ConditionText.{spelled}
use Rattle.lc_cond_text.proofs.Waiting.{written_goes_on}
use Rattle.lc_cond_text.proofs.term_text.begin_term.Goals as goal

pub returns-then-branch : goal.returns-then-branch
returns-then-branch c d =
    let simple : c.in_ok-push_simple.field-0 ≡ true = search rules in
    written_goes_on (spelled d) c.args.depth c.args.terms.now c.args.out.now.items c.args.waiting.now.items (spelled_term (spelled d) c.args.depth (term_in c.args.terms.now c.args.term)) c.push_simple.new.out.items c.requires.waiting
    (c.in_ok-push_simple.ensures.written d simple)
