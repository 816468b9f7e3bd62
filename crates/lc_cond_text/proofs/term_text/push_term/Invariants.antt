use Rattle.std.proofs.Common.{[]}
use Rattle.lc_table.specs.Tables.{term_in}
use Rattle.lc_text.specs.Spelled.{spelled_term}
use Rattle.lc_outline.specs.DevelopmentView.{development_view}
use Rattle.lc_cond_text.specs.ConditionText.{spelled}
use Rattle.lc_cond_text.specs.Waiting.{GoesOn}
use Rattle.lc_cond_text.proofs.term_text.push_term.Given as goal

-- what is written, with what waits, is all
abbrev pub invariant-loop : goal.invariant-loop
invariant-loop l =
    let by = spelled (development_view l.development) in
    GoesOn by l.depth l.terms l.fn.out.items [] (spelled_term by l.depth (term_in l.terms l.fn.term)) l.out.items l.waiting.items
