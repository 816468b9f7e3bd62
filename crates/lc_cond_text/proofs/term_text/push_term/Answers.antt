use Rattle.std.proofs.Common.{rules, ◌≡◌, ◌++◌, ◌∙◌, ap, true, [], sym, subst}
use Rattle.lc_table.specs.Tables.{term_in}
use Rattle.lc_text.specs.Spelled.{spelled_term}
use Rattle.lc_outline.specs.DevelopmentView.{development_view}
use Rattle.lc_cond_text.specs.ConditionText.{spelled}
use Rattle.lc_cond_text.specs.Waiting.{AreWaiting, GoesOn}
use Rattle.lc_cond_text.proofs.Waiting.{last_waits, one_more, all_written}
use Rattle.lc_cond_text.proofs.term_text.push_term.Goals as goal

pub begin_parts-requires-clause-waiting : goal.begin_parts-requires-clause-waiting
begin_parts-requires-clause-waiting c =
    let none : c.new-waiting.result.items ≡ [] = search rules in
    subst (AreWaiting c.args.terms.now) (sym none) tt

pub loop-init : goal.loop-init
loop-init c =
    let ts = c.args.terms.now in
    let by = spelled (development_view c.args.development.now) in
    let d = c.args.depth in
    let none : c.new-waiting.result.items ≡ [] = search rules in
    let nothing : c.push_read.new.out.items ≡ c.args.out.now.items = search rules in
    let text = spelled_term by d (term_in ts c.args.term) in
    subst (λ out. GoesOn by d ts out [] text c.begin_parts.new.out.items c.begin_parts.new.waiting.items) nothing
    (subst (λ ws. GoesOn by d ts c.push_read.new.out.items ws text c.begin_parts.new.out.items c.begin_parts.new.waiting.items) none (c.in_ok-begin_parts.ensures by d))

pub returns-in_default : goal.returns-in_default
returns-in_default c =
    let none : c.loop.waiting.items ≡ [] = search rules in
    all_written (spelled (development_view c.args.development.now)) c.args.depth c.args.terms.now c.args.out.now.items _ c.loop.out.items c.loop.waiting.items c.loop.invariant none

pub go_on-requires-clause-next : goal.go_on-requires-clause-next
go_on-requires-clause-next c = (last_waits c.args.terms.now c.loop.waiting.items c.pop.new.self.items c.in-Some.next c.in-Some.ensures.items c.loop.invariant.waits).1

pub go_on-requires-clause-waiting : goal.go_on-requires-clause-waiting
go_on-requires-clause-waiting c = (last_waits c.args.terms.now c.loop.waiting.items c.pop.new.self.items c.in-Some.next c.in-Some.ensures.items c.loop.invariant.waits).0

pub loop-preserved : goal.loop-preserved
loop-preserved c =
    one_more (spelled (development_view c.args.development.now)) c.args.depth c.args.terms.now c.args.out.now.items [] c.loop.waiting.items c.pop.new.self.items c.go_on.new.waiting.items c.in-Some.next _
    c.loop.out.items c.go_on.new.out.items c.loop.invariant c.in-Some.ensures.items c.in_ok-go_on.ensures

pub returns-then-branch : goal.returns-then-branch
returns-then-branch c =
    let simple : c.in_ok-push_simple.field-0 ≡ true = search rules in
    c.in_ok-push_simple.ensures.written (development_view c.args.development.now) simple

pub returns-then-branch-2 : goal.returns-then-branch-2
returns-then-branch-2 c =
    let by = spelled (development_view c.args.development.now) in
    let read : c.in_ok-push_read.field-0 ≡ true = search rules in
    let nothing : c.push_simple.new.out.items ≡ c.args.out.now.items = search rules in
    c.in_ok-push_read.ensures.written read ∙ ap (λ l. l ++ spelled_term by c.args.depth (term_in c.args.terms.now c.args.term)) nothing
