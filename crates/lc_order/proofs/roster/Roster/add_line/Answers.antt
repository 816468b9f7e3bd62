use Rattle.std.proofs.Common.{◌≡◌, ◌==◌, Some, cond, length, ap, ◌∙◌, arith}
use Rattle.lc_order.specs.Rosters.{line_of, calls_in, returns_in}
use Rattle.lc_order.specs.declared.roster.Line.{Line}
use Rattle.lc_order.specs.declared.roster.Roster.{Roster}
use Rattle.lc_order.proofs.Rosters.{roster_line_added, added-told}
use Rattle.lc_order.proofs.roster.Roster.add_line.Goals as goal

pub returns-clause-roster : goal.returns-clause-roster
returns-clause-roster c =
    let old = c.args.self.now in
    let line : Line = record { client = c.args.client; calls = c.new.result; returns = c.new-2.result } in
    let new : Roster = record { lines = c.push.new.self; index = c.set_line.new.index } in
    let size : c.len-line.result ≡ length old.lines.items = omega arith in
    roster_line_added old new line c.requires.roster c.in_ok-push.ensures.items (λ k. c.in_ok-set_line.ensures k ∙ ap (λ z. cond (k == c.args.client) (Some z) (line_of old k)) size) c.requires.none

pub returns-clause-calls : goal.returns-clause-calls
returns-clause-calls c =
    let old = c.args.self.now in
    let line : Line = record { client = c.args.client; calls = c.new.result; returns = c.new-2.result } in
    let new : Roster = record { lines = c.push.new.self; index = c.set_line.new.index } in
    let size : c.len-line.result ≡ length old.lines.items = omega arith in
    added-told calls_in old new line c.new.ensures.items c.requires.roster c.in_ok-push.ensures.items (λ k. c.in_ok-set_line.ensures k ∙ ap (λ z. cond (k == c.args.client) (Some z) (line_of old k)) size) c.requires.none

pub returns-clause-returns : goal.returns-clause-returns
returns-clause-returns c =
    let old = c.args.self.now in
    let line : Line = record { client = c.args.client; calls = c.new.result; returns = c.new-2.result } in
    let new : Roster = record { lines = c.push.new.self; index = c.set_line.new.index } in
    let size : c.len-line.result ≡ length old.lines.items = omega arith in
    added-told returns_in old new line c.new-2.ensures.items c.requires.roster c.in_ok-push.ensures.items (λ k. c.in_ok-set_line.ensures k ∙ ap (λ z. cond (k == c.args.client) (Some z) (line_of old k)) size) c.requires.none
