use Rattle.std.proofs.Common.{◌≡◌, ◌++◌, ℕ, ◌∷◌, [], ◌==◌, ◌&&◌, not, Bool, true, false, List, Some, cond, slice_get, refl, ap, ◌∙◌}
use Rattle.std.proofs.lemmas.Option.{slice_get_within}
use Rattle.std.specs.Vec.{with_item}
use Rattle.lc_history.proofs.Tables.{element_at}
use Rattle.lc_order.specs.Rosters.{calls_in, returns_in, calls_of, returns_of}
use Rattle.lc_order.specs.declared.roster.Line.{Line}
use Rattle.lc_order.specs.declared.roster.Roster.{Roster}
use Rattle.lc_order.proofs.Rosters.{roster_line_replaced, noted-told}
use Rattle.lc_order.proofs.roster.Roster.note.Goals as goal
use Rattle.lc_order.proofs.roster.Roster.note.Goals.{In_ok-note}

-- two tests in one
joined : (a b : Bool) (xs : List ℕ) → cond a (cond b xs []) [] ≡ cond (a && b) xs []
joined true b xs = refl
joined false b xs = refl

joined_not : (a b : Bool) (xs : List ℕ) → cond a (cond b [] xs) [] ≡ cond (a && not b) xs []
joined_not true true xs = refl
joined_not true false xs = refl
joined_not false b xs = refl

-- the line to which is noted, and its client
here : (c : In_ok-note) → slice_get c.line_for.new.self.lines.items c.in_ok-line.line ≡ Some c.index_mut.result.now
here c =
    let found = c.in_ok-line.ensures.roster.there c.args.client c.in_ok-line.line c.in_ok-line.ensures.line in
    element_at c.line_for.new.self.lines.items c.in_ok-line.line c.index_mut.result.now (slice_get_within c.line_for.new.self.lines.items c.in_ok-line.line found.0 found.1) c.index_mut.ensures.value

client : (c : In_ok-note) → c.index_mut.result.now.client ≡ c.args.client
client c =
    let found = c.in_ok-line.ensures.roster.there c.args.client c.in_ok-line.line c.in_ok-line.ensures.line in
    let at = here c in
    let same : c.index_mut.result.now ≡ found.0 = cc (at, found.1) in
    ap (λ (z : Line). z.client) same ∙ found.2

pub returns-clause-roster : goal.returns-clause-roster
returns-clause-roster c =
    let old = c.line_for.new.self in
    let new : Roster = record { lines = with_item old.lines c.in_ok-line.line c.note.new.self; index = old.index } in
    roster_line_replaced old new c.in_ok-line.line c.index_mut.result.now c.note.new.self c.in_ok-line.ensures.roster (here c) c.in_ok-note.ensures.client refl refl

pub returns-clause-calls : goal.returns-clause-calls
returns-clause-calls c k =
    let old = c.line_for.new.self in
    let new : Roster = record { lines = with_item old.lines c.in_ok-line.line c.note.new.self; index = old.index } in
    let more = cond c.args.begins (c.args.place ∷ []) [] in
    noted-told calls_in old new c.in_ok-line.line c.index_mut.result.now c.note.new.self more c.in_ok-note.ensures.calls c.in_ok-line.ensures.roster (here c) refl refl k
    ∙ ap (λ xs. xs ++ cond (c.index_mut.result.now.client == k) more []) (c.in_ok-line.ensures.calls k)
    ∙ ap (λ d. calls_of c.args.self.now k ++ cond (d == k) more []) (client c)
    ∙ ap (λ xs. calls_of c.args.self.now k ++ xs) (joined (c.args.client == k) c.args.begins (c.args.place ∷ []))

pub returns-clause-returns : goal.returns-clause-returns
returns-clause-returns c k =
    let old = c.line_for.new.self in
    let new : Roster = record { lines = with_item old.lines c.in_ok-line.line c.note.new.self; index = old.index } in
    let more = cond c.args.begins [] (c.args.place ∷ []) in
    noted-told returns_in old new c.in_ok-line.line c.index_mut.result.now c.note.new.self more c.in_ok-note.ensures.returns c.in_ok-line.ensures.roster (here c) refl refl k
    ∙ ap (λ xs. xs ++ cond (c.index_mut.result.now.client == k) more []) (c.in_ok-line.ensures.returns k)
    ∙ ap (λ d. returns_of c.args.self.now k ++ cond (d == k) more []) (client c)
    ∙ ap (λ xs. returns_of c.args.self.now k ++ xs) (joined_not (c.args.client == k) c.args.begins (c.args.place ∷ []))
