use Rattle.std.proofs.Common.{◌≡◌, ◌∙◌, ◌<◌, ℕ, Bool, Option, List, [], length, All, ap, sym, subst, vec_len, arith}
use Rattle.std.specs.Prelude.{IfSome}
use Rattle.lc_history.specs.Histories.{events_in}
use Rattle.lc_history.specs.History.{count}
use Rattle.lc_history.specs.View.{entries_view, events_of}
use Rattle.lc_history.specs.WellFormed.{begins}
use Rattle.lc_draw.specs.Counting.{IsUpTo, is_between, numbered_places}
use Rattle.lc_draw.specs.Drawings.{event_in, marked}
use Rattle.lc_draw.specs.Stretches.{count_such, such_calls}
use Rattle.lc_draw.proofs.Stretching.{between-has, between-within, calls-length}
use Rattle.lc_draw.proofs.Turning.{numbers-are, places-are}
use Rattle.lc_draw.proofs.picture.laid_out.Goals as goal

pub marks_of-requires : goal.marks_of-requires
marks_of-requires c =
    let calls = c.in_ok-calls.calls in
    let stretch = c.args.stretch.now in
    let events = events_in c.args.history.now in
    let up = subst (λ es. IsUpTo es (vec_len calls.calls) calls.turns.entries calls.numbers.entries) c.events.ensures c.in_ok-calls.ensures in
    let are =
    numbers-are (is_between stretch.begun.entries stretch.returned.entries) events (vec_len calls.calls) calls.turns.entries calls.numbers.entries
    (between-has stretch.from stretch.until events stretch.begun.entries stretch.returned.entries c.requires) up (entries_view c.args.order.now) in
    let size : vec_len calls.calls ≡ length c.deref-4.result.now = omega arith in
    subst (λ (k : ℕ). All (λ number. IfSome number (λ n. n < k)) c.deref-5.result.now) size
    (subst (λ (l : List (Option ℕ)). All (λ number. IfSome number (λ n. n < vec_len calls.calls)) l) (sym (c.deref-5.ensures.value ∙ c.in_ok-bar_of_entry.ensures)) are.below)

pub returns-clause-lengths : goal.returns-clause-lengths
returns-clause-lengths c =
    let calls = c.in_ok-calls.calls in
    let stretch = c.args.stretch.now in
    let up = subst (λ es. IsUpTo es (vec_len calls.calls) calls.turns.entries calls.numbers.entries) c.events.ensures c.in_ok-calls.ensures in
    let are = up.calls_are in
    let held : length c.in_ok-held.held.items ≡ count begins (events_in c.args.history.now) =
    ap length c.in_ok-held.ensures ∙ (calls-length (is_between stretch.begun.entries stretch.returned.entries) [] (events_of c.events-2.result.now) ∙ ap (count begins) c.events-2.ensures) in
    omega arith

pub returns-clause-bars : goal.returns-clause-bars
returns-clause-bars c =
    let stretch = c.args.stretch.now in
    let events = events_in c.args.history.now in
    ap (count (λ is. is)) (c.in_ok-held.ensures ∙ ap (such_calls (is_between stretch.begun.entries stretch.returned.entries) []) c.events-2.ensures)
    ∙ ap (λ (test : ℕ → ℕ → Bool). count_such test events) (between-within stretch.from stretch.until events stretch.begun.entries stretch.returned.entries c.requires)

pub returns-clause-marks : goal.returns-clause-marks
returns-clause-marks c =
    let calls = c.in_ok-calls.calls in
    let stretch = c.args.stretch.now in
    let events = events_in c.args.history.now in
    let order = entries_view c.args.order.now in
    let test = is_between stretch.begun.entries stretch.returned.entries in
    let up = subst (λ es. IsUpTo es (vec_len calls.calls) calls.turns.entries calls.numbers.entries) c.events.ensures c.in_ok-calls.ensures in
    let are =
    numbers-are test events (vec_len calls.calls) calls.turns.entries calls.numbers.entries (between-has stretch.from stretch.until events stretch.begun.entries stretch.returned.entries c.requires) up order in
    c.in_ok-marks.ensures
    ∙ (ap (numbered_places 0) (c.deref-5.ensures.value ∙ c.in_ok-bar_of_entry.ensures)
    ∙ (places-are test [] order 0 _ are.which ∙ ap (λ (test : ℕ → ℕ → Bool). marked test [] 0 order) (between-within stretch.from stretch.until events stretch.begun.entries stretch.returned.entries c.requires)))

pub returns-clause-cut : goal.returns-clause-cut
returns-clause-cut c = c.cut_of-cut.ensures ∙ ap (λ es. event_in es c.args.event) c.events-3.ensures
