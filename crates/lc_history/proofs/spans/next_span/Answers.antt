use Rattle.std.proofs.Common.{get_or, arith, ap, ◌∙◌}
use Rattle.std.proofs.lemmas.Option.{slice_get-get_or}
use Rattle.lc_history.specs.Spans.{span_of}
use Rattle.lc_history.proofs.Tables.{span_known, span_beyond, seen_next, seen_beyond, clients_same}
use Rattle.lc_history.proofs.spans.next_span.Goals as goal

pub returns-then-place-clients-clause-span : goal.returns-then-place-clients-clause-span
returns-then-place-clients-clause-span c h n are seen =
    span_beyond h c.args.clients.now c.args.client (n c.args.client) are (omega arith)

pub returns-then-place-clients-clause-seen : goal.returns-then-place-clients-clause-seen
returns-then-place-clients-clause-seen c n seen = seen_beyond n c.args.clients.now c.args.client seen (omega arith)

pub next-requires : goal.next-requires
next-requires c = c.requires c.args.client _ (slice_get-get_or c.args.clients.now c.args.client c.index-clients-place.result c.if-place-clients.false)

pub returns-clause-span : goal.returns-clause-span
returns-clause-span c h n are seen =
    let d = c.args.client in
    let client = get_or c.args.clients.now d c.index-clients-place.result in
    let known = slice_get-get_or c.args.clients.now d c.index-clients-place.result c.if-place-clients.false in
    c.next.ensures.span ∙ span_known h c.args.clients.now d client.entries client are known ∙ ap (span_of h d) (seen d client known)

pub returns-clause-clients : goal.returns-clause-clients
returns-clause-clients c h are =
    let d = c.args.client in
    let client = get_or c.args.clients.now d c.index-clients-place.result in
    let known = slice_get-get_or c.args.clients.now d c.index-clients-place.result c.if-place-clients.false in
    clients_same h c.args.clients.now d client c.next.new.self are known c.if-place-clients.false
    (ap (λ z. z.calls.items) c.next.ensures.seen) (ap (λ z. z.returns.items) c.next.ensures.seen)

pub returns-clause-seen : goal.returns-clause-seen
returns-clause-seen c n seen =
    let d = c.args.client in
    let client = get_or c.args.clients.now d c.index-clients-place.result in
    let known = slice_get-get_or c.args.clients.now d c.index-clients-place.result c.if-place-clients.false in
    seen_next n c.args.clients.now d client c.next.new.self seen known c.if-place-clients.false (ap (λ z. z.entries) c.next.ensures.seen)
