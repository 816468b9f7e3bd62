use Rattle.std.proofs.Common.{inl, inr}
use Rattle.lc_machine.specs.Step.{Invoked}
use Rattle.lc_run.specs.Locked.{client_in, labels_made}
use Rattle.lc_run.specs.Running.{IsLeftBy, IsUncalled}
use Rattle.lc_run.proofs.Calling.{never-idle, run-goes, unbegun-left, under-way, unstepped-left, unstepped-still}
use Rattle.lc_run.proofs.Growing.{handed-on, run-first}
use Rattle.lc_run.proofs.runner.Runner.call.Goals as goal

pub loop-turn-init : goal.loop-turn-init
loop-turn-init g c =
    let seat = c.args.seat.now in
    (c.in_ok-begin.ensures.same, run-first (Invoked c.args.operation.0 c.args.numbers.now) (client_in seat) (labels_made seat) (labels_made c.begin.new.seat) c.in_ok-begin.ensures.ok)

pub returns-in_err-begin-clause-left : goal.returns-in_err-begin-clause-left
returns-in_err-begin-clause-left g c =
    let seat = c.args.seat.now in
    let op = c.args.operation.0 in
    let ns = c.args.numbers.now in
    let after = labels_made c.begin.new.seat in
    let fault = c.in_err-begin.field-0.0 in
    handed-on (λ e. IsLeftBy e c.args.turns (Invoked op ns) (client_in seat) (labels_made seat) after) c.from_residual.result fault c.from_residual.ensures.1
    (unbegun-left seat op ns c.args.turns (client_in seat) (labels_made seat) after fault c.in_err-begin.ensures.fault c.in_err-begin.ensures.err)

pub returns-in_err-begin-clause-fault : goal.returns-in_err-begin-clause-fault
returns-in_err-begin-clause-fault g c =
    let fault = c.in_err-begin.field-0.0 in
    handed-on (IsUncalled c.args.seat.now c.begin.new.seat c.args.operation.0 c.args.numbers.now c.args.turns) c.from_residual.result fault c.from_residual.ensures.1
    (inl (c.in_err-begin.ensures.fault, c.in_err-begin.ensures.err))

pub returns-in_err-reply-clause-left : goal.returns-in_err-reply-clause-left
returns-in_err-reply-clause-left g c =
    let seat = c.args.seat.now in
    let mid = c.loop-turn.seat in
    let last = c.step.new.seat in
    let op = c.args.operation.0 in
    let ns = c.args.numbers.now in
    let fault = c.in_err-reply.field-0.0 in
    let told = c.in_err-reply.ensures in
    let left = under-way (Invoked op ns) (client_in seat) c.loop-turn._turn c.args.turns (labels_made seat) (labels_made mid) (labels_made last) c.loop-turn.invariant.1 c.loop-turn-test.true told.err in
    handed-on (λ e. IsLeftBy e c.args.turns (Invoked op ns) (client_in seat) (labels_made seat) (labels_made last)) c.from_residual-in_err-reply.result fault c.from_residual-in_err-reply.ensures.1
    (unstepped-left last op ns c.args.turns (client_in seat) (labels_made seat) fault (unstepped-still mid last fault told.same told.err told.fault) left)

pub returns-in_err-reply-clause-fault : goal.returns-in_err-reply-clause-fault
returns-in_err-reply-clause-fault g c =
    let seat = c.args.seat.now in
    let mid = c.loop-turn.seat in
    let last = c.step.new.seat in
    let op = c.args.operation.0 in
    let ns = c.args.numbers.now in
    let fault = c.in_err-reply.field-0.0 in
    let told = c.in_err-reply.ensures in
    let left = under-way (Invoked op ns) (client_in seat) c.loop-turn._turn c.args.turns (labels_made seat) (labels_made mid) (labels_made last) c.loop-turn.invariant.1 c.loop-turn-test.true told.err in
    handed-on (IsUncalled seat last op ns c.args.turns) c.from_residual-in_err-reply.result fault c.from_residual-in_err-reply.ensures.1 (inr (unstepped-still mid last fault told.same told.err told.fault, left))

pub returns-in_err-reply-clause-never : goal.returns-in_err-reply-clause-never
returns-in_err-reply-clause-never g c =
    let seat = c.args.seat.now in
    let mid = labels_made c.loop-turn.seat in
    never-idle c.from_residual-in_err-reply.result c.in_err-reply.field-0.0 mid c.from_residual-in_err-reply.ensures.1
    (run-goes c.args.operation.0 c.args.numbers.now (client_in seat) c.loop-turn._turn (labels_made seat) mid c.loop-turn.invariant.1) c.in_err-reply.ensures.idle.0
