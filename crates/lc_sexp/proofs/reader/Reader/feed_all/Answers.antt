use Rattle.std.proofs.Common.{ℕ, ◌-◌, ◌<◌, List, ◌++◌, length, take, drop, Some, refl, sym, ap, ◌∙◌, arith, length-append, length-drop, length-take}
use Rattle.lc_sexp.specs.Splitting.{depth_of}
use Rattle.lc_sexp.proofs.Runs.{tail_of, cut_short, fault_full}
use Rattle.lc_sexp.proofs.Fed.{after_rest, after_run, after_fault, after_next, after_last, fault_before}
use Rattle.lc_sexp.proofs.reader.Reader.feed_all.Goals as goal

pub returns-then-is_some-clause-fed : goal.returns-then-is_some-clause-fed
returns-then-is_some-clause-fed c = λ fed taken h. after_rest fed c.args.piece.now taken c.args.self.now c.args.self.now refl refl (sym c.is_some.ensures ∙ c.if-is_some.true) h

pub returns-then-count-eq0-clause-fed : goal.returns-then-count-eq0-clause-fed
returns-then-count-eq0-clause-fed c = λ fed taken h.
    let within : List ℕ = c.within_limit-within.result.now in
    let front = c.within_limit-within.ensures.front in
    let at : ℕ = c.loop-at.at in
    let tail : List ℕ = take (length within - at) (drop at within) in
    let same = c.in_ok-count.ensures.same c.if-count-eq0.true in
    after_last fed c.args.piece.now within front.0 at taken _ front.1
    (after_fault (fed ++ take at within) taken (tail ++ front.0) c.loop-at.self (record c.loop-at.self { splitter = c.push_run.new.self; fault = Some c.offset.result }) c.loop-at.invariant.going
    (ap Some c.offset.ensures ∙ ap (λ s. Some s.machine.offset) same) same
    (λ rest. fault_before tail front.0 rest c.loop-at.self.splitter (c.in_ok-count.ensures.wrong c.if-count-eq0.true)) (c.loop-at.invariant.fed fed taken h))

pub loop-at-preserved : goal.loop-at-preserved
loop-at-preserved c =
    let within : List ℕ = c.within_limit-within.result.now in
    let at : ℕ = c.loop-at.at in
    let count : ℕ = c.in_ok-count.count in
    let tail : List ℕ = take (length within - at) (drop at within) in
    let pushed = c.in_ok-count.ensures in
    let some : 0 < count = omega (arith, c.if-count-eq0.false) in
    record {
      within = omega (arith, pushed.within, ap length (tail_of at within), length-drop at within, c.loop-at.invariant.within);
      offset = omega (arith, pushed.offset, c.loop-at.invariant.offset);
      going = c.loop-at.invariant.going;
      memory = c.loop-at.invariant.memory;
      fed = λ fed taken h.
          after_next fed within at count taken _
          (after_run (fed ++ take at within) taken (take count tail) c.loop-at.self (record c.loop-at.self { splitter = c.push_run.new.self }) c.loop-at.invariant.going c.loop-at.invariant.going
          (pushed.splits some) (pushed.fault some) (let n = pushed.within in omega (arith, pushed.offset, length-take count tail)) (c.loop-at.invariant.fed fed taken h));
    }

pub returns-clause-fed : goal.returns-clause-fed
returns-clause-fed c = λ fed taken h.
    let within : List ℕ = c.within_limit-within.result.now in
    let front = c.within_limit-within.ensures.front in
    let at : ℕ = c.loop-at.at in
    let tail : List ℕ = take (length within - at) (drop at within) in
    let s = c.loop-at.self.splitter in
    let short = cut_short c.args.piece.now within front.0 front.1 c.if-within-piece.false in
    let full = c.within_limit-within.ensures.full short.1 in
    after_last fed c.args.piece.now within front.0 at taken _ front.1
    (after_fault (fed ++ take at within) taken (tail ++ front.0) c.loop-at.self (record c.loop-at.self { fault = Some c.offset-2.result }) c.loop-at.invariant.going
    (ap Some c.offset-2.ensures) refl
    (λ rest. fault_full s.machine.in_comment s.machine.offset (depth_of s) (tail ++ front.0) rest (omega (arith, short.0, length-append tail front.0))
    (omega (arith, full, c.loop-at.invariant.offset, c.loop-at.invariant.within, c.loop-at-test.false)))
    (c.loop-at.invariant.fed fed taken h))
