use Rattle.std.proofs.Common.{ℕ, ◌-◌, ◌<◌, List, ◌++◌, length, take, drop, vec_len, sym, ap, ◌∙◌, arith, length-drop}
use Rattle.lc_sexp.specs.Text.{uncommented}
use Rattle.lc_sexp.specs.CutFiles.{ends_in_comment}
use Rattle.lc_sexp.specs.Progress.{told, fault_from}
use Rattle.lc_sexp.proofs.Runs.{bytes_parted_at, parted_last, taken_on, comment_on, tail_of, all_taken, cut_short, eq_false_differ, fault_full}
use Rattle.lc_sexp.proofs.machine.Machine.push_all.Goals as goal

pub returns-then-count-eq0-clause-wrong : goal.returns-then-count-eq0-clause-wrong
returns-then-count-eq0-clause-wrong c = λ stopped rest.
    let m = c.args.self.now in
    let within : List ℕ = c.within_limit-within.result.now in
    let front = c.within_limit-within.ensures.front in
    let at : ℕ = c.loop-at.at in
    ap (λ x. fault_from m.offset (vec_len m.holes) (uncommented m.in_comment x)) (parted_last c.args.bytes.now within front.0 rest front.1 ∙ bytes_parted_at at within (front.0 ++ rest))
    ∙ sym (c.loop-at.invariant.fault (take (length within - at) (drop at within) ++ (front.0 ++ rest)))
    ∙ c.in_ok-count.ensures.wrong c.if-count-eq0.true (front.0 ++ rest)

pub loop-at-preserved : goal.loop-at-preserved
loop-at-preserved c =
    let m = c.args.self.now in
    let within : List ℕ = c.within_limit-within.result.now in
    let at : ℕ = c.loop-at.at in
    let count : ℕ = c.in_ok-count.count in
    let tail : List ℕ = take (length within - at) (drop at within) in
    let pushed = c.in_ok-count.ensures in
    let some : 0 < count = omega (arith, c.if-count-eq0.false) in
    record {
      within = omega (arith, pushed.within, ap length (tail_of at within), length-drop at within, c.loop-at.invariant.within);
      offset = omega (arith, pushed.offset, c.loop-at.invariant.offset);
      comment =
          pushed.comment some ∙ ap (λ b. ends_in_comment b (take count tail)) c.loop-at.invariant.comment ∙ comment_on m.in_comment at count within;
      told = λ rest.
          pushed.told some rest ∙ c.loop-at.invariant.told (take count tail ++ rest)
          ∙ ap (λ x. told m.text.items m.start m.nodes.items (uncommented m.in_comment x)) (taken_on at count within rest);
      fault = λ rest.
          pushed.fault some rest ∙ c.loop-at.invariant.fault (take count tail ++ rest)
          ∙ ap (λ x. fault_from m.offset (vec_len m.holes) (uncommented m.in_comment x)) (taken_on at count within rest);
    }

pub returns-clause-wrong : goal.returns-clause-wrong
returns-clause-wrong c = λ cut rest.
    let m = c.args.self.now in
    let m' = c.loop-at.self in
    let within : List ℕ = c.within_limit-within.result.now in
    let front = c.within_limit-within.ensures.front in
    let at : ℕ = c.loop-at.at in
    let short = cut_short c.args.bytes.now within front.0 front.1 (eq_false_differ _ _ cut) in
    let full = c.within_limit-within.ensures.full short.1 in
    ap (λ x. fault_from m.offset (vec_len m.holes) (uncommented m.in_comment x))
    (parted_last c.args.bytes.now within front.0 rest front.1 ∙ ap (λ x. x ++ (front.0 ++ rest)) (sym (all_taken at within c.loop-at-test.false)))
    ∙ sym (c.loop-at.invariant.fault (front.0 ++ rest))
    ∙ fault_full m'.in_comment m'.offset (vec_len m'.holes) front.0 rest short.0 (omega (arith, full, c.loop-at.invariant.offset, c.loop-at.invariant.within, c.loop-at-test.false))
