use Rattle.std.proofs.Common.{◌+◌, sym, ◌∙◌, subst, arith}
use Rattle.lc_sexp.specs.Reads.{text_of}
use Rattle.lc_place.proofs.Texts.{step_text, length-text}
use Rattle.lc_place.proofs.Opened.{IsLastEven, opens_left, closes_left, even_more, even_same, innermost_found}
use Rattle.lc_place.proofs.open.innermost_open.Goals as goal
use Rattle.lc_place.proofs.open.innermost_open.Goals.{then-is_even_behind, else-is_even_behind}

pub loop-at-preserved : goal.loop-at-preserved
loop-at-preserved c =
    let v = c.loop-at.invariant in
    let bytes = c.args.bytes.now in
    let i = c.loop-at.at in
    let r = c.next_byte-seen.result in
    let next = c.next_byte-seen.new.in_comment in
    let s = step_text bytes i 0 r c.loop-at.in_comment next c.loop-at-test.true v.text c.next_byte-seen.ensures in
    let o = c.behind-left.ensures.opened ∙ opens_left bytes i r c.loop-at.left.opened next s v.opened in
    let k = c.behind-left.ensures.closed ∙ closes_left bytes i r c.loop-at.left.closed next s v.closed in
    record {
      text = s.rest;
      opened = o;
      closed = k;
      last = elim c.if-is_even_behind.branch [
        | then-is_even_behind w ↦
            subst (λ x. IsLastEven (text_of bytes) (i + 1) x) (sym w.innermost-is)
            (even_more bytes i r c.behind-left.result.opened c.behind-left.result.closed next s o k (sym c.is_even_behind.ensures ∙ w.if-is_even_behind.true))
        | else-is_even_behind w ↦
            subst (λ x. IsLastEven (text_of bytes) (i + 1) x) (sym w.innermost-is)
            (even_same bytes i r c.behind-left.result.opened c.behind-left.result.closed next c.loop-at.innermost s o k (sym c.is_even_behind.ensures ∙ w.if-is_even_behind.false) v.last)
      ];
    }

pub returns : goal.returns
returns c =
    let le = c.loop-at-test.false in
    innermost_found (text_of c.args.bytes.now) c.loop-at.at c.loop-at.innermost (omega (arith, length-text c.args.bytes.now)) c.loop-at.invariant.last
