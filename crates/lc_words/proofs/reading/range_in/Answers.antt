use Rattle.std.proofs.Common.{None, Some, refl, sym, ◌∙◌}
use Rattle.lc_words.specs.Reading.{number_in}
use Rattle.lc_words.proofs.Ranges.{range_between, range_cut, range_cut_once, range_said, range_uncut}
use Rattle.lc_words.proofs.reading.range_in.Goals as goal

pub returns-in_err-first_text : goal.returns-in_err-first_text
returns-in_err-first_text c = rw c.from_residual.ensures (range_uncut c.args.text.now c.in_err-first_text.ensures)

pub returns-in_err-between : goal.returns-in_err-between
returns-in_err-between c =
    let cut = c.in_ok-first_text in
    rw c.from_residual-in_err-between.ensures (range_cut_once c.args.text.now cut.first_text.now cut.rest.now cut.ensures c.in_err-between.ensures)

pub returns-then-not-is_empty : goal.returns-then-not-is_empty
returns-then-not-is_empty c =
    let cut = c.in_ok-first_text in
    let again = c.in_ok-between in
    range_between cut.first_text.now again.between.now again.end_text.now (sym c.is_empty.ensures ∙ c.if-not-is_empty.true)
    ∙ range_cut c.args.text.now cut.first_text.now cut.rest.now again.between.now again.end_text.now cut.ensures again.ensures

pub returns-in_err-first : goal.returns-in_err-first
returns-in_err-first c =
    let cut = c.in_ok-first_text in
    let again = c.in_ok-between in
    rw c.from_residual-in_err-first.ensures
    (range_said cut.first_text.now again.between.now again.end_text.now None (number_in again.end_text.now) (sym c.is_empty.ensures ∙ c.if-not-is_empty.false) c.in_err-first.ensures refl
    ∙ range_cut c.args.text.now cut.first_text.now cut.rest.now again.between.now again.end_text.now cut.ensures again.ensures)

pub returns-in_err-end : goal.returns-in_err-end
returns-in_err-end c =
    let cut = c.in_ok-first_text in
    let again = c.in_ok-between in
    rw c.from_residual-in_err-end.ensures
    (range_said cut.first_text.now again.between.now again.end_text.now (Some c.in_ok-first.first) None (sym c.is_empty.ensures ∙ c.if-not-is_empty.false) c.in_ok-first.ensures c.in_err-end.ensures
    ∙ range_cut c.args.text.now cut.first_text.now cut.rest.now again.between.now again.end_text.now cut.ensures again.ensures)

pub returns : goal.returns
returns c =
    let cut = c.in_ok-first_text in
    let again = c.in_ok-between in
    range_said cut.first_text.now again.between.now again.end_text.now (Some c.in_ok-first.first) (Some c.in_ok-end.end) (sym c.is_empty.ensures ∙ c.if-not-is_empty.false) c.in_ok-first.ensures c.in_ok-end.ensures
    ∙ range_cut c.args.text.now cut.first_text.now cut.rest.now again.between.now again.end_text.now cut.ensures again.ensures
