use Rattle.std.proofs.Common.{Some, None, cond, ap, ◌∙◌}
use Rattle.std.proofs.lemmas.Result.{on_ok_weaker}
use Rattle.std.specs.Option.{option_or}
use Rattle.lc_carry.proofs.Noted.{holds_after_noting, keys_later, keys_noted, listed_later, number_noted}
use Rattle.lc_carry.specs.Pieces.{kept_in}
use Rattle.lc_carry.specs.TextNumbers.{number_of, listed, noted, AreKeys}
use Rattle.lc_reading.specs.Words.{is}
use Rattle.lc_carry.proofs.text_numbers.TextNumbers.note.Goals as goal

pub invariant_of-self : goal.invariant_of-self
invariant_of-self c = keys_later (kept_in c.self.inside.kept.keys) (kept_in c.enter.new.kept.keys) c.self.inside.numbers.entries c.in_err-key.ensures.kept c.self.invariant

pub invariant_of-self-2 : goal.invariant_of-self-2
invariant_of-self-2 c =
    let kept = kept_in c.enter.new.kept.keys in
    let es = c.self.inside.numbers.entries in
    let all = keys_later (kept_in c.self.inside.kept.keys) kept es c.in_ok-key.ensures.kept c.self.invariant in
    holds_after_noting c.note_key.result (AreKeys kept) c.note_key.new.numbers.entries (noted es c.in_ok-key.key c.args.number) es c.note_key.ensures.noted c.note_key.ensures.unchanged
    (keys_noted kept es c.args.text.now c.in_ok-key.key c.args.number all c.in_ok-key.ensures.key) all

pub returns : goal.returns
returns c =
    let kept = kept_in c.enter.new.kept.keys in
    let es = c.self.inside.numbers.entries in
    let text = c.args.text.now in
    let all = keys_later (kept_in c.self.inside.kept.keys) kept es c.in_ok-key.ensures.kept c.self.invariant in
    let same = listed_later (kept_in c.self.inside.kept.keys) kept es c.in_ok-key.ensures.kept c.self.invariant ∙ c.self.view_is in
    on_ok_weaker c.note_key.result
    (λ e t. ap (λ l. number_of (listed kept l) t) e ∙ number_noted kept es text c.in_ok-key.key c.args.number all c.in_ok-key.ensures.key t
    ∙ ap (λ l. option_or (number_of l t) (cond (is t text) (Some c.args.number) None)) same) c.note_key.ensures.noted
