use Rattle.std.proofs.Common.{◌≡◌, false, [], ◌∷◌, ◌++◌, None, refl, sym, ap, ◌∙◌}
use Rattle.std.proofs.lemmas.Result.{IfOk-weaker}
use Rattle.lc_sexp.specs.CutFiles.{ends_in_comment}
use Rattle.lc_sexp.specs.Pieces.{HasTaken}
use Rattle.lc_sexp.proofs.Pieced.{taken_after_others, stopped_no_piece, if_both}
use Rattle.lc_sexp.proofs.piece.push_bracketed.Goals as goal

pub returns-then-not-front-clause-none : goal.returns-then-not-front-clause-none
returns-then-not-front-clause-none c = λ went.
    stopped_no_piece c.args.machine.now c.push_all.new.self.offset [] (40 ∷ []) (c.args.text.now ++ 41 ∷ []) c.args.text.now
    c.requires.taken (c.in_ok-front.ensures.wrong c.if-not-front.true) refl

pub returns-then-not-whole-clause-none : goal.returns-then-not-whole-clause-none
returns-then-not-whole-clause-none c = λ went.
    let front = c.in_ok-front.ensures in
    stopped_no_piece c.push_all.new.self c.push_all-2.new.self.offset (40 ∷ []) c.args.text.now (41 ∷ []) c.args.text.now
    (taken_after_others c.args.machine.now c.push_all.new.self [] (40 ∷ []) c.requires.taken (front.told c.if-not-front.false) (front.fault c.if-not-front.false))
    (c.in_ok-whole.ensures.wrong c.if-not-whole.true) refl

pub returns-clause-went : goal.returns-clause-went
returns-clause-went c =
    let text = c.args.text.now in
    let front = c.in_ok-front.ensures in
    let whole = c.in_ok-whole.ensures in
    let opened : c.push_all.new.self.in_comment ≡ false = front.comment c.if-not-front.false ∙ ap (λ b. ends_in_comment b (40 ∷ [])) c.requires.outside in
    let outside : ends_in_comment false text ≡ false =
    ap (λ b. ends_in_comment b text) (sym opened) ∙ sym (whole.comment c.if-not-whole.false) ∙ sym c.in_comment.ensures ∙ c.if-in_comment.false in
    let first : HasTaken None c.push_all.new.self (40 ∷ []) =
    taken_after_others c.args.machine.now c.push_all.new.self [] (40 ∷ []) c.requires.taken (front.told c.if-not-front.false) (front.fault c.if-not-front.false) in
    let most : HasTaken None c.push_all-2.new.self (40 ∷ text) =
    taken_after_others c.push_all.new.self c.push_all-2.new.self (40 ∷ []) text first (whole.told c.if-not-whole.false) (whole.fault c.if-not-whole.false) in
    if_both c.push_all-3.result _ _ _
    (λ v tells faults went. (outside, taken_after_others c.push_all-2.new.self c.push_all-3.new.self (40 ∷ text) (41 ∷ []) most (tells went) (faults went)))
    c.push_all-3.ensures.told c.push_all-3.ensures.fault

pub returns-clause-none : goal.returns-clause-none
returns-clause-none c =
    let text = c.args.text.now in
    let front = c.in_ok-front.ensures in
    let whole = c.in_ok-whole.ensures in
    let first : HasTaken None c.push_all.new.self (40 ∷ []) =
    taken_after_others c.args.machine.now c.push_all.new.self [] (40 ∷ []) c.requires.taken (front.told c.if-not-front.false) (front.fault c.if-not-front.false) in
    let most : HasTaken None c.push_all-2.new.self (40 ∷ text) =
    taken_after_others c.push_all.new.self c.push_all-2.new.self (40 ∷ []) text first (whole.told c.if-not-whole.false) (whole.fault c.if-not-whole.false) in
    IfOk-weaker c.push_all-3.result _ _
    (λ v wrong went. stopped_no_piece c.push_all-2.new.self c.push_all-3.new.self.offset (40 ∷ text) (41 ∷ []) [] text most (wrong went) refl) c.push_all-3.ensures.wrong
