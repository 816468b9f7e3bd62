use Rattle.std.proofs.Common.{◌+◌, [], ◌∷◌, ◌++◌, drop, sym, ap, ◌∙◌, append_assoc}
use Rattle.std.proofs.lemmas.List.{drop_more}
use Rattle.lc_explain.specs.Located.{blanks}
use Rattle.lc_explain.proofs.locating.blanks.Goals as goal

pub loop-digit-preserved : goal.loop-digit-preserved
loop-digit-preserved c =
    let digits = c.args.digits.now in
    let i = c.loop-digit._digit-index in
    let text = c.loop-digit.text.items in
    ap (λ x. x ++ blanks (drop (i + 1) digits)) c.in_ok-push.ensures.items
    ∙ append_assoc text (32 ∷ []) (blanks (drop (i + 1) digits))
    ∙ ap (λ x. text ++ blanks x) (sym (drop_more digits i 0 c.loop-digit-test.true))
    ∙ c.loop-digit.invariant
