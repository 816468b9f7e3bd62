use Rattle.std.proofs.Common.{ℕ, List, ◌∷◌, ◌++◌, flat_map, take, get_or, ap, sym, ◌∙◌}
use Rattle.std.specs.Fmt.{decimal}
use Rattle.std.proofs.lemmas.List.{flat_map_more, take_more}
use Rattle.lc_base.proofs.line.write_line.Goals as goal

pub loop-number-preserved : goal.loop-number-preserved
loop-number-preserved c =
    let part : ℕ → List ℕ = λ n. 32 ∷ decimal n in
    let i = c.loop-number.number-index in
    let numbers = c.args.numbers.now in
    c.in_ok-extend_from_slice.ensures.items
    ∙ ap (λ x. c.loop-number.line.items ++ x) (c.as_bytes-in-loop-number.ensures.value ∙ c.in_ok-text.ensures.ok)
    ∙ ap (λ x. x ++ part (get_or numbers i 0)) c.loop-number.invariant
    ∙ flat_map_more part c.args.word.now (take i numbers) (get_or numbers i 0)
    ∙ ap (λ xs. c.args.word.now ++ flat_map part xs) (sym (take_more numbers i 0 c.loop-number-test.true))
