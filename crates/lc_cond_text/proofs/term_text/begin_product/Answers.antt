use Rattle.std.proofs.Common.{rules, ◌≡◌, ◌++◌, ◌∙◌, ap, ℕ, List, [], ◌∷◌, codes, append_assoc, to_z, of_z, w64}
use Rattle.std.specs.Fmt.{signed_decimal}
use Rattle.lc_table.specs.Tables.{term_in}
use Rattle.lc_text.specs.Spelled.{spaced, spelled_term}
use Rattle.lc_cond_text.specs.declared.term_text.Waiting.TheVariants.{Spaced, End}
use Rattle.lc_cond_text.proofs.Waiting.{goes_on}
use Rattle.lc_cond_text.proofs.term_text.begin_product.Goals as goal

grouped : (w n a e : List ℕ) → (w ++ n) ++ (([] ++ a) ++ e) ≡ ((w ++ n) ++ a) ++ e
grouped w n a e = simp append_assoc

pub returns : goal.returns
returns c by d ts is all =
    let same : to_z w64 (of_z w64 c.args.factor) ≡ c.args.factor = search rules in
    goes_on by d ts _ _ _ _ _ (End ∷ Spaced c.args.term ∷ []) (codes "(* " ++ signed_decimal c.args.factor) all (tt, (is, tt))
    (c.in_ok-push_integer.ensures ∙ ap (λ z. c.push_text.new.out.items ++ signed_decimal z) same ∙ ap (λ l. l ++ signed_decimal c.args.factor) c.in_ok-push_text.ensures ∙ append_assoc c.args.out.now.items (codes "(* ") (signed_decimal c.args.factor))
    c.in_ok-extend_from_slice.ensures.items
    (grouped (codes "(* ") (signed_decimal c.args.factor) (spaced (spelled_term by d (term_in ts c.args.term))) (codes ")"))
