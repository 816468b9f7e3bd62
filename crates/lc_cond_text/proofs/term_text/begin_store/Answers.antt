use Rattle.std.proofs.Common.{◌≡◌, ◌++◌, ◌∙◌, List, ℕ, [], ◌∷◌, codes, append_assoc, ap}
use Rattle.lc_table.specs.Tables.{term_in, column_in}
use Rattle.lc_text.specs.Spelled.{spaced, spelled_term, spelled_column}
use Rattle.lc_cond_text.specs.declared.term_text.Waiting.TheVariants.{Column, Stored}
use Rattle.lc_cond_text.proofs.Waiting.{goes_on}
use Rattle.lc_cond_text.proofs.term_text.begin_store.Goals as goal

grouped : (w a b v e : List ℕ) → w ++ (([] ++ a) ++ ((b ++ v) ++ e)) ≡ (((w ++ a) ++ b) ++ v) ++ e
grouped w a b v e = simp append_assoc

pub returns : goal.returns
returns c by d ts below index value is all =
    let stored = Stored c.args.index c.args.value in
    goes_on by d ts _ _ _ _ _ (stored ∷ Column below ∷ []) (codes "(store ") all ((index, value), (is, tt)) c.in_ok-push_text.ensures
    (ap (λ l. l ++ Column below ∷ []) c.in_ok-push.ensures.items ∙ append_assoc c.args.waiting.now.items (stored ∷ []) (Column below ∷ []))
    (grouped (codes "(store ") (spelled_column by d (column_in ts below)) (spaced (spelled_term by d (term_in ts c.args.index))) (spaced (spelled_term by d (term_in ts c.args.value))) (codes ")"))
