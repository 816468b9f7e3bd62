use Rattle.std.proofs.Common.{◌≡◌, ◌++◌, ℕ, List, [], ◌∷◌, codes, append_assoc}
use Rattle.lc_table.specs.Tables.{term_in}
use Rattle.lc_text.specs.Spelled.{spaced, spelled_term}
use Rattle.lc_cond_text.specs.declared.term_text.Waiting.TheVariants.{Term, Spaced, End}
use Rattle.lc_cond_text.proofs.Waiting.{goes_on}
use Rattle.lc_cond_text.proofs.term_text.begin_pair.Goals as goal

grouped : (w a b e : List ℕ) → w ++ ((([] ++ a) ++ b) ++ e) ≡ ((w ++ a) ++ b) ++ e
grouped w a b e = simp append_assoc

pub returns : goal.returns
returns c by d ts left right all =
    goes_on by d ts _ _ _ _ _ (End ∷ Spaced c.args.right ∷ Term c.args.left ∷ []) c.args.word.now all (tt, (right, (left, tt))) c.in_ok-push_text.ensures c.in_ok-extend_from_slice.ensures.items
    (grouped c.args.word.now (spelled_term by d (term_in ts c.args.left)) (spaced (spelled_term by d (term_in ts c.args.right))) (codes ")"))
