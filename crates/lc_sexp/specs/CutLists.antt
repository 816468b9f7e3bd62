-- A list that is cut out of a text which is under way.
use Rattle.std.specs.Prelude.{◌≡◌, ℕ, List, [], ◌∷◌, ◌++◌, take, vec_len}
use Rattle.lc_sexp.specs.Trees.{Tree, Token, tokens_of, close_list}
use Rattle.lc_sexp.specs.Progress.{told_tokens}
use Rattle.lc_sexp.specs.declared.machine.Machine.{Machine}

-- The one list that was open has ended, and is this tree; nothing of it is left.
pub record CutsList (old new : Machine) (cut : Tree) : Type 0 where
  pub told : (tokens : List Token) →
      told_tokens new.text.items new.nodes.items (tokens_of cut ++ tokens)
      ≡ told_tokens old.text.items old.nodes.items (close_list ∷ tokens)
  pub ended : new.start ≡ vec_len new.text
  pub holes : new.holes.items ≡ []
  pub nodes : (k : ℕ) × (new.nodes.items ≡ take k old.nodes.items)
