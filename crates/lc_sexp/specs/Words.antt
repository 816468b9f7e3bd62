-- A word that ends in a text whose parts are set aside.
use Rattle.std.specs.Prelude.{◌≡◌, ℕ, ◌+◌, ◌<◌, List, false, vec_len}
use Rattle.lc_sexp.specs.Trees.{Token}
use Rattle.lc_sexp.specs.Text.{begins_word}
use Rattle.lc_sexp.specs.Splitting.{Splits}
use Rattle.lc_sexp.specs.declared.part.Part.{Part}
use Rattle.lc_sexp.specs.declared.splitter.Splitter.{Splitter}

-- The word that had begun, if one had, is an item of the text, if what comes does not go on with it. No word has begun then.
pub record EndsWord (old new : Splitter) : Type 0 where
  pub splits : (whole : List ℕ → List Token) (rest : List ℕ → List ℕ) (taken : List Part) →
      ((x : List ℕ) → begins_word (rest x) ≡ false) →
      Splits whole rest taken old → Splits whole rest taken new
  pub ended : new.machine.start ≡ vec_len new.machine.text
  pub room :
      vec_len old.machine.nodes + vec_len old.machine.text < old.machine.offset + old.machine.start →
      vec_len new.machine.nodes < new.machine.offset

-- The same lists are open, at the same place of the text.
pub record StaysPut (old new : Splitter) : Type 0 where
  pub holes : new.machine.holes ≡ old.machine.holes
  pub in_list : new.in_list ≡ old.in_list
  pub offset : new.machine.offset ≡ old.machine.offset
  pub comment : new.machine.in_comment ≡ old.machine.in_comment
