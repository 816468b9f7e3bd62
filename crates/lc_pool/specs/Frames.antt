-- What a certificate has before its first entry.
use Rattle.std.specs.Prelude.{◌≡◌, ℕ, true, codes, List}
use Rattle.lc_sexp.specs.CutFiles.{IsHead}
use Rattle.lc_sexp.specs.Trees.{Trees, atom, list, none, ◌▸◌}
use Rattle.lc_reading.specs.Words.{is}

-- one list, of the word `certificate` and this name alone
pub record IsHeadRow (name : List ℕ) (ts : Trees) : Type 0 where
  pub word : List ℕ
  pub named : List ℕ
  pub is_word : is word (codes "certificate") ≡ true
  pub is_name : is named name ≡ true
  pub row : ts ≡ list (atom word ▸ (atom named ▸ none)) ▸ none

-- what a certificate of an object of this name has before its first entry
pub record IsHeadOf (name : List ℕ) (head : List ℕ) : Type 0 where
  pub word : List ℕ
  pub named : List ℕ
  pub is_word : is word (codes "certificate") ≡ true
  pub is_name : is named name ≡ true
  pub head_is : IsHead (atom word ▸ (atom named ▸ none)) head
