-- How a text begins, and which of its parts have ended.
use Rattle.std.specs.Prelude.{◌≡◌, ℕ, Bool, true, false, List, [], ◌++◌, length}
use Rattle.std.proofs.Common.{◌⊎◌}
use Rattle.lc_sexp.specs.Trees.{Trees}
use Rattle.lc_sexp.specs.Text.{uncommented, lexed, are_letters}
use Rattle.lc_sexp.specs.Entries.{rows_tokens}
use Rattle.lc_sexp.specs.Reads.{IsFirstFault}
use Rattle.lc_sexp.specs.Takes.{parts_ended}
use Rattle.lc_sexp.specs.declared.part.Part.{Part}

-- The text begins with these forms, which have ended, then for each list that is open the trees that have ended in it, and a word that has begun. Whatever
-- comes next, with it these are the tokens of the whole.
pub record Begins (bytes : List ℕ) (forms : Trees) (rows : List Trees) : Type 0 where
  pub word : List ℕ
  pub in_comment : Bool
  pub letters : are_letters word ≡ true
  pub tokens : (rest : List ℕ) → rows_tokens forms rows ++ lexed (word ++ uncommented in_comment rest) ≡ lexed (uncommented false (bytes ++ rest))

-- These are all parts that have ended in the bytes, or before their first fault.
pub record AreAllParts (bytes : List ℕ) (parts : List Part) : Type 0 where
  pub read : List ℕ
  pub unread : List ℕ
  pub joined : bytes ≡ read ++ unread
  pub stops : (unread ≡ []) ⊎ IsFirstFault bytes (length read)
  pub forms : Trees
  pub rows : List Trees
  pub begins : Begins read forms rows
  pub all : parts ≡ parts_ended forms rows
