-- The items of a file, by the tokens that they begin with, and how far each goes.
use Rattle.std.specs.Prelude.{◌≡◌, ℕ, ◌≤◌, ◌<◌, Bool, true, false, ◌||◌, ◌==◌, List, [], ◌∷◌, length, take, drop, count_by, ◌⊎◌, ◌++◌}
use Rattle.lc_sexp.specs.Trees.{Token, open_list, close_list, word, stray}
use Rattle.lc_sexp.specs.Text.{lexed, are_letters, begins_word}
use Rattle.lc_sexp.specs.Reads.{text_of, open_count}

-- an item begins with a bracket that opens, or is a word
abbrev pub begins : Token → Bool
begins open_list = true
begins close_list = false
begins (word w) = true
begins (stray b) = false

-- how many items begin among tokens
abbrev pub items_among : List Token → ℕ
items_among tokens = count_by begins tokens

-- how many items a file has
abbrev pub items_in : List ℕ → ℕ
items_in bytes = items_among (lexed (text_of bytes))

-- a text begins with a list, or with an item
abbrev pub begins_list : List ℕ → Bool
begins_list [] = false
begins_list (b ∷ s) = b == 40

abbrev pub begins_item : List ℕ → Bool
begins_item text = begins_list text || begins_word text

-- The item of this number begins at the offset: `number` items begin before it, and its first token is cut from none.
pub record Begins (bytes : List ℕ) (number offset : ℕ) : Type 0 where
  pub begins : begins_item (drop offset (text_of bytes)) ≡ true
  pub apart : lexed (text_of bytes) ≡ lexed (take offset (text_of bytes)) ++ lexed (drop offset (text_of bytes))
  pub before : items_among (lexed (take offset (text_of bytes))) ≡ number

-- The list with which the text begins is closed by the last of its first n bytes: there, and nowhere before, no list is open.
pub record IsClosedAt (text : List ℕ) (n : ℕ) : Type 0 where
  pub some : 0 < n
  pub within : n ≤ length text
  pub closed : open_count (take n text) ≡ 0
  pub first : (m : ℕ) → 0 < m → m < n → 0 < open_count (take m text)

-- the list with which the text begins is open to the end
abbrev pub IsNeverClosed : List ℕ → Type 0
IsNeverClosed text = (m : ℕ) → 0 < m → m ≤ length text → 0 < open_count (take m text)

-- the text begins with a list of n bytes
abbrev pub IsListOf : List ℕ → ℕ → Type 0
IsListOf text n = IsClosedAt text n ⊎ ((n ≡ length text) × IsNeverClosed text)

-- The text begins with a word of n letters.
pub record IsWordOf (text : List ℕ) (n : ℕ) : Type 0 where
  pub some : 0 < n
  pub within : n ≤ length text
  pub letters : are_letters (take n text) ≡ true
  pub whole : begins_word (drop n text) ≡ false

-- the text begins with an item of n bytes
abbrev pub IsItemOf : List ℕ → ℕ → Type 0
IsItemOf text n = ((begins_list text ≡ true) × IsListOf text n) ⊎ IsWordOf text n
