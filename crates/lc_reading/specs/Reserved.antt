-- The names that no file may declare.
use Rattle.std.specs.Prelude.{ℕ, Bool, ◌||◌, codes, List}
use Rattle.lc_reading.specs.Words.{is}

-- the client, and the number of clients
unfoldable pub is_client_name : List ℕ → Bool
is_client_name w = is w (codes "self") || is w (codes "N")

-- the system columns of a client's call
unfoldable pub is_call_column : List ℕ → Bool
is_call_column w = is w (codes "pend") || is w (codes "op") || is w (codes "arg1") || is w (codes "arg2") || is w (codes "arg3")

-- the system columns of its replies
unfoldable pub is_reply_column : List ℕ → Bool
is_reply_column w = is w (codes "rep1") || is w (codes "rep2") || is w (codes "rep3")

-- the system columns of its note
unfoldable pub is_note_column : List ℕ → Bool
is_note_column w = is w (codes "noted") || is w (codes "note1") || is w (codes "note2") || is w (codes "note3")

-- the built-in actions
unfoldable pub is_action_name : List ℕ → Bool
is_action_name w = is w (codes "skip") || is w (codes "enter") || is w (codes "leave")

-- the system columns, which each object has
abbrev pub is_system_column : List ℕ → Bool
is_system_column w = is_call_column w || is_reply_column w || is_note_column w

abbrev pub is_reserved : List ℕ → Bool
is_reserved w = is_client_name w || is_system_column w || is_action_name w
