-- Riders: what is done beside an instruction, and the marks that it makes.
use Rattle.std.specs.Prelude.{◌≡◌, ℕ, Bool, true, false, ◌⊎◌, List, [], ◌∷◌, ◌++◌, ℤ, pos, Option, Some, None, take, length, slice_index_or}
use Rattle.lc_term.specs.Updates.{Update, Write, stored_all, write_of, row, cell_writes}
use Rattle.lc_term.specs.Syntax.{Term, Formula}
use Rattle.lc_term.specs.Meaning.{State, Env, outside, value, Holds}
use Rattle.lc_seq.specs.Sequential.{Chosen, Choice, given_in, choose_map}
use Rattle.lc_seq.specs.Specification.{Operation, chosen}
use Rattle.lc_seq.specs.TextStep.{run, call_env}
use Rattle.lc_seq.specs.Branches.{op_branches, arity}
use Rattle.lc_term.specs.SystemColumns.{pend, op_column, arg_columns, rep_columns, noted, note_columns}

-- which call is marked: the client's own, that of another client, or the own by a note
pub data Marking : Type 0 where
  Own : Marking
  Other : (client : Term) (op : ℕ) → Marking
  Note : Marking

-- a store, or a mark, and how its branch is chosen, with terms for the parameters
pub data Deed : Type 0 where
  Assign : Update → Deed
  Marks : Marking → Chosen Term → Deed

-- a deed, done always or if the formula holds
pub record Rider : Type 0 where
  pub condition : Option Formula
  pub deed : Deed

-- a mark that was made: whose call, whether by a note, how the branch was chosen, and the reply
pub record Mark : Type 0 where
  pub client : ℕ
  pub note : Bool
  pub choice : Choice
  pub reply : List ℤ

-- ---- what is stored, each number in its cell of client c

abbrev pub argument : List ℤ → ℕ → ℤ
argument numbers k = slice_index_or numbers k (pos 0)

-- an invocation: arguments that are not used are 0
abbrev pub invocation_writes : ℕ → ℕ → ℕ → List ℤ → List Write
invocation_writes first c o numbers =
    cell_writes (pend first ∷ op_column first ∷ arg_columns first ++ noted first ∷ []) (pos c)
    (pos 1 ∷ pos o ∷ argument numbers 0 ∷ argument numbers 1 ∷ argument numbers 2 ∷ pos 0 ∷ [])

-- a mark: the replies, then `pend` 2
abbrev pub mark_writes : ℕ → ℕ → List ℤ → List Write
mark_writes first c reply = cell_writes (rep_columns first) (pos c) reply ++ cell_writes (pend first ∷ []) (pos c) (pos 2 ∷ [])

-- a note: `noted` 1, then the replies
abbrev pub note_writes : ℕ → ℕ → List ℤ → List Write
note_writes first c reply = cell_writes (noted first ∷ note_columns first) (pos c) (pos 1 ∷ reply)

abbrev pub return_writes : ℕ → ℕ → List Write
return_writes first c = cell_writes (pend first ∷ []) (pos c) (pos 0 ∷ [])

-- the choice of a rider: its terms have their numbers in this state
abbrev pub choice_at : State → Env → Chosen Term → Choice
choice_at m e by = choose_map (value m e outside) by

module _ (operations : List Operation) (first : ℕ) where
  -- the arguments of c's call of o, as they were stored
  abbrev pub arguments_in : State → ℕ → ℕ → List ℤ
  arguments_in m c o = take (arity operations o) (row m (arg_columns first) (pos c))

  -- under a choice c's call of o takes a branch, and this gives these writes and this reply
  abbrev pub Taken : State → ℕ → ℕ → Choice → List Write → List ℤ → Type 0
  Taken m c o choice writes reply =
      run m (call_env c (arguments_in m c o ++ given_in choice)) (chosen choice (op_branches operations o)) ≡ Some (writes, reply)

  -- c's call of o is settled under a choice: it was not, and a branch is taken
  abbrev pub IsSettled : State → ℕ → ℕ → Choice → List Mark → State → Type 0
  IsSettled m c o choice ms m' =
      (writes : List Write) × (reply : List ℤ) × (m (pend first) (pos c) ≡ pos 1)
      × Taken m c o choice writes reply
      × (ms ≡ record { client = c; note = false; choice = choice; reply = reply } ∷ [])
      × (m' ≡ stored_all m (writes ++ mark_writes first c reply))

  -- the reply of c's call of o is noted under a choice: the same, by a branch that stores nothing
  abbrev pub IsNoted : State → ℕ → ℕ → Choice → List Mark → State → Type 0
  IsNoted m c o choice ms m' =
      (reply : List ℤ) × (m (pend first) (pos c) ≡ pos 1)
      × Taken m c o choice [] reply
      × (ms ≡ record { client = c; note = true; choice = choice; reply = reply } ∷ [])
      × (m' ≡ stored_all m (note_writes first c reply))

  -- one mark of client `self` in the body of o, whose variables are e
  abbrev pub IsMarked : ℕ → ℕ → Env → State → Marking → Choice → List Mark → State → Type 0
  IsMarked self o e m Own choice ms m' = IsSettled m self o choice ms m'
  IsMarked self o e m (Other t p) choice ms m' =
      (c : ℕ) × (value m e outside t ≡ pos c) × (m (op_column first) (pos c) ≡ pos p) × IsSettled m c p choice ms m'
  IsMarked self o e m Note choice ms m' = IsNoted m self o choice ms m'

  abbrev pub IsDone : ℕ → ℕ → Env → State → Deed → List Mark → State → Type 0
  IsDone self o e m (Assign u) ms m' = (ms ≡ []) × (m' ≡ stored_all m (write_of m e u ∷ []))
  IsDone self o e m (Marks k by) ms m' = IsMarked self o e m k (choice_at m e by) ms m'

  abbrev pub IsDoneWhere : Option Formula → ℕ → ℕ → Env → State → Deed → List Mark → State → Type 0
  IsDoneWhere None self o e m d ms m' = IsDone self o e m d ms m'
  IsDoneWhere (Some f) self o e m d ms m' =
      (Holds m e outside f × IsDone self o e m d ms m') ⊎ ((Holds m e outside f → ⊥) × (ms ≡ []) × (m' ≡ m))

  -- one rider
  abbrev pub Rides : ℕ → ℕ → Env → State → Rider → List Mark → State → Type 0
  Rides self o e m r ms m' = IsDoneWhere r.condition self o e m r.deed ms m'

  -- riders in order, each in the state that the earlier ones left
  abbrev pub RideAll : ℕ → ℕ → Env → State → List Rider → List Mark → State → Type 0
  RideAll self o e m [] ms m' = (ms ≡ []) × (m' ≡ m)
  RideAll self o e m (r ∷ rs) ms m' =
      (mid : State) × (now : List Mark) × (later : List Mark)
      × Rides self o e m r now mid × RideAll self o e mid rs later m' × (ms ≡ now ++ later)

-- a return's numbers are what a mark or a note stored
abbrev pub IsJustified : ℕ → State → ℕ → List ℤ → Type 0
IsJustified first m c numbers =
    ((m (pend first) (pos c) ≡ pos 2) × (take (length numbers) (row m (rep_columns first) (pos c)) ≡ numbers))
    ⊎ ((m (pend first) (pos c) ≡ pos 1) × (m (noted first) (pos c) ≡ pos 1) × (take (length numbers) (row m (note_columns first) (pos c)) ≡ numbers))
