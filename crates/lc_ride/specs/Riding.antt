-- What riders do, as a function: what marks they make and what columns they leave, if they can be done.
use Rattle.std.specs.Prelude.{ℕ, true, false, cond, List, [], ◌∷◌, ◌++◌, ℤ, pos, negsuc, Option, Some, None, option_map}
use Rattle.std.specs.Option.{option_and_then}
use Rattle.std.specs.Ordering.{int_eq}
use Rattle.lc_term.specs.Updates.{Write, stored_all, write_of}
use Rattle.lc_term.specs.Syntax.{Formula}
use Rattle.lc_term.specs.Meaning.{State, Env, outside, value}
use Rattle.lc_term.specs.SystemColumns.{pend, op_column}
use Rattle.lc_term.specs.Truth.{truth}
use Rattle.lc_seq.specs.Sequential.{Choice, given_in}
use Rattle.lc_seq.specs.Specification.{Operation, chosen}
use Rattle.lc_seq.specs.TextStep.{run, call_env}
use Rattle.lc_seq.specs.Branches.{op_branches}
use Rattle.lc_rider.specs.Rider.{Marking, Own, Other, Note, Deed, Assign, Marks, Rider, Mark, mark_writes, note_writes, choice_at, arguments_in}

-- marks that are made, and the columns after them
abbrev pub Ridden : Type 0
Ridden = List Mark × State

module _ (operations : List Operation) (first : ℕ) where
  -- what the branch stores and replies that c's call of o takes under a choice, if the call is not settled
  abbrev pub taken : State → ℕ → ℕ → Choice → Option (List Write × List ℤ)
  taken m c o choice =
      cond (int_eq (m (pend first) (pos c)) (pos 1))
      (run m (call_env c (arguments_in operations first m c o ++ given_in choice)) (chosen choice (op_branches operations o)))
      None

  abbrev pub settling : State → ℕ → Choice → List Write × List ℤ → Ridden
  settling m c choice r = (record { client = c; note = false; choice = choice; reply = r.1 } ∷ [], stored_all m (r.0 ++ mark_writes first c r.1))

  abbrev pub settle : State → ℕ → ℕ → Choice → Option Ridden
  settle m c o choice = option_map (settling m c choice) (taken m c o choice)

  -- by a branch that stores nothing
  abbrev pub noting : State → ℕ → Choice → List Write → List ℤ → Option Ridden
  noting m c choice [] reply = Some (record { client = c; note = true; choice = choice; reply = reply } ∷ [], stored_all m (note_writes first c reply))
  noting m c choice (w ∷ ws) reply = None

  abbrev pub note : State → ℕ → ℕ → Choice → Option Ridden
  note m c o choice = option_and_then (λ r. noting m c choice r.0 r.1) (taken m c o choice)

  -- the call of client c, if there is such a client, is named so
  abbrev pub help : State → ℤ → ℕ → Choice → Option Ridden
  help m (pos c) p choice = cond (int_eq (m (op_column first) (pos c)) (pos p)) (settle m c p choice) None
  help m (negsuc c) p choice = None

  abbrev pub mark : ℕ → ℕ → Env → State → Marking → Choice → Option Ridden
  mark self o e m Own choice = settle m self o choice
  mark self o e m (Other t p) choice = help m (value m e outside t) p choice
  mark self o e m Note choice = note m self o choice

  abbrev pub do_deed : ℕ → ℕ → Env → State → Deed → Option Ridden
  do_deed self o e m (Assign u) = Some ([], stored_all m (write_of m e u ∷ []))
  do_deed self o e m (Marks k by) = mark self o e m k (choice_at m e by)

  abbrev pub do_where : Option Formula → ℕ → ℕ → Env → State → Deed → Option Ridden
  do_where None self o e m d = do_deed self o e m d
  do_where (Some f) self o e m d = cond (truth m e outside f) (do_deed self o e m d) (Some ([], m))

  abbrev pub do_rider : ℕ → ℕ → Env → State → Rider → Option Ridden
  do_rider self o e m r = do_where r.condition self o e m r.deed

  -- marks before those of the riders that follow
  abbrev pub behind : List Mark → Option Ridden → Option Ridden
  behind ms r = option_map (λ x. (ms ++ x.0, x.1)) r

  -- riders in order, each in the state that the earlier ones left
  abbrev pub do_all : ℕ → ℕ → Env → State → List Rider → Option Ridden
  do_all self o e m [] = Some ([], m)
  do_all self o e m (r ∷ rs) = option_and_then (λ x. behind x.0 (do_all self o e x.1 rs)) (do_rider self o e m r)
