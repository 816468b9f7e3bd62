-- Actions, and what they do to the columns.
use Rattle.std.specs.Prelude.{◌≡◌, ℕ, List, [], ◌∷◌, ◌++◌, ℤ, pos, codes}
use Rattle.lc_term.specs.Updates.{Update, stored_all, writes_of, variable}
use Rattle.lc_term.specs.Syntax.{Term, Number, Variable, Read, Column, Base, Formula, Not, Eq, And, none}
use Rattle.lc_term.specs.Meaning.{State, Env, outside, Holds}
use Rattle.lc_term.specs.Said.{after, told, at_client}
use Rattle.lc_term.specs.SystemColumns.{pend, op_column, arg_columns, noted}

-- Variable 0 is the number of clients, variable 1 the actor, and the parameters follow
pub record Action : Type 0 where
  pub name : List ℕ
  pub parameters : List (List ℕ)
  pub guard : Formula
  pub updates : List Update

abbrev pub skip : Action
skip = record { name = codes "skip"; parameters = []; guard = And none; updates = [] }

abbrev pub enter : ℕ → Action
enter first = record {
  name = codes "enter";
  parameters = codes "o" ∷ codes "x1" ∷ codes "x2" ∷ codes "x3" ∷ [];
  guard = Eq (Read (Base (pend first)) (Variable 1)) (Number (pos 0));
  updates = at_client (pend first ∷ op_column first ∷ arg_columns first ++ noted first ∷ []) (Number (pos 1) ∷ Variable 2 ∷ Variable 3 ∷ Variable 4 ∷ Variable 5 ∷ Number (pos 0) ∷ []);
}

abbrev pub leave : ℕ → Action
leave first = record {
  name = codes "leave";
  parameters = [];
  guard = Not (Eq (Read (Base (pend first)) (Variable 1)) (Number (pos 0)));
  updates = at_client (pend first ∷ []) (Number (pos 0) ∷ []);
}

-- the columns after the action, and its guard, for terms in place of the actor and the parameters
abbrev pub acting_variables : Term → List Term → List Term
acting_variables actor arguments = Variable 0 ∷ actor ∷ arguments

abbrev pub post_columns : Action → Term → List Term → ℕ → Column
post_columns a actor arguments = after Base (acting_variables actor arguments) a.updates

abbrev pub guard_for : Action → Term → List Term → Formula
guard_for a actor arguments = told Base (acting_variables actor arguments) a.guard

-- the number of clients, the actor, and the parameters
abbrev pub action_variables : ℕ → ℕ → List ℤ → Env
action_variables clients u numbers = variable (pos clients ∷ pos u ∷ numbers)

-- an action by client u with these parameters relates two states
abbrev pub Acts : ℕ → Action → ℕ → List ℤ → State → State → Type 0
Acts clients a u numbers m m' =
    Holds m (action_variables clients u numbers) outside a.guard × (m' ≡ stored_all m (writes_of m (action_variables clients u numbers) a.updates))
