-- The paths of riders: what holds, what the columns are, and what is owed, said of the state before.
use Rattle.std.specs.Prelude.{ℕ, suc, List, [], ◌∷◌, ◌++◌, pos, Option, Some, None, map, take}
use Rattle.lc_term.specs.Updates.{Update, assigned}
use Rattle.lc_term.specs.Syntax.{Term, Number, Variable, Read, Column, Base, Formula, Eq, Not, And, Or, formulas}
use Rattle.lc_term.specs.Replacement.{replacing, replace_term}
use Rattle.lc_seq.specs.Sequential.{Chosen, given_in}
use Rattle.lc_seq.specs.Specification.{Branch, Operation, chosen}
use Rattle.lc_term.specs.Lists.{concat_map}
use Rattle.lc_object.specs.Edges as E
use Rattle.lc_seq.specs.Branches.{op_branches, arity}
use Rattle.lc_term.specs.Said.{put, puts, term_at, said, after, told, variables_from, reads, at_client}
use Rattle.lc_term.specs.SystemColumns.{pend, op_column, arg_columns, rep_columns, noted, note_columns}
use Rattle.lc_rider.specs.Rider.{Marking, Own, Other, Note, Deed, Assign, Marks, Rider}

-- ---- the edge

-- what an edge stores, and its variables afterwards, of n variables
abbrev pub edge_columns : E.Edge → ℕ → Column
edge_columns e = puts Base e.updates

abbrev pub edge_variables : ℕ → E.Edge → List Term
edge_variables n e = assigned (variables_from 0 n) e.targets e.values

-- ---- marks

-- The variables of a branch at a call of c, with these terms for its parameters: no specification reads the number of
-- clients.
abbrev pub branch_variables : (ℕ → Column) → ℕ → ℕ → Term → List Term → List Term
branch_variables σ first n c ts = Number (pos 0) ∷ c ∷ take n (reads σ (arg_columns first) c) ++ ts

-- what a mark by a branch stores, in the branch's words
abbrev pub mark_updates : ℕ → Marking → Branch → List Update
mark_updates first Own b = b.updates ++ (at_client (rep_columns first) b.replies ++ at_client (pend first ∷ []) (Number (pos 2) ∷ []))
mark_updates first (Other t o) b = b.updates ++ (at_client (rep_columns first) b.replies ++ at_client (pend first ∷ []) (Number (pos 2) ∷ []))
mark_updates first Note b = at_client (noted first ∷ note_columns first) (Number (pos 1) ∷ b.replies)

abbrev pub marked_client : Marking → Term
marked_client Own = Variable 1
marked_client (Other t o) = t
marked_client Note = Variable 1

-- the operation that is marked, in the body of o
abbrev pub marked_op : ℕ → Marking → ℕ
marked_op o Own = o
marked_op o (Other t p) = p
marked_op o Note = o

-- ---- paths

pub data Owing : Type 0 where
  Pending : Owing
  Named : Owing
  Enabled : Owing
  Observing : Owing

-- what is to hold at the rider of this number, under the facts before it
pub record Duty : Type 0 where
  pub kind : Owing
  pub rider : ℕ
  pub facts : List Formula
  pub goal : Formula

pub record Path : Type 0 where
  pub columns : ℕ → Column
  pub facts : List Formula
  pub duties : List Duty

abbrev pub with_fact : Path → Formula → Path
with_fact p f = record p { facts = p.facts ++ f ∷ [] }

abbrev pub is_empty : List Update → Formula
is_empty [] = And (formulas [])
is_empty (u ∷ us) = Or (formulas [])

module _ (operations : List Operation) (first : ℕ) where
  abbrev pub named_duty : ℕ → Marking → Path → Term → List Duty
  named_duty n Own p c = []
  named_duty n (Other t o) p c = record { kind = Named; rider = n; facts = p.facts; goal = Eq (Read (p.columns (op_column first)) c) (Number (pos o)) } ∷ []
  named_duty n Note p c = []

  abbrev pub observing_duty : ℕ → Marking → List Formula → Branch → List Duty
  observing_duty n Own facts b = []
  observing_duty n (Other t o) facts b = []
  observing_duty n Note facts b = record { kind = Observing; rider = n; facts = facts; goal = is_empty b.updates } ∷ []

  -- what a mark asks for, if one of these branches is to be taken with these variables
  abbrev pub mark_duties : ℕ → Marking → Path → Term → List Term → List Branch → List Duty
  mark_duties n k p c τ bs =
      record { kind = Pending; rider = n; facts = p.facts; goal = Eq (Read (p.columns (pend first)) c) (Number (pos 1)) } ∷
      named_duty n k p c ++
      (record { kind = Enabled; rider = n; facts = p.facts; goal = Or (formulas (map (λ (b : Branch). told p.columns τ b.guard) bs)) } ∷ [])

  -- the guards of the branches before fail, and that of this one holds; their variables are τ
  abbrev pub branch_paths : ℕ → Marking → List Term → List Branch → Path → List Path
  branch_paths n k τ [] p = []
  branch_paths n k τ (b ∷ bs) p =
      (let g = told p.columns τ b.guard in
      record {
        columns = after p.columns τ (mark_updates first k b);
        facts = p.facts ++ g ∷ [];
        duties = p.duties ++ observing_duty n k (p.facts ++ g ∷ []) b;
      } ∷ branch_paths n k τ bs (with_fact p (Not g)))

  abbrev pub owing : ℕ → Marking → Term → List Term → List Branch → Path → Path
  owing n k c τ bs p = record p { duties = p.duties ++ mark_duties n k p c τ bs }

  -- a mark of the call of o by this client, by the branches that a choice leaves, with these terms for their parameters
  abbrev pub choice_paths : ℕ → ℕ → Marking → Term → List Term → List Branch → Path → List Path
  choice_paths n o k c ts bs p =
      (let τ = branch_variables p.columns first (arity operations o) c ts in
      branch_paths n k τ bs (owing n k c τ bs p))

  -- a mark in the body of o, whose variables are τ, by the branches that its choice leaves; client and terms are said here
  abbrev pub mark_paths : ℕ → ℕ → List Term → Marking → Chosen Term → Path → List Path
  mark_paths n o τ k by p =
      (let said = replace_term (replacing p.columns (term_at τ)) in
      choice_paths n (marked_op o k) k (said (marked_client k)) (map said (given_in by)) (chosen by (op_branches operations (marked_op o k))) p)

  abbrev pub deed_paths : ℕ → ℕ → List Term → Deed → Path → List Path
  deed_paths n o τ (Assign u) p = record p { columns = put p.columns (said p.columns τ u) } ∷ []
  deed_paths n o τ (Marks k by) p = mark_paths n o τ k by p

  abbrev pub deed_paths_where : Option Formula → ℕ → ℕ → List Term → Deed → Path → List Path
  deed_paths_where None n o τ d p = deed_paths n o τ d p
  deed_paths_where (Some f) n o τ d p = deed_paths n o τ d (with_fact p (told p.columns τ f)) ++ with_fact p (Not (told p.columns τ f)) ∷ []

  abbrev pub rider_paths : ℕ → ℕ → List Term → Rider → Path → List Path
  rider_paths n o τ r p = deed_paths_where r.condition n o τ r.deed p

  -- the paths of riders from the number n on; the first varies slowest
  abbrev pub paths : ℕ → ℕ → List Term → List Rider → Path → List Path
  paths n o τ [] p = p ∷ []
  paths n o τ (r ∷ rs) p = concat_map (paths (suc n) o τ rs) (rider_paths n o τ r p)

-- the path of an edge on which no rider has been done
abbrev pub path_start : E.Edge → Path
path_start e = record { columns = edge_columns e; facts = []; duties = [] }
