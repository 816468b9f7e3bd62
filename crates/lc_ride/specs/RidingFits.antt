-- The numbers that are reached when riders are done, in their order. Each definition says that each of them fits 64 bits.
use Rattle.std.specs.Prelude.{◌≡◌, ℕ, List, [], ◌∷◌, ℤ, pos, negsuc, Option, Some, None, FitsSigned, MatchBool, MatchOption, take, ◌++◌}
use Rattle.std.specs.Int.{w64}
use Rattle.lc_term.specs.Lists.{Every}
use Rattle.lc_term.specs.Updates.{UpdatesFit}
use Rattle.lc_term.specs.Syntax.{Formula}
use Rattle.lc_term.specs.Meaning.{State, Env, outside, value}
use Rattle.lc_term.specs.Reached.{TermFits, TermsFit, FormulaFits}
use Rattle.lc_term.specs.SystemColumns.{pend, op_column, arg_columns}
use Rattle.lc_term.specs.Truth.{truth}
use Rattle.lc_seq.specs.Sequential.{Choice, given_in}
use Rattle.lc_seq.specs.Specification.{Operation, chosen}
use Rattle.lc_seq.specs.TextStep.{RunFits, call_env}
use Rattle.lc_seq.specs.Branches.{op_branches, arity}
use Rattle.lc_rider.specs.Rider.{Marking, Own, Other, Note, Deed, Assign, Marks, Rider, choice_at, arguments_in}
use Rattle.lc_ride.specs.Riding.{do_rider}

-- what cell i of these columns holds
abbrev pub CellsFit : State → List ℕ → ℤ → Type 0
CellsFit m cs i = Every (λ c. FitsSigned w64 (m c i)) cs

module _ (operations : List Operation) (first : ℕ) where
  -- the arguments, then what the branches reach that the choice leaves
  abbrev pub CallFits : State → ℕ → ℕ → Choice → Type 0
  CallFits m c o choice =
      CellsFit m (take (arity operations o) (arg_columns first)) (pos c)
      × RunFits m (call_env c (arguments_in operations first m c o ++ given_in choice)) (chosen choice (op_branches operations o))

  -- whether the call is settled; and what a call that is not reaches
  abbrev pub TakenFits : State → ℕ → ℕ → Choice → Type 0
  TakenFits m c o choice = FitsSigned w64 (m (pend first) (pos c)) × (m (pend first) (pos c) ≡ pos 1 → CallFits m c o choice)

  -- of which operation the call is; and what a call of this one reaches
  abbrev pub HelpFits : State → ℤ → ℕ → Choice → Type 0
  HelpFits m (pos c) p choice = FitsSigned w64 (m (op_column first) (pos c)) × (m (op_column first) (pos c) ≡ pos p → TakenFits m c p choice)
  HelpFits m (negsuc c) p choice = Unit {0}

  abbrev pub MarkFits : ℕ → ℕ → Env → State → Marking → Choice → Type 0
  MarkFits self o e m Own choice = TakenFits m self o choice
  MarkFits self o e m (Other t p) choice = TermFits m e t × HelpFits m (value m e outside t) p choice
  MarkFits self o e m Note choice = TakenFits m self o choice

  -- of a mark the terms of its choice come first
  abbrev pub DeedFits : ℕ → ℕ → Env → State → Deed → Type 0
  DeedFits self o e m (Assign u) = UpdatesFit m e (u ∷ [])
  DeedFits self o e m (Marks k by) = TermsFit m e (given_in by) × MarkFits self o e m k (choice_at m e by)

  abbrev pub RiderFitsWhere : Option Formula → ℕ → ℕ → Env → State → Deed → Type 0
  RiderFitsWhere None self o e m d = DeedFits self o e m d
  RiderFitsWhere (Some f) self o e m d = FormulaFits m e f × MatchBool (truth m e outside f) (DeedFits self o e m d) (Unit {0})

  abbrev pub RiderFits : ℕ → ℕ → Env → State → Rider → Type 0
  RiderFits self o e m r = RiderFitsWhere r.condition self o e m r.deed

  -- those after a rider count only if it can be done
  abbrev pub RidersFit : ℕ → ℕ → Env → State → List Rider → Type 0
  RidersFit self o e m [] = Unit {0}
  RidersFit self o e m (r ∷ rs) =
      RiderFits self o e m r × MatchOption (do_rider operations first self o e m r) (Unit {0}) (λ x. RidersFit self o e x.1 rs)
