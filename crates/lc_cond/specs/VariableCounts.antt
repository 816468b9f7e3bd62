-- How many variables conditions have.
use Rattle.std.specs.Prelude.{◌≤◌}
use Rattle.lc_term.specs.Lists.{Every}
use Rattle.lc_outline.specs.Development.{Development}
use Rattle.lc_cond.specs.Conditions.{Condition, conditions}

-- the number of clients, a client, three arguments and sixteen locals; another client, and the four parameters of `enter`
abbrev pub HasFewVariables : Condition → Type 0
HasFewVariables c = c.variables ≤ 26

-- each condition of a development does so
abbrev pub AllHaveFewVariables : Development → Type 0
AllHaveFewVariables D = Every HasFewVariables (conditions D)
