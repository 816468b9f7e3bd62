-- Paths of numbers in later tables.
use Rattle.std.proofs.Common.{◌≡◌, List, [], ◌∷◌, map, refl, ap₂, ◌∙◌}
use Rattle.lc_table.specs.NodeTables.{Table}
use Rattle.lc_table.specs.Tables.{Keeps}
use Rattle.lc_put.proofs.ByNumber.{are_columns_later, columns_still}
use Rattle.lc_table.proofs.Later.{are_formulas_still, formulas_still, formula_still, is_formula_still}
use Rattle.lc_rider.specs.Paths as S
use Rattle.lc_rider.specs.DutyView.{Owed, owing_of, owed_in, AreGoals, duty_in}
use Rattle.lc_rider.specs.PathView.{path_in, IsPath, ArePaths, HasPath, HavePaths}
use Rattle.lc_rider.specs.declared.duty.Duty.{Duty}
use Rattle.lc_rider.specs.declared.path.Path.{Path}

are_goals_later : (old new : Table) (ds : List Duty) → AreGoals old ds → Keeps old new → AreGoals new ds
are_goals_later old new [] h kept = tt
are_goals_later old new (d ∷ ds) h kept = (is_formula_still old new d.goal h.0 kept, are_goals_later old new ds h.1 kept)

owed_still : (old new : Table) (ds : List Duty) → AreGoals old ds → Keeps old new → map (owed_in new) ds ≡ map (owed_in old) ds
owed_still old new [] h kept = refl
owed_still old new (d ∷ ds) h kept =
    ap₂ (λ g os. (let o : Owed = record { kind = owing_of d.kind; rider = d.rider; known = d.known; goal = g } in o ∷ os)) (formula_still old new d.goal h.0 kept) (owed_still old new ds h.1 kept)

pub is_path_later : (old new : Table) (p : Path) → IsPath old p → Keeps old new → IsPath new p
is_path_later old new p h kept = record {
  facts = are_formulas_still old new p.facts.items h.facts kept;
  columns = are_columns_later old new p.columns.items h.columns kept;
  goals = are_goals_later old new p.marks.items h.goals kept;
}

pub path_still : (old new : Table) (p : Path) → IsPath old p → Keeps old new → path_in new p ≡ path_in old p
path_still old new p h kept =
    let columns = columns_still old new p.columns.items h.columns kept in
    let facts = formulas_still old new p.facts.items h.facts kept in
    let owed = owed_still old new p.marks.items h.goals kept in
    λ i. record { columns = columns i; facts = facts i; duties = map (duty_in (facts i)) (owed i) }

pub has_path_later : (old new : Table) (p : Path) (q : S.Path) → HasPath old p q → Keeps old new → HasPath new p q
has_path_later old new p q h kept = record { is = is_path_later old new p h.is kept; path = path_still old new p h.is kept ∙ h.path }

pub are_paths_later : (old new : Table) (ps : List Path) → ArePaths old ps → Keeps old new → ArePaths new ps
are_paths_later old new [] h kept = tt
are_paths_later old new (p ∷ ps) h kept = (is_path_later old new p h.0 kept, are_paths_later old new ps h.1 kept)

pub paths_still : (old new : Table) (ps : List Path) → ArePaths old ps → Keeps old new → map (path_in new) ps ≡ map (path_in old) ps
paths_still old new [] h kept = refl
paths_still old new (p ∷ ps) h kept = ap₂ ◌∷◌ (path_still old new p h.0 kept) (paths_still old new ps h.1 kept)

pub have_paths_later : (old new : Table) (ps : List Path) (qs : List S.Path) → HavePaths old ps qs → Keeps old new → HavePaths new ps qs
have_paths_later old new ps qs h kept = record { are = are_paths_later old new ps h.are kept; paths = paths_still old new ps h.are kept ∙ h.paths }
