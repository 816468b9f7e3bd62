-- How many parts there are along few edges, and how many conditions a part has, whichever development its edge is of.
use Rattle.std.proofs.Common.{◌≡◌, ℕ, zero, suc, ◌+◌, ◌*◌, ◌<◌, ◌≤◌, ◌++◌, ◌&&◌, Bool, true, false, List, [], ◌∷◌, map, length, Option, Some, None, refl, sym, ap, subst, arith}
use Rattle.std.specs.Prelude.{slice_get, sum_by}
use Rattle.std.proofs.Math.Nat.{suc-mul}
use Rattle.std.proofs.lemmas.List.{length-append, length-map}
use Rattle.std.proofs.lemmas.List.Sums.{sum_by-cons}
use Rattle.std.proofs.lemmas.Option.{slice_get_within}
use Rattle.lc_base.specs.Limits.{condition_limit, rider_limit}
use Rattle.lc_term.specs.Lists.{Every, numbered}
use Rattle.lc_term.specs.Syntax.{Term, Variable, Column, Formula, Not}
use Rattle.lc_term.specs.Replacement.{replacing, replace_term}
use Rattle.lc_term.specs.Said.{term_at, told}
use Rattle.lc_term.specs.SystemColumns.{column_count}
use Rattle.lc_term.proofs.Stores.{Every-append}
use Rattle.lc_seq.specs.Specification as Q
use Rattle.lc_seq.specs.Specification.{Branch, chosen}
use Rattle.lc_seq.specs.Branches.{op_branches, arity}
use Rattle.lc_seq.specs.Sequential.{given_in}
use Rattle.lc_object.specs.Edges.{Edge, edges, edges_at, edges_from}
use Rattle.lc_object.specs.Syntax as O
use Rattle.lc_object.specs.WellFormed.{variable_count}
use Rattle.lc_action.specs.Action.{Action, post_columns}
use Rattle.lc_rider.specs.Rider.{Marking, Own, Other, Note, Deed, Assign, Marks, Rider}
use Rattle.lc_rider.specs.Paths.{Path, with_fact, edge_variables, path_start, observing_duty, mark_duties, branch_variables, marked_op, marked_client, branch_paths, deed_paths, deed_paths_where, rider_paths, paths}
use Rattle.lc_outline.specs.Development.{Development, On, first_system, on_at, asserts_at, riders_in, asserts_to, in_operation, in_body}
use Rattle.lc_outline.specs.Limits.{IsLimited, is_limited}
use Rattle.lc_outline.specs.Resolved.{is_resolved}
use Rattle.lc_outline.specs.Sizes.{asked_of, returned}
use Rattle.lc_outline.proofs.Resolving.{passed_is_resolved, every_weaker}
use Rattle.lc_cond.specs.Adding.{Adds}
use Rattle.lc_cond.specs.Conditions as S
use Rattle.lc_cond.specs.Conditions.{idle_frame, body_frame, body_hypotheses, path_conditions, edge_conditions_in, edge_conditions, stable_conditions, point_stability, conditions_in}
use Rattle.lc_cond.specs.ConditionView.{condition_in}
use Rattle.lc_cond.specs.PartLimits.{edge_limit, part_limit, part_size_limit}
use Rattle.lc_cond.specs.PartView.{parts_along}
use Rattle.lc_cond.specs.declared.condition.Condition.{Condition}
use Rattle.lc_table.specs.NodeTables.{Table}
use Rattle.lc_cond.proofs.Adding.{adds_to_none}
use Rattle.lc_cond.proofs.Counts.{numbered_length, concat_places_length}
use Rattle.lc_cond.proofs.Few.{operations_few, points_few, starts_few, idle_stays_few, asserts_stay_few}
use Rattle.lc_cond.proofs.Sized.{noting, length_of_observing, length_of_mark_duties, acted_size, on_size, path_size, path_length, entry_sized, start_sized, stable_length}
use Rattle.lc_cond.proofs.Stored.{absent, changed}
use Rattle.lc_term.proofs.Lists.{every_joined}

-- ---- lists

-- so much of each
sum_few : {A : Type 0} (F : A → ℕ) (m : ℕ) (xs : List A) → Every (λ x. F x ≤ m) xs → sum_by F xs ≤ length xs * m
sum_few F m [] h = omega arith
sum_few F m (x ∷ xs) h =
    (let one = h.0 in
    let all = sum_by-cons F x xs in
    let rest = sum_few F m xs h.1 in
    let more = suc-mul (length xs) m in
    omega (arith, one, all, rest, more))

taken_once : (m n : ℕ) → 1 ≤ n → m ≤ m * n
taken_once zero n h = omega arith
taken_once (suc m) n h = (let rest = taken_once m n h in let more = suc-mul m n in omega (arith, h, rest, more))

-- ---- edges and parts

instruction_edges_few : (object : O.Object) (p : ℕ) (i : O.Instr) → length (edges_at object p i) ≤ 2
instruction_edges_few object p (O.Load a t rs l) = omega arith
instruction_edges_few object p (O.Store a t vs l) = omega arith
instruction_edges_few object p (O.Cas a t old new l m) = omega arith
instruction_edges_few object p (O.Set rs vs l) = omega arith
instruction_edges_few object p (O.Faa a t rs ds l) = omega arith
instruction_edges_few object p (O.If f l m) = omega arith
instruction_edges_few object p (O.Return vs) = omega arith

edges_from_few : (object : O.Object) (p : ℕ) (points : List O.Point) → length (edges_from object p points) ≤ 2 * length points
edges_from_few object p [] = omega arith
edges_from_few object p (point ∷ points) =
    (let all = length-append (edges_at object p point.instruction) (edges_from object (suc p) points) in
    let one = instruction_edges_few object p point.instruction in
    let rest = edges_from_few object (suc p) points in
    omega (arith, all, one, rest))

pub edges_few : (D : Development) → is_resolved D ≡ true → length (edges D.object) ≤ edge_limit
edges_few D h = (let most = edges_from_few D.object 0 D.object.points in let points = points_few D h in omega (arith, most, points))

-- the place of a part
pub parts_few : (D : Development) → is_resolved D ≡ true → (es : List Edge) → length es ≤ edge_limit → (k : ℕ) (p : S.Part) → slice_get (parts_along D es) k ≡ Some p → k < part_limit
parts_few D h es few k p e =
    (let stays = numbered S.Stay 0 D.object.points in
    let begins = numbered S.Begin 0 D.object.operations in
    let within = slice_get_within (parts_along D es) k p e in
    let a = length-append begins (map S.Pass es ++ (stays ++ S.StayIdle ∷ [])) in
    let b = length-append (map S.Pass es) (stays ++ S.StayIdle ∷ []) in
    let c = length-append stays (S.StayIdle ∷ []) in
    let operations = numbered_length S.Begin 0 D.object.operations in
    let passes = length-map es S.Pass in
    let points = numbered_length S.Stay 0 D.object.points in
    let few_operations = operations_few D h in
    let few_points = points_few D h in
    omega (arith, few, within, a, b, c, operations, passes, points, few_operations, few_points))

-- ---- what riders ask

asked_few : (k : Marking) → asked_of k ≤ 3
asked_few Own = omega arith
asked_few (Other t o) = omega arith
asked_few Note = omega arith

abbrev HasDuties : ℕ → Path → Type 0
HasDuties m p = length p.duties ≤ m

module _ (ops : List Q.Operation) (first : ℕ) where
  branch_duties : (n : ℕ) (k : Marking) (υ : List Term) (bs : List Branch) (p : Path) (m : ℕ) → length p.duties + noting k ≤ m → Every (HasDuties m) (branch_paths ops first n k υ bs p)
  branch_duties n k υ [] p m h = tt
  branch_duties n k υ (b ∷ bs) p m h =
      let g = told p.columns υ b.guard in
      let owes = observing_duty ops first n k (p.facts ++ g ∷ []) b in
      let longer = length-append p.duties owes in
      let extra = length_of_observing ops first n k (p.facts ++ g ∷ []) b in
      (omega (arith, h, longer, extra), branch_duties n k υ bs (with_fact p (Not g)) m h)

  deed_duties : (n o : ℕ) (τ : List Term) (d : Deed) (p : Path) (m : ℕ) → length p.duties + 3 ≤ m → Every (HasDuties m) (deed_paths ops first n o τ d p)
  deed_duties n o τ (Assign u) p m h = (omega (arith, h), tt)
  deed_duties n o τ (Marks k by) p m h =
      let said : Term → Term = replace_term (replacing p.columns (term_at τ)) in
      let c = said (marked_client k) in
      let bs = chosen by (op_branches ops (marked_op o k)) in
      let υ = branch_variables p.columns first (arity ops (marked_op o k)) c (map said (given_in by)) in
      let owes = mark_duties ops first n k p c υ bs in
      let longer = length-append p.duties owes in
      let extra = length_of_mark_duties ops first n k p c υ bs in
      let three = asked_few k in
      branch_duties n k υ bs (record p { duties = p.duties ++ owes }) m (omega (arith, h, longer, extra, three))

  where_duties : (f : Option Formula) (n o : ℕ) (τ : List Term) (d : Deed) (p : Path) (m : ℕ) → length p.duties + 3 ≤ m → Every (HasDuties m) (deed_paths_where ops first f n o τ d p)
  where_duties None n o τ d p m h = deed_duties n o τ d p m h
  where_duties (Some f) n o τ d p m h =
      let no' = with_fact p (Not (told p.columns τ f)) in
      Every-append (HasDuties m) (deed_paths ops first n o τ d (with_fact p (told p.columns τ f))) (no' ∷ []) (deed_duties n o τ d (with_fact p (told p.columns τ f)) m h) (omega (arith, h), tt)

  -- on each path no more than three of each rider
  path_duties : (n o : ℕ) (τ : List Term) (rs : List Rider) (p : Path) (m : ℕ) → length p.duties + 3 * length rs ≤ m → Every (HasDuties m) (paths ops first n o τ rs p)
  path_duties n o τ [] p m h = (omega (arith, h), tt)
  path_duties n o τ (r ∷ rs) p m h =
      let later : (q : Path) → HasDuties (length p.duties + 3) q → Every (HasDuties m) (paths ops first (suc n) o τ rs q) = λ q few. path_duties (suc n) o τ rs q m (omega (arith, h, few)) in
      every_joined (HasDuties m) (paths ops first (suc n) o τ rs) (rider_paths ops first n o τ r p)
      (every_weaker (HasDuties (length p.duties + 3)) (λ q. Every (HasDuties m) (paths ops first (suc n) o τ rs q)) later (rider_paths ops first n o τ r p)
      (where_duties r.condition n o τ r.deed p (length p.duties + 3) (omega arith)))

-- ---- what an action asks

absent_few : (b : Bool) → absent b ≤ 1
absent_few true = omega arith
absent_few false = omega arith

changed_few : (c n : ℕ) (σ π : ℕ → Column) → changed c n σ π ≤ n
changed_few c zero σ π = omega arith
changed_few c (suc n) σ π = (let one = absent_few (S.is_base c (σ c) && S.is_base c (π c)) in let rest = changed_few (suc c) n σ π in omega (arith, one, rest))

returned_few : (next : Option ℕ) → returned next ≤ 1
returned_few None = omega arith
returned_few (Some q) = omega arith

-- ---- the conditions of a part

module _ (D : Development) (h : is_resolved D ≡ true) (t : is_limited D ≡ true) (limits : IsLimited D) where
  acted_few : (σ : ℕ → Column) (ts : List Term) (a : Option Action) → acted_size D (passed_is_resolved D h) σ ts a ≤ 13 + first_system D
  acted_few σ ts None = omega arith
  acted_few σ ts (Some a) = (let few = changed_few 0 (column_count (first_system D)) σ (post_columns a (Variable 1) ts) in omega (arith, few))

  on_few : (σ : ℕ → Column) (x : Option On) → on_size D (passed_is_resolved D h) σ x ≤ 13 + first_system D
  on_few σ None = omega arith
  on_few σ (Some x) = acted_few σ x.arguments (slice_get D.actions x.action)

  asserts_few : (p : ℕ) → length (asserts_at D p) ≤ condition_limit
  asserts_few p =
      (let once = taken_once (length (asserts_at D p)) (length D.actions + 2) (omega arith) in
      let all = asserts_stay_few D h t p in
      omega (arith, once, all))

  asserts_to_few : (next : Option ℕ) → length (asserts_to D next) ≤ condition_limit
  asserts_to_few (Some q) = asserts_few q
  asserts_to_few None = (let start = starts_few D h t in omega (arith, start))

  path_few : (e : Edge) (on : Option On) (p : Path) → HasDuties (3 * rider_limit) p → path_size D (passed_is_resolved D h) e on p ≤ 3 * condition_limit
  path_few e on p duties =
      (let returns = returned_few e.next in
      let start = starts_few D h t in
      let asserts = asserts_to_few e.next in
      let acts = on_few (S.at_end (first_system D) e.next p.columns) on in
      let columns = limits.columns in
      omega (arith, duties, returns, start, asserts, acts, columns))

  edge_few : (e : Edge) → length (edge_conditions D e) ≤ part_size_limit
  edge_few e = at_point (slice_get D.object.points e.point) refl
    where
      in_operation_few : (point : O.Point) → slice_get D.object.points e.point ≡ Some point → (x : Option O.Operation) →
          length (in_operation (λ o operation. edge_conditions_in D o operation e) point.operation x) ≤ part_size_limit
      in_operation_few point at None = omega arith
      in_operation_few point at (Some operation) =
          (let on = on_at D e.point e.kind in
          let v = variable_count operation in
          let hs = body_hypotheses D point.operation operation e.point ++ e.facts in
          let ps = paths D.specification.operations (first_system D) 0 point.operation (edge_variables v e) (riders_in on) (path_start e) in
          let riders = limits.riders e.point point e.kind at in
          let few = limits.paths e.point point e.kind at (first_system D) 0 (edge_variables v e) (path_start e) in
          let duties : Every (HasDuties (3 * rider_limit)) ps =
          path_duties D.specification.operations (first_system D) 0 point.operation (edge_variables v e) (riders_in on) (path_start e) (3 * rider_limit) (omega (arith, riders)) in
          let each = every_weaker (HasDuties (3 * rider_limit)) (λ p. path_size D (passed_is_resolved D h) e on p ≤ 3 * condition_limit) (path_few e on) ps duties in
          let size = concat_places_length (path_size D (passed_is_resolved D h) e on) (path_conditions D e v on hs) (λ j p. path_length D (passed_is_resolved D h) e v on hs j p) 0 ps in
          let all = sum_few (path_size D (passed_is_resolved D h) e on) (3 * condition_limit) ps each in
          subst (λ n. n ≤ part_size_limit) (sym size) (omega (arith, few, all)))

      at_point : (x : Option O.Point) → slice_get D.object.points e.point ≡ x → length (in_body D.object (λ o operation. edge_conditions_in D o operation e) x) ≤ part_size_limit
      at_point None at = omega arith
      at_point (Some point) at = in_operation_few point at (slice_get D.object.operations point.operation)

  point_few : (p : ℕ) (point : O.Point) → length (point_stability D p point) ≤ part_size_limit
  point_few p point = of (slice_get D.object.operations point.operation)
    where
      of : (x : Option O.Operation) → length (in_operation (λ o operation. stable_conditions D (Some p) (variable_count operation) (body_frame (first_system D) o (length operation.arguments)) (asserts_at D p)) point.operation x) ≤ part_size_limit
      of None = omega arith
      of (Some operation) =
          (let size = stable_length D (passed_is_resolved D h) (Some p) (variable_count operation) (body_frame (first_system D) point.operation (length operation.arguments)) (asserts_at D p) in
          let few = asserts_stay_few D h t p in
          subst (λ n. n ≤ part_size_limit) (sym size) (omega (arith, few)))

  pub part_few : (p : S.Part) → length (conditions_in D p) ≤ part_size_limit
  part_few S.Start = (let size = start_sized D (passed_is_resolved D h) in let few = starts_few D h t in omega (arith, size, few))
  part_few (S.Begin o operation) =
      (let size = entry_sized D (passed_is_resolved D h) o operation in let start = starts_few D h t in let asserts = asserts_few operation.entry in omega (arith, size, start, asserts))
  part_few (S.Pass e) = edge_few e
  part_few (S.Stay p point) = point_few p point
  part_few S.StayIdle =
      (let size = stable_length D (passed_is_resolved D h) None 2 (idle_frame (first_system D)) D.idle in let few = idle_stays_few D h t in
      subst (λ n. n ≤ part_size_limit) (sym size) (omega (arith, few)))

  -- where they are made
  pub made_few : (p : S.Part) (ts : Table) (now : List Condition) → Adds [] ts now (conditions_in D p) → length now ≤ part_size_limit
  made_few p ts now adds =
      (let read = ap length (adds_to_none ts now (conditions_in D p) adds).1 in
      let same = length-map now (condition_in ts) in
      let few = part_few p in
      omega (arith, read, same, few))
