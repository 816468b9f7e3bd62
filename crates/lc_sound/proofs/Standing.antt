-- An instrumented step stands over a bare one, and the labels of an instrumented run, marks off, are a bare run.
use Rattle.std.proofs.Common.{◌≡◌, ℕ, suc, ◌+◌, ◌-◌, ◌<◌, ◌≤◌, List, [], ◌∷◌, ◌++◌, ℤ, pos, Some, map, length, replicate, refl, sym, ap, ◌∙◌, subst, arith}
use Rattle.std.specs.Prelude.{slice_get}
use Rattle.std.proofs.lemmas.Option.{same_Some}
use Rattle.std.proofs.lemmas.List.{length-map, length-replicate}
use Rattle.lc_term.specs.Updates.{stored_all, variable}
use Rattle.lc_machine.specs.Runs.{BareRuns}
use Rattle.lc_term.specs.Meaning.{State}
use Rattle.lc_term.specs.State.{initial_state}
use Rattle.lc_seq.specs.Specification as Q
use Rattle.lc_object.specs.Syntax as O
use Rattle.lc_object.specs.declared.instr.EdgeKind.TheVariants.{Next}
use Rattle.lc_machine.specs.World.{In, World, initial_world, initial_numbers}
use Rattle.lc_machine.specs.Step.{Event, Invoked, Moved, Returned, Does, Steps, Goes, Answers}
use Rattle.lc_object.specs.Places.{operation_at}
use Rattle.lc_rider.specs.Rider.{Mark, invocation_writes, return_writes}
use Rattle.lc_outline.specs.Development.{Development, first_system, start_columns}
use Rattle.lc_sound.specs.Instrumented.{Label, Instrumented, Runs, start_world, with_columns, IsOver, IsConcrete, unmarked}
use Rattle.lc_outline.specs.Resolved.{IsResolved}
use Rattle.lc_term.proofs.Stores.{writes_other}
use Rattle.lc_sound.proofs.RowChanges.{invocation_behind}
use Rattle.lc_machine.proofs.Over.{Agree, step_over}
use Rattle.lc_sound.proofs.Leaving.{behind_other, rides_leave}
use Rattle.lc_sound.proofs.Ordered.{column_in_front}
use Rattle.lc_object.specs.Syntax.{Point}
use Rattle.lc_sound.specs.Claims.{RunsStandOver}
use Rattle.lc_outline.specs.Development.{riders_at}
use Rattle.lc_machine.proofs.Bodies.{point_is_placed, answers_next}
use Rattle.lc_sound.proofs.Book.{riders_resolved}

pub own_of : (D : Development) → IsResolved D → (k : ℕ) → (length D.object.abstracts ≤ k) × (k < length D.object.abstracts + length D.object.concretes) → IsConcrete D k
own_of D R k own = let a = R.abstracts in (let x = own.0 in omega arith, let y = own.1 in omega arith)

pub to_own : (D : Development) → IsResolved D → (k : ℕ) → IsConcrete D k → (length D.object.abstracts ≤ k) × (k < length D.object.abstracts + length D.object.concretes)
to_own D R k own = let a = R.abstracts in (let x = own.0 in omega arith, let y = own.1 in omega arith)

-- at the start the object's columns are the same
pub start_over : (D : Development) → IsResolved D → (n : ℕ) → IsOver D (start_world D n) (initial_world D.object n)
start_over D R n = record { clients = refl; columns = λ k own. same k own }
  where
    skipped : (xs ys : List (ℤ × ℤ)) (k : ℕ) → initial_state (xs ++ ys) (length xs + k) ≡ initial_state ys k
    skipped [] ys k = let z : 0 + k ≡ k = omega arith in ap (initial_state ys) z
    skipped (x ∷ xs) ys k = let z : length (x ∷ xs) + k ≡ suc (length xs + k) = omega arith in ap (initial_state (x ∷ xs ++ ys)) z ∙ skipped xs ys k

    mine : List (ℤ × ℤ)
    mine = map (λ (c : O.Column). (c.slope, c.start)) D.object.concretes

    front : List (ℤ × ℤ)
    front = map (λ (c : Q.Column). (c.slope, c.start)) D.specification.columns

    rest : List (ℤ × ℤ)
    rest = map (λ (c : Q.Column). (c.slope, c.start)) D.auxiliaries

    at : (j : ℕ) → j < length D.object.concretes → start_columns D (length D.specification.columns + j) ≡ initial_state (initial_numbers D.object) (length D.specification.columns + j)
    at j lt =
        let count : length front ≡ length D.specification.columns = length-map D.specification.columns (λ (c : Q.Column). (c.slope, c.start)) in
        let own-count : length mine ≡ length D.object.concretes = length-map D.object.concretes (λ (c : O.Column). (c.slope, c.start)) in
        let none : length (replicate (length D.object.abstracts) (pos 0, pos 0)) ≡ length D.specification.columns = length-replicate (length D.object.abstracts) (pos 0, pos 0) ∙ R.abstracts in
        ap (λ i. start_columns D (i + j)) (sym count) ∙ (skipped front (mine ++ rest) j ∙ (column_in_front mine rest j (omega arith)
        ∙ (sym (skipped (replicate (length D.object.abstracts) (pos 0, pos 0)) mine j) ∙ ap (λ i. initial_state (initial_numbers D.object) (i + j)) none)))

    same : (k : ℕ) → IsConcrete D k → start_columns D k ≡ initial_state (initial_numbers D.object) k
    same k own =
        let a = own.0 in
        let z = own.1 in
        let is : length D.specification.columns + (k - length D.specification.columns) ≡ k = omega arith in
        let few-left : k - length D.specification.columns < length D.object.concretes = omega arith in
        subst (λ i. start_columns D i ≡ initial_state (initial_numbers D.object) i) is (at (k - length D.specification.columns) few-left)

-- ---- a step

module _ (D : Development) (R : IsResolved D) (w b : World) (over : IsOver D w b) (c : ℕ) where
  agree : Agree D.object w.columns b.columns
  agree k own = over.columns k (own_of D R k own)

  abbrev pub StandsOver : Event → World → Type 0
  StandsOver what v = (b' : World) × Steps D.object b c what b' × IsOver D v b'

  -- what is done after a bare step leaves the object's columns
  stands : (what : Event) (mid v : World) (m : State) → Steps D.object w c what mid → v ≡ with_columns mid m → ((k : ℕ) → IsConcrete D k → m k ≡ mid.columns k) → StandsOver what v
  stands what mid v m step v-is same =
      let so = step_over D.object R.object w b over.clients agree c what mid step in (
        so.to,
        so.steps,
        record { clients = ap (λ (y : World). y.clients) v-is ∙ so.clients; columns = λ k own. (λ i. (v-is i).columns k) ∙ (same k own ∙ so.columns k (to_own D R k own)) },
      )

  pub stands_over : (what : Event) (ms : List Mark) (v : World) → Instrumented D w c what ms v → StandsOver what v
  stands_over (Invoked o ns) ms v (mid, step, none, v-is) =
      stands (Invoked o ns) mid v (stored_all mid.columns (invocation_writes (first_system D) c o ns)) step v-is
      (λ k own. writes_other mid.columns (invocation_writes (first_system D) c o ns) k (behind_other (first_system D) k (invocation_writes (first_system D) c o ns) (let l = own.1 in omega arith) (invocation_behind (first_system D) c o ns)))
  stands_over (Moved point k) ms v (mid, there, variables, m, (vs, i, running, s', next, new, done, mid-is), isc, ride, v-is) =
      let pt : Point = running.code.0 in
      let gone = subst (λ j. Does D.object w.columns vs j k s' (Goes next new)) (sym running.code.2) done in
      let res = riders_resolved D R w.columns s' vs point pt k (Goes next new) running.code.1 gone in
      stands (Moved point k) mid v m (vs, i, running, s', next, new, done, mid-is) v-is (λ j own. rides_leave D R j own c (operation_at D.object point) (variable variables) (riders_at D point k) mid.columns m ms res ride)
  stands_over (Returned ns) ms v (mid, point, variables, m, isc, (p, vs, i, running, k, s', done, mid-is), ride, just, v-is) =
      let pt : Point = running.code.0 in
      let client : In point variables ≡ In p vs = same_Some (In point variables) (In p vs) (sym isc ∙ running.client) in
      let is-p : point ≡ p = cc client in
      let at : slice_get D.object.points point ≡ Some pt = ap (slice_get D.object.points) is-p ∙ running.code.1 in
      let given = subst (λ j. Does D.object w.columns vs j k s' (Answers ns)) (sym running.code.2) done in
      let gone = subst (λ x. Does D.object w.columns vs pt.instruction x s' (Answers ns)) (answers_next D.object pt.operation (point_is_placed D.object R.object point pt at).operation w.columns vs k s' pt.instruction ns given) given in
      let res = riders_resolved D R w.columns s' vs point pt Next (Answers ns) at gone in
      stands (Returned ns) mid v (stored_all m (return_writes (first_system D) c)) (p, vs, i, running, k, s', done, mid-is) v-is
      (λ j own. writes_other m (return_writes (first_system D) c) j ((λ x. let l = own.1 in omega arith), tt)
      ∙ rides_leave D R j own c (operation_at D.object point) (variable variables) (riders_at D point Next) mid.columns m ms res ride)

-- ---- a run

over_all : (D : Development) (R : IsResolved D) (ls : List Label) (w b v : World) → IsOver D w b → Runs D w ls v → (b' : World) × BareRuns D.object b (map unmarked ls) b' × IsOver D v b'
over_all D R [] w b v over run = (b, refl, subst (λ x. IsOver D x b) (sym run) over)
over_all D R (l ∷ ls) w b v over (mid, step, rest) =
    let x = stands_over D R w b over l.client l.what l.marks mid step in
    let y = over_all D R ls mid x.0 v x.2 rest in
    (y.0, (x.0, x.1, y.1), y.2)

pub runs_stand_over : RunsStandOver
runs_stand_over D R n ls w run = over_all D R ls (start_world D n) (initial_world D.object n) w (start_over D R n) run
