-- What a scene says in later tables, and the parts of its conditions.
use Rattle.std.proofs.Common.{◌≡◌, ℕ, zero, suc, ◌+◌, ◌-◌, ◌<◌, ◌≤◌, Option, Some, None, List, [], ◌∷◌, ◌++◌, map, take, length, get_or, pos, Bor, sym, subst, ap, ap₂, ◌∙◌, arith}
use Rattle.std.specs.Prelude.{option_map, slice_get}
use Rattle.std.proofs.lemmas.List.{map-append, take_more, take_all, length-append, length-map}
use Rattle.std.proofs.lemmas.Option.{same_Some}
use Rattle.std.proofs.Math.Seq.{take-append-add}
use Rattle.lc_base.specs.declared.ids.ColId.{ColId}
use Rattle.lc_base.specs.declared.ids.PointId.{PointId}
use Rattle.lc_term.specs.Syntax.{Term, Column, Formula, Variable, Number}
use Rattle.lc_table.specs.NodeTables.{Table}
use Rattle.lc_put.specs.PutNumbers.{columns_at, AreColumns, replacement_at}
use Rattle.lc_term.specs.Said.{put}
use Rattle.lc_term.specs.Replacement.{replace}
use Rattle.lc_table.specs.Tables.{Keeps, formula_in, formulas_in, IsFormula, AreFormulas}
use Rattle.lc_table.specs.declared.node.TermId.{TermId}
use Rattle.lc_table.specs.declared.node.ColExprId.{ColExprId}
use Rattle.lc_table.specs.declared.node.FormulaId.{FormulaId}
use Rattle.lc_put.proofs.ByNumber.{are_columns_later}
use Rattle.lc_table.proofs.Later.{are_formulas_still, formulas_still, formula_later, formula_is, formula_has}
use Rattle.lc_rider.specs.Paths.{edge_variables, Path}
use Rattle.lc_rider.specs.PathView.{path_in, IsPath, ArePaths, HasPath}
use Rattle.lc_rider.specs.DutyView.{duty_in, owed_in, AreGoals, AreKnown}
use Rattle.lc_rider.specs.declared.duty.Duty.{Duty}
use Rattle.lc_rider.specs.declared.path.Path as P
use Rattle.lc_object.specs.Edges.{Edge}
use Rattle.lc_object.specs.Syntax.{Operation}
use Rattle.lc_action.specs.Action as A
use Rattle.lc_outline.specs.Development as D
use Rattle.lc_outline.specs.DevelopmentView.{on_of}
use Rattle.lc_outline.specs.declared.parts.On.{On}
use Rattle.lc_cond.specs.Conditions as S
use Rattle.lc_cond.specs.Conditions.{at_end, path_place, conditions_of, alone_on_path, action_conditions, on_conditions}
use Rattle.lc_cond.specs.Adding.{HasFormulas, HasTerms, HasColumns, Adds}
use Rattle.lc_cond.specs.Heads.{MakesOne}
use Rattle.lc_cond.specs.Scenes.{IsScene, IsSceneOf, IsOutcome, IsReply, IsActing, duty_head, MakesDuties, acting_on, code_in, told_in, duty_conditions}
use Rattle.lc_cond.specs.declared.condition.Condition.{Condition}
use Rattle.lc_cond.specs.declared.condition.Which.TheVariants as W
use Rattle.lc_cond.specs.declared.edge_conditions.Outcome.{Outcome}
use Rattle.lc_cond.specs.declared.matching.Acting.{Acting}
use Rattle.lc_cond.specs.declared.scene.Scene.{Scene}
use Rattle.lc_cond.proofs.Adding.{formulas_later, formulas_joined, first_formulas, terms_later, columns_later, adds_both, adds_nothing}
use Rattle.lc_cond.proofs.Replacing.{put_told}

pub reply_later : (old new : Table) (k : Option FormulaId) (fs : List Formula) → IsReply old k fs → Keeps old new → IsReply new k fs
reply_later old new None fs h kept = h
reply_later old new (Some k) fs h kept = (h.0, formula_later old new k h.0 h.1 kept, h.2)

pub acting_later : (old new : Table) (k : Option Acting) (o : Option (List Term × A.Action)) → IsActing old k o → Keeps old new → IsActing new k o
acting_later old new None o h kept = h
acting_later old new (Some k) o h kept = (h.0, h.1, formula_later old new k.guard _ h.2 kept, columns_later old new k.columns.items _ h.3 kept)

pub scene_later : (old new : Table) (s : Scene) → IsScene old s → Keeps old new → IsScene new s
scene_later old new s h kept = record {
  system = h.system;
  variables = terms_later old new s.variables.items _ h.variables kept;
  hypotheses = are_formulas_still old new s.hypotheses.items h.hypotheses kept;
  invariant = formulas_later old new s.invariant.items _ h.invariant kept;
  next = formulas_later old new s.next.items _ h.next kept;
  reply = reply_later old new s.reply _ h.reply kept;
  acting = acting_later old new s.acting _ h.acting kept;
}

pub outcome_later : (old new : Table) (o : Outcome) → IsOutcome old o → Keeps old new → IsOutcome new o
outcome_later old new o h kept = record { scene = scene_later old new o.scene.now h.scene kept; columns = are_columns_later old new o.columns.now h.columns kept }

pub scene_of_later : (old new : Table) (d : D.Development) (o : ℕ) (operation : Operation) (e : Edge) (s : Scene) → IsSceneOf old d o operation e s → Keeps old new → IsSceneOf new d o operation e s
scene_of_later old new d o operation e s h kept = record {
  development = h.development;
  code = h.code;
  on = h.on;
  count = h.count;
  known = formulas_still old new s.hypotheses.items h.stands.hypotheses kept ∙ h.known;
  stands = scene_later old new s h.stands kept;
}

-- what a return asks for
pub reply_said : (s : Scene) (ts : Table) (j : ℕ) (hs : List Formula) (σ : ℕ → Column) (ps : List (ColId × ColExprId)) (vs : List TermId) (k : FormulaId) (goals : List Formula) →
    HasColumns ts ps σ → HasTerms ts vs (edge_variables s.count (code_in s)) → IsReply ts (Some k) goals →
    record { kind = S.Reply; place = path_place (code_in s) j S.Alone; variables = s.count; hypotheses = hs; goal = replace (replacement_at ts ps vs) (formula_in ts k) } ∷ []
    ≡ conditions_of (alone_on_path S.Reply (code_in s) s.count j) hs (map (told_in s σ) goals)
reply_said s ts j hs σ ps vs k goals columns variables reply =
    ap₂ (λ r g. record { kind = S.Reply; place = path_place (code_in s) j S.Alone; variables = s.count; hypotheses = hs; goal = replace r g } ∷ [])
    (put_told ts ps vs σ (edge_variables s.count (code_in s)) columns variables) (formula_is ts k reply.0 reply.1)
    ∙ ap (λ gs. conditions_of (alone_on_path S.Reply (code_in s) s.count j) hs (map (told_in s σ) gs)) (sym reply.2)

-- ---- duties

-- the conditions of the first j duties, if these are the facts
abbrev pub DutiesBelow : Scene → ℕ → List FormulaId → List Duty → ℕ → List Condition → List Condition → Type 0
DutiesBelow s j facts ds i before now =
    (ts : Table) (hs fs : List Formula) → HasFormulas ts s.hypotheses.items hs → HasFormulas ts facts fs → AreGoals ts ds → Adds before ts now (duty_conditions s j hs (map (duty_in fs) (map (owed_in ts) (take i ds))))

pub duties_none : (s : Scene) (j : ℕ) (facts : List FormulaId) (ds : List Duty) (before : List Condition) → DutiesBelow s j facts ds 0 before before
duties_none s j facts ds before ts hs fs known has goals = adds_nothing before ts

goal_is : (ts : Table) (ds : List Duty) (i : ℕ) (d : Duty) → i < length ds → AreGoals ts ds → IsFormula ts (get_or ds i d).goal
goal_is ts [] i d below h = absurd (omega arith)
goal_is ts (x ∷ ds) zero d below h = h.0
goal_is ts (x ∷ ds) (suc i) d below h = goal_is ts ds i d (omega arith) h.1

-- one duty more
pub duties_more : (s : Scene) (j : ℕ) (facts : List FormulaId) (ds : List Duty) (i : ℕ) (e : Duty) (before now new : List Condition) → i < length ds →
    DutiesBelow s j facts ds i before now → (let d = get_or ds i e in MakesOne (duty_head s j d) (W.Numbered d.rider) (s.hypotheses.items ++ take d.known facts) d.goal now new) → DutiesBelow s j facts ds (i + 1) before new
duties_more s j facts ds i e before now new below so_far made ts hs fs known has goals =
    let d = get_or ds i e in
    let one = made ts (hs ++ take d.known fs) (formula_in ts d.goal) (formulas_joined ts s.hypotheses.items (take d.known facts) hs (take d.known fs) known (first_formulas ts facts fs d.known has)) (formula_has ts d.goal (goal_is ts ds i e below goals)) in
    let split : take (i + 1) ds ≡ take i ds ++ d ∷ [] = take_more ds i e below in
    let says : duty_conditions s j hs (map (duty_in fs) (map (owed_in ts) (take (i + 1) ds))) ≡ duty_conditions s j hs (map (duty_in fs) (map (owed_in ts) (take i ds))) ++ duty_conditions s j hs (duty_in fs (owed_in ts d) ∷ []) =
    ap (λ l. duty_conditions s j hs (map (duty_in fs) (map (owed_in ts) l))) split
    ∙ ap (λ l. duty_conditions s j hs (map (duty_in fs) l)) (map-append (owed_in ts) (take i ds) (d ∷ []))
    ∙ ap (duty_conditions s j hs) (map-append (duty_in fs) (map (owed_in ts) (take i ds)) (owed_in ts d ∷ []))
    ∙ map-append (S.duty_condition (code_in s) s.count j hs) (map (duty_in fs) (map (owed_in ts) (take i ds))) (duty_in fs (owed_in ts d) ∷ []) in
    subst (Adds before ts new) (sym says) (adds_both before now new ts _ _ (so_far ts hs fs known has goals) one)

-- the facts of a path are those of what it stands for
pub facts_along : (ts : Table) (path : P.Path) (p : Path) (facts : List FormulaId) → HasPath ts path p → formulas_in ts facts ≡ (path_in ts path).facts → (IsPath ts path → AreFormulas ts facts) → HasFormulas ts facts p.facts
facts_along ts path p facts has trees are = record { are = are has.is; trees = trees ∙ ap (λ (q : Path). q.facts) has.path }

-- a path among paths
pub path_is : (ts : Table) (ps : List P.Path) (i : ℕ) (p : P.Path) → i < length ps → p ≡ get_or ps i p → ArePaths ts ps → IsPath ts p
path_is ts ps i p below is are = subst (IsPath ts) (sym is) (found ps i below are)
  where
    found : (qs : List P.Path) (k : ℕ) → k < length qs → ArePaths ts qs → IsPath ts (get_or qs k p)
    found [] k below h = absurd (omega arith)
    found (q ∷ qs) zero below h = h.0
    found (q ∷ qs) (suc k) below h = found qs k (omega arith) h.1

-- its columns in the same way
pub columns_along : (ts : Table) (path : P.Path) (p : Path) (ps : List (ColId × ColExprId)) → HasPath ts path p → columns_at ts ps ≡ (path_in ts path).columns → (IsPath ts path → AreColumns ts ps) → HasColumns ts ps p.columns
columns_along ts path p ps has columns are = record { are = are has.is; columns = columns ∙ ap (λ (q : Path). q.columns) has.path }

-- all duties of a path
pub duties_all : (s : Scene) (j : ℕ) (facts : List FormulaId) (ds : List Duty) (path : P.Path) (i : ℕ) (before now : List Condition) → length ds ≤ i →
    ((ts : Table) → formulas_in ts facts ≡ (path_in ts path).facts) → ((ts : Table) → IsPath ts path → AreFormulas ts facts) →
    ((ts : Table) → map (duty_in (path_in ts path).facts) (map (owed_in ts) ds) ≡ (path_in ts path).duties) → ((ts : Table) → IsPath ts path → AreGoals ts ds) →
    DutiesBelow s j facts ds i before now → MakesDuties s j path before now
duties_all s j facts ds path i before now end trees are owed goals below ts hs p known has =
    let here : HasFormulas ts facts (path_in ts path).facts = record { are = are ts has.is; trees = trees ts } in
    let says : map (duty_in (path_in ts path).facts) (map (owed_in ts) (take i ds)) ≡ p.duties =
    ap (λ l. map (duty_in (path_in ts path).facts) (map (owed_in ts) l)) (take_all i ds end) ∙ owed ts ∙ ap (λ (q : Path). q.duties) has.path in
    subst (λ l. Adds before ts now (duty_conditions s j hs l)) says (below ts hs (path_in ts path).facts known here (goals ts has.is))

-- a duty knows no more facts than there are
pub known_within : (facts : List FormulaId) (path : P.Path) (ds : List Duty) (i : ℕ) (d : Duty) → i < length ds →
    ((ts : Table) → formulas_in ts facts ≡ (path_in ts path).facts) → ((ts : Table) → AreKnown (length (path_in ts path).facts) ds) → (get_or ds i d).known ≤ length facts
known_within facts path ds i d below trees known =
    let ts : Table = record { terms = []; formulas = [] } in
    let count : length (path_in ts path).facts ≡ length facts = ap length (sym (trees ts)) ∙ length-map facts (formula_in ts) in
    subst (λ n. (get_or ds i d).known ≤ n) count (few ds i below (known ts))
  where
    few : {n : ℕ} → (es : List Duty) (k : ℕ) → k < length es → AreKnown n es → (get_or es k d).known ≤ n
    few [] k below h = absurd (omega arith)
    few (x ∷ es) zero below h = h.0
    few (x ∷ es) (suc k) below h = few es k (omega arith) h.1

-- so what is known before an edge, with those facts, is the first of what is known on the path
pub known_enough : (before facts these known : List FormulaId) (k : ℕ) → these ≡ known → known ≡ before ++ facts → k ≤ length facts → (length these - length facts) + k ≤ length known
known_enough before facts these known k same is within =
    let all : length known ≡ length before + length facts = ap length is ∙ length-append before facts in omega (arith, ap length same)

pub known_first : (before facts these known : List FormulaId) (k : ℕ) → these ≡ known → known ≡ before ++ facts → take ((length these - length facts) + k) known ≡ before ++ take k facts
known_first before facts these known k same is =
    let all : length these ≡ length before + length facts = ap length (same ∙ is) ∙ length-append before facts in
    let count : length these - length facts ≡ length before = omega arith in
    ap₂ (λ n l. take (n + k) l) count is ∙ take-append-add before facts k

-- the columns at the end of an edge that reaches a point, and of a return
pub at_end-some : (first : ℕ) (o : Option PointId) (q : PointId) (σ τ : ℕ → Column) → o ≡ Some q → σ ≡ τ → σ ≡ at_end first (option_map (λ (p : PointId). p.0) o) τ
at_end-some first o q σ τ is same = same ∙ ap (λ x. at_end first (option_map (λ (p : PointId). p.0) x) τ) (sym is)

pub at_end-none : (first c : ℕ) (o : Option PointId) (σ τ after : ℕ → Column) → o ≡ None → σ ≡ τ → c ≡ first → after ≡ put σ (record { column = c; index = Variable 1; value = Number (pos 0) }) → after ≡ at_end first (option_map (λ (p : PointId). p.0) o) τ
at_end-none first c o σ τ after is same column stored = stored
    ∙ ap₂ (λ (ρ : ℕ → Column) (n : ℕ). put ρ (record { column = n; index = Variable 1; value = Number (pos 0) })) same column
    ∙ ap (λ x. at_end first (option_map (λ (p : PointId). p.0) x) τ) (sym is)

-- ---- what is beside an edge

-- this one does
pub on_some : (dev : D.Development) (e : Edge) (v j : ℕ) (hs : List Formula) (σ : ℕ → Column) (o : Option D.On) (x : List Term × A.Action) → acting_on dev o ≡ Some x → action_conditions dev e v j hs σ x.0 (Some x.1) ≡ on_conditions dev e v j hs σ o
on_some dev e v j hs σ None x is = cc
on_some dev e v j hs σ (Some y) x is = by (slice_get dev.actions y.action) is
  where
    by : (a : Option A.Action) → option_map {U = List Term × A.Action} (λ b. (y.arguments, b)) a ≡ Some x → action_conditions dev e v j hs σ x.0 (Some x.1) ≡ action_conditions dev e v j hs σ y.arguments a
    by None is = cc
    by (Some a) is = ap (λ (z : List Term × A.Action). action_conditions dev e v j hs σ z.0 (Some z.1)) (sym (same_Some _ _ is))

pub acting_found : (dev : D.Development) (o : Option (Bor On)) (x : Bor On) (a : A.Action) → o ≡ Some x → Some a ≡ slice_get dev.actions (on_of x.now).action → acting_on dev (option_map (λ y. on_of y.now) o) ≡ Some ((on_of x.now).arguments, a)
acting_found dev o x a is there =
    ap (λ z. acting_on dev (option_map (λ (y : Bor On). on_of y.now) z)) is ∙ ap (option_map {U = List Term × A.Action} (λ (b : A.Action). ((on_of x.now).arguments, b))) (sym there)
