-- Actions of other clients, one after another.
use Rattle.std.proofs.Common.{◌≡◌, ℕ, zero, suc, ◌+◌, ◌<◌, Some, List, [], ◌∷◌, ◌++◌, map, take, length, get_or, refl, sym, subst, ap, ap₂, ◌∙◌, arith, zero-add}
use Rattle.std.specs.Prelude.{Option, None, option_map, slice_get}
use Rattle.std.proofs.lemmas.Option.{slice_get-get_or}
use Rattle.std.proofs.lemmas.List.{map-append, take_more, take_all, length-map, length-take-le}
use Rattle.lc_lemmas.proofs.Lists.{mapped_get}
use Rattle.lc_base.specs.declared.ids.PointId.{PointId}
use Rattle.lc_term.specs.Lists.{Every, numbered, concat_places}
use Rattle.lc_table.specs.NodeTables.{Table}
use Rattle.lc_term.specs.Syntax as T
use Rattle.lc_term.specs.Syntax.{Formula}
use Rattle.lc_table.specs.Tables.{Keeps, HasFormula, formula_in, formulas_in, AreFormulas}
use Rattle.lc_table.specs.declared.node.FormulaId.{FormulaId}
use Rattle.lc_table.proofs.Later.{formula_has, are_formulas_still, formulas_still}
use Rattle.lc_action.specs.Action.{Action}
use Rattle.lc_outline.specs.Development.{Development}
use Rattle.lc_outline.specs.Resolved.{IsBelow}
use Rattle.lc_cond.specs.Adding.{HasFormulas, Adds}
use Rattle.lc_cond.specs.Conditions as S
use Rattle.lc_cond.specs.Conditions.{stable_under, stable_goal}
use Rattle.lc_cond.specs.Crossings.{code_variable_limit, IsGiven, IsCrossing, AreCrossings, HaveGoals, MakesStable, MakesAllStable}
use Rattle.lc_cond.specs.Heads.{MakesOne}
use Rattle.lc_cond.specs.declared.condition.Kind.TheVariants as K
use Rattle.lc_cond.specs.declared.condition.Passage.TheVariants as P
use Rattle.lc_cond.specs.declared.condition.Which.TheVariants as W
use Rattle.lc_cond.specs.declared.condition.Condition.{Condition}
use Rattle.lc_cond.specs.declared.stability.Crossing.{Crossing}
use Rattle.lc_cond.specs.declared.stability.Given.{Given}
use Rattle.lc_cond.proofs.Adding.{formulas_later, terms_later, formulas_joined, formulas_listed, adds_both, adds_nothing}
use Rattle.lc_cond.proofs.Made.{numbered-snoc}
use Rattle.lc_cond.proofs.Ridden.{concat_places-snoc}

pub given_later : (old new : Table) (D : Development) (g : Given) → IsGiven old D g → Keeps old new → IsGiven new D g
given_later old new D g h kept = record {
  few = h.few;
  variables = terms_later old new g.variables.now _ h.variables kept;
  clients = formulas_later old new g.clients.now _ h.clients kept;
  known = are_formulas_still old new g.known.now h.known kept;
  invariant = formulas_later old new g.invariant.now _ h.invariant kept;
  asserts = are_formulas_still old new g.asserts.now h.asserts kept;
  below = subst (Every (IsBelow code_variable_limit)) (sym (formulas_still old new g.asserts.now h.asserts kept)) h.below;
}

-- what is known of a client, part by part
pub known_all : (old new : Table) (frame invariant asserts i a known now : List FormulaId) (hs gs fs : List Formula) → HasFormulas old frame hs → Keeps old new → HasFormulas new invariant gs → HasFormulas new asserts fs →
    i ≡ invariant → a ≡ asserts → known ≡ frame ++ (i ++ a) → now ≡ known → HasFormulas new now (hs ++ (gs ++ fs))
known_all old new frame invariant asserts i a known now hs gs fs at kept is holds same other joins listed =
    formulas_listed new (frame ++ (invariant ++ asserts)) now (hs ++ (gs ++ fs))
    (formulas_joined new frame (invariant ++ asserts) hs (gs ++ fs) (formulas_later old new frame hs at kept) (formulas_joined new invariant asserts gs fs is holds))
    (listed ∙ joins ∙ ap₂ (λ k l. frame ++ (k ++ l)) same other)

crossing_later : (old new : Table) (D : Development) (n : ℕ) (hs fs : List Formula) (a : Action) (c : Crossing) → IsCrossing old D n hs fs a c → Keeps old new → IsCrossing new D n hs fs a c
crossing_later old new D n hs fs a c h kept = record {
  variables = h.variables;
  hypotheses = formulas_later old new c.hypotheses _ h.hypotheses kept;
  goals = formulas_later old new c.goals.items _ h.goals kept;
}

pub crossings_later : (old new : Table) (D : Development) (n : ℕ) (hs fs : List Formula) (actions : List Action) (cs : List Crossing) → AreCrossings old D n hs fs actions cs → Keeps old new → AreCrossings new D n hs fs actions cs
crossings_later old new D n hs fs [] [] h kept = tt
crossings_later old new D n hs fs [] (c ∷ cs) h kept = absurd h
crossings_later old new D n hs fs (a ∷ actions) [] h kept = absurd h
crossings_later old new D n hs fs (a ∷ actions) (c ∷ cs) h kept = (crossing_later old new D n hs fs a c h.0 kept, crossings_later old new D n hs fs actions cs h.1 kept)

-- one more
crossings_snoc : (ts : Table) (D : Development) (n : ℕ) (hs fs : List Formula) (actions : List Action) (cs : List Crossing) (a : Action) (c : Crossing) → AreCrossings ts D n hs fs actions cs → IsCrossing ts D n hs fs a c →
    AreCrossings ts D n hs fs (actions ++ a ∷ []) (cs ++ c ∷ [])
crossings_snoc ts D n hs fs [] [] a c h k = (k, tt)
crossings_snoc ts D n hs fs [] (d ∷ cs) a c h k = absurd h
crossings_snoc ts D n hs fs (b ∷ actions) [] a c h k = absurd h
crossings_snoc ts D n hs fs (b ∷ actions) (d ∷ cs) a c h k = (h.0, crossings_snoc ts D n hs fs actions cs a c h.1 k)

pub crossings_put : (old new : Table) (D : Development) (n : ℕ) (hs fs : List Formula) (actions : List Action) (cs now : List Crossing) (a : Action) (c : Crossing) → now ≡ cs ++ c ∷ [] → AreCrossings old D n hs fs actions cs → Keeps old new →
    IsCrossing new D n hs fs a c → AreCrossings new D n hs fs (actions ++ a ∷ []) now
crossings_put old new D n hs fs actions cs now a c pushed h kept k =
    subst (λ l. AreCrossings new D n hs fs (actions ++ a ∷ []) l) (sym pushed) (crossings_snoc new D n hs fs actions cs a c (crossings_later old new D n hs fs actions cs h kept) k)

-- each has a goal for each assertion
-- one for each action
pub crossings_length : (ts : Table) (D : Development) (n : ℕ) (hs fs : List Formula) (actions : List Action) (cs : List Crossing) → AreCrossings ts D n hs fs actions cs → length cs ≡ length actions
crossings_length ts D n hs fs [] [] h = refl
crossings_length ts D n hs fs [] (c ∷ cs) h = absurd h
crossings_length ts D n hs fs (a ∷ actions) [] h = absurd h
crossings_length ts D n hs fs (a ∷ actions) (c ∷ cs) h = ap suc (crossings_length ts D n hs fs actions cs h.1)

pub have_goals : (ts : Table) (D : Development) (n : ℕ) (hs fs : List Formula) (actions : List Action) (cs : List Crossing) → AreCrossings ts D n hs fs actions cs → HaveGoals (length fs) cs
have_goals ts D n hs fs [] [] h = tt
have_goals ts D n hs fs [] (c ∷ cs) h = absurd h
have_goals ts D n hs fs (a ∷ actions) [] h = absurd h
have_goals ts D n hs fs (a ∷ actions) (c ∷ cs) h =
    (sym (length-map c.goals.items (formula_in ts)) ∙ ap length h.0.goals.trees ∙ length-map fs (λ f. stable_goal n f a), have_goals ts D n hs fs actions cs h.1)

pub goals_enough : (count k : ℕ) (cs : List Crossing) → HaveGoals count cs → k < count → Every (λ (c : Crossing). k < length c.goals.items) cs
goals_enough count k [] h below = tt
goals_enough count k (c ∷ cs) h below = let e = h.0 in (omega arith, goals_enough count k cs h.1 below)

formula_there : (ts : Table) (ks : List FormulaId) (i : ℕ) (d : FormulaId) (f : Formula) → AreFormulas ts ks → slice_get (formulas_in ts ks) i ≡ Some f → HasFormula ts (get_or ks i d) f
formula_there ts [] i d f are h = cc
formula_there ts (k ∷ ks) zero d f are h = let e : formula_in ts k ≡ f = cc in subst (HasFormula ts k) e (formula_has ts k are.0)
formula_there ts (k ∷ ks) (suc i) d f are h = formula_there ts ks i d f are.1 h

pub goal_there : (ts : Table) (D : Development) (n : ℕ) (hs fs : List Formula) (a : Action) (c : Crossing) (k : ℕ) (d : FormulaId) (f : Formula) → IsCrossing ts D n hs fs a c → slice_get fs k ≡ Some f →
    HasFormula ts (get_or c.goals.items k d) (stable_goal n f a)
goal_there ts D n hs fs a c k d f h at =
    formula_there ts c.goals.items k d (stable_goal n f a) h.goals.are (ap (λ l. slice_get l k) h.goals.trees ∙ mapped_get (λ g. stable_goal n g a) fs k f at)

-- the last of some
crossings_last : (ts : Table) (D : Development) (n : ℕ) (hs fs : List Formula) (actions : List Action) (cs : List Crossing) (c : Crossing) → AreCrossings ts D n hs fs actions (cs ++ c ∷ []) →
    (front : List Action) × (a : Action) × (actions ≡ front ++ a ∷ []) × AreCrossings ts D n hs fs front cs × IsCrossing ts D n hs fs a c × (length front ≡ length cs)
crossings_last ts D n hs fs [] [] c h = absurd h
crossings_last ts D n hs fs (a ∷ []) [] c h = ([], a, refl, tt, h.0, refl)
crossings_last ts D n hs fs (a ∷ b ∷ actions) [] c h = absurd h.1
crossings_last ts D n hs fs [] (d ∷ cs) c h = absurd h
crossings_last ts D n hs fs (b ∷ actions) (d ∷ cs) c h =
    let r = crossings_last ts D n hs fs actions cs c h.1 in (b ∷ r.0, r.1, ap (λ l. b ∷ l) r.2, (h.0, r.3), r.4, ap suc r.5)

-- one action more
pub stable_more : (point : Option PointId) (k j : ℕ) (cs : List Crossing) (i : ℕ) (c : Crossing) (d : FormulaId) (old now new : List Condition) → i < length cs → c ≡ get_or cs i c →
    MakesStable point k j (take i cs) old now →
    MakesOne (record { kind = K.Stable; variables = c.variables; point = point; passage = P.Action i; path = None }) (W.Numbered k) c.hypotheses (get_or c.goals.items j d) now new →
    MakesStable point k j (take (i + 1) cs) old new
stable_more point k j cs i c d old now new below is so_far one ts D n hs fs actions f h at =
    let split : take (i + 1) cs ≡ take i cs ++ c ∷ [] = take_more cs i c below ∙ ap (λ x. take i cs ++ x ∷ []) (sym is) in
    let r = crossings_last ts D n hs fs actions (take i cs) c (subst (AreCrossings ts D n hs fs actions) split h) in
    let st : ℕ → Action → S.Condition = stable_under D (option_map (λ (p : PointId). p.0) point) n hs k f in
    let place : length r.0 ≡ i = r.5 ∙ length-take-le i cs (omega arith) in
    let last = one ts _ _ r.4.hypotheses (goal_there ts D n hs fs r.1 c j d f r.4 at) in
    let reads : record (st i r.1) { variables = c.variables } ≡ st i r.1 = ap (λ v. record (st i r.1) { variables = v }) r.4.variables in
    let says : numbered st 0 r.0 ++ st i r.1 ∷ [] ≡ numbered st 0 actions =
    ap (λ m. numbered st 0 r.0 ++ st m r.1 ∷ []) (sym place) ∙ ap (λ m. numbered st 0 r.0 ++ st m r.1 ∷ []) (sym (zero-add (length r.0))) ∙ sym (numbered-snoc st 0 r.0 r.1) ∙ ap (numbered st 0) (sym r.2) in
    subst (Adds old ts new) says (adds_both old now new ts _ _ (so_far ts D n hs fs r.0 f r.3 at) (subst (λ x. Adds now ts new (x ∷ [])) reads last))

-- no action yet
pub stable_none : (point : Option PointId) (k j : ℕ) (old : List Condition) → MakesStable point k j [] old old
stable_none point k j old ts D n hs fs [] f h at = adds_nothing old ts
stable_none point k j old ts D n hs fs (a ∷ actions) f h at = absurd h

-- the conjuncts so far
abbrev pub StableBelow : Option PointId → ℕ → ℕ → ℕ → List Crossing → List Condition → List Condition → Type 0
StableBelow point k count i crossings old now =
    (ts : Table) (D : Development) (n : ℕ) (hs asserts : List Formula) (actions : List Action) → AreCrossings ts D n hs asserts actions crossings → length asserts ≡ count →
    Adds old ts now (concat_places (λ j f. numbered (stable_under D (option_map (λ (p : PointId). p.0) point) n hs j f) 0 actions) k (take i asserts))

pub conjunct_more : (point : Option PointId) (k count i : ℕ) (crossings : List Crossing) (old now new : List Condition) → i < count → StableBelow point k count i crossings old now → MakesStable point (k + i) i crossings now new →
    StableBelow point k count (i + 1) crossings old new
conjunct_more point k count i crossings old now new below so_far one ts D n hs asserts actions h count_is =
    let f = get_or asserts i (T.And T.none) in
    let lt : i < length asserts = omega arith in
    let st : ℕ → Formula → List S.Condition = λ j g. numbered (stable_under D (option_map (λ (p : PointId). p.0) point) n hs j g) 0 actions in
    let place : k + length (take i asserts) ≡ k + i = ap (λ m. k + m) (length-take-le i asserts (omega arith)) in
    let says : concat_places st k (take i asserts) ++ st (k + i) f ≡ concat_places st k (take (i + 1) asserts) =
    ap (λ m. concat_places st k (take i asserts) ++ st m f) (sym place) ∙ sym (concat_places-snoc st k (take i asserts) f) ∙ ap (concat_places st k) (sym (take_more asserts i (T.And T.none) lt)) in
    subst (Adds old ts new) says (adds_both old now new ts _ _ (so_far ts D n hs asserts actions h count_is) (one ts D n hs asserts actions f h (slice_get-get_or asserts i (T.And T.none) lt)))

pub conjuncts_all : (point : Option PointId) (k count i : ℕ) (crossings : List Crossing) (old now : List Condition) → i ≡ count → StableBelow point k count i crossings old now → MakesAllStable point k count crossings old now
conjuncts_all point k count i crossings old now end so_far ts D n hs asserts actions h count_is =
    (let st : ℕ → Formula → List S.Condition = λ j g. numbered (stable_under D (option_map (λ (p : PointId). p.0) point) n hs j g) 0 actions in
    subst (λ l. Adds old ts now (concat_places st k l)) (take_all i asserts (omega arith)) (so_far ts D n hs asserts actions h count_is))

-- one more of some that are seen
pub seen_more : {A B : Type 0} (view : A → B) (xs : List A) (i : ℕ) (x : A) → i < length xs → x ≡ get_or xs i x → map view (take (i + 1) xs) ≡ map view (take i xs) ++ view x ∷ []
seen_more view xs i x below is = ap (map view) (take_more xs i x below ∙ ap (λ y. take i xs ++ y ∷ []) (sym is)) ∙ map-append view (take i xs) (x ∷ [])
