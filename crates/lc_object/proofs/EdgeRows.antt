-- The facts and updates of rows, and the edges of points, one after another.
use Rattle.std.proofs.Common.{◌≡◌, ℕ, ◌+◌, ◌≤◌, ◌<◌, List, [], ◌∷◌, ◌++◌, length, drop, map, refl, sym, ap, ap₂, ◌∙◌, append-nil, append_assoc, arith, get_or, rules}
use Rattle.std.proofs.lemmas.List.{drop_more, map-append}
use Rattle.lc_lemmas.proofs.Lists.{dropped_all}
use Rattle.lc_base.specs.declared.ids.ColId.{ColId}
use Rattle.lc_term.specs.Syntax as T
use Rattle.lc_term.specs.Syntax.{Read, Base, Eq}
use Rattle.lc_term.specs.View.{term_of, formula_of, formulas_of}
use Rattle.lc_term.specs.declared.term.Term.{Term}
use Rattle.lc_term.specs.declared.formula.Formula.{Formula}
use Rattle.lc_term.specs.declared.formula.Formula as F
use Rattle.lc_object.specs.Syntax as S
use Rattle.lc_object.specs.View.{columns_of, terms_of, point_of}
use Rattle.lc_object.specs.Edges.{row_updates, row_sums, row_facts, edges_at, edges_from, Update, Edge}
use Rattle.lc_object.specs.declared.parts.Point.{Point}

updates_none : (cs : List ℕ) (t : T.Term) → row_updates cs t [] ≡ []
updates_none [] t = refl
updates_none (c ∷ cs) t = refl

facts_none : (cs : List ℕ) (t : T.Term) → row_facts cs t [] ≡ []
facts_none [] t = refl
facts_none (c ∷ cs) t = refl

sums_none : (cs : List ℕ) (t : T.Term) → row_sums cs t [] ≡ []
sums_none [] t = refl
sums_none (c ∷ cs) t = refl

pub sums_end : (cs : List ColId) (t : T.Term) (ds : List Term) (i : ℕ) (done whole : List T.Term) → length ds ≤ i →
    done ++ row_sums (columns_of (drop i cs)) t (terms_of (drop i ds)) ≡ whole → done ≡ whole
sums_end cs t ds i done whole h e =
    sym (append-nil done) ∙ ap (λ r. done ++ r) (sym (ap (λ l. row_sums (columns_of (drop i cs)) t (terms_of l)) (dropped_all ds i h) ∙ sums_none (columns_of (drop i cs)) t)) ∙ e

-- no term is left
pub updates_end : (cs : List ColId) (t : T.Term) (vs : List Term) (i : ℕ) (done whole : List Update) → length vs ≤ i →
    done ++ row_updates (columns_of (drop i cs)) t (terms_of (drop i vs)) ≡ whole → done ≡ whole
updates_end cs t vs i done whole h e =
    sym (append-nil done) ∙ ap (λ r. done ++ r) (sym (ap (λ l. row_updates (columns_of (drop i cs)) t (terms_of l)) (dropped_all vs i h) ∙ updates_none (columns_of (drop i cs)) t)) ∙ e

pub facts_end : (cs : List ColId) (t : T.Term) (vs : List Term) (i : ℕ) (done whole : List T.Formula) → length vs ≤ i →
    done ++ row_facts (columns_of (drop i cs)) t (terms_of (drop i vs)) ≡ whole → done ≡ whole
facts_end cs t vs i done whole h e =
    sym (append-nil done) ∙ ap (λ r. done ++ r) (sym (ap (λ l. row_facts (columns_of (drop i cs)) t (terms_of l)) (dropped_all vs i h) ∙ facts_none (columns_of (drop i cs)) t)) ∙ e

-- one more fact
pub facts_more : (cs : List ColId) (t : T.Term) (vs : List Term) (i : ℕ) (c : ColId) (v : Term) (done new : List Formula) (f : Formula) (whole : List T.Formula) →
    i < length cs → c ≡ get_or cs i (record { 0 = 0 }) → i < length vs → v ≡ get_or vs i v → new ≡ done ++ f ∷ [] → formula_of f ≡ Eq (Read (Base c.0) t) (term_of v) →
    formulas_of done ++ row_facts (columns_of (drop i cs)) t (terms_of (drop i vs)) ≡ whole →
    formulas_of new ++ row_facts (columns_of (drop (i + 1) cs)) t (terms_of (drop (i + 1) vs)) ≡ whole
facts_more cs t vs i c v done new f whole hc ec hv ev pushed is e =
    let rest = row_facts (columns_of (drop (i + 1) cs)) t (terms_of (drop (i + 1) vs)) in
    let columns = drop_more cs i (record { 0 = 0 }) hc ∙ ap (λ x. x ∷ drop (i + 1) cs) (sym ec) in
    let values = drop_more vs i v hv ∙ ap (λ x. x ∷ drop (i + 1) vs) (sym ev) in
    ap (λ l. l ++ rest) (ap formulas_of pushed ∙ map-append formula_of done (f ∷ [])) ∙
    append_assoc (formulas_of done) (formula_of f ∷ []) rest ∙
    ap (λ x. formulas_of done ++ x ∷ rest) is ∙
    ap (λ l. formulas_of done ++ l) (sym (ap₂ (λ ks us. row_facts (columns_of ks) t (terms_of us)) columns values)) ∙ e

-- one more point
pub edges_more : (object : S.Object) (ps : List Point) (i : ℕ) (p : Point) (done new whole : List Edge) → i < length ps → p ≡ get_or ps i p →
    new ≡ done ++ edges_at object i (point_of p).instruction → done ++ edges_from object i (map point_of (drop i ps)) ≡ whole →
    new ++ edges_from object (i + 1) (map point_of (drop (i + 1) ps)) ≡ whole
edges_more object ps i p done new whole h is pushed e =
    let rest = edges_from object (i + 1) (map point_of (drop (i + 1) ps)) in
    let points = drop_more ps i p h ∙ ap (λ x. x ∷ drop (i + 1) ps) (sym is) in
    ap (λ l. l ++ rest) pushed ∙ append_assoc done (edges_at object i (point_of p).instruction) rest ∙
    ap (λ l. done ++ l) (ap (λ k. edges_at object i (point_of p).instruction ++ edges_from object k (map point_of (drop (i + 1) ps))) (omega arith) ∙
    sym (ap (λ l. edges_from object i (map point_of l)) points)) ∙ e

pub formula_of-Eq : (t u : Term) → formula_of (F.Eq t u) ≡ Eq (term_of t) (term_of u)
formula_of-Eq t u = search (rules, F.the_lemmas)
