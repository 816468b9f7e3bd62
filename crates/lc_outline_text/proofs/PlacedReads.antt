-- What is read where its parts are.
use Rattle.std.proofs.Common.{◌≡◌, ℕ, ◌+◌, Bool, false, cond, List, [], ◌++◌, Option, Some, refl, sym, ap, ap₂, ◌∙◌}
use Rattle.std.specs.Prelude.{codes, ◌&&◌}
use Rattle.lc_sexp.specs.Trees.{Tree, Trees, ◌▸◌, item_count}
use Rattle.lc_reading.specs.Readings.{Reading, wrong, both, ended}
use Rattle.lc_reading.specs.declared.pass.Pass.TheVariants.{Shape}
use Rattle.lc_text.specs.Names.{Names}
use Rattle.lc_text.specs.Terms.{pair}
use Rattle.lc_object.specs.Syntax.{Point}
use Rattle.lc_object_text.specs.ObjectNames.{Body}
use Rattle.lc_object_text.specs.Points.{body_reading}
use Rattle.lc_object_text.specs.Sections.{Sections, forms_in}
use Rattle.lc_rider_text.specs.Known.{Known, Ways}
use Rattle.lc_rider_text.specs.Scopes.{beside_names}
use Rattle.lc_outline_text.specs.Bodies.{due_reading}
use Rattle.lc_outline_text.specs.Declarations.{Declarations, known_of, own_ways}
use Rattle.lc_outline_text.specs.Developments.{development_of, specification_reading, object_reading, second_form_reading, forms_reading}
use Rattle.lc_outline_text.specs.Needs.{code_word, edges_of, lacks_on}
use Rattle.lc_outline_text.specs.Points.{formulas_in_reading, outline_reading, beside}
use Rattle.lc_outline_text.specs.Sides.{invariant_reading, conditions_reading}

-- (invariant ..) (idle ..) ..
pub conditions_at : (d : Declarations) (n m i j : ℕ) (t u : Tree) (ts us : Trees) → us ≡ t ▸ u ▸ ts → i ≡ m → j ≡ m + item_count t
    → conditions_reading d n m us ≡ both pair (invariant_reading d i t) (formulas_in_reading (codes "idle") (beside_names d.declared.columns (Some [])) j u)
conditions_at d n m i j t u ts us same first second = rw (same, first, second) refl

-- (assert ..) ON ..
pub beside_at : (known : Known) (names : Names) (own : Option Ways) (n : ℕ) (code : Tree) (shaped : Bool) (r : Reading Point) (m i k : ℕ) (word : List ℕ) (t : Tree) (ts us : Trees) → us ≡ t ▸ ts → i ≡ m → k ≡ m + item_count t
    → word ≡ code_word code → (shaped && lacks_on known.actions word (forms_in (codes "on") ts)) ≡ false
    → beside known names own n code shaped r m us ≡ both pair r (outline_reading known names own (edges_of word) i t k ts)
beside_at known names own n code shaped r m i k word t ts us same first second is e =
    let outline = λ (w : List ℕ) (x y : ℕ). both pair r (outline_reading known names own (edges_of w) x t y ts) in
    ap (beside known names own n code shaped r m) same
    ∙ ap (λ w. cond (shaped && lacks_on known.actions w (forms_in (codes "on") ts)) (wrong Shape n) (outline w m (m + item_count t))) (sym is)
    ∙ ap (λ b. cond b (wrong Shape n) (outline word m (m + item_count t))) e
    ∙ ap₂ (outline word) (sym first) (sym second)

-- the expected body
pub due_at : (d : Declarations) (o : Option Body) (b : Body) (known : Known) (columns : List (List ℕ)) (others : Option (List (List ℕ))) (own : Option Ways) (place n : ℕ) (t : Tree) → Some b ≡ o → known ≡ known_of d
    → columns ≡ d.declared.columns → others ≡ Some (b.call.arguments ++ b.locals) → own ≡ own_ways d place
    → due_reading d o place n t ≡ body_reading d.declared b (beside known (beside_names columns others) own) place n t
due_at d o b known columns others own place n t there e1 e2 e3 e4 =
    let read = λ (k : Known) (cs : List (List ℕ)) (os : Option (List (List ℕ))) (c : Option Ways). body_reading d.declared b (beside k (beside_names cs os) c) place n t in
    let all = Some (b.call.arguments ++ b.locals) in
    ap (λ x. due_reading d x place n t) (sym there)
    ∙ ap (λ k. read k d.declared.columns all (own_ways d place)) (sym e1)
    ∙ ap (λ cs. read known cs all (own_ways d place)) (sym e2)
    ∙ ap₂ (read known columns) (sym e3) (sym e4)

-- SPEC OBJECT
pub forms_at : (d : Declarations) (s : Sections) (n i k : ℕ) (t : Tree) (ts us : Trees) → us ≡ t ▸ ts → i ≡ n → k ≡ n + item_count t
    → forms_reading d s n us ≡ both development_of (specification_reading d i t) (second_form_reading d s k ts)
forms_at d s n i k t ts us same first second = rw (same, first, second) refl

-- OBJECT
pub second_at : (d : Declarations) (s : Sections) (n i k : ℕ) (t : Tree) (ts us : Trees) → us ≡ t ▸ ts → i ≡ n → k ≡ n + item_count t → second_form_reading d s n us ≡ ended k ts (object_reading d s i)
second_at d s n i k t ts us same first second = rw (same, first, second) refl
