-- Steps of a walk over points and over bodies.
use Rattle.std.proofs.Common.{◌≡◌, ℕ, suc, ◌+◌, ◌≤◌, ◌<◌, Bool, List, [], ◌∷◌, drop, get_or, length, refl, sym, ap, ap₂, ◌∙◌, arith}
use Rattle.std.proofs.Math.Seq.{drop-cons}
use Rattle.std.proofs.lemmas.List.{drop_all}
use Rattle.std.proofs.lemmas.List.Sums.{sum_by-cons}
use Rattle.std.specs.Prelude.{codes, sum_by, Some}
use Rattle.lc_sexp.specs.Shown.{rest_of}
use Rattle.lc_sexp.specs.Trees.{Tree, Trees, none, ◌▸◌}
use Rattle.lc_sexp.specs.declared.cursor.Cursor.{Cursor}
use Rattle.lc_object_text.specs.DeclaredView.{body_view, bodies_view}
use Rattle.lc_object_text.specs.ObjectNames as N
use Rattle.lc_object_text.specs.Sections.{parts_in, forms_in}
use Rattle.lc_object_text.specs.Seen.{forms_left, IsNextForm}
use Rattle.lc_object_text.specs.declared.declared.Body.{Body}
use Rattle.lc_reading.specs.Parts.{tree_of}
use Rattle.lc_reading.specs.declared.part.Part.{Part}
use Rattle.lc_outline_text.specs.Declarations.{Declarations}
use Rattle.lc_outline_text.specs.Sizes.{Totals, body_conditions, bodies_conditions}

-- one more point
pub point_more : (f : Trees → ℕ) (some : Bool) (old point new : Cursor) → IsNextForm some (codes "point") old (Some point) new
    → sum_by f (forms_left some (codes "point") (rest_of old)) ≡ f (rest_of point) + sum_by f (forms_in (codes "point") (rest_of new))
point_more f some old point new h = ap (sum_by f) h.0 ∙ sum_by-cons f (rest_of point) (forms_in (codes "point") (rest_of new))

-- no body is left
pub no_trees : (d : Declarations) (n : Totals) (o : ℕ) (bs : List N.Body) (ts : Trees) → ts ≡ none → bodies_conditions d n o bs ts ≡ 0
no_trees d n o bs ts e = ap (bodies_conditions d n o bs) e ∙ without bs where
  without : (bs : List N.Body) → bodies_conditions d n o bs none ≡ 0
  without [] = refl
  without (b ∷ bs) = refl

pub no_bodies : (d : Declarations) (n : Totals) (o i : ℕ) (bs cs : List Body) (ts : Trees) → length cs ≤ i → cs ≡ bs → bodies_conditions d n o (bodies_view (drop i bs)) ts ≡ 0
no_bodies d n o i bs cs ts past same = ap (λ xs. bodies_conditions d n o (bodies_view xs) ts) (ap (drop i) (sym same) ∙ drop_all i cs past)

-- one more body
one_body : (d : Declarations) (n : Totals) (o : ℕ) (b : Body) (bs : List Body) (xs : List Body) (t : Tree) (ts us parts : Trees) → xs ≡ b ∷ bs → us ≡ t ▸ ts → parts ≡ parts_in (codes "body") t
    → bodies_conditions d n o (bodies_view xs) us ≡ body_conditions d n o (body_view b) parts + bodies_conditions d n (o + 1) (bodies_view bs) ts
one_body d n o b bs xs t ts us parts e g h =
    let next : suc o ≡ o + 1 = omega arith in
    ap₂ (λ ys vs. bodies_conditions d n o (bodies_view ys) vs) e g
    ∙ ap₂ (λ us k. body_conditions d n o (body_view b) us + bodies_conditions d n k (bodies_view bs) ts) (sym h) next

pub body_more : (d : Declarations) (n : Totals) (o i : ℕ) (bs cs : List Body) (b : Body) (old new : Cursor) (part : Part) (parts : Trees) → i < length cs → cs ≡ bs → b ≡ get_or cs i b
    → rest_of old ≡ tree_of part ▸ rest_of new → parts ≡ parts_in (codes "body") (tree_of part)
    → bodies_conditions d n o (bodies_view (drop i bs)) (rest_of old) ≡ body_conditions d n o (body_view b) parts + bodies_conditions d n (o + 1) (bodies_view (drop (i + 1) bs)) (rest_of new)
body_more d n o i bs cs b old new part parts below same is next at =
    let step : suc i ≡ i + 1 = omega arith in
    let first : drop i cs ≡ b ∷ drop (i + 1) cs = drop-cons cs i b below ∙ ap₂ (λ x k. x ∷ drop k cs) (sym is) step in
    one_body d n o b (drop (i + 1) bs) (drop i bs) (tree_of part) (rest_of new) (rest_of old) parts (ap (drop i) (sym same) ∙ first ∙ ap (λ xs. b ∷ drop (i + 1) xs) same) next at
