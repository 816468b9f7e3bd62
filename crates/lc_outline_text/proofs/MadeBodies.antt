-- A development is made of what was read, body by body.
use Rattle.std.proofs.Common.{◌≡◌, ℕ, List, [], ◌∷◌, ◌++◌, map, sym, ap, ap₂, ◌∙◌, append_assoc, append-nil}
use Rattle.std.proofs.lemmas.List.{map-append}
use Rattle.lc_object.specs.Syntax as O
use Rattle.lc_object.specs.View.{point_of}
use Rattle.lc_object.specs.declared.parts.Point.{Point}
use Rattle.lc_object_text.specs.Points as P
use Rattle.lc_object_text.specs.Texts.{body_text_view}
use Rattle.lc_object_text.specs.declared.body.BodyText.{BodyText}
use Rattle.lc_outline.specs.Development as D
use Rattle.lc_outline.specs.declared.parts.Outline.{Outline}
use Rattle.lc_outline_text.specs.Developments.{code_of, outlines_of}
use Rattle.lc_outline_text.specs.Views.{body_outlined, bodies_outlined}

-- the code of one more body
pub code_more : (old new : List (BodyText Point)) (seen : List (BodyText (Point × Outline))) (b : BodyText (Point × Outline)) (x : BodyText Point) → new ≡ old ++ x ∷ []
    → map (body_text_view point_of) old ≡ map code_of (bodies_outlined seen) → body_text_view point_of x ≡ code_of (body_outlined b) → map (body_text_view point_of) new ≡ map code_of (bodies_outlined (seen ++ b ∷ []))
code_more old new seen b x e h g =
    ap (map (body_text_view point_of)) e ∙ map-append (body_text_view point_of) old (x ∷ []) ∙ ap₂ (λ xs y. xs ++ y ∷ []) h g
    ∙ sym (map-append code_of (bodies_outlined seen) (body_outlined b ∷ [])) ∙ ap (map code_of) (sym (map-append body_outlined seen (b ∷ [])))

-- the outlines of one more body
outlines_last : (bs : List (P.BodyText (O.Point × D.Outline))) (b : P.BodyText (O.Point × D.Outline)) → outlines_of (bs ++ b ∷ []) ≡ outlines_of bs ++ map (λ p. p.1) b.points
outlines_last [] b = append-nil (map (λ p. p.1) b.points)
outlines_last (x ∷ bs) b = ap (λ ys. map (λ p. p.1) x.points ++ ys) (outlines_last bs b) ∙ sym (append_assoc (map (λ p. p.1) x.points) (outlines_of bs) (map (λ p. p.1) b.points))

pub outlines_more : (xs ys : List D.Outline) (seen : List (BodyText (Point × Outline))) (b : BodyText (Point × Outline)) → xs ≡ outlines_of (bodies_outlined seen) → ys ≡ xs ++ map (λ p. p.1) (body_outlined b).points
    → ys ≡ outlines_of (bodies_outlined (seen ++ b ∷ []))
outlines_more xs ys seen b h e =
    e ∙ ap (λ os. os ++ map (λ p. p.1) (body_outlined b).points) h ∙ sym (outlines_last (bodies_outlined seen) (body_outlined b)) ∙ ap outlines_of (sym (map-append body_outlined seen (b ∷ [])))

-- the code of a body of these parts
pub same_code : (locals locals' : List (List ℕ)) (points points' : List O.Point) → locals ≡ locals' → points ≡ points' → P.body_of locals points ≡ P.body_of locals' points'
same_code locals locals' points points' e g = ap₂ P.body_of e g
