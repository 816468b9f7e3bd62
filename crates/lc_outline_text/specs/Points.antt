-- What a text reads as where a point of a development is expected: its code, what holds there, and what is done at its edges.
use Rattle.std.specs.Prelude.{ℕ, ◌+◌, Bool, ◌&&◌, codes, if◌then◌else◌, List, [], Option}
use Rattle.lc_sexp.specs.Trees.{Tree, Trees, none, ◌▸◌, item_count}
use Rattle.lc_reading.specs.Readings.{Reading, wrong, both, behind_reading}
use Rattle.lc_reading.specs.Rows.{each_reading}
use Rattle.lc_reading.specs.declared.pass.Pass.TheVariants.{Shape}
use Rattle.lc_term.specs.Syntax.{Formula}
use Rattle.lc_text.specs.Formulas.{formula_reading}
use Rattle.lc_text.specs.Names.{Names}
use Rattle.lc_text.specs.Terms.{pair}
use Rattle.lc_object.specs.Syntax.{Point}
use Rattle.lc_object_text.specs.Sections.{forms_in}
use Rattle.lc_outline.specs.Development.{On, Outline}
use Rattle.lc_rider_text.specs.Known.{Known, Ways}
use Rattle.lc_rider_text.specs.Ons.{ons_reading}
use Rattle.lc_rider_text.specs.declared.edges.Edges.{Edges}
use Rattle.lc_outline_text.specs.Needs.{code_word, edges_of, lacks_on}

-- (WORD F ..), whose formulas are read with these names
abbrev pub formulas_in_reading : List ℕ → Names → ℕ → Tree → Reading (List Formula)
formulas_in_reading word names n t = behind_reading word (λ n. each_reading (formula_reading names [])) n t

abbrev pub outline_of : List Formula → List On → Outline
outline_of asserts ons = record { asserts = asserts; ons = ons }

-- (assert F ..) ON ..: the item i, and those from m on, at a point with these edges, in the body of an operation that goes so, if it
-- is known
abbrev pub outline_reading : Known → Names → Option Ways → Edges → ℕ → Tree → ℕ → Trees → Reading Outline
outline_reading known names own edges i t m ts =
    both outline_of (formulas_in_reading (codes "assert") names i t) (ons_reading known names own edges m ts)

-- What comes after the code of the point n, from m on, with what the point itself reads as. If an edge lacks an `on` that it needs,
-- that is reported at the point; the edges of a misshapen instruction are not known
abbrev pub beside : Known → Names → Option Ways → ℕ → Tree → Bool → Reading Point → ℕ → Trees → Reading (Point × Outline)
beside known names own n code shaped point m none = wrong Shape n
beside known names own n code shaped point m (t ▸ ts) =
    if shaped && lacks_on known.actions (code_word code) (forms_in (codes "on") ts) then wrong Shape n
    else both pair point (outline_reading known names own (edges_of (code_word code)) m t (m + item_count t) ts)
