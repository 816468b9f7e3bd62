-- A short development with what was left out put in, as it is planned.
use Rattle.std.specs.Prelude.{ℕ, ◌+◌, Bool, true, false, codes, List, [], ◌∷◌, if◌then◌else◌}
use Rattle.lc_sexp.specs.Trees.{Tree, Trees, none, ◌▸◌}
use Rattle.lc_fill.specs.Filled.{Filled, Filler, as_is, followed, put, put_all, past, each, ended}
use Rattle.lc_fill.specs.Forms.{in_form, section, while_forms}
use Rattle.lc_fill.specs.Acts.{Acts, acts_of, stand_in_of}
use Rattle.lc_fill.specs.Plan.{Plan}
use Rattle.lc_fill.specs.Points.{point_filled}

-- (body OP (LOCAL*) POINT+)
abbrev pub body_filled : Acts → ℕ → Tree → Filled Tree
body_filled a n t = in_form (codes "body") (past (past (each (point_filled a) ended))) n t

abbrev pub is_nil : List ℕ → Bool
is_nil [] = true
is_nil (n ∷ ns) = false

-- the actions that are planned come before these, and then the stand-in, if it is called in them
abbrev pub standing_in : Acts → ℕ → Filled Trees → Filled Trees
standing_in a n r = put_all n a.plan.actions (if is_nil r.lacking then r else put n (stand_in_of a) r)

-- [(invariant ..)] [(idle F*)] BODY+
abbrev pub claims_filled : Acts → Filler
claims_filled a = section (codes "invariant") none (section (codes "idle") a.plan.idle (each (body_filled a) ended))

-- (array ..)* [(aux COL*)] ACTION* [(invariant ..)] [(idle F*)] BODY+
abbrev pub sections_filled : Acts → Filler
sections_filled a =
    while_forms (codes "array") (section (codes "aux") none (while_forms (codes "action") (λ n ts. standing_in a n (claims_filled a n ts))))

abbrev pub parts_filled : Plan → Filler
parts_filled plan n ts = sections_filled (acts_of plan ts) n ts

-- (object NAME ..)
abbrev pub object_filled : Plan → ℕ → Tree → Filled Tree
object_filled plan n t = in_form (codes "object") (past (parts_filled plan)) n t

-- SPEC OBJECT
abbrev pub second_filled : Plan → Filler
second_filled plan n none = as_is none
second_filled plan n (o ▸ ts) = followed (object_filled plan n o) (as_is ts)

-- the forms of a file
abbrev pub file_filled : Plan → Trees → Filled Trees
file_filled plan ts = past (second_filled plan) 0 ts
