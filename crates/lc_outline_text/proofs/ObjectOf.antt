-- The code of an object that is read with its outlines.
use Rattle.std.proofs.Common.{◌≡◌, ℕ, map, ap₂}
use Rattle.lc_text.specs.Terms.{pair}
use Rattle.lc_object_text.specs.Objects as O
use Rattle.lc_object_text.specs.Points.{code_alone}
use Rattle.lc_object_text.specs.Sections.{Sections}
use Rattle.lc_reading.proofs.Holding.{Holds, holds_unit, both_holds}
use Rattle.lc_reading.specs.Readings.{fine, both}
use Rattle.lc_outline_text.proofs.CodeAlone.{bodies_code, locals_fine}
use Rattle.lc_outline_text.specs.Bodies.{bodies_reading}
use Rattle.lc_outline_text.specs.Declarations.{Declarations}
use Rattle.lc_outline_text.specs.Developments.{Parts, tables_reading, object_reading, code_of}
use Rattle.lc_outline_text.specs.Sides.{Sides, sides_reading}

-- an object's code
abbrev pub IsObjectOf : Declarations → Sections → ℕ → Parts → Type 0
IsObjectOf d s n o = O.object_reading d.declared s code_alone n ≡ fine (o.0.0, map code_of o.1)

pub object_reading_holds : (d : Declarations) (s : Sections) (n : ℕ) → Holds (IsObjectOf d s n) (object_reading d s n)
object_reading_holds d s n =
    both_holds (λ (p : O.Tables × Sides). O.tables_reading d.declared s n ≡ fine p.0) (λ bs. O.bodies_reading d.declared code_alone n s.bodies.number s.bodies.trees ≡ fine (map code_of bs)) (IsObjectOf d s n) pair
    (tables_reading d s n) (bodies_reading d n s.bodies.number s.bodies.trees)
    (both_holds (λ a. O.tables_reading d.declared s n ≡ fine a) (λ b. Unit {0}) (λ (p : O.Tables × Sides). O.tables_reading d.declared s n ≡ fine p.0) pair (O.tables_reading d.declared s n) (sides_reading d s n)
    (locals_fine (O.tables_reading d.declared s n)) (holds_unit (sides_reading d s n)) (λ a b h g. h))
    (bodies_code d n s.bodies.number s.bodies.trees) (λ p bs h g. ap₂ (both pair) h g)
