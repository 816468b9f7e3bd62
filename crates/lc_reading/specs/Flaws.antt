-- What is wrong in a text.
use Rattle.std.specs.Prelude.{ℕ, Bool, ◌&&◌, ◌||◌, ◌==◌, nat_lt, min, if◌then◌else◌}
use Rattle.lc_base.specs.declared.refusal.Refusal.{Refusal}
use Rattle.lc_base.specs.declared.refusal.Refusal.TheVariants as R
use Rattle.lc_sexp.specs.declared.misfit.Misfit.{Misfit}
use Rattle.lc_sexp.specs.declared.misfit.Misfit.TheVariants.{Shape as Misshapen, Bound as Beyond}
use Rattle.lc_reading.specs.declared.pass.Pass.{Pass}
use Rattle.lc_reading.specs.declared.pass.Pass.TheVariants.{Shape, Unknown, Repeated, Auxiliary, Bound}
use Rattle.lc_reading.specs.declared.flaw.Flaw.{Flaw}

-- the place of a pass among the passes
abbrev pub rank : Pass → ℕ
rank Shape = 0
rank Unknown = 1
rank Repeated = 2
rank Auxiliary = 3
rank Bound = 4

-- one item is wrong in one pass
abbrev pub at : Pass → ℕ → Flaw
at pass n = record { pass = pass; item = n; least = n }

-- the flaw that a misfit is
abbrev pub misfit_flaw : Misfit → Flaw
misfit_flaw (Misshapen n) = at Shape n
misfit_flaw (Beyond n) = at Bound n

-- this one is reported before the other: in an earlier pass, or in the same pass at a lesser item
abbrev pub is_before : Flaw → Flaw → Bool
is_before f g = nat_lt (rank f.pass) (rank g.pass) || (rank f.pass == rank g.pass) && nat_lt f.item g.item

-- the flaw of the two that is reported first, with the least item that is wrong at all
abbrev pub lesser : Flaw → Flaw → Flaw
lesser f g = record {
  pass = if is_before g f then g.pass else f.pass;
  item = if is_before g f then g.item else f.item;
  least = min f.least g.least;
}

-- the refusal of this pass at this item
abbrev pub refused_in : Pass → ℕ → Refusal
refused_in Shape n = R.Shape n
refused_in Unknown n = R.Unknown n
refused_in Repeated n = R.Repeated n
refused_in Auxiliary n = R.Auxiliary n
refused_in Bound n = R.Bound n

-- the first refusal of a file in which this is wrong
abbrev pub refusal_of : Flaw → Refusal
refusal_of f = refused_in f.pass f.item
