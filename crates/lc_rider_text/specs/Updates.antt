-- What a text reads as where an update is expected.
use Rattle.std.specs.Prelude.{ℕ, ◌+◌, Bool, ◌&&◌, nat_le, nat_lt, true, if◌then◌else◌, List, [], length, Option, Some, None}
use Rattle.lc_sexp.specs.Trees.{Tree, Trees, ◌▸◌, item_count}
use Rattle.lc_reading.specs.Naming.{within, spelled_reading}
use Rattle.lc_reading.specs.Readings.{Reading, wrong, mapped, three_of, listed_reading}
use Rattle.lc_reading.specs.declared.pass.Pass.TheVariants.{Shape, Unknown}
use Rattle.lc_term.specs.Syntax.{Term}
use Rattle.lc_term.specs.Updates.{Update}
use Rattle.lc_text.specs.Names.{Names}
use Rattle.lc_text.specs.Terms.{triple, term_reading}
use Rattle.lc_rider_text.specs.Known.{Known}
use Rattle.lc_rider_text.specs.Scopes.{column_place}
use Rattle.lc_rider_text.specs.declared.update.Stores.{Stores}
use Rattle.lc_rider_text.specs.declared.update.Stores.TheVariants.{InAll, InAuxiliary}

-- a column in which may be stored so: any, or one that is auxiliary
abbrev pub is_open : Stores → Known → ℕ → Bool
is_open InAll known k = true
is_open InAuxiliary known k = nat_le known.auxiliaries k && nat_lt k (length known.columns)

-- the column at this place, if it may be stored in
abbrev pub stored : Stores → Known → ℕ → List ℕ → Option ℕ → Reading ℕ
stored stores known n w (Some k) = if is_open stores known k then within n w k else wrong Shape n
stored stores known n w None = wrong Unknown n

-- the item n, where the column of an update is expected
abbrev pub stored_reading : Stores → Known → ℕ → Tree → Reading ℕ
stored_reading stores known n t = spelled_reading (λ w. stored stores known n w (column_place known.columns w)) n t

-- COLUMN T T: the parts of the list n, numbered from m on
abbrev pub update_parts_reading : Stores → Known → Names → ℕ → ℕ → Trees → Reading ((ℕ × Term) × Term)
update_parts_reading stores known names n m (t ▸ u ▸ v ▸ ts) =
    three_of triple m t u v ts (stored_reading stores known m t) (term_reading names [] (m + item_count t) u) (term_reading names [] (m + item_count t + item_count u) v)
update_parts_reading stores known names n m _ = wrong Shape n

abbrev pub the_update : (ℕ × Term) × Term → Update
the_update p = record { column = p.0.0; index = p.0.1; value = p.1 }

-- the same as an update
abbrev pub update_reading : Stores → Known → Names → ℕ → ℕ → Trees → Reading Update
update_reading stores known names n m ts = mapped the_update (update_parts_reading stores known names n m ts)

-- (COLUMN T T), in any column
abbrev pub listed_update_reading : Known → Names → ℕ → Tree → Reading Update
listed_update_reading known names n t = listed_reading (update_reading InAll known names) n t
