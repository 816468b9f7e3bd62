-- What a text reads as where the numbers of a plan are expected.
use Rattle.std.specs.Prelude.{ℕ, ℤ, pos, negsuc, ◌+◌, Bool, ◌&&◌, nat_le, nat_lt, if◌then◌else◌, List}
use Rattle.std.specs.List.{list_any}
use Rattle.lc_base.specs.Limits.{seat_limit}
use Rattle.lc_sexp.specs.Trees.{Tree}
use Rattle.lc_sexp.specs.Parts.{Fit, fits, misshapen, beyond, integer_fit}
use Rattle.lc_reading.specs.Naming.{text_in}
use Rattle.lc_reading.specs.Readings.{Reading, fine, flawed, wrong}
use Rattle.lc_reading.specs.Words.{is}
use Rattle.lc_reading.specs.declared.pass.Pass.TheVariants.{Shape, Repeated, Bound}
use Rattle.lc_text.specs.Terms.{number_reading}
use Rattle.lc_plan.specs.Limits.{most_turns}

-- it is the first of these or after it, and before the other one
abbrev pub is_from : ℕ → ℕ → ℕ → Bool
is_from least end k = nat_le least k && nat_lt k end

-- the number at the item n, from the first of these on and before the other one
abbrev pub between : ℕ → ℕ → ℕ → ℤ → Reading ℕ
between least end n (pos k) = if is_from least end k then fine k else wrong Bound n
between least end n (negsuc k) = wrong Bound n

-- the same for a NUMBER, if it is one
abbrev pub bounded : ℕ → ℕ → ℕ → Reading ℤ → Reading ℕ
bounded least end n (fine z) = between least end n z
bounded least end n (flawed f) = flawed f

-- CLIENTS
abbrev pub count_reading : ℕ → Tree → Reading ℕ
count_reading n t = bounded 1 (seat_limit + 1) n (number_reading n t)

-- TURNS, K
abbrev pub turns_reading : ℕ → Tree → Reading ℕ
turns_reading n t = bounded 0 (most_turns + 1) n (number_reading n t)

-- one of `clients` clients, which has a script in the phase already or not. That is reported before its bounds
abbrev pub client_fit : ℕ → Bool → ℕ → Fit ℤ → Reading ℕ
client_fit clients again n misshapen = wrong Shape n
client_fit clients again n beyond = if again then wrong Repeated n else wrong Bound n
client_fit clients again n (fits z) = if again then wrong Repeated n else between 0 clients n z

-- C: one of `clients` clients, after those of these texts. A number has one text, so two clients are the same if their texts are
abbrev pub client_reading : ℕ → List (List ℕ) → ℕ → Tree → Reading ℕ
client_reading clients before n t = client_fit clients (list_any (is (text_in t)) before) n (integer_fit t)
