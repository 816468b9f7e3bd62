-- What a text reads as where an operation is expected.
use Rattle.std.specs.Prelude.{ℕ, ◌+◌, ℤ, pos, Bool, false, ◌==◌, nat_lt, codes, if◌then◌else◌, List, [], ◌∷◌, ◌++◌, length, Option, Some, None}
use Rattle.lc_base.specs.Limits.{argument_limit, operation_limit, reply_limit}
use Rattle.lc_sexp.specs.Numerals.{integer_of}
use Rattle.lc_sexp.specs.Parts.{Fit, fits, integer_fit}
use Rattle.lc_sexp.specs.Trees.{Tree, Trees, atom, list, ◌▸◌, item_count}
use Rattle.lc_reading.specs.Listed.{declared_by}
use Rattle.lc_reading.specs.Naming.{is_full, name_reading}
use Rattle.lc_reading.specs.Readings.{Reading, fine, wrong, mapped, both, three, limited, behind_reading, listed_reading}
use Rattle.lc_reading.specs.Rows.{all_declared, declared_reading}
use Rattle.lc_reading.specs.declared.pass.Pass.TheVariants.{Shape, Bound}
use Rattle.lc_text.specs.Terms.{pair, triple}
use Rattle.lc_seq.specs.Specification.{Branch, Operation}
use Rattle.lc_spec_text.specs.Choices.{ways_reading}
use Rattle.lc_spec_text.specs.Scopes.{Columns, client}

-- a number of at least 0
abbrev pub natural : Option ℤ → Option ℕ
natural (Some (pos n)) = Some n
natural _ = None

-- within the limit of replies
abbrev pub few : ℕ → Option ℕ → Reading ℕ
few n None = wrong Shape n
few n (Some k) = if nat_lt reply_limit k then wrong Bound n else fine k

-- the item n, where REPLIES is expected: a NUMBER of at least 0
abbrev pub count_reading : ℕ → Tree → Reading ℕ
count_reading n (atom w) = few n (natural (integer_of w))
count_reading n (list ts) = wrong Shape n

-- the text begins with a minus
abbrev pub is_negative : List ℕ → Bool
is_negative [] = false
is_negative (b ∷ w) = b == 45

abbrev pub fitting_natural : Fit ℤ → Option ℕ
fitting_natural (fits z) = natural (Some z)
fitting_natural _ = None

-- how many replies a branch has; a number of more than 64 bits is one that no list has
abbrev pub count_in : Tree → Option ℕ
count_in t = fitting_natural (integer_fit t)

-- (ARG*): names after that of the client, within the limit of arguments
abbrev pub arguments_reading : ℕ → Tree → Reading (List (List ℕ))
arguments_reading n t = listed_reading (λ n. declared_reading (name_reading (Some (1 + argument_limit))) declared_by client) n t

-- the client, and the arguments that an item declares
abbrev pub variables_in : Tree → List (List ℕ)
variables_in (list ts) = client ++ all_declared declared_by ts
variables_in (atom w) = client

-- NAME (ARG*) REPLIES, after these operations
abbrev pub signature_reading : List (List ℕ) → ℕ → Tree → Tree → Tree → Reading ((List ℕ × List (List ℕ)) × ℕ)
signature_reading before m t u v =
    three triple (name_reading None before m t) (arguments_reading (m + item_count t) u) (count_reading (m + item_count t + item_count u) v)

-- NAME (ARG*) REPLIES, then BRANCH+ or CHOICE+: the parts of the list n, numbered from m on
abbrev pub operation_parts_reading : Columns → List (List ℕ) → ℕ → ℕ → Trees → Reading (((List ℕ × List (List ℕ)) × ℕ) × List Branch)
operation_parts_reading columns before n m (t ▸ u ▸ v ▸ b ▸ bs) =
    both pair (signature_reading before m t u v)
    (ways_reading columns (variables_in u) (count_in v) (m + item_count t + item_count u + item_count v) (b ▸ bs))
operation_parts_reading columns before n m _ = wrong Shape n

abbrev pub the_operation : ((List ℕ × List (List ℕ)) × ℕ) × List Branch → Operation
the_operation p = record { name = p.0.0.0; arguments = p.0.0.1; replies = p.0.1; branches = p.1 }

-- (op NAME (ARG*) REPLIES BRANCH+) or (op NAME (ARG*) REPLIES CHOICE+), within the limit of operations
abbrev pub operation_reading : Columns → List (List ℕ) → ℕ → Tree → Reading Operation
operation_reading columns before n t =
    limited (is_full (Some operation_limit) (length before)) n (mapped the_operation (behind_reading (codes "op") (operation_parts_reading columns before) n t))
