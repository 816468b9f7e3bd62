-- What a text reads as where it is said how the branch of a mark is chosen.
use Rattle.std.specs.Prelude.{ℕ, ◌+◌, Bool, false, not, if◌then◌else◌, List, Option, Some, None}
use Rattle.lc_base.specs.NameText.{is_name}
use Rattle.lc_sexp.specs.Trees.{Tree, Trees, atom, list, none, ◌▸◌, item_count}
use Rattle.lc_reading.specs.Listed.{place_of}
use Rattle.lc_reading.specs.Naming.{use_reading, within}
use Rattle.lc_reading.specs.Readings.{Reading, fine, wrong, mapped, both}
use Rattle.lc_reading.specs.declared.pass.Pass.TheVariants.{Shape}
use Rattle.lc_seq.specs.Sequential.{Chosen, InOrder, ByName}
use Rattle.lc_term.specs.Syntax.{Term}
use Rattle.lc_text.specs.Names.{Names}
use Rattle.lc_rider_text.specs.Known.{Ways, has_choices, entry_at}
use Rattle.lc_rider_text.specs.Terms.{arguments_reading}

-- of a mark at an operation, if the text names one that is declared: it may go by choices, and it may go by branches
abbrev pub may_choose : Option Ways → Bool
may_choose None = false
may_choose (Some ways) = has_choices ways

abbrev pub may_go_in_order : Option Ways → Bool
may_go_in_order None = false
may_go_in_order (Some ways) = not (has_choices ways)

-- the rider n that names no choice: that is not allowed if the operation goes by choices
abbrev pub in_order_reading : Option Ways → ℕ → Reading (Chosen Term)
in_order_reading ways n = if may_choose ways then wrong Shape n else fine InOrder

-- the item n, where the name of a choice is expected: one that the operation has, if it is known
abbrev pub choice_use : Option Ways → ℕ → Tree → Reading (List ℕ)
choice_use None n (atom w) = if is_name w then within n w w else wrong Shape n
choice_use (Some ways) n (atom w) = mapped (λ k. w) (use_reading ways.choices n (atom w))
choice_use ways n (list ts) = wrong Shape n

-- with how many terms the choice is taken that an item names, if it names one
abbrev pub terms_due : Option Ways → Tree → Option ℕ
terms_due (Some ways) (atom w) = entry_at ways.parameters (place_of ways.choices w)
terms_due ways t = None

-- NAME T*: the parts of the rider n, numbered from m on
abbrev pub choice_reading : Names → Option Ways → ℕ → ℕ → Trees → Reading (Chosen Term)
choice_reading names ways n m none = wrong Shape n
choice_reading names ways n m (t ▸ ts) = both ByName (choice_use ways m t) (arguments_reading names (terms_due ways t) n (m + item_count t) ts)

-- the same, which is not allowed if the operation goes by branches
abbrev pub by_reading : Names → Option Ways → ℕ → ℕ → Trees → Reading (Chosen Term)
by_reading names ways n m ts = if may_go_in_order ways then wrong Shape n else choice_reading names ways n m ts
