-- What is counted from a text, and what is reported if it is beyond the limit.
use Rattle.std.specs.Prelude.{◌≡◌, ℕ, List}
use Rattle.lc_base.specs.declared.refusal.Refusal.{Refusal}
use Rattle.lc_base.specs.declared.refusal.Refusal.TheVariants.{Bound}
use Rattle.lc_sexp.specs.Reads.{ReadsAs}
use Rattle.lc_sexp.specs.Trees.{Trees}
use Rattle.lc_reading.specs.Readings.{fine}
use Rattle.lc_object_text.specs.Sections.{sections_of}
use Rattle.lc_outline.specs.Development.{Development}
use Rattle.lc_outline_text.specs.Declarations.{declarations_of}
use Rattle.lc_outline_text.specs.Developments.{forms_reading}
use Rattle.lc_outline_text.specs.Sizes.{condition_count}

-- how many conditions are counted from the forms of a file
abbrev pub counted : Trees → ℕ
counted ts = condition_count (declarations_of ts) (sections_of ts)

-- the forms of the text are those of this development, however many conditions it has
abbrev pub HasForms : List ℕ → Development → Type 0
HasForms bytes D = (ts : Trees) × ReadsAs bytes ts × (forms_reading (declarations_of ts) (sections_of ts) 0 ts ≡ fine D)

-- there are too many conditions, which is reported at item 0
abbrev pub too_many : Refusal
too_many = Bound 0
