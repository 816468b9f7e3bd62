-- What was put together item by item.
use Rattle.std.specs.Prelude.{List}
use Rattle.lc_sexp.specs.Entries.{Entry}
use Rattle.lc_sexp.specs.Flat.{entries}
use Rattle.lc_sexp.specs.declared.builder.Builder.{Builder}

-- the entries that were put, in order
abbrev pub entries_in : Builder → List Entry
entries_in b = entries b.text.items b.nodes.items
