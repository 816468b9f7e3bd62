-- What clauses see of a file that is filled.
use Rattle.lc_sexp.specs.Trees.{Trees}
use Rattle.lc_fill.specs.Filled.{Filled}
use Rattle.lc_fill.specs.Seen.{row_view}
use Rattle.lc_fill.specs.declared.files.Filling.{Filling}

abbrev pub filling_view : Filling → Filled Trees
filling_view f = row_view f.row
