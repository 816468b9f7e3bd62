use Rattle.std.proofs.Common.{◌≡◌, ◌++◌, drop, map, string_bytes}
use Rattle.lc_base.specs.Name.{bytes_of}
use Rattle.lc_sexp.specs.Printed.{printed_others}
use Rattle.lc_outline_print.specs.Parts.{name_trees}
use Rattle.lc_outline_print.proofs.parts.write_names.Given as goal

abbrev pub invariant-loop-name : goal.invariant-loop-name
invariant-loop-name l =
    string_bytes l.out ++ printed_others (name_trees (map bytes_of (drop l.name-index l.names)))
    ≡ string_bytes l.fn.out ++ printed_others (name_trees (map bytes_of l.names))
