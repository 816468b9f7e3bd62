-- The words of edges.
use Rattle.std.specs.Prelude.{ℕ, codes, List}
use Rattle.lc_object.specs.declared.instr.EdgeKind.{EdgeKind}
use Rattle.lc_object.specs.declared.instr.EdgeKind.TheVariants.{Next, Then, Else}

abbrev pub edge_word : EdgeKind → List ℕ
edge_word Next = codes "next"
edge_word Then = codes "then"
edge_word Else = codes "else"
