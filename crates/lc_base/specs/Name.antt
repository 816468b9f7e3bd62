-- What clauses see of a name.
use Rattle.std.specs.Prelude.{ℕ, List}
use Rattle.lc_base.specs.declared.name.Name.{Name}

-- the bytes of its text
abbrev pub bytes_of : Name → List ℕ
bytes_of name = name.text.bytes
