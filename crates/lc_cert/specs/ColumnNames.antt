-- How proofs name what they speak of.
use Rattle.std.specs.Prelude.{ℕ, codes, List, [], ◌++◌, slice_index_or}
use Rattle.std.specs.Fmt.{decimal}
use Rattle.lc_text.specs.Names.{Names}
use Rattle.lc_text.specs.Spelling.{Spelled}
use Rattle.lc_proof_text.specs.FileNames.{proof_names}

-- variables `?k`, and these columns by their names
abbrev pub names_with : List (List ℕ) → Names
names_with columns = proof_names (record { variables = []; columns = columns })

-- the same, as they are printed; of a column without a name nothing is
abbrev pub spelled_with : List (List ℕ) → Spelled
spelled_with columns = record { variable = λ k. codes "?" ++ decimal k; column = λ k. slice_index_or columns k [] }
