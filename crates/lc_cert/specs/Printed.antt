-- The text that is printed of a certificate, and which certificates read back.
use Rattle.std.specs.Prelude.{◌≡◌, ℕ, ◌<◌, ◌≤◌, ◌^◌, true, codes, List, [], ◌∷◌, length}
use Rattle.std.specs.Fmt.{decimal}
use Rattle.lc_base.specs.NameText.{is_name}
use Rattle.lc_base.specs.Limits.{depth_limit, file_limit}
use Rattle.lc_sexp.specs.Trees.{Tree, Trees, atom, list, none, ◌▸◌, depth_of}
use Rattle.lc_sexp.specs.Printed.{printed}
use Rattle.lc_text.specs.Spelling.{Spelled}
use Rattle.lc_proof_text.specs.ProofTrees.{proof_tree, ProofReadsBack}
use Rattle.lc_outline.specs.Development.{Development}
use Rattle.lc_cert.specs.Certificates.{Entry}
use Rattle.lc_outline.specs.ColumnNames.{column_names}
use Rattle.lc_cert.specs.ColumnNames.{names_with, spelled_with}

abbrev pub entry_tree : Spelled → Entry → Tree
entry_tree by e = list (atom (codes "proof") ▸ atom (decimal e.number) ▸ proof_tree by e.proof ▸ none)

abbrev pub entry_trees : Spelled → List Entry → Trees
entry_trees by [] = none
entry_trees by (e ∷ es) = entry_tree by e ▸ entry_trees by es

-- (certificate NAME (proof K P)*)
abbrev pub certificate_tree : Development → List Entry → Tree
certificate_tree D es = list (atom (codes "certificate") ▸ atom D.object.name ▸ entry_trees (spelled_with (column_names D)) es)

-- its line
abbrev pub certificate_line : Development → List Entry → List ℕ
certificate_line D es = printed (certificate_tree D es ▸ none)

-- the number of an entry has 64 bits with a sign, and its proof reads back
abbrev pub EntryReadsBack : Development → Entry → Type 0
EntryReadsBack D e = (e.number < 2 ^ 63) × ProofReadsBack (names_with (column_names D)) (spelled_with (column_names D)) e.proof

-- what is printed may be a file: the object has a name, and the text is within the limits of nesting and size
pub record IsPrintable (D : Development) (es : List Entry) : Type 0 where
  pub name : is_name D.object.name ≡ true
  pub nesting : depth_of (certificate_tree D es) ≤ depth_limit
  pub size : length (certificate_line D es) ≤ file_limit
