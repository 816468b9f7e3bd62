-- What is laid out reads back.
use Rattle.std.proofs.Common.{◌≡◌, ℕ, ◌≤◌, List, length, ap, ◌∙◌}
use Rattle.lc_base.specs.Limits.{depth_limit, file_limit}
use Rattle.lc_sexp.specs.Trees.{Trees, depth_of_all}
use Rattle.lc_sexp.specs.Text.{lexed}
use Rattle.lc_sexp.specs.Reads.{ReadsAs}
use Rattle.lc_sexp.specs.Printed.{HaveAtoms}
use Rattle.lc_sexp.proofs.Atoms.{read_atoms}
use Rattle.lc_sexp.proofs.Unique.{one_reading_lem}
use Rattle.lc_layout.specs.Layout.{laid_out}
use Rattle.lc_layout.proofs.Words.{uncommented_plain}
use Rattle.lc_layout.proofs.Laid.{lexed_laid, plain_laid}

pub laid_reads : (ts : Trees) → HaveAtoms ts → depth_of_all ts ≤ depth_limit → length (laid_out ts) ≤ file_limit → ReadsAs (laid_out ts) ts
laid_reads ts h d n = record { tokens = ap lexed (uncommented_plain (laid_out ts) (plain_laid ts h)) ∙ lexed_laid ts h; nesting = d; size = n }

pub laid_again : (bytes : List ℕ) (ts us : Trees) → ReadsAs bytes ts → length (laid_out ts) ≤ file_limit → ReadsAs (laid_out ts) us → laid_out us ≡ laid_out ts
laid_again bytes ts us r n again =
    ap laid_out (one_reading_lem (laid_out ts) us ts again (laid_reads ts (read_atoms bytes ts r) r.nesting n))
