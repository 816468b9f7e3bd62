use Rattle.std.proofs.Common.{◌≡◌, ◌++◌, drop, string_bytes}
use Rattle.lc_kernel.specs.Proofs.{proofs}
use Rattle.lc_kernel.specs.View.{proofs_of}
use Rattle.lc_proof_text.specs.SpelledProofs.{spelled_proofs}
use Rattle.lc_proof_text.proofs.printing.+push_proof.Given as goal

abbrev pub invariant-push_proofs-loop-branch : goal.invariant-push_proofs-loop-branch
invariant-push_proofs-loop-branch g l =
    string_bytes l.out ++ spelled_proofs (g.S.Spelling.spelled l.spelling) (proofs (proofs_of (drop l.branch-index l.branches)))
    ≡ string_bytes l.fn.out ++ spelled_proofs (g.S.Spelling.spelled l.spelling) (proofs (proofs_of l.branches))
