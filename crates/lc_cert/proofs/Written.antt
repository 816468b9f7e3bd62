-- The text that is written of a certificate.
use Rattle.std.proofs.Common.{◌≡◌, ℕ, List, [], ◌∷◌, ◌++◌, sym, ap, ◌∙◌, append_assoc, append-nil}
use Rattle.std.specs.Prelude.{codes}
use Rattle.std.specs.Fmt.{decimal}
use Rattle.lc_sexp.specs.Printed.{printed_tree, printed_others}
use Rattle.lc_kernel.specs.Proofs.{Proof}
use Rattle.lc_text.specs.Spelling.{Spelled}
use Rattle.lc_proof_text.proofs.PrintedProofs.{proof_text}
use Rattle.lc_proof_text.specs.ProofTrees.{proof_tree}
use Rattle.lc_proof_text.specs.SpelledProofs.{spelled_proof}
use Rattle.lc_outline.specs.Development.{Development}
use Rattle.lc_cert.specs.Certificates.{Entry}
use Rattle.lc_outline.specs.ColumnNames.{column_names}
use Rattle.lc_cert.specs.ColumnNames.{spelled_with}
use Rattle.lc_cert.specs.Printed.{entry_tree, entry_trees, certificate_line}
use Rattle.lc_cert.specs.Readings.{entry}

-- a number, a space, a proof and a bracket
behind_word : (d s t : List ℕ) → s ≡ t → (d ++ (32 ∷ [])) ++ (s ++ (41 ∷ [])) ≡ (d ++ (32 ∷ (t ++ []))) ++ (41 ∷ [])
behind_word d s t e =
    append_assoc d (32 ∷ []) (s ++ (41 ∷ [])) ∙ ap (λ w. d ++ (32 ∷ (w ++ (41 ∷ [])))) (e ∙ sym (append-nil t)) ∙ sym (append_assoc d (32 ∷ (t ++ [])) (41 ∷ []))

pub written_entry : (by : Spelled) (k : ℕ) (p : Proof) (old a b c : List ℕ) → a ≡ old ++ (codes "(proof " ++ (decimal k ++ codes " ")) → b ≡ a ++ spelled_proof by p → c ≡ b ++ codes ")"
    → c ≡ old ++ printed_tree (entry_tree by (entry k p))
written_entry by k p old a b c opened own closed =
    closed ∙ ap (λ w. w ++ codes ")") (own ∙ ap (λ w. w ++ spelled_proof by p) opened)
    ∙ append_assoc (old ++ (codes "(proof " ++ (decimal k ++ codes " "))) (spelled_proof by p) (codes ")")
    ∙ append_assoc old (codes "(proof " ++ (decimal k ++ codes " ")) (spelled_proof by p ++ codes ")")
    ∙ ap (λ w. old ++ (codes "(proof " ++ w)) (behind_word (decimal k) (spelled_proof by p) (printed_tree (proof_tree by p)) (sym (proof_text by p)))

pub written_line : (D : Development) (es : List Entry) (a b c d : List ℕ) → a ≡ codes "(certificate " → b ≡ a ++ D.object.name → c ≡ b ++ printed_others (entry_trees (spelled_with (column_names D)) es) → d ≡ c ++ codes ")\n"
    → d ≡ certificate_line D es
written_line D es a b c d opened named own closed =
    let others = printed_others (entry_trees (spelled_with (column_names D)) es) in
    closed ∙ ap (λ w. w ++ codes ")\n") (own ∙ ap (λ w. w ++ others) (named ∙ ap (λ w. w ++ D.object.name) opened))
    ∙ ap (λ w. codes "(certificate " ++ w) (sym (append_assoc (D.object.name ++ others) (41 ∷ []) (10 ∷ [])))
