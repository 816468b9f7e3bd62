-- The text that is printed of a proof is that of its s-expression.
use Rattle.std.proofs.Common.{◌≡◌, ℕ, ℤ, List, [], ◌∷◌, ◌++◌, refl, sym, ap, ap₂, ◌∙◌, append_assoc, append-nil}
use Rattle.std.specs.Prelude.{codes}
use Rattle.std.specs.Fmt.{signed_decimal}
use Rattle.lc_sexp.specs.Trees.{Trees}
use Rattle.lc_sexp.specs.Printed.{printed_tree, printed_items, printed_others}
use Rattle.lc_text.specs.Spelling.{Spelled}
use Rattle.lc_text.proofs.PrintedTrees.{term_text, column_text, formula_text}
use Rattle.lc_kernel.specs.Proofs as S
use Rattle.lc_kernel.specs.Proofs.{Step, Split, Cases, Push, Instantiate, Fresh, Cut, Written, Same, Affine, Trichotomy, Divide, Sum, Opposite, Open}
use Rattle.lc_kernel.specs.Proofs.{Proof, Proofs, proof, more}
use Rattle.lc_proof_text.specs.ProofTrees.{multiple_trees, step_trees, proof_tree, proof_trees}
use Rattle.lc_proof_text.specs.SpelledProofs.{spelled_multiples, spelled_step, spelled_proof, spelled_proofs}

-- parts after spaces, and what is after them
one_part : (x y r : List ℕ) → x ≡ y → 32 ∷ (x ++ r) ≡ (32 ∷ y) ++ r
one_part x y r e = ap (λ w. 32 ∷ (w ++ r)) e

two_parts : (x y z w r : List ℕ) → x ≡ z → y ≡ w → 32 ∷ (x ++ (32 ∷ (y ++ r))) ≡ ((32 ∷ z) ++ (32 ∷ w)) ++ r
two_parts x y z w r e f = ap₂ (λ u v. 32 ∷ (u ++ (32 ∷ (v ++ r)))) e f ∙ ap (λ u. 32 ∷ u) (sym (append_assoc z (32 ∷ w) r))

three_parts : (x y z x' y' z' r : List ℕ) → x ≡ x' → y ≡ y' → z ≡ z' → 32 ∷ (x ++ (32 ∷ (y ++ (32 ∷ (z ++ r))))) ≡ (((32 ∷ x') ++ (32 ∷ y')) ++ (32 ∷ z')) ++ r
three_parts x y z x' y' z' r e f g =
    two_parts x y x' y' (32 ∷ (z ++ r)) e f ∙ (ap (λ u. ((32 ∷ x') ++ (32 ∷ y')) ++ (32 ∷ (u ++ r))) g ∙ sym (append_assoc ((32 ∷ x') ++ (32 ∷ y')) (32 ∷ z') r))

four_parts : (x y z w x' y' z' w' r : List ℕ) → x ≡ x' → y ≡ y' → z ≡ z' → w ≡ w' →
    32 ∷ (x ++ (32 ∷ (y ++ (32 ∷ (z ++ (32 ∷ (w ++ r))))))) ≡ ((((32 ∷ x') ++ (32 ∷ y')) ++ (32 ∷ z')) ++ (32 ∷ w')) ++ r
four_parts x y z w x' y' z' w' r e f g h =
    three_parts x y z x' y' z' (32 ∷ (w ++ r)) e f g
    ∙ (ap (λ u. (((32 ∷ x') ++ (32 ∷ y')) ++ (32 ∷ z')) ++ (32 ∷ (u ++ r))) h ∙ sym (append_assoc (((32 ∷ x') ++ (32 ∷ y')) ++ (32 ∷ z')) (32 ∷ w') r))

multiples_text : (ms : List (ℤ × ℤ)) (ts : Trees) → printed_others (multiple_trees ms ts) ≡ spelled_multiples ms ++ printed_others ts
multiples_text [] ts = refl
multiples_text (m ∷ ms) ts =
    let a = signed_decimal m.0 in
    let b = signed_decimal m.1 in
    ap₂ (λ u v. 32 ∷ 40 ∷ (((a ++ (32 ∷ u)) ++ (41 ∷ [])) ++ v)) (append-nil b) (multiples_text ms ts)
    ∙ ap (λ u. 32 ∷ 40 ∷ u) (sym (append_assoc ((a ++ (32 ∷ b)) ++ (41 ∷ [])) (spelled_multiples ms) (printed_others ts)))

-- a step's word and its parts, and what is after them
step_text : (by : Spelled) (s : Step) (ts : Trees) → printed_items (step_trees by s ts) ≡ spelled_step by s ++ printed_others ts
step_text by (Split h) ts = refl
step_text by (Cases h) ts = refl
step_text by (Push h) ts = refl
step_text by (Instantiate h t) ts = ap (λ x. codes "inst" ++ x) (two_parts (signed_decimal h) _ (signed_decimal h) _ (printed_others ts) refl (term_text by 0 t))
step_text by (Fresh h) ts = refl
step_text by (Cut f) ts = ap (λ x. codes "cut" ++ x) (one_part _ _ (printed_others ts) (formula_text by 0 f))
step_text by (Written c i v j) ts =
    ap (λ x. codes "written" ++ x) (four_parts _ _ _ _ _ _ _ _ (printed_others ts) (column_text by 0 c) (term_text by 0 i) (term_text by 0 v) (term_text by 0 j))
step_text by (Same c i j) ts = ap (λ x. codes "same" ++ x) (three_parts _ _ _ _ _ _ (printed_others ts) (column_text by 0 c) (term_text by 0 i) (term_text by 0 j))
step_text by (Affine a b i) ts =
    ap (λ x. codes "affine" ++ x) (three_parts (signed_decimal a) (signed_decimal b) _ (signed_decimal a) (signed_decimal b) _ (printed_others ts) refl refl (term_text by 0 i))
step_text by (Trichotomy h) ts = refl
step_text by (Divide h k f) ts =
    ap (λ x. codes "divide" ++ x) (three_parts (signed_decimal h) (signed_decimal k) _ (signed_decimal h) (signed_decimal k) _ (printed_others ts) refl refl (formula_text by 0 f))
step_text by (Sum ms) ts = ap (λ x. codes "sum" ++ x) (multiples_text ms ts)
step_text by (Opposite h g) ts = ap (λ x. codes "opposite" ++ x) (two_parts (signed_decimal h) (signed_decimal g) (signed_decimal h) (signed_decimal g) (printed_others ts) refl refl)
step_text by Open ts = refl

mutual
  pub proof_text : (by : Spelled) (p : Proof) → printed_tree (proof_tree by p) ≡ spelled_proof by p
  proof_text by (proof s ps) = ap (λ x. 40 ∷ (x ++ (41 ∷ []))) (step_text by s (proof_trees by ps) ∙ ap (λ x. spelled_step by s ++ x) (proofs_text by ps))

  proofs_text : (by : Spelled) (ps : Proofs) → printed_others (proof_trees by ps) ≡ spelled_proofs by ps
  proofs_text by S.none = refl
  proofs_text by (more p ps) = ap₂ (λ x y. 32 ∷ (x ++ y)) (proof_text by p) (proofs_text by ps)

-- what is written of a proof, part by part
pub written_proof : (by : Spelled) (p : Proof) (s : Step) (ps : Proofs) (old a b c d : List ℕ) → p ≡ proof s ps → a ≡ old ++ codes "(" → b ≡ a ++ spelled_step by s → c ≡ b ++ spelled_proofs by ps
    → d ≡ c ++ codes ")" → d ≡ old ++ spelled_proof by p
written_proof by p s ps old a b c d is opened own below closed =
    closed
    ∙ ap (λ w. w ++ codes ")") (below ∙ ap (λ w. w ++ spelled_proofs by ps) (own ∙ ap (λ w. w ++ spelled_step by s) opened))
    ∙ ap (λ w. (w ++ spelled_proofs by ps) ++ codes ")") (append_assoc old (codes "(") (spelled_step by s))
    ∙ ap (λ w. w ++ codes ")") (append_assoc old (codes "(" ++ spelled_step by s) (spelled_proofs by ps))
    ∙ append_assoc old ((codes "(" ++ spelled_step by s) ++ spelled_proofs by ps) (codes ")")
    ∙ ap (λ q. old ++ spelled_proof by q) (sym is)
