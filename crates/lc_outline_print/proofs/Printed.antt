-- The text of trees, part by part.
use Rattle.std.proofs.Common.{◌≡◌, ℕ, List, [], ◌∷◌, ◌++◌, refl, sym, ap, ◌∙◌, append_assoc, append-nil}
use Rattle.std.specs.Prelude.{codes, Option, Some, None}
use Rattle.lc_seq.specs.Sequential.{Chosen, InOrder, ByName}
use Rattle.lc_object.specs.Syntax.{Column}
use Rattle.lc_sexp.specs.Trees.{Trees, list, none, ◌▸◌}
use Rattle.lc_sexp.specs.Printed.{printed_tree, printed_items, printed_others}
use Rattle.lc_term.specs.Syntax.{Term}
use Rattle.lc_text.specs.Spelling.{Spelled}
use Rattle.lc_outline_print.specs.Developments.{followed}
use Rattle.lc_outline_print.specs.Instructions.{assignment_trees}
use Rattle.lc_outline_print.specs.Objects.{concrete_tree}
use Rattle.lc_outline_print.specs.Parts.{name_trees, column_tree}
use Rattle.lc_outline_print.specs.Specifications.{labelled}

-- if no values are left, no local is assigned to
nothing_assigned : (by : Spelled) (rs : List ℕ) → assignment_trees by rs [] ≡ none
nothing_assigned by [] = refl
nothing_assigned by (r ∷ rs) = refl

pub all_assigned : (by : Spelled) (rs : List ℕ) (ts : List Term) (text all : List ℕ) → ts ≡ [] → text ++ printed_others (assignment_trees by rs ts) ≡ all → text ≡ all
all_assigned by rs ts text all none_left is =
    sym (append-nil text) ∙ (ap (λ w. text ++ printed_others w) (sym (nothing_assigned by rs) ∙ ap (λ ts. assignment_trees by rs ts) (sym none_left)) ∙ is)

-- a word, two parts after it, others, and a bracket
pub written_mark : (old w t n r a b c d e : List ℕ) → a ≡ old ++ codes "(" ++ w → b ≡ a ++ codes " " ++ t → c ≡ b ++ codes " " ++ n → d ≡ c ++ r → e ≡ d ++ codes ")"
    → e ≡ old ++ (40 ∷ ((w ++ (32 ∷ (t ++ (32 ∷ (n ++ r))))) ++ codes ")"))
written_mark old w t n r a b c d e opened first second third closed =
    closed ∙ ap (λ x. x ++ codes ")") (third ∙ ap (λ x. x ++ r) (second ∙ ap (λ x. x ++ codes " " ++ n) (first ∙ ap (λ x. x ++ codes " " ++ t) opened)))
    ∙ simp append_assoc

-- how a branch begins, and what follows
pub label_text : (l : Chosen (List ℕ)) (ts : Trees) → printed_items (labelled l ts) ≡ printed_items (labelled l none) ++ printed_others ts
label_text InOrder ts = refl
label_text (ByName name parameters) ts =
    let p = printed_tree (list (name_trees parameters)) in
    ap (λ w. codes "choice " ++ (name ++ (32 ∷ w))) (ap (λ w. w ++ printed_others ts) (sym (append-nil p)))
    ∙ ap (λ w. codes "choice " ++ w) (sym (append_assoc name (32 ∷ (p ++ [])) (printed_others ts)))

-- a column, if there is one, and what comes after it
pub concrete_text : (c : Option Column) (ts : Trees) → printed_others (concrete_tree c ts) ≡ printed_others (concrete_tree c none) ++ printed_others ts
concrete_text None ts = refl
concrete_text (Some c) ts =
    let x = printed_tree (column_tree c.name c.slope c.start) in
    ap (λ w. 32 ∷ (w ++ printed_others ts)) (sym (append-nil x))

pub followed_text : (ts us : Trees) → printed_others (followed ts us) ≡ printed_others ts ++ printed_others us
followed_text none us = refl
followed_text (t ▸ ts) us = ap (λ w. 32 ∷ (printed_tree t ++ w)) (followed_text ts us) ∙ ap (λ w. 32 ∷ w) (sym (append_assoc (printed_tree t) (printed_others ts) (printed_others us)))
