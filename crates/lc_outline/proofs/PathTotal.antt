-- The paths of riders are as many as there are ways past them.
use Rattle.std.proofs.Common.{◌≡◌, ℕ, suc, ◌+◌, ◌*◌, List, [], ◌∷◌, ◌++◌, map, Option, Some, None, length, length-append, refl, sym, ap, ◌∙◌, arith}
use Rattle.std.proofs.Math.Nat.{suc-mul}
use Rattle.lc_term.specs.Lists.{concat_map}
use Rattle.lc_term.specs.Replacement.{replacing, replace_term}
use Rattle.lc_term.specs.Said.{told, term_at}
use Rattle.lc_term.specs.Syntax.{Term, Formula, Not}
use Rattle.lc_seq.specs.Branches.{op_branches, arity}
use Rattle.lc_seq.specs.Sequential.{given_in}
use Rattle.lc_seq.specs.Specification.{Branch, Operation, chosen}
use Rattle.lc_rider.specs.Paths.{Path, with_fact, branch_variables, branch_paths, owing, choice_paths, marked_client, deed_paths, deed_paths_where, rider_paths, paths, marked_op}
use Rattle.lc_rider.specs.Rider.{Marking, Deed, Assign, Marks, Rider}
use Rattle.lc_outline.specs.Limits.{deed_ways, ways_where, path_total}

concat_length : {A B : Type 0} (f : A → List B) (c : ℕ) → ((x : A) → length (f x) ≡ c) → (xs : List A) → length (concat_map f xs) ≡ length xs * c
concat_length f c h [] = omega arith
concat_length f c h (x ∷ xs) =
    let rest : length (concat_map f xs) ≡ length xs * c = concat_length f c h xs in
    let all : length (f x ++ concat_map f xs) ≡ length (f x) + length (concat_map f xs) = length-append (f x) (concat_map f xs) in
    let sum : length (f x) + length (concat_map f xs) ≡ length xs * c + c = omega (arith, h x, rest) in
    all ∙ sum ∙ sym (suc-mul (length xs) c)

branches_counted : (operations : List Operation) (first n : ℕ) (k : Marking) (τ : List Term) (bs : List Branch) (p : Path) → length (branch_paths operations first n k τ bs p) ≡ length bs
branches_counted operations first n k τ [] p = refl
branches_counted operations first n k τ (b ∷ bs) p = ap suc (branches_counted operations first n k τ bs _)

choices_counted : (operations : List Operation) (first n o : ℕ) (k : Marking) (c : Term) (ts : List Term) (bs : List Branch) (p : Path) → length (choice_paths operations first n o k c ts bs p) ≡ length bs
choices_counted operations first n o k c ts bs p =
    let τ = branch_variables p.columns first (arity operations o) c ts in
    branches_counted operations first n k τ bs (owing operations first n k c τ bs p)

deed_counted : (operations : List Operation) (first n o : ℕ) (variables : List Term) (d : Deed) (p : Path) → length (deed_paths operations first n o variables d p) ≡ deed_ways operations o d
deed_counted operations first n o variables (Assign u) p = refl
deed_counted operations first n o variables (Marks k by) p =
    let said = replace_term (replacing p.columns (term_at variables)) in
    choices_counted operations first n (marked_op o k) k (said (marked_client k)) (map said (given_in by)) (chosen by (op_branches operations (marked_op o k))) p

one_more : {A : Type 0} (xs : List A) (x : A) (k : ℕ) → length xs ≡ k → length (xs ++ x ∷ []) ≡ 1 + k
one_more xs x k h = omega (arith, length-append xs (x ∷ []), h)

where_counted : (operations : List Operation) (first n o : ℕ) (variables : List Term) (c : Option Formula) (d : Deed) (p : Path)
    → length (deed_paths_where operations first c n o variables d p) ≡ ways_where c (deed_ways operations o d)
where_counted operations first n o variables None d p = deed_counted operations first n o variables d p
where_counted operations first n o variables (Some f) d p =
    let q = with_fact p (told p.columns variables f) in
    one_more (deed_paths operations first n o variables d q) (with_fact p (Not (told p.columns variables f))) (deed_ways operations o d) (deed_counted operations first n o variables d q)

pub paths_total : (operations : List Operation) (first n o : ℕ) (variables : List Term) (rs : List Rider) (p : Path) → length (paths operations first n o variables rs p) ≡ path_total operations o rs
paths_total operations first n o variables [] p = refl
paths_total operations first n o variables (r ∷ rs) p =
    concat_length (paths operations first (suc n) o variables rs) (path_total operations o rs) (paths_total operations first (suc n) o variables rs) (rider_paths operations first n o variables r p)
    ∙ ap (λ k. k * path_total operations o rs) (where_counted operations first n o variables r.condition r.deed p)
