-- The branches that a choice leaves.
use Rattle.std.proofs.Common.{◌≡◌, ℕ, ◌+◌, Bool, true, false, if◌then◌else◌, List, [], ◌∷◌, map, length, refl, ap, subst}
use Rattle.std.specs.Prelude.{bytes_eq}
use Rattle.std.specs.List.{list_all}
use Rattle.std.proofs.lemmas.Bool.{eqb-true, and_from}
use Rattle.std.proofs.lemmas.List.{length-map}
use Rattle.lc_lemmas.proofs.Booleans.{left_true, right_true}
use Rattle.lc_term.specs.Lists.{Every}
use Rattle.lc_seq.specs.Sequential.{Chosen, InOrder, ByName, given_in, choose_map}
use Rattle.lc_seq.specs.Specification.{Branch, branch_is_resolved, names, agree, chosen}

pub agree-map : {A B C : Type 0} (f : B → C) (a : Chosen A) (b : Chosen B) → agree a (choose_map f b) ≡ agree a b
agree-map f a InOrder = refl
agree-map f a (ByName name ys) = ap (names a name) (length-map ys f)

-- which branches are left is decided by the name, and by how many things are given
pub chosen-map : {A B : Type 0} (f : A → B) (by : Chosen A) (bs : List Branch) → chosen (choose_map f by) bs ≡ chosen by bs
chosen-map f by [] = refl
chosen-map f by (b ∷ bs) = λ i. if agree-map f b.label by i then b ∷ chosen-map f by bs i else chosen-map f by bs i

pub given-map : {A B : Type 0} (f : A → B) (by : Chosen A) → given_in (choose_map f by) ≡ map f (given_in by)
given-map f InOrder = refl
given-map f (ByName name xs) = refl

-- a branch that is left has as many parameters as things are given
pub agree-length : {A B : Type 0} (a : Chosen A) (b : Chosen B) → agree a b ≡ true → length (given_in a) ≡ length (given_in b)
agree-length InOrder InOrder h = refl
agree-length InOrder (ByName name ys) h = absurd cc
agree-length (ByName name xs) InOrder h = absurd cc
agree-length (ByName name xs) (ByName other ys) h = eqb-true (length xs) (length ys) (right_true (bytes_eq name other) _ h)

-- a branch that may be taken is left
pub left_in : {A : Type 0} (by : Chosen A) (b : Branch) (bs : List Branch) → agree b.label by ≡ true → chosen by (b ∷ bs) ≡ b ∷ chosen by bs
left_in by b bs e = ap (λ t. if t then b ∷ chosen by bs else chosen by bs) e

-- what holds of all branches holds of those that are left
pub chosen-all : {A : Type 0} (test : Branch → Bool) (by : Chosen A) (bs : List Branch) → list_all test bs ≡ true → list_all test (chosen by bs) ≡ true
chosen-all test by [] h = refl
chosen-all test by (b ∷ bs) h = go (chosen-all test by bs (right_true (test b) _ h)) (agree b.label by)
  where
    go : list_all test (chosen by bs) ≡ true → (t : Bool) → list_all test (if t then b ∷ chosen by bs else chosen by bs) ≡ true
    go rest true = and_from (test b) (list_all test (chosen by bs)) (left_true (test b) (list_all test bs) h) rest
    go rest false = rest

pub chosen-every : {A : Type 0} (P : Branch → Type 0) (by : Chosen A) (bs : List Branch) → Every P bs → Every P (chosen by bs)
chosen-every P by [] h = tt
chosen-every P by (b ∷ bs) h = go (chosen-every P by bs h.1) (agree b.label by)
  where
    go : Every P (chosen by bs) → (t : Bool) → Every P (if t then b ∷ chosen by bs else chosen by bs)
    go rest true = (h.0, rest)
    go rest false = rest

-- each is resolved, with its own parameters after n variables
abbrev pub resolved_behind : ℕ → ℕ → Branch → Bool
resolved_behind columns n b = branch_is_resolved columns (n + length (given_in b.label)) b

pub chosen-resolved : {A : Type 0} (columns n : ℕ) (by : Chosen A) (bs : List Branch) → list_all (resolved_behind columns n) bs ≡ true →
    list_all (branch_is_resolved columns (n + length (given_in by))) (chosen by bs) ≡ true
chosen-resolved columns n by [] h = refl
chosen-resolved columns n by (b ∷ bs) h = go (chosen-resolved columns n by bs (right_true (resolved_behind columns n b) _ h)) (agree b.label by) refl
  where
    go : list_all (branch_is_resolved columns (n + length (given_in by))) (chosen by bs) ≡ true → (t : Bool) → agree b.label by ≡ t → list_all (branch_is_resolved columns (n + length (given_in by))) (if t then b ∷ chosen by bs else chosen by bs) ≡ true
    go rest true e =
        and_from (branch_is_resolved columns (n + length (given_in by)) b) (list_all (branch_is_resolved columns (n + length (given_in by))) (chosen by bs))
        (subst (λ k. branch_is_resolved columns (n + k) b ≡ true) (agree-length b.label by e) (left_true (resolved_behind columns n b) (list_all (resolved_behind columns n) bs) h))
        rest
    go rest false e = rest
