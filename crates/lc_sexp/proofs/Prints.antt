-- A walk that prints.
use Rattle.std.proofs.Common.{◌≡◌, ℕ, ◌+◌, ◌*◌, ◌<◌, Bool, true, false, List, [], ◌∷◌, ◌++◌, refl, sym, ap, ◌∙◌, arith, append_assoc, append-nil, Option, Some}
use Rattle.std.specs.Option.{option_to_list}
use Rattle.lc_sexp.specs.Trees.{Tree, Trees, list, none, ◌▸◌, item_count_of_all}
use Rattle.lc_sexp.specs.Printed.{printed_items, printed_others}
use Rattle.lc_sexp.specs.Printing.{printed_rest, printed_around, steps_around}
use Rattle.lc_sexp.specs.Shown.{rest_of}
use Rattle.lc_sexp.specs.declared.cursor.Cursor.{Cursor}

-- the innermost of the rows around
pub around_push : (cs : List Cursor) (c : Cursor) → printed_around (cs ++ (c ∷ [])) ≡ 41 ∷ (printed_others (rest_of c) ++ printed_around cs)
around_push [] c = ap (λ x. 41 ∷ x) (sym (append-nil (printed_others (rest_of c))))
around_push (d ∷ cs) c =
    ap (λ x. x ++ (41 ∷ printed_others (rest_of d))) (around_push cs c)
    ∙ ap (λ x. 41 ∷ x) (append_assoc (printed_others (rest_of c)) (printed_around cs) (41 ∷ printed_others (rest_of d)))

pub steps_push : (cs : List Cursor) (c : Cursor) → steps_around (cs ++ (c ∷ [])) ≡ steps_around cs + 2 * item_count_of_all (rest_of c) + 1
steps_push [] c = omega arith
steps_push (d ∷ cs) c = omega (arith, steps_push cs c)

-- the space before an item that is not the first
abbrev pub space_before : Bool → List ℕ
space_before true = []
space_before false = 32 ∷ []

pub rest_at : (fresh : Bool) (t : Tree) (ts : Trees) → printed_rest fresh (t ▸ ts) ≡ space_before fresh ++ printed_items (t ▸ ts)
rest_at true t ts = refl
rest_at false t ts = refl

pub rest_none : (fresh : Bool) → printed_rest fresh none ≡ []
rest_none true = refl
rest_none false = refl

regroup : (out space inner others around : List ℕ)
    → ((out ++ space) ++ (40 ∷ [])) ++ (inner ++ (41 ∷ (others ++ around))) ≡ out ++ ((space ++ ((40 ∷ (inner ++ (41 ∷ []))) ++ others)) ++ around)
regroup out space inner others around = simp append_assoc

-- a list begins
pub told_open : (out out' : List ℕ) (fresh : Bool) (old new inner : Cursor) (around around' : List Cursor) → out' ≡ (out ++ space_before fresh) ++ (40 ∷ []) → rest_of old ≡ list (rest_of inner) ▸ rest_of new
    → around' ≡ around ++ (new ∷ []) → out' ++ (printed_items (rest_of inner) ++ printed_around around') ≡ out ++ (printed_rest fresh (rest_of old) ++ printed_around around)
told_open out out' fresh old new inner around around' e f g =
    ap (λ x. x ++ (printed_items (rest_of inner) ++ printed_around around')) e
    ∙ ap (λ x. ((out ++ space_before fresh) ++ (40 ∷ [])) ++ (printed_items (rest_of inner) ++ x)) (ap printed_around g ∙ around_push around new)
    ∙ regroup out (space_before fresh) (printed_items (rest_of inner)) (printed_others (rest_of new)) (printed_around around)
    ∙ ap (λ x. out ++ (x ++ printed_around around)) (sym (rest_at fresh (list (rest_of inner)) (rest_of new)) ∙ ap (printed_rest fresh) (sym f))

pub steps_open : (old new inner : Cursor) (around around' : List Cursor) → rest_of old ≡ list (rest_of inner) ▸ rest_of new → around' ≡ around ++ (new ∷ [])
    → 2 * item_count_of_all (rest_of inner) + steps_around around' < 2 * item_count_of_all (rest_of old) + steps_around around
steps_open old new inner around around' f g = omega (arith, ap item_count_of_all f, ap steps_around g, steps_push around new)

-- a list ends
pub told_close : (out out' : List ℕ) (fresh : Bool) (old behind : Cursor) (around around' : List Cursor) (o : Option Cursor) → out' ≡ out ++ (41 ∷ []) → rest_of old ≡ none
    → around ≡ around' ++ option_to_list o → o ≡ Some behind → out' ++ (printed_others (rest_of behind) ++ printed_around around') ≡ out ++ (printed_rest fresh (rest_of old) ++ printed_around around)
told_close out out' fresh old behind around around' o e f g h =
    ap (λ x. x ++ (printed_others (rest_of behind) ++ printed_around around')) e
    ∙ append_assoc out (41 ∷ []) (printed_others (rest_of behind) ++ printed_around around')
    ∙ ap (λ x. out ++ x) (sym (around_push around' behind) ∙ ap printed_around (sym (g ∙ ap (λ x. around' ++ option_to_list x) h)))
    ∙ ap (λ x. out ++ (x ++ printed_around around)) (sym (ap (printed_rest fresh) f ∙ rest_none fresh))

pub steps_close : (old behind : Cursor) (around around' : List Cursor) (o : Option Cursor) → around ≡ around' ++ option_to_list o → o ≡ Some behind
    → 2 * item_count_of_all (rest_of behind) + steps_around around' < 2 * item_count_of_all (rest_of old) + steps_around around
steps_close old behind around around' o g h = omega (arith, ap steps_around (g ∙ ap (λ x. around' ++ option_to_list x) h), steps_push around' behind)
