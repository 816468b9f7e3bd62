-- Stores taken from a column expression one after another, and put back with other columns.
use Rattle.std.proofs.Common.{◌≡◌, List, [], ◌∷◌, ◌++◌, map, sym, ap, ap₂, ◌∙◌}
use Rattle.std.proofs.lemmas.List.{map-append}
use Rattle.lc_term.proofs.Chained.{innermost_store, replace_chain, replace_stored}
use Rattle.lc_term.specs.Chains.{with_stores, stored_of, stores_of}
use Rattle.lc_term.specs.Replacement.{Replacement, replace_term, replace_column}
use Rattle.lc_term.specs.Syntax.{Term, Column, Store}
use Rattle.lc_term.specs.View.{term_of}
use Rattle.lc_term.specs.declared.chain.StoreAt.{StoreAt}

-- the stores of these are still to be replaced and put round what is replaced already
abbrev pub IsReplacedIn : Replacement → Column → Column → List StoreAt → Type 0
IsReplacedIn r whole c ss = replace_column r whole ≡ with_stores c (map (replace_stored r) (stores_of ss))

pub replaced_base : (r : Replacement) (whole base c : Column) (ss : List StoreAt) → whole ≡ with_stores base (stores_of ss) → c ≡ replace_column r base → IsReplacedIn r whole c ss
replaced_base r whole base c ss h is = ap (replace_column r) h ∙ replace_chain r base (stores_of ss) ∙ ap (λ d. with_stores d (map (replace_stored r) (stores_of ss))) (sym is)

-- the last of them is put around it
pub replaced_round : (r : Replacement) (whole c d : Column) (i v : Term) (all ss : List StoreAt) (s : StoreAt) → all ≡ ss ++ s ∷ [] → i ≡ replace_term r (term_of s.index.now) → v ≡ replace_term r (term_of s.value.now)
    → d ≡ Store c i v → IsReplacedIn r whole c all → IsReplacedIn r whole d ss
replaced_round r whole c d i v all ss s items is vs ds h =
    h ∙ ap (λ l. with_stores c (map (replace_stored r) (stores_of l))) items
    ∙ ap (with_stores c) (ap (map (replace_stored r)) (map-append stored_of ss (s ∷ [])) ∙ map-append (replace_stored r) (stores_of ss) (stored_of s ∷ []))
    ∙ innermost_store c (map (replace_stored r) (stores_of ss)) (replace_stored r (stored_of s))
    ∙ sym (ap₂ (λ x y. with_stores (Store c x y) (map (replace_stored r) (stores_of ss))) is vs)
    ∙ ap (λ e. with_stores e (map (replace_stored r) (stores_of ss))) (sym ds)
