-- Lists that begin with a word, and what is filled in between or within them.
use Rattle.std.specs.Prelude.{ℕ, ◌+◌, List, if◌then◌else◌}
use Rattle.lc_sexp.specs.Trees.{Tree, Trees, atom, list, none, ◌▸◌, item_count}
use Rattle.lc_sexp.specs.Parts.{form_fit, is_fitting}
use Rattle.lc_reading.specs.Words.{is}
use Rattle.lc_fill.specs.Filled.{Filled, Filler, as_is, inside, kept, put, followed, ending}

-- (WORD ..): what comes after the word is filled so. Another item stays as it is
abbrev pub in_form : List ℕ → Filler → ℕ → Tree → Filled Tree
in_form word next n (list (atom w ▸ ts)) = if is w word then inside (λ us. list (atom word ▸ us)) (next (n + 2) ts) else as_is (list (atom w ▸ ts))
in_form word next n t = as_is t

-- (WORD)
abbrev pub bare : List ℕ → Tree
bare word = list (atom word ▸ none)

-- (WORD ..), with these at its end
abbrev pub extended : List ℕ → Trees → ℕ → Tree → Filled Tree
extended word more n t = in_form word (ending more) n t

-- the list that begins with this word, with these at its end, which is put in if it is not there, and so on
abbrev pub section : List ℕ → Trees → Filler → Filler
section word more next n none = put n (list (atom word ▸ more)) (next n none)
section word more next n (t ▸ ts) =
    if is_fitting (form_fit word t) then followed (extended word more n t) (next (n + item_count t) ts) else put n (list (atom word ▸ more)) (next n (t ▸ ts))

-- the lists at the beginning that begin with this word, and so on
abbrev pub while_forms : List ℕ → Filler → Filler
while_forms word next n none = next n none
while_forms word next n (t ▸ ts) = if is_fitting (form_fit word t) then kept t (while_forms word next (n + item_count t) ts) else next n (t ▸ ts)
