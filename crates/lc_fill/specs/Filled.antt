-- What is made of items when others are put between them.
use Rattle.std.specs.Prelude.{ℕ, ◌+◌, List, [], ◌∷◌, ◌++◌}
use Rattle.lc_sexp.specs.Trees.{Tree, Trees, none, ◌▸◌, item_count}
use Rattle.lc_fill.specs.declared.gap.Gap.{Gap}

-- A whole; the gaps in which something was put, in order; and the places at which a call still lacks, since that of the stand-in
-- was put in
pub record Filled (X : Type 0) : Type 0 where
  pub whole : X
  pub gaps : List Gap
  pub lacking : List ℕ

-- nothing is put in
abbrev pub as_is : {X : Type 0} → X → Filled X
as_is x = record { whole = x; gaps = []; lacking = [] }

-- what is made of a whole
abbrev pub inside : {X Y : Type 0} → (X → Y) → Filled X → Filled Y
inside f r = record { whole = f r.whole; gaps = r.gaps; lacking = r.lacking }

-- an item as it is, before others
abbrev pub kept : Tree → Filled Trees → Filled Trees
kept t r = record { whole = t ▸ r.whole; gaps = r.gaps; lacking = r.lacking }

-- an item that is put in before the item n, and before others
abbrev pub put : ℕ → Tree → Filled Trees → Filled Trees
put n t r = record { whole = t ▸ r.whole; gaps = record { place = n; size = item_count t } ∷ r.gaps; lacking = r.lacking }

-- the same of items in a row
abbrev pub put_all : ℕ → Trees → Filled Trees → Filled Trees
put_all n none r = r
put_all n (t ▸ ts) r = put n t (put_all n ts r)

-- a call lacks at n
abbrev pub lacking_at : ℕ → Filled Trees → Filled Trees
lacking_at n r = record { whole = r.whole; gaps = r.gaps; lacking = n ∷ r.lacking }

-- an item in which others may be, before others
abbrev pub followed : Filled Tree → Filled Trees → Filled Trees
followed f r = record { whole = f.whole ▸ r.whole; gaps = f.gaps ++ r.gaps; lacking = f.lacking ++ r.lacking }

-- How items in a row, from n on, are filled
abbrev pub Filler : Type 0
Filler = ℕ → Trees → Filled Trees

-- the first as it is, if there is one, and those after it so
abbrev pub past : Filler → Filler
past next n none = as_is none
past next n (t ▸ ts) = kept t (next (n + item_count t) ts)

-- each item so, and at the end this
abbrev pub each : (ℕ → Tree → Filled Tree) → (ℕ → Filled Trees) → Filler
each fill last n none = last n
each fill last n (t ▸ ts) = followed (fill n t) (each fill last (n + item_count t) ts)

-- the items as they are, and then these
abbrev pub ending : Trees → Filler
ending more n none = put_all n more (as_is none)
ending more n (t ▸ ts) = kept t (ending more (n + item_count t) ts)

-- nothing more
abbrev pub ended : ℕ → Filled Trees
ended n = as_is none
