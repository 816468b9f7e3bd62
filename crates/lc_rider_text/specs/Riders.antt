-- What a text reads as where a rider is expected.
use Rattle.std.specs.Prelude.{ℕ, ◌+◌, nat_le, codes, if◌then◌else◌, List, [], Option, Some, None}
use Rattle.lc_base.specs.Limits.{rider_limit}
use Rattle.lc_sexp.specs.Trees.{Tree, Trees, atom, list, ◌▸◌, item_count}
use Rattle.lc_reading.specs.Listed.{place_of}
use Rattle.lc_reading.specs.Naming.{use_reading}
use Rattle.lc_reading.specs.Readings.{Reading, wrong, mapped, both, limited, ended, two_of}
use Rattle.lc_reading.specs.Words.{is}
use Rattle.lc_reading.specs.declared.pass.Pass.TheVariants.{Shape}
use Rattle.lc_seq.specs.Sequential.{Chosen}
use Rattle.lc_term.specs.Syntax.{Term, Formula}
use Rattle.lc_text.specs.Formulas.{formula_reading}
use Rattle.lc_text.specs.Names.{Names}
use Rattle.lc_text.specs.Terms.{pair, term_reading}
use Rattle.lc_rider.specs.Rider.{Deed, Assign, Marks, Rider, Own, Other, Note}
use Rattle.lc_object_text.specs.Rows.{placed_reading}
use Rattle.lc_rider_text.specs.Known.{Known, Ways, entry_at}
use Rattle.lc_rider_text.specs.Scopes.{quiet}
use Rattle.lc_rider_text.specs.Choices.{in_order_reading, by_reading}
use Rattle.lc_rider_text.specs.Heads.{head_of}
use Rattle.lc_rider_text.specs.Updates.{update_reading}
use Rattle.lc_rider_text.specs.declared.words.Head.{Head}
use Rattle.lc_rider_text.specs.declared.words.Head.TheVariants as H
use Rattle.lc_rider_text.specs.declared.update.Stores.TheVariants.{InAuxiliary}

-- T OP: the items m and l
abbrev pub other_reading : Known → Names → ℕ → Tree → ℕ → Tree → Reading (Term × ℕ)
other_reading known names m t l u = both pair (term_reading names [] m t) (use_reading known.operations l u)

-- how the operation goes that an item names, if it names one
abbrev pub ways_named : Known → Tree → Option Ways
ways_named known (atom w) = entry_at known.ways (place_of known.operations w)
ways_named known (list ts) = None

abbrev pub mark_of_other : Term × ℕ → Chosen Term → Deed
mark_of_other p by = Marks (Other p.0 p.1) by

-- T OP: the parts of the list n, numbered from m on
abbrev pub lin_other_reading : Known → Names → ℕ → ℕ → Trees → Reading Deed
lin_other_reading known names n m (t ▸ u ▸ ts) =
    two_of mark_of_other m t u ts (other_reading known names m t (m + item_count t) u) (in_order_reading (ways_named known u) n)
lin_other_reading known names n m _ = wrong Shape n

-- T OP NAME T*: the parts of the list n, numbered from m on
abbrev pub lin_other_by_reading : Known → Names → ℕ → ℕ → Trees → Reading Deed
lin_other_by_reading known names n m (t ▸ u ▸ ts) =
    both mark_of_other (other_reading known names m t (m + item_count t) u) (by_reading names (ways_named known u) n (m + item_count t + item_count u) ts)
lin_other_by_reading known names n m _ = wrong Shape n

-- What comes after this word, in the body of an operation that goes so, if that is known: the parts of the list n, numbered from
-- m on
abbrev pub headed_reading : Known → Names → Option Ways → Head → ℕ → ℕ → Trees → Reading Deed
headed_reading known names own H.Set n m ts = mapped Assign (update_reading InAuxiliary known names n m ts)
headed_reading known names own H.Lin n m ts = ended m ts (mapped (Marks Own) (in_order_reading own n))
headed_reading known names own H.LinOther n m ts = lin_other_reading known names n m ts
headed_reading known names own H.Note n m ts = ended m ts (mapped (Marks Note) (in_order_reading own n))
headed_reading known names own H.LinBy n m ts = mapped (Marks Own) (by_reading names own n m ts)
headed_reading known names own H.LinOtherBy n m ts = lin_other_by_reading known names n m ts
headed_reading known names own H.NoteBy n m ts = mapped (Marks Note) (by_reading names own n m ts)

-- the list n that begins so, whose other parts are numbered from m on
abbrev pub deed_with : Known → Names → Option Ways → ℕ → ℕ → Trees → Option Head → Reading Deed
deed_with known names own n m ts None = wrong Shape n
deed_with known names own n m ts (Some h) = headed_reading known names own h n m ts

-- (set COLUMN T T), (lin), (lin-other T OP), (note), (lin-by NAME T*), (lin-other-by T OP NAME T*), (note-by NAME T*)
abbrev pub deed_reading : Known → Names → Option Ways → ℕ → Tree → Reading Deed
deed_reading known names own n (list (atom w ▸ ts)) = deed_with known names own n (n + 2) ts (head_of w)
deed_reading known names own n _ = wrong Shape n

-- F RIDER: a condition without quantifiers, and what is done if it holds: the parts of the list n, numbered from m on
abbrev pub when_reading : Known → Names → Option Ways → ℕ → ℕ → Trees → Reading (Formula × Deed)
when_reading known names own n m (t ▸ u ▸ ts) = two_of pair m t u ts (formula_reading (quiet names) [] m t) (deed_reading known names own (m + item_count t) u)
when_reading known names own n m _ = wrong Shape n

abbrev pub always : Deed → Rider
always d = record { condition = None; deed = d }

abbrev pub where_holds : Formula × Deed → Rider
where_holds p = record { condition = Some p.0; deed = p.1 }

-- (when F RIDER), where the inner rider is no `when`, or another rider
abbrev pub rider_reading : Known → Names → Option Ways → ℕ → Tree → Reading Rider
rider_reading known names own n (list (atom w ▸ ts)) =
    if is w (codes "when") then mapped where_holds (when_reading known names own n (n + 2) ts) else mapped always (deed_with known names own n (n + 2) ts (head_of w))
rider_reading known names own n _ = wrong Shape n

-- the i-th rider of an edge, within the limit of riders
abbrev pub ith_rider_reading : Known → Names → Option Ways → ℕ → ℕ → Tree → Reading Rider
ith_rider_reading known names own i n t = limited (nat_le rider_limit i) n (rider_reading known names own n t)

-- RIDER*: the items from m on
abbrev pub riders_reading : Known → Names → Option Ways → ℕ → Trees → Reading (List Rider)
riders_reading known names own m ts = placed_reading (ith_rider_reading known names own) 0 m ts
