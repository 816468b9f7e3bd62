-- What a text reads as where an instruction is expected.
use Rattle.std.specs.Prelude.{ℕ, ◌+◌, codes, List, [], map, Option, Some, None, if◌then◌else◌}
use Rattle.lc_sexp.specs.Trees.{Tree, Trees, atom, list, ◌▸◌, item_count}
use Rattle.lc_term.specs.Syntax.{Term, Formula}
use Rattle.lc_text.specs.Names.{Names}
use Rattle.lc_object.specs.Syntax.{Instr}
use Rattle.lc_object.specs.Syntax as S
use Rattle.lc_reading.specs.Readings.{Reading, wrong, both}
use Rattle.lc_reading.specs.Rows.{each_reading}
use Rattle.lc_reading.specs.Words.{is}
use Rattle.lc_reading.specs.declared.pass.Pass.TheVariants.{Shape}
use Rattle.lc_text.specs.Formulas.{formula_reading}
use Rattle.lc_text.specs.Terms.{pair, term_reading}
use Rattle.lc_object_text.specs.Cells.{array_reading, label_reading, row_width, targets_reading, values_reading, assignments_reading}
use Rattle.lc_object_text.specs.CodeNames.{CodeNames}
use Rattle.lc_object_text.specs.Counts.{count_reading, ended_behind}
use Rattle.lc_object_text.specs.Heads.{head_of, own_parts}
use Rattle.lc_object_text.specs.declared.words.Head.{Head}
use Rattle.lc_object_text.specs.declared.words.Head.TheVariants as H

-- an array and a cell in it, the items i and j
abbrev pub place_reading : Names → CodeNames → ℕ → Tree → ℕ → Tree → Reading (ℕ × Term)
place_reading names code i t j u = both pair (array_reading code i t) (term_reading names [] j u)

-- two labels
abbrev pub labels_reading : CodeNames → ℕ → Tree → ℕ → Tree → Reading (ℕ × ℕ)
labels_reading code i t j u = both pair (label_reading code i t) (label_reading code j u)

-- (r ..) L
abbrev pub moved_reading : CodeNames → Option ℕ → ℕ → Tree → ℕ → Tree → Reading (List ℕ × ℕ)
moved_reading code width i t j u = both pair (targets_reading code width i t) (label_reading code j u)

-- (T ..) L
abbrev pub stored_reading : Names → CodeNames → Option ℕ → ℕ → Tree → ℕ → Tree → Reading (List Term × ℕ)
stored_reading names code width i t j u = both pair (values_reading names width i t) (label_reading code j u)

-- (T ..) (T ..)
abbrev pub rows_reading : Names → Option ℕ → ℕ → Tree → ℕ → Tree → Reading (List Term × List Term)
rows_reading names width i t j u = both pair (values_reading names width i t) (values_reading names width j u)

abbrev pub load_of : ℕ × Term → List ℕ × ℕ → Instr
load_of p q = S.Load p.0 p.1 q.0 q.1

-- A T (r ..) L: the parts of the list n, numbered from m on
abbrev pub load_reading : Names → CodeNames → ℕ → ℕ → Trees → Reading Instr
load_reading names code n m (a ▸ t ▸ r ▸ l ▸ ts) =
    both load_of (place_reading names code m a (m + item_count a) t)
    (moved_reading code (row_width code a) (m + item_count a + item_count t) r (m + item_count a + item_count t + item_count r) l)
load_reading names code n m _ = wrong Shape n

abbrev pub store_of : ℕ × Term → List Term × ℕ → Instr
store_of p q = S.Store p.0 p.1 q.0 q.1

-- A T (T ..) L
abbrev pub store_reading : Names → CodeNames → ℕ → ℕ → Trees → Reading Instr
store_reading names code n m (a ▸ t ▸ r ▸ l ▸ ts) =
    both store_of (place_reading names code m a (m + item_count a) t)
    (stored_reading names code (row_width code a) (m + item_count a + item_count t) r (m + item_count a + item_count t + item_count r) l)
store_reading names code n m _ = wrong Shape n

-- (T ..) (T ..) L M, where rows have this width
abbrev pub exchange_reading : Names → CodeNames → Option ℕ → ℕ → Tree → ℕ → Tree → ℕ → Tree → ℕ → Tree → Reading ((List Term × List Term) × (ℕ × ℕ))
exchange_reading names code width i t j u k v h w = both pair (rows_reading names width i t j u) (labels_reading code k v h w)

abbrev pub cas_of : ℕ × Term → (List Term × List Term) × (ℕ × ℕ) → Instr
cas_of p q = S.Cas p.0 p.1 q.0.0 q.0.1 q.1.0 q.1.1

-- A T (T ..) (T ..) L M
abbrev pub cas_reading : Names → CodeNames → ℕ → ℕ → Trees → Reading Instr
cas_reading names code n m (a ▸ t ▸ old ▸ new ▸ l ▸ k ▸ ts) =
    both cas_of (place_reading names code m a (m + item_count a) t)
    (exchange_reading names code (row_width code a) (m + item_count a + item_count t) old (m + item_count a + item_count t + item_count old) new
    (m + item_count a + item_count t + item_count old + item_count new) l (m + item_count a + item_count t + item_count old + item_count new + item_count l) k)
cas_reading names code n m _ = wrong Shape n

abbrev pub set_of : List (ℕ × Term) → ℕ → Instr
set_of cells next = S.Set (map (λ cell. cell.0) cells) (map (λ cell. cell.1) cells) next

-- ((r T) ..) L
abbrev pub set_reading : Names → CodeNames → ℕ → ℕ → Trees → Reading Instr
set_reading names code n m (cells ▸ l ▸ ts) = both set_of (assignments_reading names code m cells) (label_reading code (m + item_count cells) l)
set_reading names code n m _ = wrong Shape n

-- (r ..) (T ..) L, where rows have this width
abbrev pub adding_reading : Names → CodeNames → Option ℕ → ℕ → Tree → ℕ → Tree → ℕ → Tree → Reading (List ℕ × (List Term × ℕ))
adding_reading names code width i t j u k v = both pair (targets_reading code width i t) (stored_reading names code width j u k v)

abbrev pub faa_of : ℕ × Term → List ℕ × (List Term × ℕ) → Instr
faa_of p q = S.Faa p.0 p.1 q.0 q.1.0 q.1.1

-- A T (r ..) (T ..) L
abbrev pub faa_reading : Names → CodeNames → ℕ → ℕ → Trees → Reading Instr
faa_reading names code n m (a ▸ t ▸ r ▸ d ▸ l ▸ ts) =
    both faa_of (place_reading names code m a (m + item_count a) t)
    (adding_reading names code (row_width code a) (m + item_count a + item_count t) r (m + item_count a + item_count t + item_count r) d
    (m + item_count a + item_count t + item_count r + item_count d) l)
faa_reading names code n m _ = wrong Shape n

abbrev pub if_of : Formula → ℕ × ℕ → Instr
if_of f labels = S.If f labels.0 labels.1

-- F L M
abbrev pub if_reading : Names → CodeNames → ℕ → ℕ → Trees → Reading Instr
if_reading names code n m (f ▸ l ▸ k ▸ ts) =
    both if_of (formula_reading names [] m f) (labels_reading code (m + item_count f) l (m + item_count f + item_count l) k)
if_reading names code n m _ = wrong Shape n

-- the parts that come after this word
abbrev pub own_reading : Names → CodeNames → Head → ℕ → ℕ → Trees → Reading Instr
own_reading names code H.Load = load_reading names code
own_reading names code H.Store = store_reading names code
own_reading names code H.Cas = cas_reading names code
own_reading names code H.Set = set_reading names code
own_reading names code H.Faa = faa_reading names code
own_reading names code H.If = if_reading names code

abbrev pub headed_reading : Names → CodeNames → ℕ → ℕ → Trees → Head → Reading Instr
headed_reading names code n m ts h = ended_behind (own_parts h) m ts (own_reading names code h n m ts)

-- the list n that begins so, whose other parts are numbered from m on
abbrev pub code_reading : Names → CodeNames → ℕ → ℕ → Trees → Option Head → Reading Instr
code_reading names code n m ts None = wrong Shape n
code_reading names code n m ts (Some h) = headed_reading names code n m ts h

abbrev pub return_of : Unit {0} → List Term → Instr
return_of u values = S.Return values

-- T ..: as many terms as the operation returns numbers
abbrev pub return_reading : Names → CodeNames → ℕ → ℕ → Trees → Reading Instr
return_reading names code n m ts = both return_of (count_reading code.replies n m ts) (each_reading (term_reading names []) m ts)

-- the item n, where an instruction is expected
abbrev pub instruction_reading : Names → CodeNames → ℕ → Tree → Reading Instr
instruction_reading names code n (list (atom w ▸ ts)) =
    if is w (codes "return") then return_reading names code n (n + 2) ts else code_reading names code n (n + 2) ts (head_of w)
instruction_reading names code n _ = wrong Shape n
