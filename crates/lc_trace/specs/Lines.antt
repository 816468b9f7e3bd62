-- The line of a step in a trace: a JSON array.
use Rattle.std.specs.Prelude.{ℕ, Bool, true, false, List, [], ◌∷◌, ◌++◌, ℤ, codes, flat_map, map}
use Rattle.std.specs.Fmt.{decimal, signed_decimal}
use Rattle.lc_term.specs.Updates.{Write}
use Rattle.lc_seq.specs.Sequential.{Call, Choice, InOrder, ByName}
use Rattle.lc_object.specs.Syntax as O
use Rattle.lc_machine.specs.Step.{Event, Invoked, Moved, Returned}
use Rattle.lc_rider.specs.Rider.{Mark}
use Rattle.lc_outline.specs.ColumnNames.{column_names, name_at}
use Rattle.lc_outline.specs.Development.{Development}
use Rattle.lc_outline.specs.EdgeWords.{edge_word}
use Rattle.lc_seq.specs.Specification as Q
use Rattle.lc_sound.specs.Instrumented.{Label}

-- `[X,..]`
abbrev pub listed : {A : Type 0} → (A → List ℕ) → List A → List ℕ
listed f [] = codes "[]"
listed f (x ∷ xs) = codes "[" ++ f x ++ flat_map (λ y. codes "," ++ f y) xs ++ codes "]"

abbrev pub numbers_text : List ℤ → List ℕ
numbers_text ns = listed signed_decimal ns

-- the name of an operation, and of a point
abbrev pub operation_name : Development → ℕ → List ℕ
operation_name D op = name_at (map (λ (o : Q.Operation). o.name) D.specification.operations) op

abbrev pub point_name : Development → ℕ → List ℕ
point_name D p = name_at (map (λ (q : O.Point). q.name) D.object.points) p

-- `"call",NAME,[NUMBER,..]`, `POINT,EDGE` or `"return",[NUMBER,..]`
abbrev pub event_text : Development → Event → List ℕ
event_text D (Invoked op ns) = codes "\"call\",\"" ++ operation_name D op ++ codes "\"," ++ numbers_text ns
event_text D (Moved p kind) = codes "\"" ++ point_name D p ++ codes "\",\"" ++ edge_word kind ++ codes "\""
event_text D (Returned ns) = codes "\"return\"," ++ numbers_text ns

-- `,[NAME,[NUMBER,..]]`, if a branch is chosen by its name
abbrev pub choice_text : Choice → List ℕ
choice_text InOrder = []
choice_text (ByName name ns) = codes ",[\"" ++ name ++ codes "\"," ++ numbers_text ns ++ codes "]"

-- the entry of a mark, `[CLIENT,NAME,[NUMBER,..],[NUMBER,..]]`, and after these the choice
abbrev pub entry_text : Development → Call → Mark → List ℕ
entry_text D call m =
    codes "[" ++ decimal m.client ++ codes ",\"" ++ operation_name D call.op ++ codes "\"," ++ numbers_text call.numbers ++ codes "," ++ numbers_text m.reply
    ++ choice_text m.choice ++ codes "]"

-- of a note `["note",ENTRY]`
abbrev pub noted_text : Bool → List ℕ → List ℕ
noted_text false entry = entry
noted_text true entry = codes "[\"note\"," ++ entry ++ codes "]"

-- a mark is for the call that its client began last
abbrev pub mark_text : Development → (ℕ → Call) → Mark → List ℕ
mark_text D calls m = noted_text m.note (entry_text D (calls m.client) m)

-- `[COLUMN,INDEX,NUMBER]`
abbrev pub cell_text : Development → Write → List ℕ
cell_text D w = codes "[\"" ++ name_at (column_names D) w.column ++ codes "\"," ++ signed_decimal w.index ++ codes "," ++ signed_decimal w.value ++ codes "]"

-- `[CLIENT,WHAT..,[MARK,..],[CELL,..]]`
abbrev pub step_text : Development → (ℕ → Call) → Label → List Write → List ℕ
step_text D calls l cells =
    codes "[" ++ decimal l.client ++ codes "," ++ event_text D l.what ++ codes "," ++ listed (mark_text D calls) l.marks ++ codes "," ++ listed (cell_text D) cells ++ codes "]\n"
