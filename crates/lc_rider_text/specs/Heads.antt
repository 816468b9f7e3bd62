-- What the first words of riders say, and the words of edges.
use Rattle.std.specs.Prelude.{ℕ, if◌then◌else◌, codes, List, Option, Some, None}
use Rattle.lc_object.specs.declared.instr.EdgeKind.{EdgeKind}
use Rattle.lc_object.specs.declared.instr.EdgeKind.TheVariants.{Next, Then, Else}
use Rattle.lc_reading.specs.Words.{is}
use Rattle.lc_rider_text.specs.declared.words.Head.{Head}
use Rattle.lc_rider_text.specs.declared.words.Head.TheVariants.{Set, Lin, LinOther, Note, LinBy, LinOtherBy, NoteBy}

-- (set COLUMN T T), (lin), (lin-other T OP), (note), (lin-by NAME T*), (lin-other-by T OP NAME T*), (note-by NAME T*)
abbrev pub head_of : List ℕ → Option Head
head_of w =
    if is w (codes "set") then Some Set
    else (if is w (codes "lin") then Some Lin
    else (if is w (codes "lin-other") then Some LinOther
    else (if is w (codes "note") then Some Note
    else (if is w (codes "lin-by") then Some LinBy
    else (if is w (codes "lin-other-by") then Some LinOtherBy
    else (if is w (codes "note-by") then Some NoteBy
    else None))))))

-- the edge of this word
abbrev pub kind_of : List ℕ → Option EdgeKind
kind_of w =
    if is w (codes "next") then Some Next
    else (if is w (codes "then") then Some Then
    else (if is w (codes "else") then Some Else
    else None))
