-- What the first word of an instruction says, if it is any but `return`.
use Rattle.std.specs.Prelude.{ℕ, if◌then◌else◌, codes, List, Option, Some, None}
use Rattle.lc_reading.specs.Words.{is}
use Rattle.lc_object_text.specs.declared.words.Head.{Head}
use Rattle.lc_object_text.specs.declared.words.Head.TheVariants.{Load, Store, Cas, Set, Faa, If}

-- (load A T (r ..) L), (store A T (T ..) L), (cas A T (T ..) (T ..) L M), (set ((r T) ..) L), (faa A T (r ..) (T ..) L), (if F L M)
abbrev pub head_of : List ℕ → Option Head
head_of w =
    if is w (codes "load") then Some Load
    else (if is w (codes "store") then Some Store
    else (if is w (codes "cas") then Some Cas
    else (if is w (codes "set") then Some Set
    else (if is w (codes "faa") then Some Faa
    else (if is w (codes "if") then Some If
    else None)))))

-- how many parts come after the word
abbrev pub own_parts : Head → ℕ
own_parts Load = 4
own_parts Store = 4
own_parts Cas = 6
own_parts Set = 2
own_parts Faa = 5
own_parts If = 3
