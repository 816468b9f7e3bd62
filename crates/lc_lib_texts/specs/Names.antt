-- The library's objects, and their names.
use Rattle.std.specs.Prelude.{ℕ, List, [], ◌∷◌, codes, Option, find}
use Rattle.std.specs.Str.{bytes_eq}
use Rattle.lc_lib_texts.specs.declared.library.Lib.{Lib}
use Rattle.lc_lib_texts.specs.declared.library.Lib.TheVariants.{Counter, Stack, Lock, Snapshot, Combining, Rendezvous, Queue, PoolStack}

-- the name of an object
abbrev pub name_of : Lib → List ℕ
name_of Counter = codes "counter"
name_of Stack = codes "stack"
name_of Lock = codes "lock"
name_of Snapshot = codes "snapshot"
name_of Combining = codes "combining"
name_of Rendezvous = codes "rendezvous"
name_of Queue = codes "queue"
name_of PoolStack = codes "pool-stack"

-- all of them
abbrev pub libs : List Lib
libs = Counter ∷ Stack ∷ Lock ∷ Snapshot ∷ Combining ∷ Rendezvous ∷ Queue ∷ PoolStack ∷ []

-- the one of this name, if there is one
abbrev pub lib_named : List ℕ → Option Lib
lib_named name = find (λ lib. bytes_eq name (name_of lib)) libs
