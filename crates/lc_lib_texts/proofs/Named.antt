-- What the names of objects name.
use Rattle.std.proofs.Common.{◌≡◌, Some, refl}
use Rattle.lc_lib_texts.specs.Names.{lib_named, name_of}
use Rattle.lc_lib_texts.specs.declared.library.Lib.{Lib}
use Rattle.lc_lib_texts.specs.declared.library.Lib.TheVariants.{Counter, Stack, Lock, Snapshot, Combining, Rendezvous, Queue, PoolStack}

-- the name of an object names it
pub named_back : (lib : Lib) → lib_named (name_of lib) ≡ Some lib
named_back Counter = refl
named_back Stack = refl
named_back Lock = refl
named_back Snapshot = refl
named_back Combining = refl
named_back Rendezvous = refl
named_back Queue = refl
named_back PoolStack = refl
