-- The bytes of the library's texts.
use Rattle.std.specs.Prelude.{ℕ, List}
use Rattle.lc_lib_texts.specs.declared.library.Lib.{Lib}
use Rattle.lc_lib_texts.specs.declared.library.Lib.TheVariants.{Counter, Stack, Lock, Snapshot, Combining, Rendezvous, Queue, PoolStack}
use Rattle.lc_lib_texts.specs.declared.texts.counter.TheConstants as counter
use Rattle.lc_lib_texts.specs.declared.texts.stack.TheConstants as stack
use Rattle.lc_lib_texts.specs.declared.texts.lock.TheConstants as lock
use Rattle.lc_lib_texts.specs.declared.texts.snapshot.TheConstants as snapshot
use Rattle.lc_lib_texts.specs.declared.texts.combining.TheConstants as combining
use Rattle.lc_lib_texts.specs.declared.texts.rendezvous.TheConstants as rendezvous
use Rattle.lc_lib_texts.specs.declared.texts.queue.TheConstants as queue
use Rattle.lc_lib_texts.specs.declared.texts.pool_stack.TheConstants as pool_stack

-- the text of its development
unfoldable pub development_bytes : Lib → List ℕ
development_bytes Counter = counter.DEVELOPMENT.now
development_bytes Stack = stack.DEVELOPMENT.now
development_bytes Lock = lock.DEVELOPMENT.now
development_bytes Snapshot = snapshot.DEVELOPMENT.now
development_bytes Combining = combining.DEVELOPMENT.now
development_bytes Rendezvous = rendezvous.DEVELOPMENT.now
development_bytes Queue = queue.DEVELOPMENT.now
development_bytes PoolStack = pool_stack.DEVELOPMENT.now

-- the text of its hints
unfoldable pub hint_bytes : Lib → List ℕ
hint_bytes Counter = counter.HINTS.now
hint_bytes Stack = stack.HINTS.now
hint_bytes Lock = lock.HINTS.now
hint_bytes Snapshot = snapshot.HINTS.now
hint_bytes Combining = combining.HINTS.now
hint_bytes Rendezvous = rendezvous.HINTS.now
hint_bytes Queue = queue.HINTS.now
hint_bytes PoolStack = pool_stack.HINTS.now
