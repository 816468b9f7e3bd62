-- The parts of a plan, as cursors find them.
use Rattle.std.proofs.Common.{ℤ, List, map, Ok, Err, ap, ◌∙◌}
use Rattle.std.specs.Prelude.{Result, Vec}
use Rattle.std.specs.declared.alloc.Global.{Global}
use Rattle.std.proofs.lemmas.List.{map-id}
use Rattle.lc_reading.specs.Readings.{Reading, fine}
use Rattle.lc_reading.specs.Results.{IsReading}
use Rattle.lc_reading.specs.declared.flaw.ReadFault.{ReadFault}

-- numbers stand for themselves
pub numbers_read : (r : Reading (List ℤ)) (v : Result (Vec ℤ Global) ReadFault) → IsReading (λ values. map (λ z. z) values.items) r v → IsReading (λ numbers. numbers.items) r v
numbers_read r (Ok v) h = h ∙ ap fine (map-id v.items)
numbers_read r (Err f) h = h
