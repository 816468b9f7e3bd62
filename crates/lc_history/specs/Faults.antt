-- What a fault of an object is to its judge.
use Rattle.lc_seq.specs.declared.fault.SeqFault as S
use Rattle.lc_seq.specs.declared.fault.SeqFault.TheVariants as V
use Rattle.lc_history.specs.declared.judging.JudgeFault.{JudgeFault}
use Rattle.lc_history.specs.declared.judging.JudgeFault.TheVariants.{Overflow, OutOfMemory}

abbrev pub judge_fault : S.SeqFault → JudgeFault
judge_fault V.Overflow = Overflow
judge_fault V.OutOfMemory = OutOfMemory
