-- What is reported about a name for which a short development is to be begun.
use Rattle.std.proofs.Common.{◌≡◌, ℕ, List, Result, Ok, Err, IfOk, inl, subst}
use Rattle.lc_base.specs.declared.memory.OutOfMemory.{OutOfMemory}
use Rattle.lc_base.specs.declared.refusal.Fault.{Fault}
use Rattle.lc_base.specs.declared.refusal.Fault.TheVariants.{Refused, OutOfMemory as NoMemory}
use Rattle.lc_short.specs.Answers.{IsShortAnswer}
use Rattle.lc_short.specs.Shorts.{IsShortRefusal}
use Rattle.lincheck.specs.Answers.{ToldFault}
use Rattle.lincheck.specs.New.{AnswersNew, template_of}
use Rattle.lincheck.specs.declared.answer.Answer.{Answer}

-- the text of the name is refused
pub begun_refused : (name seen : List ℕ) (fault : Fault) (result : Result Answer OutOfMemory) → seen ≡ template_of name → IsShortAnswer seen (Err fault)
    → IfOk result (λ answer. ToldFault fault answer.text.items answer.status) → IfOk result (λ answer. AnswersNew name answer.text.items answer.status)
begun_refused name seen fault (Err memory) same is told = tt
begun_refused name seen (Refused refusal) (Ok answer) same is told = inl (refusal, subst (λ b. IsShortRefusal b refusal) same is, told)
begun_refused name seen NoMemory (Ok answer) same is told = absurd told
