-- Answers that say whether a fact is so.
use Rattle.std.proofs.Common.{◌≡◌, Bool, true, false, subst}
use Rattle.std.specs.Prelude.{Result, IfOk}
use Rattle.lc_base.specs.declared.memory.OutOfMemory.{OutOfMemory}
use Rattle.lc_lemmas.proofs.Options.{if_ok}
use Rattle.lc_acting.specs.Attempts.{SaysSo}

module _ (P : Type 0) (b : Bool) (says : SaysSo b P) where
  pub so_if : b ≡ true → P
  so_if e = subst (λ (x : Bool). SaysSo x P) e says

  pub not_if : b ≡ false → P → ⊥
  not_if e = subst (λ (x : Bool). SaysSo x P) e says

-- a fact that is the same as another
pub says_as : (b : Bool) (P Q : Type 0) → (P → Q) → (Q → P) → SaysSo b P → SaysSo b Q
says_as true P Q on back says = on says
says_as false P Q on back says = λ q. says (back q)

-- of what was answered
pub says_ok : (r : Result Bool OutOfMemory) (P Q : Type 0) → (P → Q) → (Q → P) → IfOk r (λ b. SaysSo b P) → IfOk r (λ b. SaysSo b Q)
says_ok r P Q on back h = if_ok r (λ b. SaysSo b P) (λ b. SaysSo b Q) (λ b says. says_as b P Q on back says) h
