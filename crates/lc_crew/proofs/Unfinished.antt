-- Whether a call is unfinished after what calls leave.
use Rattle.std.proofs.Common.{◌≡◌, ℕ, suc, ◌+◌, Bool, true, false, not, List, ℤ, Option, Some, None, refl, ap, subst, ◌∙◌, arith}
use Rattle.lc_machine.specs.Step.{Event, Invoked}
use Rattle.lc_run.proofs.Calling.{last-goes, moves-go}
use Rattle.lc_run.specs.Labels.{goes_on, is_unfinished}
use Rattle.lc_run.specs.Running.{IsCalled}
use Rattle.lc_run.specs.declared.runner.Called.{Called}
use Rattle.lc_run.specs.declared.runner.Called.TheVariants as called
use Rattle.lc_sound.specs.Instrumented.{Label}
use Rattle.lc_crew.specs.Halts.{fits}
use Rattle.lc_crew.specs.Playing.{HasReturned, HaveReturned, HasMadeOne, halt_behind}
use Rattle.lc_crew.specs.declared.halt.Halt.{Halt}

-- no call is unfinished after one that returned
pub returned-fits : (turns : ℕ) (call : Event) (c : ℕ) (before after : List Label) → HasReturned turns call c before after → is_unfinished after ≡ false
returned-fits turns call c before after (numbers, (begun, k, last, first, moved, fewer, reply)) =
    ap is_unfinished reply.grown ∙ (last-goes last reply.label ∙ ap goes_on reply.what)

-- a call whose turns are spent is
pub spent-fits : (turns op : ℕ) (ns : List ℤ) (c : ℕ) (before after : List Label) → IsCalled called.TurnsSpent turns (Invoked op ns) c before after → is_unfinished after ≡ true
spent-fits turns op ns c before after (begun, first, moved) =
    ap is_unfinished moved.grown ∙ moves-go c begun moved.moves (ap is_unfinished first.grown ∙ (last-goes before first.label ∙ ap goes_on first.what)) moved.each

-- a call that went on as long as it could
pub called-made : (done : Called) (turns op : ℕ) (ns : List ℤ) (c : ℕ) (before after : List Label) → IsCalled done turns (Invoked op ns) c before after →
    HasMadeOne (halt_behind done) turns (Invoked op ns) c before after × (fits (halt_behind done) (is_unfinished after) ≡ true)
called-made (called.Returned numbers) turns op ns c before after is = ((numbers, is), ap not (returned-fits turns (Invoked op ns) c before after (numbers, is)))
called-made called.TurnsSpent turns op ns c before after is = (is, spent-fits turns op ns c before after is)

-- a client that is not halted is in no call
pub in-none : (unfinished : Bool) → fits None unfinished ≡ true → unfinished ≡ false
in-none true e = absurd cc
in-none false e = refl

pub none-fit : (halt : Option Halt) (unfinished : Bool) → ((h : Halt) → halt ≡ Some h → ⊥) → fits halt unfinished ≡ true → unfinished ≡ false
none-fit None unfinished never fit = in-none unfinished fit
none-fit (Some h) unfinished never fit = absurd (never h refl)

-- one call more has returned
pub one-more : (halt : Option Halt) (n turns : ℕ) (call : Event) (c d : ℕ) (before mid after : List Label) → ((h : Halt) → halt ≡ Some h → ⊥) → d ≡ c → HaveReturned n turns call c before mid
    → HasMadeOne halt turns call d mid after → HaveReturned (n + 1) turns call c before after
one-more None n turns call c d before mid after never same so made =
    let next : suc n ≡ n + 1 = omega arith in
    subst (λ m. HaveReturned m turns call c before after) next (mid, so, subst (λ x. HasReturned turns call x mid after) same made)
one-more (Some h) n turns call c d before mid after never same so made = absurd (never h refl)
