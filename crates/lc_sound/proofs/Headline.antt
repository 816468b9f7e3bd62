-- If each bare run has an instrumented run over it, each history is linearizable.
use Rattle.std.proofs.Common.{ap, subst}
use Rattle.lc_seq.specs.TextStep.{text_step, start_of}
use Rattle.lc_history.specs.History.{Linearizes}
use Rattle.lc_sound.specs.Instrumented.{bare_history}
use Rattle.lc_sound.specs.Order.{order}
use Rattle.lc_sound.specs.Claims.{RunsAreSimulated, Headline}
use Rattle.lc_sound.proofs.Ordered.{orders_do_linearize}

pub headline_if_simulated : RunsAreSimulated → Headline
headline_if_simulated simulated D proven clients labels run =
    let over = simulated D proven clients labels run.0 run.1 in (
      order over.labels,
      subst (λ h. Linearizes (text_step D.specification.operations) (start_of D.specification.columns) h (order over.labels)) (ap bare_history over.same)
          (orders_do_linearize D proven.resolved clients over.labels over.world over.run),
    )
