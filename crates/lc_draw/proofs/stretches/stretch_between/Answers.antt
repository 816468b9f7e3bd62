use Rattle.std.proofs.Common.{◌∙◌, ap, sym}
use Rattle.std.proofs.lemmas.List.{take-map}
use Rattle.lc_history.specs.History.{count, is_call, is_return}
use Rattle.lc_history.specs.View.{event_of, events_of}
use Rattle.lc_draw.proofs.stretches.stretch_between.Goals as goal

pub returns-clause-turns : goal.returns-clause-turns
returns-clause-turns c = record {
  begun_are = λ k. c.in_ok-begun.ensures k ∙ ap (count (is_call k)) (ap events_of c.first_events.ensures ∙ sym (take-map event_of c.args.until c.args.events.now));
  returned_are = λ k. c.in_ok-returned.ensures k ∙ ap (count (is_return k)) (ap events_of c.first_events-2.ensures ∙ sym (take-map event_of c.args.from c.args.events.now));
}
