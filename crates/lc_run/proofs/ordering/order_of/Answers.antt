use Rattle.std.proofs.Common.{List, ap, ◌∙◌}
use Rattle.std.specs.List.{list_all}
use Rattle.lc_sound.specs.Order.{no_call}
use Rattle.lc_run.specs.LabelView.{labels_of}
use Rattle.lc_run.specs.Ordering.{happenings_of, is_within}
use Rattle.lc_run.specs.declared.ordering.Happening.{Happening}
use Rattle.lc_run.proofs.Happened.{happenings_within}
use Rattle.lc_run.proofs.ordering.order_of.Goals as goal

pub entries-requires-clause-within : goal.entries-requires-clause-within
entries-requires-clause-within c =
    let n = c.args.clients in
    ap (λ (hs : List Happening). list_all (is_within n) (happenings_of hs)) c.deref.ensures.value
    ∙ (ap (list_all (is_within n)) c.in_ok-happenings.ensures ∙ happenings_within n (λ _. no_call) (labels_of c.args.labels.now) c.requires.clients)
