use Rattle.std.proofs.Common.{[], ◌∷◌, ◌++◌, ◌∙◌}
use Rattle.lc_outline.specs.DevelopmentView.{development_view}
use Rattle.lc_cert.proofs.Pieces.{few_taken}
use Rattle.lc_cert.specs.EntryView.{entry_of}
use Rattle.lc_check.proofs.Stepping.{last_few}
use Rattle.lc_check.proofs.certificate_session.feed_all.Goals as goal

pub entries-init : goal.entries-init
entries-init g c = record { lives = c.in_ok-feed.ensures.spent; goes = λ fed h. (h.taken, c.in_ok-feed.ensures.fed fed h.taken h.read, h.progress) }

pub returns-in_default : goal.returns-in_default
returns-in_default g c = λ fed h.
    let d = development_view c.args.development.now in
    let (taken, read, progress) = c.entries.invariant.goes fed h in
    record { taken = taken; read = c.in_default.ensures.none d (fed ++ c.args.piece.now) taken read; none = c.in_default.ensures.all c.entries.invariant.lives; progress = progress }

pub take-requires-in-entries-clause-known : goal.take-requires-in-entries-clause-known
take-requires-in-entries-clause-known g c =
    let (taken, read, progress) = c.entries.invariant.goes c.requires.0 c.requires.1 in
    (taken, progress)

pub take-requires-in-entries-clause-steps : goal.take-requires-in-entries-clause-steps
take-requires-in-entries-clause-steps g c =
    let d = development_view c.args.development.now in
    let e = entry_of c.in-Some.entry in
    let fed = c.requires.0 ++ c.args.piece.now in
    let (taken, read, progress) = c.entries.invariant.goes c.requires.0 c.requires.1 in
    last_few taken e (few_taken d fed (taken ++ e ∷ []) _ (c.in-Some.ensures.entry d fed taken read))

pub entries-preserved : goal.entries-preserved
entries-preserved g c = record {
  lives = c.in-Some.ensures.spent ∙ c.entries.invariant.lives;
  goes = λ fed h. (
      let d = development_view c.args.development.now in
      let e = entry_of c.in-Some.entry in
      let (taken, read, progress) = c.entries.invariant.goes fed h in
      (taken ++ e ∷ [], c.in-Some.ensures.entry d (fed ++ c.args.piece.now) taken read, c.in_ok-take.ensures taken progress)
      );
}
