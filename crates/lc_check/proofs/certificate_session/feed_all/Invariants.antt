use Rattle.std.proofs.Common.{◌≡◌, ◌++◌, ℕ, List, length, false}
use Rattle.lc_outline.specs.DevelopmentView.{development_view}
use Rattle.lc_cert.specs.Certificates.{Entry}
use Rattle.lc_cert.specs.Pieces.{IsAfterTaking, waiting, is_spent}
use Rattle.lc_check.specs.Progress.{IsProgress}
use Rattle.lc_check.specs.UpTo.{IsUpTo}
use Rattle.lc_check.proofs.certificate_session.feed_all.Given as goal

-- the proofs that were taken of what was fed
abbrev pub invariant-entries : goal.invariant-entries
invariant-entries g l = record {
  lives : is_spent l.reader ≡ false;
  goes : (fed : List ℕ) → IsUpTo (development_view l.development) fed l.fn.reader l.fn.progress
      → (taken : List Entry) × IsAfterTaking (development_view l.development) (fed ++ l.piece) taken l.reader × IsProgress (development_view l.development) taken l.progress;
}

abbrev pub decreases-entries : goal.decreases-entries
decreases-entries g l = length (waiting l.reader)
