-- What is answered when a certificate is checked, by itself or by a number of workers.
use Rattle.std.proofs.Common.{ℕ, List, Option, Some, None}
use Rattle.lc_words.specs.Tasks.{CheckCertificate, checking}
use Rattle.lincheck.specs.Check.{AnswersCheck}
use Rattle.lincheck.specs.Execution.{AnswersTask, IsUnread}
use Rattle.lincheck.specs.Reading.{OfFile}

-- the answer is the same
pub answers_by : (bytes_at : List ℕ → Option (List ℕ)) (development certificate : List ℕ) (workers : Option ℕ) (text : List ℕ) (status : ℕ)
    → OfFile (bytes_at development) (λ file. AnswersCheck file (bytes_at certificate) text status) → AnswersTask bytes_at (checking development certificate workers) text status
answers_by bytes_at development certificate None text status h = h
answers_by bytes_at development certificate (Some n) text status h = h

-- the same files cannot be opened
pub unread_by : (CannotOpen : List ℕ → Type 0) (bytes_at : List ℕ → Option (List ℕ)) (development certificate : List ℕ) (workers : Option ℕ)
    → IsUnread CannotOpen bytes_at (checking development certificate workers) → IsUnread CannotOpen bytes_at (CheckCertificate development certificate)
unread_by CannotOpen bytes_at development certificate None h = h
unread_by CannotOpen bytes_at development certificate (Some n) h = h
