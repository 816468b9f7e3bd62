-- How the program ends.
use Rattle.std.proofs.Common.{◌≡◌, ℕ, ◌⊎◌, inl, inr, List, [], ◌++◌, Option, Some, None, Result, Ok, Err, IfOk, IfErr, OnOk, false, true≢false, refl, sym, subst, ap, ◌∙◌, append-nil, append_assoc}
use Rattle.std.specs.Result.{is_err}
use Rattle.std.specs.Io.KnownBytes.{Keeps, Appends}
use Rattle.lc_words.specs.Tasks.{Task}
use Rattle.lincheck.specs.Execution.{AnswersTask, Ends}
use Rattle.lincheck.specs.Printing.{LeavesOf, PrintsText, IsInPieces, Leaves}
use Rattle.lincheck.specs.Status.{status_of}
use Rattle.lincheck.specs.declared.answer.Failure.{Failure}
use Rattle.lincheck.specs.declared.answer.Failure.TheVariants.{CannotRead, CannotWrite, OutOfMemory}

pub Keeps-same : (known : Option (List ℕ)) → Keeps known known
Keeps-same None = tt
Keeps-same (Some xs) = refl

-- nothing was written
pub Appends-none : (known : Option (List ℕ)) → Appends known known []
Appends-none None = tt
Appends-none (Some xs) = sym (append-nil xs)

-- one text is written after another
pub Appends-more : (before written after : Option (List ℕ)) (done more : List ℕ) → Appends before written done → Appends written after more → Appends before after (done ++ more)
Appends-more None written after done more first second = tt
Appends-more (Some xs) None after done more first second = absurd first
Appends-more (Some xs) (Some ys) None done more first second = absurd second
Appends-more (Some xs) (Some ys) (Some zs) done more first second = second ∙ ap (λ l. l ++ more) first ∙ append_assoc xs done more

-- ---- a text in pieces

-- at first all of it is left
pub leaves_all : (known : Option (List ℕ)) (text : List ℕ) → LeavesOf known known text text
leaves_all known text = ([], refl, Appends-none known)

-- a piece more is printed
pub leaves_less : {E : Type 0} (before written after : Option (List ℕ)) (left piece seen rest text : List ℕ) (r : Result (Unit {0}) E) → LeavesOf before written left text → left ≡ piece ++ rest → seen ≡ piece
    → is_err r ≡ false → OnOk r (Appends written after seen) → LeavesOf before after rest text
leaves_less before written after left piece seen rest text (Err e) leaves cut same none appends = absurd (true≢false none)
leaves_less before written after left piece seen rest text (Ok u) (done, is, first) cut same none appends =
    (done ++ piece, is ∙ ap (λ l. done ++ l) cut ∙ sym (append_assoc done piece rest), Appends-more before written after done piece first (subst (λ p. Appends written after p) same appends))

-- on `OutOfMemory` nothing is printed at first, and a beginning later
pub prints_nothing : (known : Option (List ℕ)) (text : List ℕ) → PrintsText known known text (Err OutOfMemory)
prints_nothing known text = (text, leaves_all known text)

pub prints_beginning : (before after : Option (List ℕ)) (left text : List ℕ) → LeavesOf before after left text → PrintsText before after text (Err OutOfMemory)
prints_beginning before after left text leaves = (left, leaves)

-- ---- what a task leaves

-- an answer is printed at once
pub leaves_printed : (task : Task) (IsAnswer : List ℕ → ℕ → Type 0) (before after : Option (List ℕ)) (text : List ℕ) (said : ℕ) (r : Result ℕ Failure) → IsAnswer text said
    → IfOk r (λ status. (status ≡ said) × Appends before after text) → IfErr r (λ failure. failure ≡ CannotWrite) → Leaves task IsAnswer before after r
leaves_printed task IsAnswer before after text said (Ok status) is (same, appends) fails = (text, subst (λ n. IsAnswer text n) (sym same) is, appends)
leaves_printed task IsAnswer before after text said (Err failure) is prints fails =
    subst (λ f. Leaves task IsAnswer before after (Err f)) (sym fails) (inr (text, said, is))

-- an answer was to be printed in pieces
pub leaves_broken : (task : Task) (IsAnswer : List ℕ → ℕ → Type 0) (before after : Option (List ℕ)) (text : List ℕ) (said : ℕ) (failure : Failure) → IsInPieces task → IsAnswer text said
    → PrintsText before after text (Err failure) → Leaves task IsAnswer before after (Err failure)
leaves_broken task IsAnswer before after text said (CannotRead path reason) pieces is prints = absurd prints
leaves_broken task IsAnswer before after text said CannotWrite pieces is prints = inr (text, said, is)
leaves_broken task IsAnswer before after text said OutOfMemory pieces is prints = inr (pieces, (text, said, is, prints))

-- what the task of the request leaves is what the task leaves that is asked for
leaves_asked : (bytes_at : List ℕ → Option (List ℕ)) (asked task : Task) (before after : Option (List ℕ)) (r : Result ℕ Failure) → asked ≡ task
    → Leaves asked (AnswersTask bytes_at asked) before after r → Leaves task (AnswersTask bytes_at task) before after r
leaves_asked bytes_at asked task before after r same leaves = subst (λ (t : Task). Leaves t (AnswersTask bytes_at t) before after r) same leaves

-- ---- how the program ends

-- when memory runs out for the command line
pub ends_unread : (task : Task) (IsAnswer : List ℕ → ℕ → Type 0) (before after : Option (List ℕ)) (status : ℕ) → (status ≡ 4) × (after ≡ before) → Ends task IsAnswer before after status
ends_unread task IsAnswer before after status (four, same) = inl (inr four, subst (λ a. Keeps before a) (sym same) (Keeps-same before))

-- with an answer
ok_ends : (task : Task) (IsAnswer : List ℕ → ℕ → Type 0) (before after : Option (List ℕ)) (status : ℕ) → Leaves task IsAnswer before after (Ok status) → Ends task IsAnswer before after status
ok_ends task IsAnswer before after status (text, is, appends) = inr (text, status, is, inr (inr (refl, appends)))

pub ends_ok : (bytes_at : List ℕ → Option (List ℕ)) (asked task : Task) (before after : Option (List ℕ)) (status : ℕ) → asked ≡ task
    → Leaves asked (AnswersTask bytes_at asked) before after (Ok status) → Ends task (AnswersTask bytes_at task) before after status
ends_ok bytes_at asked task before after status same leaves =
    ok_ends task (AnswersTask bytes_at task) before after status (leaves_asked bytes_at asked task before after (Ok status) same leaves)

-- with a failure
failed_ends : (task : Task) (IsAnswer : List ℕ → ℕ → Type 0) (before after : Option (List ℕ)) (failure : Failure) (status : ℕ) → status ≡ status_of failure
    → Leaves task IsAnswer before after (Err failure) → Ends task IsAnswer before after status
failed_ends task IsAnswer before after (CannotRead path reason) status is keeps = inl (inl is, keeps)
failed_ends task IsAnswer before after CannotWrite status is (inl keeps) = inl (inl is, keeps)
failed_ends task IsAnswer before after CannotWrite status is (inr (text, said, answers)) = inr (text, said, answers, inl is)
failed_ends task IsAnswer before after OutOfMemory status is (inl keeps) = inl (inr is, keeps)
failed_ends task IsAnswer before after OutOfMemory status is (inr (pieces, (text, said, answers, begins))) = inr (text, said, answers, inr (inl (pieces, is, begins)))

pub ends_failed : (bytes_at : List ℕ → Option (List ℕ)) (asked task : Task) (before after : Option (List ℕ)) (failure : Failure) (status : ℕ) → asked ≡ task
    → status ≡ status_of failure → Leaves asked (AnswersTask bytes_at asked) before after (Err failure) → Ends task (AnswersTask bytes_at task) before after status
ends_failed bytes_at asked task before after failure status same is leaves =
    failed_ends task (AnswersTask bytes_at task) before after failure status is (leaves_asked bytes_at asked task before after (Err failure) same leaves)

-- a failure has status 3 or 4
pub failed_status : (failure : Failure) (status : ℕ) → status ≡ status_of failure → (status ≡ 3) ⊎ (status ≡ 4)
failed_status (CannotRead path reason) status is = inl is
failed_status CannotWrite status is = inl is
failed_status OutOfMemory status is = inr is
