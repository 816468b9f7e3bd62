-- What an error of clap at words says of them.
use Rattle.std.proofs.Common.{◌≡◌, ◌⊎◌, inl, inr, Bool, true, List, [], Some, None, sym, ◌∙◌, ap, subst}
use Rattle.std.specs.Prelude.{Result, Ok, Err, IfErr, IsErrAnd}
use Rattle.clap.specs.Words.{App, HasKind, HasMatchesOf, IsAmong, Text, fault_of, is_simple, is_simple_and_free, kind_of, subcommand_of, subcommand_rows_of, takes}
use Rattle.clap.specs.declared.error.Error.{Error}
use Rattle.clap.specs.declared.error.kind.ErrorKind.TheVariants.{OutOfMemory}
use Rattle.clap.specs.declared.parser.matches.ArgMatches.{ArgMatches}
use Rattle.lc_words.specs.Commands.{program_app}
use Rattle.lc_words.specs.Reading.{AreWrong, AskFor, AskForHelp, AsksForText, Reads, is_explained, task_in}
use Rattle.lc_words.specs.Tasks.{Task, task_of}
use Rattle.lc_words.specs.declared.request.Request.{Request}
use Rattle.lc_words.proofs.Plain.{program_is_free, program_is_simple}

-- something is asked for
something_is_asked : (words : List Text) (task : Task) → AskFor words task → task_in (subcommand_of program_app words) ≡ None → ⊥
something_is_asked words task ask nothing = let e : Some task ≡ None = sym ask.1 ∙ nothing in cc

-- an error has one of the kinds of the fault, so that of wrong words asks for no text
pub no_text : (words : List Text) (e : Error) → AreWrong words → HasKind (fault_of program_app words) e → AsksForText (kind_of e) → ⊥
no_text words e wrong (inl memory) (inl help) = cc
no_text words e wrong (inl memory) (inr version) = cc
no_text words e (inl faulty) (inr among) asks = faulty.1 (kind_of e) among asks
no_text words e (inr idle) (inr among) asks = subst (IsAmong (kind_of e)) idle.0 among

-- an error of clap at words that ask for a task is that memory ran out
pub taken_fault : (a : App) (words : List Text) (e : Error) → a ≡ program_app → (takes a words ≡ true → kind_of e ≡ OutOfMemory) → (task : Task) → AskFor words task → kind_of e ≡ OutOfMemory
taken_fault a words e is passes task ask = passes (ap (λ x. takes x words) is ∙ ask.0)

-- an error of clap at wrong words asks for no text
pub wrong_fault : (a : App) (words : List Text) (e : Error) → a ≡ program_app → (is_simple_and_free a ≡ true → HasKind (fault_of a words) e)
    → AreWrong words → AsksForText (kind_of e) → ⊥
wrong_fault a words e is kinds wrong = no_text words e wrong (subst (λ (x : App). HasKind (fault_of x words) e) is (kinds (ap is_simple_and_free is ∙ program_is_free)))

-- if the words ask for help, an error of clap asks for a text, or is that memory ran out
pub help_asked : (a : App) (words : List Text) (e : Error) → a ≡ program_app → (is_simple_and_free a ≡ true → HasKind (fault_of a words) e)
    → AskForHelp words → (kind_of e ≡ OutOfMemory) ⊎ AsksForText (kind_of e)
help_asked a words e is kinds help = elim (subst (λ (x : App). HasKind (fault_of x words) e) is (kinds (ap is_simple_and_free is ∙ program_is_free))) [
  | inl memory ↦ inl memory
  | inr among ↦ inr (help.1 (kind_of e) among)
]

-- words at which clap answers matches ask for no help
pub no_help : (a : App) (words : List Text) → a ≡ program_app → (is_simple_and_free a ≡ true → fault_of a words ≡ []) → AskForHelp words → ⊥
no_help a words is kinds help = help.0 (subst (λ (x : App). fault_of x words ≡ []) is (kinds (ap is_simple_and_free is ∙ program_is_free)))

-- words at which clap answers matches in which a task is read are not wrong
pub not_wrong : (a : App) (words : List Text) (m : ArgMatches) (task : Task) → a ≡ program_app → (is_simple_and_free a ≡ true → fault_of a words ≡ []) → HasMatchesOf a words m
    → Some task ≡ task_in (subcommand_rows_of m) → AreWrong words → ⊥
not_wrong a words m task is kinds has reads (inl faulty) = faulty.0 (subst (λ (x : App). fault_of x words ≡ []) is (kinds (ap is_simple_and_free is ∙ program_is_free)))
not_wrong a words m task is kinds has reads (inr idle) =
    let same : subcommand_rows_of m ≡ subcommand_of program_app words = (has (ap is_simple is ∙ program_is_simple)).1 ∙ ap (λ x. subcommand_of x words) is in
    let e : Some task ≡ None = reads ∙ ap task_in same ∙ idle.1 in cc

-- words in which no task is read ask for none
pub nothing_asked : (a : App) (words : List Text) (m : ArgMatches) → a ≡ program_app → HasMatchesOf a words m → None ≡ task_in (subcommand_rows_of m) → (task : Task) → AskFor words task → ⊥
nothing_asked a words m is has nothing task ask =
    let same : subcommand_rows_of m ≡ subcommand_of program_app words = (has (ap is_simple is ∙ program_is_simple)).1 ∙ ap (λ x. subcommand_of x words) is in
    something_is_asked words task ask (sym (nothing ∙ ap task_in same))

-- what is read in matches is what clap reads in the words
pub reads_request : (a : App) (words : List Text) (m : ArgMatches) (request : Request) → a ≡ program_app → HasMatchesOf a words m → Some (task_of request) ≡ task_in (subcommand_rows_of m)
    → Reads words request
reads_request a words m request is has reads =
    let same : subcommand_rows_of m ≡ subcommand_of program_app words = (has (ap is_simple is ∙ program_is_simple)).1 ∙ ap (λ x. subcommand_of x words) is in
    sym (reads ∙ ap task_in same)

-- and so is whether a refusal is to be explained
pub reads_explained : (a : App) (words : List Text) (m : ArgMatches) (explained : Bool) → a ≡ program_app → HasMatchesOf a words m → explained ≡ is_explained (subcommand_rows_of m)
    → explained ≡ is_explained (subcommand_of program_app words)
reads_explained a words m explained is has reads =
    let same : subcommand_rows_of m ≡ subcommand_of program_app words = (has (ap is_simple is ∙ program_is_simple)).1 ∙ ap (λ x. subcommand_of x words) is in
    reads ∙ ap is_explained same

-- running out of memory asks for no text
memory_alone : (e : Error) → kind_of e ≡ OutOfMemory → AsksForText (kind_of e) → ⊥
memory_alone e memory (inl help) = cc
memory_alone e memory (inr version) = cc

pub memory_told : {A : Type 0} (r : Result A Error) → IsErrAnd r (λ e. kind_of e ≡ OutOfMemory) → IsErrAnd r (λ e. AsksForText (kind_of e) → ⊥)
memory_told (Ok x) memory = memory
memory_told (Err e) memory = memory_alone e memory

-- if the words ask for no task, an error may be any
pub any_err : {A : Type 0} (words : List Text) (r : Result A Error) → ((task : Task) → AskFor words task → ⊥) → IfErr r (λ error. (task : Task) → AskFor words task → kind_of error ≡ OutOfMemory)
any_err words (Ok x) never = tt
any_err words (Err e) never = λ task ask. absurd (never task ask)

-- the request that is read is for the task that the words ask for
pub request_is : (words : List Text) (request : Request) (task : Task) → Reads words request → AskFor words task → task_of request ≡ task
request_is words request task reads ask = let e : Some (task_of request) ≡ Some task = sym reads ∙ ask.1 in cc
