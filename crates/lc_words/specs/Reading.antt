-- What is read in words, in the terms in which clap's calls state it.
use Rattle.std.specs.Prelude.{◌≡◌, ◌⊎◌, ℕ, ◌==◌, nat_lt, length, Bool, true, false, if◌then◌else◌, codes, List, [], Option, Some, None, is_some, option_and_then, option_map}
use Rattle.std.specs.List.{after_first, before_first, position_or_len}
use Rattle.std.specs.Option.{option_map_or}
use Rattle.std.specs.Str.{bytes_eq}
use Rattle.std.specs.Str.Parse.{digits_value, without_leading_plus}
use Rattle.clap.specs.ValueTests.{is_unsigned_in}
use Rattle.clap.specs.Words.{IsAmong, Row, Text, fault_of, first_of, subcommand_of, takes}
use Rattle.clap.specs.declared.error.kind.ErrorKind.{ErrorKind}
use Rattle.clap.specs.declared.error.kind.ErrorKind.TheVariants.{DisplayHelp, DisplayVersion}
use Rattle.lc_lib_texts.specs.Names.{lib_named}
use Rattle.lc_numbers.specs.Numbers.{whole_numbers_in}
use Rattle.lc_words.specs.Commands.{program_app}
use Rattle.lc_words.specs.Tasks.{BeginDevelopment, CheckByWorkers, CheckCertificate, CheckFormula, DrawHistory, ExploreRuns, FindOrder, JudgeHistory, MakeWhole, PrintLibrary, RunPlan, Setting, ByPlan, OfSize, ShowCondition, Task, is_development_name, listing, proving, showing, task_of, carrying}
use Rattle.lc_words.specs.declared.request.LibraryText.{LibraryText}
use Rattle.lc_words.specs.declared.request.LibraryText.TheVariants.{Development, Certificate, Hints}
use Rattle.lc_words.specs.declared.request.Request.{Request}
use Rattle.lc_words.specs.declared.request.Shown.{Shown}
use Rattle.lc_words.specs.declared.request.Shown.TheVariants.{Whole, Page, Around}
use Rattle.lc_words.specs.declared.request.Turns.{Turns}
use Rattle.lc_words.specs.declared.request.Turns.TheVariants.{Free, Drawn, DrawnEach, Traced}

-- the task with the file that these arguments name so
abbrev pub one_file_task : (List ℕ → Task) → Text → List Row → Option Task
one_file_task task name rows = option_map task (first_of name rows)

-- the task with a development and the file that these arguments name so
abbrev pub two_file_task : (List ℕ → List ℕ → Task) → Text → List Row → Option Task
two_file_task task name rows = option_and_then (λ development. option_map (task development) (first_of name rows)) (first_of (codes "DEV") rows)

-- the task of carrying the certificate that these arguments name, with the hints that they name
abbrev pub carrying_task : List Row → Option Task
carrying_task rows =
    option_and_then (λ old. option_and_then (λ certificate. option_map (λ new. carrying old certificate new (first_of (codes "hints") rows)) (first_of (codes "NEW") rows)) (first_of (codes "CERT") rows))
    (first_of (codes "OLD") rows)

-- the flag is set: its value is `true`
abbrev pub is_set : Text → List Row → Bool
is_set name rows = option_map_or (λ value. bytes_eq value (codes "true")) (first_of name rows) false

-- a refusal is to be explained: the flag of the command is set
abbrev pub is_explained : Option (Text × List Row) → Bool
is_explained None = false
is_explained (Some c) = is_set (codes "explain") c.1

-- the task of showing the development, as the flag says
abbrev pub showing_task : List Row → Option Task
showing_task rows = option_map (λ development. showing development (is_set (codes "lines") rows)) (first_of (codes "DEV") rows)

-- the number that a text says, within 64 bits
unfoldable pub number_in : Text → Option ℕ
number_in text = if is_unsigned_in 0 18446744073709551615 text then Some (digits_value 10 (without_leading_plus text)) else None

-- the number that is given for an option, if one is
abbrev pub number_given : Text → List Row → Option ℕ
number_given name rows = option_and_then number_in (first_of name rows)

-- the task of checking a certificate, by workers or with a word of how far it is, which exclude each other
abbrev pub checked : List ℕ → List ℕ → (workers : Option ℕ) (progress : Bool) → Option Task
checked development certificate None progress = Some (CheckCertificate development certificate)
checked development certificate (Some workers) false = Some (CheckByWorkers development certificate workers)
checked development certificate (Some workers) true = None

abbrev pub checking_task : List Row → Option Task
checking_task rows =
    option_and_then (λ development. option_and_then (λ certificate. checked development certificate (number_given (codes "workers") rows) (is_set (codes "progress") rows)) (first_of (codes "CERT") rows)) (first_of (codes "DEV") rows)

-- the task of showing the condition of the number that is given, or of listing those of a point and of a kind, which exclude a number
abbrev pub listed : List ℕ → (number point kind : Option Text) → Option Task
listed development None point kind = Some (listing development point kind)
listed development (Some text) None None = option_map (ShowCondition development) (number_in text)
listed development (Some text) (Some point) kind = None
listed development (Some text) None (Some kind) = None

abbrev pub listing_task : List Row → Option Task
listing_task rows =
    option_and_then (λ development. listed development (first_of (codes "at") rows) (first_of (codes "only") rows) (first_of (codes "kind") rows)) (first_of (codes "DEV") rows)

-- the task of beginning a development, if it may have the name
abbrev pub begun : List ℕ → Option Task
begun name = if is_development_name name then Some (BeginDevelopment name) else None

abbrev pub beginning_task : List Row → Option Task
beginning_task rows = option_and_then begun (first_of (codes "NAME") rows)

-- the task of proving the development with the hints that these arguments name
abbrev pub proving_task : List Row → Option Task
proving_task rows = option_map (λ development. proving development (first_of (codes "hints") rows)) (first_of (codes "DEV") rows)

-- the text that the two flags ask for, which exclude each other
abbrev pub text_for : (certificate hints : Bool) → Option LibraryText
text_for false false = Some Development
text_for true false = Some Certificate
text_for false true = Some Hints
text_for true true = None

-- the task of printing the text that these arguments ask for, of the object that they name
abbrev pub library_task : List Row → Option Task
library_task rows =
    option_and_then (λ lib. option_map (PrintLibrary lib) (text_for (is_set (codes "certificate") rows) (is_set (codes "hints") rows)))
    (option_and_then lib_named (first_of (codes "NAME") rows))

-- the task of finding an order with these arguments
abbrev pub ordering : List Row → List ℕ → List ℕ → Task
ordering rows development history = FindOrder development history (is_set (codes "check") rows) (number_given (codes "budget") rows)

abbrev pub ordering_task : List Row → Option Task
ordering_task rows = two_file_task (ordering rows) (codes "HISTORY") rows

-- a full stop
abbrev pub is_stop : ℕ → Bool
is_stop b = b == 46

-- the texts before and behind the first one, if there is one
abbrev pub parted : Text → Option (Text × Text)
parted text = if nat_lt (position_or_len is_stop text) (length text) then Some (before_first is_stop text, after_first is_stop text) else None

-- the numbers of `A` and `B`, if nothing is between the full stops of `A..B`
abbrev pub range_of : Text → Text × Text → Option (ℕ × ℕ)
range_of first (between, end) =
    if length between == 0 then option_and_then (λ a. option_map (λ b. (a, b)) (number_in end)) (number_in first) else None

-- the two numbers that a text `A..B` says
abbrev pub range_in : Text → Option (ℕ × ℕ)
range_in text = option_and_then (λ p. option_and_then (range_of p.0) (parted p.1)) (parted text)

-- whose turn it is in a run, by a seed, or by the range of the seeds of several runs, which exclude each other; each step of one run may
-- be told
abbrev pub turns_by : (seed : Option ℕ) (seeds : Option Text) (trace : Bool) → Option Turns
turns_by None None false = Some Free
turns_by (Some seed) None false = Some (Drawn seed)
turns_by None None true = Some (Traced None)
turns_by (Some seed) None true = Some (Traced (Some seed))
turns_by None (Some text) false = option_map (λ r. DrawnEach r.0 r.1) (range_in text)
turns_by None (Some text) true = None
turns_by (Some seed) (Some text) trace = None

-- and so by these arguments
abbrev pub turns_given : List Row → Option Turns
turns_given rows = turns_by (number_given (codes "seed") rows) (first_of (codes "seeds") rows) (is_set (codes "trace") rows)

-- the task of running the development that these arguments name, with the certificate and the plan that they name
abbrev pub running_task : List Row → Option Task
running_task rows =
    option_and_then (λ development. option_and_then (λ certificate. option_and_then (λ plan. option_map (RunPlan development certificate plan) (turns_given rows)) (first_of (codes "PLAN") rows)) (first_of (codes "CERT") rows))
    (first_of (codes "DEV") rows)

-- what is drawn of a history: all, as a picture or as a page, or what is near the entry at a place, within so many events, or 100; a page
-- excludes a place, and there is no width without a place
abbrev pub shown_by : (html : Bool) (around width : Option ℕ) → Option Shown
shown_by false None None = Some Whole
shown_by true None None = Some Page
shown_by false (Some place) None = Some (Around place 100)
shown_by false (Some place) (Some width) = Some (Around place width)
shown_by true (Some place) width = None
shown_by false None (Some width) = None
shown_by true None (Some width) = None

-- and so by these arguments
abbrev pub shown_given : List Row → Option Shown
shown_given rows = shown_by (is_set (codes "html") rows) (number_given (codes "around") rows) (number_given (codes "width") rows)

-- the task of drawing the history that these arguments name
abbrev pub drawing_task : List Row → Option Task
drawing_task rows =
    option_and_then (λ development. option_and_then (λ history. option_map (DrawHistory development history) (shown_given rows)) (first_of (codes "HISTORY") rows)) (first_of (codes "DEV") rows)

-- the task of making a short development whole with these arguments
abbrev pub completing_task : List Row → Option Task
completing_task rows = option_map (λ short. MakeWhole short (number_given (codes "budget") rows)) (first_of (codes "SHORT") rows)

-- which calls clients make: those of a plan, or any, by how many clients there are and how many calls each makes; these exclude each other
abbrev pub setting_by : (plan : Option Text) (clients calls : Option ℕ) (numbers : Option Text) → Option Setting
setting_by (Some plan) None None None = Some (ByPlan plan)
setting_by None (Some clients) (Some calls) None = Some (OfSize clients calls None)
setting_by None (Some clients) (Some calls) (Some text) = if is_some (whole_numbers_in text) then Some (OfSize clients calls (Some text)) else None
setting_by _ _ _ _ = None

-- as these arguments say
abbrev pub setting_given : List Row → Option Setting
setting_given rows = setting_by (first_of (codes "PLAN") rows) (number_given (codes "clients") rows) (number_given (codes "calls") rows) (first_of (codes "numbers") rows)

-- the task of exploring a development with these arguments
abbrev pub exploring_task : List Row → Option Task
exploring_task rows =
    option_and_then (λ development. option_map (λ setting. ExploreRuns development setting (is_set (codes "bare") rows) (number_given (codes "budget") rows)) (setting_given rows)) (first_of (codes "DEV") rows)

-- the task of a command with its arguments
abbrev pub task_in_command : Text × List Row → Option Task
task_in_command c =
    if bytes_eq c.0 (codes "formula")
    then one_file_task CheckFormula (codes "FILE") c.1
    else (if bytes_eq c.0 (codes "judge")
    then two_file_task JudgeHistory (codes "HISTORY") c.1
    else (if bytes_eq c.0 (codes "show")
    then showing_task c.1
    else (if bytes_eq c.0 (codes "conditions")
    then listing_task c.1
    else (if bytes_eq c.0 (codes "check")
    then checking_task c.1
    else (if bytes_eq c.0 (codes "prove")
    then proving_task c.1
    else (if bytes_eq c.0 (codes "carry")
    then carrying_task c.1
    else (if bytes_eq c.0 (codes "library")
    then library_task c.1
    else (if bytes_eq c.0 (codes "draw")
    then drawing_task c.1
    else (if bytes_eq c.0 (codes "new")
    then beginning_task c.1
    else (if bytes_eq c.0 (codes "run")
    then running_task c.1
    else (if bytes_eq c.0 (codes "order")
    then ordering_task c.1
    else (if bytes_eq c.0 (codes "complete")
    then completing_task c.1
    else (if bytes_eq c.0 (codes "explore") then exploring_task c.1 else None)))))))))))))

-- the task of a command with its arguments, if there is one
abbrev pub task_in : Option (Text × List Row) → Option Task
task_in command = option_and_then task_in_command command

-- the request is what clap reads in the words
abbrev pub Reads : List Text → Request → Type 0
Reads words request = task_in (subcommand_of program_app words) ≡ Some (task_of request)

-- clap takes the words, and this is the task that it reads in them
abbrev pub AskFor : List Text → Task → Type 0
AskFor words task = (takes program_app words ≡ true) × (task_in (subcommand_of program_app words) ≡ Some task)

-- they ask that a refusal is explained
abbrev pub AskForReasons : List Text → Type 0
AskForReasons words = is_explained (subcommand_of program_app words) ≡ true

-- the error asks for a text to be shown, and tells no fault
abbrev pub AsksForText : ErrorKind → Type 0
AsksForText kind = (kind ≡ DisplayHelp) ⊎ (kind ≡ DisplayVersion)

-- clap finds a fault in the words, and they ask for no help
abbrev pub AreFaulty : List Text → Type 0
AreFaulty words = (fault_of program_app words ≡ [] → ⊥) × ((kind : ErrorKind) → IsAmong kind (fault_of program_app words) → AsksForText kind → ⊥)

-- clap finds no fault in the words, and they are no task: the object is none of the library's, or the options exclude each other, or a name or a number is none
abbrev pub AreNoTask : List Text → Type 0
AreNoTask words = (fault_of program_app words ≡ []) × (task_in (subcommand_of program_app words) ≡ None)

-- the words are wrong
abbrev pub AreWrong : List Text → Type 0
AreWrong words = AreFaulty words ⊎ AreNoTask words

-- the words ask for a text to be shown, and clap finds no other fault in them
abbrev pub AskForHelp : List Text → Type 0
AskForHelp words = (fault_of program_app words ≡ [] → ⊥) × ((kind : ErrorKind) → IsAmong kind (fault_of program_app words) → AsksForText kind)
