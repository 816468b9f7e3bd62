-- The words of each task are read as that task, and nothing is wrong in them.
use Rattle.std.proofs.Common.{◌≡◌, ℕ, ◌==◌, ◌≤◌, ◌<◌, ◌^◌, ◌&&◌, Bool, true, false, not, true≢false, codes, List, [], ◌∷◌, Option, Some, None, eqb-true, refl, sym, ◌∙◌, ap, ap₂, subst}
use Rattle.std.specs.Fmt.{decimal}
use Rattle.std.specs.Prelude.{◌++◌, if◌then◌else◌, option_and_then, option_map}
use Rattle.clap.specs.Words.{Text, built, is_simple, is_simple_and_free}
use Rattle.clap.specs.Simple.{names_of}
use Rattle.clap.specs.Walk.{idle, subcommand_met}
use Rattle.clap.proofs.OnLiterals.{clap_on_literals}
use Rattle.clap.proofs.WalkLemmas.{both}
use Rattle.lc_base.specs.NameText.{begins_name, is_name}
use Rattle.lc_lib_texts.proofs.Named.{named_back}
use Rattle.lc_lib_texts.specs.Names.{name_of}
use Rattle.lc_lib_texts.specs.declared.library.Lib.{Lib}
use Rattle.lc_lib_texts.specs.declared.library.Lib.TheVariants.{Counter, Stack, Lock, Snapshot, Combining, Rendezvous, Queue, PoolStack}
use Rattle.lc_words.specs.Commands.{program_app}
use Rattle.lc_words.specs.Limits.{size_limit}
use Rattle.lc_words.specs.Reading.{AskFor, AskForReasons, checked, is_explained, number_in, setting_by, shown_by, task_in, turns_by}
use Rattle.lc_words.specs.Tasks.{HasPlainPaths, Task, CheckFormula, JudgeHistory, ShowDevelopment, ShowLines, ListConditions, ListChosen, ShowCondition, OfPoint, OfKind, OfBoth, ReadsFiles, CheckByWorkers, CheckCertificate, ProveDevelopment, ProveWithHints, DrawHistory, BeginDevelopment, ByPlan, OfSize, ExploreRuns, FindOrder, MakeWhole, PrintLibrary, RunPlan, is_development_name, is_plain, range_text, words_for, CarryCertificate, CarryWithHints}
use Rattle.lc_words.specs.declared.request.LibraryText.TheVariants.{Development, Certificate, Hints}
use Rattle.lc_words.specs.declared.request.Shown.TheVariants.{Whole, Page, Around}
use Rattle.lc_words.specs.declared.request.Turns.TheVariants.{Free, Drawn, DrawnEach, Traced}
use Rattle.lc_words.proofs.Numbers.{number_back, numbers_are_plain}
use Rattle.lc_words.proofs.Ranges.{range_back, ranges_are_plain}
use Rattle.lc_words.proofs.Workers.{number_passes, workers_are_few, workers_pass}
use Rattle.lc_words.proofs.Walks.{Piece, built_over, command_is_read, command_is_taken, command_over, known, plain, words_of}

pub program_is_simple : is_simple program_app ≡ true
unfolding clap_on_literals
program_is_simple = refl

pub program_is_free : is_simple_and_free program_app ≡ true
unfolding clap_on_literals
program_is_free = refl

-- the name of an object begins with no hyphen
names_are_plain : (lib : Lib) → is_plain (name_of lib) ≡ true
names_are_plain Counter = refl
names_are_plain Stack = refl
names_are_plain Lock = refl
names_are_plain Snapshot = refl
names_are_plain Combining = refl
names_are_plain Rendezvous = refl
names_are_plain Queue = refl
names_are_plain PoolStack = refl

-- what may name a development begins with no hyphen
no_hyphen : (b : ℕ) → begins_name b ≡ true → not (b == 45) ≡ true
unfolding begins_name
no_hyphen b begins = by (b == 45) refl
  where
    by : (t : Bool) → b == 45 ≡ t → not t ≡ true
    by false e = refl
    by true e = let no : false ≡ true = subst (λ c. begins_name c ≡ true) (eqb-true b 45 e) begins in absurd (true≢false (sym no))

named_is_plain : (name : List ℕ) → is_development_name name ≡ true → is_plain name ≡ true
named_is_plain [] is = refl
named_is_plain (b ∷ name) is = no_hyphen b (both (begins_name b) _ (both (is_name (b ∷ name)) _ is).0).0

-- clap takes these pieces of a command, and reads this task in them
abbrev Passes : Text → List Piece → Task → Type 0
Passes word ps task = (built_over (built program_app) word ps ≡ true) × (task_in (command_over (built program_app) word ps) ≡ Some task)

-- and so it does with their words
asked : (name word : Text) (ps : List Piece) (task : Task) → subcommand_met (names_of (built program_app)) idle word ≡ Some word → Passes word ps task → AskFor (name ∷ word ∷ words_of ps) task
asked name word ps task met is = (
  command_is_taken program_app name word word ps program_is_simple refl met ∙ is.0,
  ap task_in (command_is_read program_app name word word ps refl met) ∙ is.1,
)

-- followed by `--explain`, which asks for reasons
abbrev explained : List Piece → List Piece
explained ps = ps ++ known (codes "--explain") ∷ []

asked_both : (name word : Text) (ps : List Piece) (task : Task) → subcommand_met (names_of (built program_app)) idle word ≡ Some word → Passes word ps task → Passes word (explained ps) task
    → is_explained (command_over (built program_app) word (explained ps)) ≡ true
    → AskFor (name ∷ word ∷ words_of ps) task × (ReadsFiles task → AskFor (name ∷ word ∷ words_of (explained ps)) task × AskForReasons (name ∷ word ∷ words_of (explained ps)))
asked_both name word ps task met is too told = (
  asked name word ps task met is,
  λ reads. (asked name word (explained ps) task met too, ap is_explained (command_is_read program_app name word word (explained ps) refl met) ∙ told),
)

-- the words of workers, plain and known
abbrev worker_pieces : (development certificate : List ℕ) (workers : ℕ) → HasPlainPaths (CheckByWorkers development certificate workers) → List Piece
worker_pieces development certificate workers is =
    plain development is.0 ∷ plain certificate is.1 ∷ known (codes "--workers") ∷ plain (decimal workers) (numbers_are_plain workers (workers_are_few workers is.3)) ∷ []

-- and those of a size
abbrev sizes : (clients calls : ℕ) → clients ≤ size_limit → calls ≤ size_limit → List Piece
sizes clients calls few few_too =
    known (codes "--clients") ∷ plain (decimal clients) (numbers_are_plain clients (workers_are_few clients few))
    ∷ known (codes "--calls") ∷ plain (decimal calls) (numbers_are_plain calls (workers_are_few calls few_too)) ∷ []

-- and those of a budget
abbrev within : (b : ℕ) → b < 2 ^ 64 → List Piece
within b small = known (codes "--budget") ∷ plain (decimal b) (numbers_are_plain b small) ∷ []

-- the test that they pass, alone and with a flag after them, if this is what the number passes
abbrev passed : Bool → Bool
passed t = ((t && true) && true) && true

abbrev passed_too : Bool → Bool
passed_too t = (((((t && true) && true) && true) && true) && true) && true

-- and those of two numbers
abbrev both_passed : Bool → Bool → Bool
both_passed t u = ((((t && true) && true) && true) && ((u && true) && true)) && true

abbrev both_passed_too : Bool → Bool → Bool
both_passed_too t u = ((((t && true) && true) && ((((u && true) && true) && true) && true)) && true) && true

-- and those of a size, with a text behind them, and with the number of a budget
abbrev sized : Bool → Bool → Bool
sized t u = ((((t && true) && true) && (((u && true) && true) && true)) && true) && true

abbrev sized_within : Bool → Bool → Bool → Bool
sized_within t u v = ((((t && true) && true) && (((u && true) && true) && true)) && ((v && true) && true)) && true

abbrev sized_within_too : Bool → Bool → Bool → Bool
sized_within_too t u v = ((((t && true) && true) && (((u && true) && true) && ((((v && true) && true) && true) && true))) && true) && true

-- and those of a size with a flag and the number of a budget behind them
abbrev bare_within : Bool → Bool → Bool → Bool
bare_within t u v = ((((t && true) && true) && ((((u && true) && true) && true) && true)) && ((v && true) && true)) && true

abbrev bare_within_too : Bool → Bool → Bool → Bool
bare_within_too t u v = ((((t && true) && true) && ((((u && true) && true) && true) && ((((v && true) && true) && true) && true))) && true) && true

all_pass : (f : Bool → Bool → Bool → Bool) (t u v : Bool) → t ≡ true → u ≡ true → v ≡ true → f t u v ≡ f true true true
all_pass f t u v a b c = (λ i. f (a i) (b i) (c i))

-- ---- the words of a task

abbrev explained_words : List ℕ → Task → List Text
explained_words name task = words_for name task ++ codes "--explain" ∷ []

-- nothing is wrong in the words, and the paths are those that are given
words_ask_both : (name : List ℕ) (task : Task) → HasPlainPaths task → AskFor (words_for name task) task × (ReadsFiles task → AskFor (explained_words name task) task × AskForReasons (explained_words name task))
unfolding clap_on_literals
words_ask_both name (CheckFormula path) is = asked_both name (codes "formula") (plain path is ∷ []) _ refl (refl, refl) (refl, refl) refl
words_ask_both name (JudgeHistory development history) is = asked_both name (codes "judge") (plain development is.0 ∷ plain history is.1 ∷ []) _ refl (refl, refl) (refl, refl) refl
words_ask_both name (ShowDevelopment development) is = asked_both name (codes "show") (plain development is ∷ []) _ refl (refl, refl) (refl, refl) refl
words_ask_both name (ShowLines development) is = asked_both name (codes "show") (plain development is ∷ known (codes "--lines") ∷ []) _ refl (refl, refl) (refl, refl) refl
words_ask_both name (ListConditions development) is = asked_both name (codes "conditions") (plain development is ∷ []) _ refl (refl, refl) (refl, refl) refl
words_ask_both name (ListChosen development (OfPoint point)) is = asked_both name (codes "conditions") (plain development is.0 ∷ known (codes "--only") ∷ plain point is.1 ∷ []) _ refl (refl, refl) (refl, refl) refl
words_ask_both name (ListChosen development (OfKind kind)) is = asked_both name (codes "conditions") (plain development is.0 ∷ known (codes "--kind") ∷ plain kind is.1 ∷ []) _ refl (refl, refl) (refl, refl) refl
words_ask_both name (ListChosen development (OfBoth point kind)) is = asked_both name (codes "conditions") (plain development is.0 ∷ known (codes "--only") ∷ plain point is.1.0 ∷ known (codes "--kind") ∷ plain kind is.1.1 ∷ []) _ refl (refl, refl) (refl, refl) refl
words_ask_both name (ShowCondition development number) is =
    let read = ap (option_map (ShowCondition development)) (number_back number is.1) in
    asked_both name (codes "conditions") (plain development is.0 ∷ known (codes "--at") ∷ plain (decimal number) (numbers_are_plain number is.1) ∷ []) _ refl (refl, read) (refl, read) refl
words_ask_both name (CheckCertificate development certificate) is = asked_both name (codes "check") (plain development is.0 ∷ plain certificate is.1 ∷ []) _ refl (refl, refl) (refl, refl) refl
words_ask_both name (CheckByWorkers development certificate workers) is =
    let pass = workers_pass workers is.2 is.3 in
    let read = ap (λ (n : Option ℕ). checked development certificate n false) (number_back workers (workers_are_few workers is.3)) in
    asked_both name (codes "check") (worker_pieces development certificate workers is) _ refl (ap passed pass, read) (ap passed_too pass, read) refl
words_ask_both name (ProveDevelopment development) is = asked_both name (codes "prove") (plain development is ∷ []) _ refl (refl, refl) (refl, refl) refl
words_ask_both name (ProveWithHints development hints) is = asked_both name (codes "prove") (plain development is.0 ∷ known (codes "--hints") ∷ plain hints is.1 ∷ []) _ refl (refl, refl) (refl, refl) refl
words_ask_both name (CarryCertificate old certificate new) is = asked_both name (codes "carry") (plain old is.0 ∷ plain certificate is.1 ∷ plain new is.2 ∷ []) _ refl (refl, refl) (refl, refl) refl
words_ask_both name (CarryWithHints old certificate new hints) is = asked_both name (codes "carry") (plain old is.0 ∷ plain certificate is.1 ∷ plain new is.2 ∷ known (codes "--hints") ∷ plain hints is.3 ∷ []) _ refl (refl, refl) (refl, refl) refl
words_ask_both name (RunPlan development certificate plan Free) is = asked_both name (codes "run") (plain development is.0 ∷ plain certificate is.1 ∷ plain plan is.2 ∷ []) _ refl (refl, refl) (refl, refl) refl
words_ask_both name (RunPlan development certificate plan (Drawn seed)) is =
    let pass = number_passes seed is.3 in
    let read = ap (λ (s : Option ℕ). option_map (RunPlan development certificate plan) (turns_by s None false)) (number_back seed is.3) in
    asked_both name (codes "run") (plain development is.0 ∷ plain certificate is.1 ∷ plain plan is.2 ∷ known (codes "--seed") ∷ plain (decimal seed) (numbers_are_plain seed is.3) ∷ []) _ refl
    (ap passed pass, read) (ap passed_too pass, read) refl
words_ask_both name (RunPlan development certificate plan (DrawnEach first end)) is =
    let read = ap (λ (r : Option (ℕ × ℕ)). option_map (RunPlan development certificate plan) (option_map (λ r. DrawnEach r.0 r.1) r)) (range_back first end is.3.0 is.3.1) in
    asked_both name (codes "run") (plain development is.0 ∷ plain certificate is.1 ∷ plain plan is.2 ∷ known (codes "--seeds") ∷ plain (range_text first end) (ranges_are_plain first end is.3.0) ∷ []) _ refl
    (refl, read) (refl, read) refl
words_ask_both name (RunPlan development certificate plan (Traced None)) is = asked_both name (codes "run") (plain development is.0 ∷ plain certificate is.1 ∷ plain plan is.2 ∷ known (codes "--trace") ∷ []) _ refl (refl, refl) (refl, refl) refl
words_ask_both name (RunPlan development certificate plan (Traced (Some seed))) is =
    let pass = number_passes seed is.3 in
    let read = ap (λ (s : Option ℕ). option_map (RunPlan development certificate plan) (turns_by s None true)) (number_back seed is.3) in
    asked_both name (codes "run") (plain development is.0 ∷ plain certificate is.1 ∷ plain plan is.2 ∷ known (codes "--trace") ∷ known (codes "--seed") ∷ plain (decimal seed) (numbers_are_plain seed is.3) ∷ []) _ refl
    (ap passed pass, read) (ap passed_too pass, read) refl
words_ask_both name (DrawHistory development history Whole) is = asked_both name (codes "draw") (plain development is.0 ∷ plain history is.1 ∷ []) _ refl (refl, refl) (refl, refl) refl
words_ask_both name (DrawHistory development history (Around place width)) is =
    let pass = number_passes place is.2.0 in
    let pass_too = number_passes width is.2.1 in
    let read = ap₂ (λ (p w : Option ℕ). option_map (DrawHistory development history) (shown_by false p w)) (number_back place is.2.0) (number_back width is.2.1) in
    asked_both name (codes "draw")
    (plain development is.0 ∷ plain history is.1 ∷ known (codes "--around") ∷ plain (decimal place) (numbers_are_plain place is.2.0) ∷ known (codes "--width") ∷ plain (decimal width) (numbers_are_plain width is.2.1) ∷ []) _ refl
    (ap₂ both_passed pass pass_too, read) (ap₂ both_passed_too pass pass_too, read) refl
words_ask_both name (DrawHistory development history Page) is = asked_both name (codes "draw") (plain development is.0 ∷ plain history is.1 ∷ known (codes "--html") ∷ []) _ refl (refl, refl) (refl, refl) refl
words_ask_both name (BeginDevelopment own) is =
    (asked name (codes "new") (plain own (named_is_plain own is) ∷ []) _ refl (refl, ap (λ b. if b then Some (BeginDevelopment own) else None) is), λ reads. absurd reads)
words_ask_both name (PrintLibrary lib Development) is =
    (asked name (codes "library") (plain (name_of lib) (names_are_plain lib) ∷ []) _ refl (refl, ap (option_and_then (λ l. Some (PrintLibrary l Development))) (named_back lib)), λ reads. absurd reads)
words_ask_both name (PrintLibrary lib Certificate) is =
    (asked name (codes "library") (plain (name_of lib) (names_are_plain lib) ∷ known (codes "--certificate") ∷ []) _ refl (refl, ap (option_and_then (λ l. Some (PrintLibrary l Certificate))) (named_back lib)), λ reads. absurd reads)
words_ask_both name (PrintLibrary lib Hints) is =
    (asked name (codes "library") (plain (name_of lib) (names_are_plain lib) ∷ known (codes "--hints") ∷ []) _ refl (refl, ap (option_and_then (λ l. Some (PrintLibrary l Hints))) (named_back lib)), λ reads. absurd reads)
words_ask_both name (FindOrder development history false None) is = asked_both name (codes "order") (plain development is.0 ∷ plain history is.1 ∷ []) _ refl (refl, refl) (refl, refl) refl
words_ask_both name (FindOrder development history true None) is = asked_both name (codes "order") (plain development is.0 ∷ plain history is.1 ∷ known (codes "--check") ∷ []) _ refl (refl, refl) (refl, refl) refl
words_ask_both name (FindOrder development history false (Some n)) is =
    let pass = number_passes n is.2 in
    let read = ap (λ (b : Option ℕ). Some (FindOrder development history false b)) (number_back n is.2) in
    asked_both name (codes "order") (plain development is.0 ∷ plain history is.1 ∷ known (codes "--budget") ∷ plain (decimal n) (numbers_are_plain n is.2) ∷ []) _ refl (ap passed pass, read) (ap passed_too pass, read) refl
words_ask_both name (FindOrder development history true (Some n)) is =
    let pass = number_passes n is.2 in
    let read = ap (λ (b : Option ℕ). Some (FindOrder development history true b)) (number_back n is.2) in
    asked_both name (codes "order") (plain development is.0 ∷ plain history is.1 ∷ known (codes "--check") ∷ known (codes "--budget") ∷ plain (decimal n) (numbers_are_plain n is.2) ∷ []) _ refl (ap passed pass, read) (ap passed_too pass, read) refl
words_ask_both name (MakeWhole short None) is = asked_both name (codes "complete") (plain short is.0 ∷ []) _ refl (refl, refl) (refl, refl) refl
words_ask_both name (MakeWhole short (Some n)) is =
    let pass = number_passes n is.1 in
    let read = ap (λ (b : Option ℕ). Some (MakeWhole short b)) (number_back n is.1) in
    asked_both name (codes "complete") (plain short is.0 ∷ known (codes "--budget") ∷ plain (decimal n) (numbers_are_plain n is.1) ∷ []) _ refl (ap passed pass, read) (ap passed_too pass, read) refl
words_ask_both name (ExploreRuns development (ByPlan other) false None) is = asked_both name (codes "explore") (plain development is.0 ∷ plain other is.1 ∷ []) _ refl (refl, refl) (refl, refl) refl
words_ask_both name (ExploreRuns development (ByPlan other) false (Some b)) is =
    let pass = number_passes b is.2 in
    let read = ap (λ (x : Option ℕ). Some (ExploreRuns development (ByPlan other) false x)) (number_back b is.2) in
    asked_both name (codes "explore") (plain development is.0 ∷ plain other is.1 ∷ within b is.2) _ refl (ap passed pass, read) (ap passed_too pass, read) refl
words_ask_both name (ExploreRuns development (ByPlan other) true None) is = asked_both name (codes "explore") (plain development is.0 ∷ plain other is.1 ∷ known (codes "--bare") ∷ []) _ refl (refl, refl) (refl, refl) refl
words_ask_both name (ExploreRuns development (ByPlan other) true (Some b)) is =
    let pass = number_passes b is.2 in
    let read = ap (λ (x : Option ℕ). Some (ExploreRuns development (ByPlan other) true x)) (number_back b is.2) in
    asked_both name (codes "explore") (plain development is.0 ∷ plain other is.1 ∷ known (codes "--bare") ∷ within b is.2) _ refl (ap passed pass, read) (ap passed_too pass, read) refl
words_ask_both name (ExploreRuns development (OfSize clients calls None) false None) is =
    let pass = workers_pass clients is.1.0 is.1.1 in
    let pass_too = workers_pass calls is.1.2 is.1.3 in
    let read = ap₂ (λ (n m : Option ℕ). option_map (λ s. ExploreRuns development s false None) (setting_by None n m None)) (number_back clients (workers_are_few clients is.1.1)) (number_back calls (workers_are_few calls is.1.3)) in
    asked_both name (codes "explore") (plain development is.0 ∷ sizes clients calls is.1.1 is.1.3) _ refl (ap₂ both_passed pass pass_too, read) (ap₂ both_passed_too pass pass_too, read) refl
words_ask_both name (ExploreRuns development (OfSize clients calls None) false (Some b)) is =
    let pass = workers_pass clients is.1.0 is.1.1 in
    let pass_too = workers_pass calls is.1.2 is.1.3 in
    let pass_b = number_passes b is.2 in
    let read = ap₂ (λ (n m : Option ℕ). option_map (λ s. ExploreRuns development s false (number_in (decimal b))) (setting_by None n m None)) (number_back clients (workers_are_few clients is.1.1)) (number_back calls (workers_are_few calls is.1.3))
    ∙ ap (λ (x : Option ℕ). Some (ExploreRuns development (OfSize clients calls None) false x)) (number_back b is.2) in
    asked_both name (codes "explore") (plain development is.0 ∷ sizes clients calls is.1.1 is.1.3 ++ within b is.2) _ refl (all_pass sized_within _ _ _ pass pass_too pass_b, read) (all_pass sized_within_too _ _ _ pass pass_too pass_b, read) refl
words_ask_both name (ExploreRuns development (OfSize clients calls None) true None) is =
    let pass = workers_pass clients is.1.0 is.1.1 in
    let pass_too = workers_pass calls is.1.2 is.1.3 in
    let read = ap₂ (λ (n m : Option ℕ). option_map (λ s. ExploreRuns development s true None) (setting_by None n m None)) (number_back clients (workers_are_few clients is.1.1)) (number_back calls (workers_are_few calls is.1.3)) in
    asked_both name (codes "explore") (plain development is.0 ∷ sizes clients calls is.1.1 is.1.3 ++ known (codes "--bare") ∷ []) _ refl (ap₂ both_passed_too pass pass_too, read) (ap₂ both_passed_too pass pass_too, read) refl
words_ask_both name (ExploreRuns development (OfSize clients calls None) true (Some b)) is =
    let pass = workers_pass clients is.1.0 is.1.1 in
    let pass_too = workers_pass calls is.1.2 is.1.3 in
    let pass_b = number_passes b is.2 in
    let read = ap₂ (λ (n m : Option ℕ). option_map (λ s. ExploreRuns development s true (number_in (decimal b))) (setting_by None n m None)) (number_back clients (workers_are_few clients is.1.1)) (number_back calls (workers_are_few calls is.1.3))
    ∙ ap (λ (x : Option ℕ). Some (ExploreRuns development (OfSize clients calls None) true x)) (number_back b is.2) in
    asked_both name (codes "explore") (plain development is.0 ∷ sizes clients calls is.1.1 is.1.3 ++ known (codes "--bare") ∷ within b is.2) _ refl (all_pass bare_within _ _ _ pass pass_too pass_b, read) (all_pass bare_within_too _ _ _ pass pass_too pass_b, read) refl
words_ask_both name (ExploreRuns development (OfSize clients calls (Some text)) false None) is =
    let pass = workers_pass clients is.1.0 is.1.1 in
    let pass_too = workers_pass calls is.1.2 is.1.3 in
    let read = ap₂ (λ (n m : Option ℕ). option_map (λ s. ExploreRuns development s false None) (setting_by None n m (Some text))) (number_back clients (workers_are_few clients is.1.1)) (number_back calls (workers_are_few calls is.1.3))
    ∙ ap (λ t. option_map (λ s. ExploreRuns development s false None) (if t then Some (OfSize clients calls (Some text)) else None)) is.1.5 in
    asked_both name (codes "explore") (plain development is.0 ∷ sizes clients calls is.1.1 is.1.3 ++ known (codes "--numbers") ∷ plain text is.1.4 ∷ []) _ refl (ap₂ sized pass pass_too, read) (ap₂ sized pass pass_too, read) refl
words_ask_both name (ExploreRuns development (OfSize clients calls (Some text)) false (Some b)) is =
    let pass = workers_pass clients is.1.0 is.1.1 in
    let pass_too = workers_pass calls is.1.2 is.1.3 in
    let pass_b = number_passes b is.2 in
    let read = ap₂ (λ (n m : Option ℕ). option_map (λ s. ExploreRuns development s false (number_in (decimal b))) (setting_by None n m (Some text))) (number_back clients (workers_are_few clients is.1.1)) (number_back calls (workers_are_few calls is.1.3))
    ∙ ap₂ (λ t (x : Option ℕ). option_map (λ s. ExploreRuns development s false x) (if t then Some (OfSize clients calls (Some text)) else None)) is.1.5 (number_back b is.2) in
    asked_both name (codes "explore") (plain development is.0 ∷ sizes clients calls is.1.1 is.1.3 ++ known (codes "--numbers") ∷ plain text is.1.4 ∷ within b is.2) _ refl (all_pass sized_within _ _ _ pass pass_too pass_b, read) (all_pass sized_within_too _ _ _ pass pass_too pass_b, read) refl
words_ask_both name (ExploreRuns development (OfSize clients calls (Some text)) true None) is =
    let pass = workers_pass clients is.1.0 is.1.1 in
    let pass_too = workers_pass calls is.1.2 is.1.3 in
    let read = ap₂ (λ (n m : Option ℕ). option_map (λ s. ExploreRuns development s true None) (setting_by None n m (Some text))) (number_back clients (workers_are_few clients is.1.1)) (number_back calls (workers_are_few calls is.1.3))
    ∙ ap (λ t. option_map (λ s. ExploreRuns development s true None) (if t then Some (OfSize clients calls (Some text)) else None)) is.1.5 in
    asked_both name (codes "explore") (plain development is.0 ∷ sizes clients calls is.1.1 is.1.3 ++ known (codes "--numbers") ∷ plain text is.1.4 ∷ known (codes "--bare") ∷ []) _ refl (ap₂ sized pass pass_too, read) (ap₂ sized pass pass_too, read) refl
words_ask_both name (ExploreRuns development (OfSize clients calls (Some text)) true (Some b)) is =
    let pass = workers_pass clients is.1.0 is.1.1 in
    let pass_too = workers_pass calls is.1.2 is.1.3 in
    let pass_b = number_passes b is.2 in
    let read = ap₂ (λ (n m : Option ℕ). option_map (λ s. ExploreRuns development s true (number_in (decimal b))) (setting_by None n m (Some text))) (number_back clients (workers_are_few clients is.1.1)) (number_back calls (workers_are_few calls is.1.3))
    ∙ ap₂ (λ t (x : Option ℕ). option_map (λ s. ExploreRuns development s true x) (if t then Some (OfSize clients calls (Some text)) else None)) is.1.5 (number_back b is.2) in
    asked_both name (codes "explore") (plain development is.0 ∷ sizes clients calls is.1.1 is.1.3 ++ known (codes "--numbers") ∷ plain text is.1.4 ∷ known (codes "--bare") ∷ within b is.2) _ refl (all_pass sized_within _ _ _ pass pass_too pass_b, read) (all_pass sized_within_too _ _ _ pass pass_too pass_b, read) refl

pub words_ask : (name : List ℕ) (task : Task) → HasPlainPaths task → AskFor (words_for name task) task
words_ask name task is = (words_ask_both name task is).0

pub explained_words_ask : (name : List ℕ) (task : Task) → HasPlainPaths task → ReadsFiles task
    → AskFor (explained_words name task) task × AskForReasons (explained_words name task)
explained_words_ask name task is = (words_ask_both name task is).1
