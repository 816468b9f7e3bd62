-- What may be asked for, and the words that ask for it.
use Rattle.std.specs.Prelude.{◌≡◌, ◌≤◌, ◌<◌, ◌^◌, ℕ, ◌==◌, ◌&&◌, nat_le, length, map, string_bytes, String, Bool, true, false, not, codes, List, [], ◌∷◌, ◌++◌, Option, Some, None, IfSome, is_some, option_map}
use Rattle.std.specs.Borrow.{Bor}
use Rattle.std.specs.Fmt.{decimal}
use Rattle.std.specs.declared.alloc.Global.{Global}
use Rattle.clap.specs.Words.{Text}
use Rattle.lc_base.specs.Limits.{name_limit}
use Rattle.lc_words.specs.Limits.{size_limit, worker_limit}
use Rattle.lc_base.specs.NameText.{is_name}
use Rattle.lc_numbers.specs.Numbers.{whole_numbers_in}
use Rattle.lc_lib_texts.specs.Names.{name_of}
use Rattle.lc_lib_texts.specs.declared.library.Lib.{Lib}
use Rattle.lc_words.specs.declared.request.Chosen.{Chosen}
use Rattle.lc_words.specs.declared.request.Chosen.TheVariants.{Number, Those}
use Rattle.lc_words.specs.declared.request.LibraryText.{LibraryText}
use Rattle.lc_words.specs.declared.request.LibraryText.TheVariants.{Development, Certificate, Hints}
use Rattle.lc_words.specs.declared.request.Request.{Request}
use Rattle.lc_words.specs.declared.request.Request.TheVariants.{Formula, Judge, Show, Conditions, Check, Prove, Draw, New, Library, Carry, Run, Order, Complete, Explore}
use Rattle.lc_words.specs.declared.request.Scope.{Scope}
use Rattle.lc_words.specs.declared.request.Scope.TheVariants.{Plan, Size}
use Rattle.lc_words.specs.declared.request.Shown.{Shown}
use Rattle.lc_words.specs.declared.request.Shown.TheVariants.{Whole, Page, Around}
use Rattle.lc_words.specs.declared.request.Turns.{Turns}
use Rattle.lc_words.specs.declared.request.Turns.TheVariants.{Free, Drawn, DrawnEach, Traced}

-- Which conditions are chosen: those of a point, of a kind, or of both, by their words
pub data Filter : Type 0 where
  OfPoint : (point : List ℕ) → Filter
  OfKind : (kind : List ℕ) → Filter
  OfBoth : (point kind : List ℕ) → Filter

-- Which calls clients make while a development is explored: those of the plan in a file; or any, so many clients each so many, with the numbers
-- that a text says, if one is given
pub data Setting : Type 0 where
  ByPlan : (plan : List ℕ) → Setting
  OfSize : (clients calls : ℕ) (numbers : Option (List ℕ)) → Setting

-- What may be asked for: that the proof in the file at a path is checked; that the history in one file is judged by the specification in
-- another; that the development in a file is shown, or laid out over lines; that its conditions are listed, or those that are chosen, or
-- one is shown by its number; that the certificate in one file is checked against the development in another, by itself or by a number of
-- workers; that a certificate is found for the development in a file, without hints or with those in another; that a certificate is found
-- for a new development, with the proofs of an old one, by its certificate, without hints or with those in a further file; that the
-- development in a file is run, which the certificate in another proves, by the plan in a third, in threads or with turns that are drawn, and each
-- step told or not; that the history in one file is drawn by the specification in another, as a picture, as a page, or as a picture of what is
-- near an entry of the order; that a development with a name is begun; that a text of an object of the library is printed; that an order is
-- found that linearizes the history in one file by the specification in another, or a word says whether there is one, over as
-- many nodes as a number says, if one is given; that the short development in a file is made whole, in as many steps for a condition as a
-- number says, if one is given; or that the development in a file is explored, whose clients make such calls, or its object alone, over as
-- many worlds as a number says, if one is given
pub data Task : Type 0 where
  CheckFormula : (path : List ℕ) → Task
  JudgeHistory : (development history : List ℕ) → Task
  ShowDevelopment : (development : List ℕ) → Task
  ShowLines : (development : List ℕ) → Task
  ListConditions : (development : List ℕ) → Task
  ListChosen : (development : List ℕ) (filter : Filter) → Task
  ShowCondition : (development : List ℕ) (number : ℕ) → Task
  CheckCertificate : (development certificate : List ℕ) → Task
  CheckByWorkers : (development certificate : List ℕ) (workers : ℕ) → Task
  ProveDevelopment : (development : List ℕ) → Task
  ProveWithHints : (development hints : List ℕ) → Task
  CarryCertificate : (old certificate new : List ℕ) → Task
  CarryWithHints : (old certificate new hints : List ℕ) → Task
  RunPlan : (development certificate plan : List ℕ) (turns : Turns) → Task
  DrawHistory : (development history : List ℕ) (shown : Shown) → Task
  BeginDevelopment : (name : List ℕ) → Task
  PrintLibrary : (lib : Lib) (text : LibraryText) → Task
  FindOrder : (development history : List ℕ) (check : Bool) (budget : Option ℕ) → Task
  MakeWhole : (short : List ℕ) (budget : Option ℕ) → Task
  ExploreRuns : (development : List ℕ) (setting : Setting) (bare : Bool) (budget : Option ℕ) → Task

-- the task of showing a development, on two lines or laid out
abbrev pub showing : List ℕ → (lines : Bool) → Task
showing development false = ShowDevelopment development
showing development true = ShowLines development

-- the task of listing the conditions of a development, or those of a point and of a kind, if such are given
abbrev pub listing : List ℕ → (point kind : Option (List ℕ)) → Task
listing development None None = ListConditions development
listing development (Some point) None = ListChosen development (OfPoint point)
listing development None (Some kind) = ListChosen development (OfKind kind)
listing development (Some point) (Some kind) = ListChosen development (OfBoth point kind)

-- the task of checking a certificate, by `workers` workers if a number is given
abbrev pub checking : List ℕ → List ℕ → Option ℕ → Task
checking development certificate None = CheckCertificate development certificate
checking development certificate (Some workers) = CheckByWorkers development certificate workers

-- the task of proving a development, with hints if there is a path of such
abbrev pub proving : List ℕ → Option (List ℕ) → Task
proving development None = ProveDevelopment development
proving development (Some hints) = ProveWithHints development hints

-- the task of carrying a certificate, with hints if there is a path of such
abbrev pub carrying : List ℕ → List ℕ → List ℕ → Option (List ℕ) → Task
carrying old certificate new None = CarryCertificate old certificate new
carrying old certificate new (Some hints) = CarryWithHints old certificate new hints

-- the path that is given, if one is
abbrev pub path_in : Option (Bor (List ℕ)) → Option (List ℕ)
path_in path = option_map (λ p. p.now) path

-- the task of the conditions of a development that are chosen
abbrev pub chosen_task : List ℕ → Chosen → Task
chosen_task development (Number number) = ShowCondition development number
chosen_task development (Those point kind) = listing development (path_in point) (path_in kind)

-- the calls that clients make
abbrev pub setting_of : Scope → Setting
setting_of (Plan plan) = ByPlan plan.now
setting_of (Size clients calls numbers) = OfSize clients calls (path_in numbers)

-- the task of a request
abbrev pub task_of : Request → Task
task_of (Formula path) = CheckFormula path.now
task_of (Judge development history) = JudgeHistory development.now history.now
task_of (Show development lines) = showing development.now lines
task_of (Conditions development chosen) = chosen_task development.now chosen
task_of (Check development certificate workers all progress) = checking development.now certificate.now workers
task_of (Prove development hints all progress) = proving development.now (path_in hints)
task_of (Carry old certificate new hints progress) = carrying old.now certificate.now new.now (path_in hints)
task_of (Run development certificate plan turns) = RunPlan development.now certificate.now plan.now turns
task_of (Draw development history shown) = DrawHistory development.now history.now shown
task_of (New name) = BeginDevelopment name.now
task_of (Library lib text) = PrintLibrary lib text
task_of (Order development history check budget) = FindOrder development.now history.now check budget
task_of (Complete short budget progress) = MakeWhole short.now budget
task_of (Explore development scope bare budget) = ExploreRuns development.now (setting_of scope) bare budget

-- the texts of the words
abbrev pub texts_of : List (String Global) → List Text
texts_of words = map string_bytes words

-- the path does not begin with a hyphen, so it is no option
abbrev pub is_plain : List ℕ → Bool
is_plain [] = true
is_plain (b ∷ path) = not (b == 45)

-- the name may name a development
abbrev pub is_development_name : List ℕ → Bool
is_development_name name = is_name name && nat_le (length name) name_limit

-- `NAME library OBJECT`, with the flag for the text
abbrev pub library_words : List ℕ → List ℕ → LibraryText → List Text
library_words name object Development = name ∷ codes "library" ∷ object ∷ []
library_words name object Certificate = name ∷ codes "library" ∷ object ∷ codes "--certificate" ∷ []
library_words name object Hints = name ∷ codes "library" ∷ object ∷ codes "--hints" ∷ []

-- the options by which conditions are chosen
abbrev pub filter_words : Filter → List Text
filter_words (OfPoint point) = codes "--only" ∷ point ∷ []
filter_words (OfKind kind) = codes "--kind" ∷ kind ∷ []
filter_words (OfBoth point kind) = codes "--only" ∷ point ∷ codes "--kind" ∷ kind ∷ []

-- the options of a search for an order
abbrev pub order_words : (check : Bool) (budget : Option ℕ) → List Text
order_words false None = []
order_words true None = codes "--check" ∷ []
order_words false (Some n) = codes "--budget" ∷ decimal n ∷ []
order_words true (Some n) = codes "--check" ∷ codes "--budget" ∷ decimal n ∷ []

-- the option of a number of steps, or of worlds
abbrev pub budget_words : Option ℕ → List Text
budget_words None = []
budget_words (Some n) = codes "--budget" ∷ decimal n ∷ []

-- `A..B`
abbrev pub range_text : ℕ → ℕ → Text
range_text first end = decimal first ++ (codes ".." ++ decimal end)

-- the options by which turns are drawn, and steps told
abbrev pub turn_words : Turns → List Text
turn_words Free = []
turn_words (Drawn seed) = codes "--seed" ∷ decimal seed ∷ []
turn_words (DrawnEach first end) = codes "--seeds" ∷ range_text first end ∷ []
turn_words (Traced None) = codes "--trace" ∷ []
turn_words (Traced (Some seed)) = codes "--trace" ∷ codes "--seed" ∷ decimal seed ∷ []

-- the options by which it is said what is drawn
abbrev pub shown_words : Shown → List Text
shown_words Whole = []
shown_words Page = codes "--html" ∷ []
shown_words (Around place width) = codes "--around" ∷ decimal place ∷ codes "--width" ∷ decimal width ∷ []

-- the words that say which calls clients make
abbrev pub setting_words : Setting → List Text
setting_words (ByPlan plan) = plan ∷ []
setting_words (OfSize clients calls None) = codes "--clients" ∷ decimal clients ∷ codes "--calls" ∷ decimal calls ∷ []
setting_words (OfSize clients calls (Some text)) = codes "--clients" ∷ decimal clients ∷ codes "--calls" ∷ decimal calls ∷ codes "--numbers" ∷ text ∷ []

-- the word that asks for the object alone
abbrev pub bare_words : (bare : Bool) → List Text
bare_words false = []
bare_words true = codes "--bare" ∷ []

-- the words that ask for a task, after the name of the program
abbrev pub words_for : List ℕ → Task → List Text
words_for name (CheckFormula path) = name ∷ codes "formula" ∷ path ∷ []
words_for name (JudgeHistory development history) = name ∷ codes "judge" ∷ development ∷ history ∷ []
words_for name (ShowDevelopment development) = name ∷ codes "show" ∷ development ∷ []
words_for name (ShowLines development) = name ∷ codes "show" ∷ development ∷ codes "--lines" ∷ []
words_for name (ListConditions development) = name ∷ codes "conditions" ∷ development ∷ []
words_for name (ListChosen development filter) = name ∷ codes "conditions" ∷ development ∷ filter_words filter
words_for name (ShowCondition development number) = name ∷ codes "conditions" ∷ development ∷ codes "--at" ∷ decimal number ∷ []
words_for name (CheckCertificate development certificate) = name ∷ codes "check" ∷ development ∷ certificate ∷ []
words_for name (CheckByWorkers development certificate workers) = name ∷ codes "check" ∷ development ∷ certificate ∷ codes "--workers" ∷ decimal workers ∷ []
words_for name (ProveDevelopment development) = name ∷ codes "prove" ∷ development ∷ []
words_for name (ProveWithHints development hints) = name ∷ codes "prove" ∷ development ∷ codes "--hints" ∷ hints ∷ []
words_for name (CarryCertificate old certificate new) = name ∷ codes "carry" ∷ old ∷ certificate ∷ new ∷ []
words_for name (CarryWithHints old certificate new hints) = name ∷ codes "carry" ∷ old ∷ certificate ∷ new ∷ codes "--hints" ∷ hints ∷ []
words_for name (RunPlan development certificate plan turns) = name ∷ codes "run" ∷ development ∷ certificate ∷ plan ∷ turn_words turns
words_for name (DrawHistory development history shown) = name ∷ codes "draw" ∷ development ∷ history ∷ shown_words shown
words_for name (BeginDevelopment own) = name ∷ codes "new" ∷ own ∷ []
words_for name (PrintLibrary lib text) = library_words name (name_of lib) text
words_for name (FindOrder development history check budget) = name ∷ codes "order" ∷ development ∷ history ∷ order_words check budget
words_for name (MakeWhole short budget) = name ∷ codes "complete" ∷ short ∷ budget_words budget
words_for name (ExploreRuns development setting bare budget) = name ∷ codes "explore" ∷ development ∷ setting_words setting ++ bare_words bare ++ budget_words budget

-- no word of it begins with a hyphen
abbrev pub HasPlainWords : Filter → Type 0
HasPlainWords (OfPoint point) = is_plain point ≡ true
HasPlainWords (OfKind kind) = is_plain kind ≡ true
HasPlainWords (OfBoth point kind) = (is_plain point ≡ true) × (is_plain kind ≡ true)

-- the seeds have 64 bits
abbrev pub AreSeeds : Turns → Type 0
AreSeeds Free = Unit {0}
AreSeeds (Drawn seed) = seed < 2 ^ 64
AreSeeds (DrawnEach first end) = (first < 2 ^ 64) × (end < 2 ^ 64)
AreSeeds (Traced None) = Unit {0}
AreSeeds (Traced (Some seed)) = seed < 2 ^ 64

-- the place and the width have 64 bits
abbrev pub IsShownSo : Shown → Type 0
IsShownSo Whole = Unit {0}
IsShownSo Page = Unit {0}
IsShownSo (Around place width) = (place < 2 ^ 64) × (width < 2 ^ 64)

-- the path of the plan begins with no hyphen; or clients and calls are within their limit, and the text says numbers, the first without a sign
abbrev pub IsSmall : Setting → Type 0
IsSmall (ByPlan plan) = is_plain plan ≡ true
IsSmall (OfSize clients calls None) = (1 ≤ clients) × (clients ≤ size_limit) × (1 ≤ calls) × (calls ≤ size_limit)
IsSmall (OfSize clients calls (Some text)) =
    (1 ≤ clients) × (clients ≤ size_limit) × (1 ≤ calls) × (calls ≤ size_limit) × (is_plain text ≡ true) × (is_some (whole_numbers_in text) ≡ true)

-- none of its paths begins with a hyphen, what is to be a name is one, a number has 64 bits, and workers are from 1 to their limit
abbrev pub HasPlainPaths : Task → Type 0
HasPlainPaths (CheckFormula path) = is_plain path ≡ true
HasPlainPaths (JudgeHistory development history) = (is_plain development ≡ true) × (is_plain history ≡ true)
HasPlainPaths (ShowDevelopment development) = is_plain development ≡ true
HasPlainPaths (ShowLines development) = is_plain development ≡ true
HasPlainPaths (ListConditions development) = is_plain development ≡ true
HasPlainPaths (ListChosen development filter) = (is_plain development ≡ true) × HasPlainWords filter
HasPlainPaths (ShowCondition development number) = (is_plain development ≡ true) × (number < 2 ^ 64)
HasPlainPaths (CheckCertificate development certificate) = (is_plain development ≡ true) × (is_plain certificate ≡ true)
HasPlainPaths (CheckByWorkers development certificate workers) = (is_plain development ≡ true) × (is_plain certificate ≡ true) × (1 ≤ workers) × (workers ≤ worker_limit)
HasPlainPaths (ProveDevelopment development) = is_plain development ≡ true
HasPlainPaths (ProveWithHints development hints) = (is_plain development ≡ true) × (is_plain hints ≡ true)
HasPlainPaths (CarryCertificate old certificate new) = (is_plain old ≡ true) × (is_plain certificate ≡ true) × (is_plain new ≡ true)
HasPlainPaths (CarryWithHints old certificate new hints) = (is_plain old ≡ true) × (is_plain certificate ≡ true) × (is_plain new ≡ true) × (is_plain hints ≡ true)
HasPlainPaths (RunPlan development certificate plan turns) = (is_plain development ≡ true) × (is_plain certificate ≡ true) × (is_plain plan ≡ true) × AreSeeds turns
HasPlainPaths (DrawHistory development history shown) = (is_plain development ≡ true) × (is_plain history ≡ true) × IsShownSo shown
HasPlainPaths (BeginDevelopment name) = is_development_name name ≡ true
HasPlainPaths (PrintLibrary lib text) = Unit {0}
HasPlainPaths (FindOrder development history check budget) = (is_plain development ≡ true) × (is_plain history ≡ true) × IfSome budget (λ n. n < 2 ^ 64)
HasPlainPaths (MakeWhole short budget) = (is_plain short ≡ true) × IfSome budget (λ n. n < 2 ^ 64)
HasPlainPaths (ExploreRuns development setting bare budget) = (is_plain development ≡ true) × IsSmall setting × IfSome budget (λ n. n < 2 ^ 64)

-- it reads files
abbrev pub ReadsFiles : Task → Type 0
ReadsFiles (BeginDevelopment name) = ⊥
ReadsFiles (PrintLibrary lib text) = ⊥
ReadsFiles _ = Unit {0}
