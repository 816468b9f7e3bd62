-- The task of a command, if clap finds its arguments.
use Rattle.std.proofs.Common.{◌≡◌, ◌≤◌, ◌↔◌, ℕ, ◌&&◌, Bool, true, false, true≢false, nat_le, length, codes, List, Option, Some, None, IsSome, refl, sym, ◌∙◌, ap, ap₂}
use Rattle.std.proofs.lemmas.Bool.{le-leb, leb-true}
use Rattle.std.specs.Prelude.{if◌then◌else◌, option_map, option_and_then}
use Rattle.std.specs.Option.{option_map_or}
use Rattle.std.specs.Str.{bytes_eq}
use Rattle.clap.specs.Words.{Text, first_of, first_value, rows_of}
use Rattle.clap.specs.declared.parser.matches.Found.{Found}
use Rattle.clap.proofs.WalkLemmas.{first_value-rows}
use Rattle.lc_base.specs.Limits.{name_limit}
use Rattle.lc_base.specs.NameText.{is_name}
use Rattle.lc_base.specs.declared.name.Name.{Name}
use Rattle.lc_lib_texts.specs.Names.{lib_named}
use Rattle.lc_lib_texts.specs.declared.library.Lib.{Lib}
use Rattle.lc_words.specs.Reading.{beginning_task, begun, drawing_task, exploring_task, is_set, library_task, listed, listing_task, number_given, one_file_task, ordering, ordering_task, proving_task, running_task, setting_by, setting_given, showing_task, shown_by, shown_given, text_for, turns_by, turns_given, two_file_task, carrying_task, completing_task}
use Rattle.lc_words.specs.Tasks.{BeginDevelopment, DrawHistory, ExploreRuns, FindOrder, MakeWhole, PrintLibrary, RunPlan, Setting, Task, is_development_name, proving, showing, carrying}
use Rattle.lc_words.specs.declared.request.LibraryText.{LibraryText}
use Rattle.lc_words.specs.declared.request.Shown.{Shown}
use Rattle.lc_words.specs.declared.request.Turns.{Turns}

-- the task of one path, and of two, if clap finds them
pub one_found : (task : List ℕ → Task) (name : Text) (f : Found) (file : Option Text) → file ≡ first_value f name → option_map task file ≡ one_file_task task name (rows_of f)
one_found task name f file is = ap (option_map task) (is ∙ first_value-rows f name)

pub two_found : (task : List ℕ → List ℕ → Task) (name : Text) (f : Found) (development other : Option Text) → development ≡ first_value f (codes "DEV") → other ≡ first_value f name
    → option_and_then (λ d. option_map (task d) other) development ≡ two_file_task task name (rows_of f)
two_found task name f development other is is' =
    ap₂ (λ x y. option_and_then (λ d. option_map (task d) y) x) (is ∙ first_value-rows f (codes "DEV")) (is' ∙ first_value-rows f name)

-- without a development nothing is asked for
pub two_unfound : (task : List ℕ → List ℕ → Task) (name : Text) (f : Found) → None ≡ first_value f (codes "DEV") → None ≡ two_file_task task name (rows_of f)
two_unfound task name f is = ap (λ x. option_and_then (λ d. option_map (task d) (first_of name (rows_of f))) x) (is ∙ first_value-rows f (codes "DEV"))

-- an order is looked for as the options say
pub ordering_found : (f : Found) (development history : Text) (check : Bool) (budget : Option ℕ) → Some development ≡ first_value f (codes "DEV") → Some history ≡ first_value f (codes "HISTORY")
    → check ≡ is_set (codes "check") (rows_of f) → budget ≡ number_given (codes "budget") (rows_of f) → Some (FindOrder development history check budget) ≡ ordering_task (rows_of f)
ordering_found f development history check budget is is' set given =
    ap₂ (λ x y. Some (FindOrder development history x y)) set given ∙ two_found (ordering (rows_of f)) (codes "HISTORY") f (Some development) (Some history) is is'

-- the task of exploring a development, if clap finds its path, and which calls clients make
pub exploring_found : (f : Found) (development : Option Text) (setting : Option Setting) (bare : Bool) (budget : Option ℕ) → development ≡ first_value f (codes "DEV") → setting ≡ setting_given (rows_of f)
    → bare ≡ is_set (codes "bare") (rows_of f) → budget ≡ number_given (codes "budget") (rows_of f) → option_and_then (λ d. option_map (λ s. ExploreRuns d s bare budget) setting) development ≡ exploring_task (rows_of f)
exploring_found f development setting bare budget is is_setting set given =
    ap₂ (λ x y. option_and_then (λ d. option_map (λ s. ExploreRuns d s bare budget) y) x) (is ∙ first_value-rows f (codes "DEV")) is_setting
    ∙ ap₂ (λ a b. option_and_then (λ d. option_map (λ s. ExploreRuns d s a b) (setting_given (rows_of f))) (first_of (codes "DEV") (rows_of f))) set given

pub setting_found : (f : Found) (plan : Option Text) (clients calls : Option ℕ) (numbers : Option Text) (setting : Option Setting) → plan ≡ first_value f (codes "PLAN")
    → clients ≡ number_given (codes "clients") (rows_of f) → calls ≡ number_given (codes "calls") (rows_of f) → numbers ≡ first_value f (codes "numbers") → setting ≡ setting_by plan clients calls numbers
    → setting ≡ setting_given (rows_of f)
setting_found f plan clients calls numbers setting is_plan is_clients is_calls is_numbers is =
    is ∙ ap₂ (λ x y. setting_by x y calls numbers) (is_plan ∙ first_value-rows f (codes "PLAN")) is_clients
    ∙ ap₂ (setting_by (first_of (codes "PLAN") (rows_of f)) (number_given (codes "clients") (rows_of f))) is_calls (is_numbers ∙ first_value-rows f (codes "numbers"))

-- a short development is made whole as the option says
pub completing_found : (f : Found) (short : Text) (budget : Option ℕ) → Some short ≡ first_value f (codes "SHORT") → budget ≡ number_given (codes "budget") (rows_of f)
    → Some (MakeWhole short budget) ≡ completing_task (rows_of f)
completing_found f short budget is given =
    ap₂ (λ x y. option_map (λ s. MakeWhole s y) x) (is ∙ first_value-rows f (codes "SHORT")) given

pub completing_unfound : (f : Found) → None ≡ first_value f (codes "SHORT") → None ≡ completing_task (rows_of f)
completing_unfound f is = ap (option_map (λ s. MakeWhole s (number_given (codes "budget") (rows_of f)))) (is ∙ first_value-rows f (codes "SHORT"))

-- the same for a development that is to be proved, with hints or without
pub proving_found : (f : Found) (development : Text) (hints : Option Text) → Some development ≡ first_value f (codes "DEV") → hints ≡ first_value f (codes "hints")
    → Some (proving development hints) ≡ proving_task (rows_of f)
proving_found f development hints is is' =
    ap₂ (λ x y. option_map (λ d. proving d y) x) (is ∙ first_value-rows f (codes "DEV")) (is' ∙ first_value-rows f (codes "hints"))

pub proving_unfound : (f : Found) → None ≡ first_value f (codes "DEV") → None ≡ proving_task (rows_of f)
proving_unfound f is = ap (option_map (λ d. proving d (first_of (codes "hints") (rows_of f)))) (is ∙ first_value-rows f (codes "DEV"))

-- the task of carrying a certificate, if clap finds its paths
pub carrying_found : (f : Found) (old certificate new hints : Option Text) → old ≡ first_value f (codes "OLD") → certificate ≡ first_value f (codes "CERT") → new ≡ first_value f (codes "NEW")
    → hints ≡ first_value f (codes "hints") → option_and_then (λ o. option_and_then (λ c. option_map (λ n. carrying o c n hints) new) certificate) old ≡ carrying_task (rows_of f)
carrying_found f old certificate new hints is_old is_certificate is_new is_hints =
    ap₂ (λ x y. option_and_then (λ o. option_and_then (λ c. option_map (λ n. carrying o c n hints) new) y) x) (is_old ∙ first_value-rows f (codes "OLD")) (is_certificate ∙ first_value-rows f (codes "CERT"))
    ∙ ap₂ (λ x y. option_and_then (λ o. option_and_then (λ c. option_map (λ n. carrying o c n y) x) (first_of (codes "CERT") (rows_of f))) (first_of (codes "OLD") (rows_of f)))
    (is_new ∙ first_value-rows f (codes "NEW")) (is_hints ∙ first_value-rows f (codes "hints"))

-- the task of running a development, if clap finds its paths, and whose turn it is
pub running_found : (f : Found) (development certificate plan : Option Text) (turns : Option Turns) → development ≡ first_value f (codes "DEV") → certificate ≡ first_value f (codes "CERT")
    → plan ≡ first_value f (codes "PLAN") → turns ≡ turns_given (rows_of f)
    → option_and_then (λ d. option_and_then (λ c. option_and_then (λ p. option_map (RunPlan d c p) turns) plan) certificate) development ≡ running_task (rows_of f)
running_found f development certificate plan turns is_development is_certificate is_plan is_turns =
    ap₂ (λ x y. option_and_then (λ d. option_and_then (λ c. option_and_then (λ p. option_map (RunPlan d c p) turns) plan) y) x) (is_development ∙ first_value-rows f (codes "DEV")) (is_certificate ∙ first_value-rows f (codes "CERT"))
    ∙ ap₂ (λ x y. option_and_then (λ d. option_and_then (λ c. option_and_then (λ p. option_map (RunPlan d c p) y) x) (first_of (codes "CERT") (rows_of f))) (first_of (codes "DEV") (rows_of f)))
    (is_plan ∙ first_value-rows f (codes "PLAN")) is_turns

pub turns_found : (f : Found) (seed : Option ℕ) (seeds : Option Text) (trace : Bool) (turns : Option Turns) → seed ≡ number_given (codes "seed") (rows_of f) → seeds ≡ first_value f (codes "seeds")
    → trace ≡ is_set (codes "trace") (rows_of f) → turns ≡ turns_by seed seeds trace → turns ≡ turns_given (rows_of f)
turns_found f seed seeds trace turns is_seed is_seeds is_trace is =
    is ∙ (ap₂ (λ x y. turns_by x y trace) is_seed (is_seeds ∙ first_value-rows f (codes "seeds")) ∙ ap (turns_by (number_given (codes "seed") (rows_of f)) (first_of (codes "seeds") (rows_of f))) is_trace)

-- the task of drawing a history, if clap finds its paths, and what is drawn of it
pub drawing_found : (f : Found) (development history : Option Text) (shown : Option Shown) → development ≡ first_value f (codes "DEV") → history ≡ first_value f (codes "HISTORY") → shown ≡ shown_given (rows_of f)
    → option_and_then (λ d. option_and_then (λ h. option_map (DrawHistory d h) shown) history) development ≡ drawing_task (rows_of f)
drawing_found f development history shown is_development is_history is_shown =
    ap₂ (λ x y. option_and_then (λ d. option_and_then (λ h. option_map (DrawHistory d h) shown) y) x) (is_development ∙ first_value-rows f (codes "DEV")) (is_history ∙ first_value-rows f (codes "HISTORY"))
    ∙ ap (λ x. option_and_then (λ d. option_and_then (λ h. option_map (DrawHistory d h) x) (first_of (codes "HISTORY") (rows_of f))) (first_of (codes "DEV") (rows_of f))) is_shown

pub shown_found : (f : Found) (html : Bool) (around width : Option ℕ) (shown : Option Shown) → html ≡ is_set (codes "html") (rows_of f) → around ≡ number_given (codes "around") (rows_of f)
    → width ≡ number_given (codes "width") (rows_of f) → shown ≡ shown_by html around width → shown ≡ shown_given (rows_of f)
shown_found f html around width shown is_html is_around is_width is = is ∙ (ap (λ h. shown_by h around width) is_html ∙ ap₂ (shown_by (is_set (codes "html") (rows_of f))) is_around is_width)

-- a flag is set if its value is `true`
pub flag_found : (f : Found) (name : Text) (value : Option Text) → value ≡ first_value f name → option_map_or (λ v. bytes_eq v (codes "true")) value false ≡ is_set name (rows_of f)
flag_found f name value is = ap (λ x. option_map_or (λ v. bytes_eq v (codes "true")) x false) (is ∙ first_value-rows f name)

-- the task of printing a text of the object, if the flags ask for one
asked_of : Found → Lib → Option Task
asked_of f lib = option_map (PrintLibrary lib) (text_for (is_set (codes "certificate") (rows_of f)) (is_set (codes "hints") (rows_of f)))

-- without a name, and with a name of no object, nothing is asked for
pub library_unfound : (f : Found) → None ≡ first_value f (codes "NAME") → None ≡ library_task (rows_of f)
unfolding asked_of
library_unfound f is = ap (λ x. option_and_then (asked_of f) (option_and_then lib_named x)) (is ∙ first_value-rows f (codes "NAME"))

pub library_unnamed : (f : Found) (name : Text) → Some name ≡ first_value f (codes "NAME") → None ≡ lib_named name → None ≡ library_task (rows_of f)
unfolding asked_of
library_unnamed f name is none =
    ap (option_and_then (asked_of f)) none ∙ ap (λ x. option_and_then (asked_of f) (option_and_then lib_named x)) (is ∙ first_value-rows f (codes "NAME"))

-- else the text is that of the flags
pub library_found : (f : Found) (name : Text) (lib : Lib) (certificate hints : Bool) (text : Option LibraryText) → Some name ≡ first_value f (codes "NAME") → Some lib ≡ lib_named name
    → certificate ≡ is_set (codes "certificate") (rows_of f) → hints ≡ is_set (codes "hints") (rows_of f) → text ≡ text_for certificate hints
    → option_map (PrintLibrary lib) text ≡ library_task (rows_of f)
unfolding asked_of
library_found f name lib certificate hints text is named c h asked =
    ap (option_map (PrintLibrary lib)) (asked ∙ ap₂ text_for c h) ∙ ap (option_and_then (asked_of f)) named
    ∙ ap (λ x. option_and_then (asked_of f) (option_and_then lib_named x)) (is ∙ first_value-rows f (codes "NAME"))

-- the development is shown as the flag says
pub showing_found : (f : Found) (development : Text) (lines : Bool) → Some development ≡ first_value f (codes "DEV") → lines ≡ is_set (codes "lines") (rows_of f)
    → Some (showing development lines) ≡ showing_task (rows_of f)
showing_found f development lines is set =
    ap₂ (λ x y. option_map (λ d. showing d y) x) (is ∙ first_value-rows f (codes "DEV")) set

pub showing_unfound : (f : Found) → None ≡ first_value f (codes "DEV") → None ≡ showing_task (rows_of f)
showing_unfound f is = ap (option_map (λ d. showing d (is_set (codes "lines") (rows_of f)))) (is ∙ first_value-rows f (codes "DEV"))

fails : (text : Text) (s t : Bool) → is_name text ≡ s → nat_le (length text) name_limit ≡ t → ((is_name text ≡ true) × (length text ≤ name_limit) → ⊥) → is_development_name text ≡ false
fails text false t e e' never = ap (λ b. b && nat_le (length text) name_limit) e
fails text true false e e' never = ap₂ ◌&&◌ e e'
fails text true true e e' never = absurd (never (e, leb-true (length text) name_limit e'))

-- the bytes are a name exactly if the test says so
named : (text : Text) (name : Option Name) → IsSome name ↔ ((is_name text ≡ true) × (length text ≤ name_limit))
    → option_map (λ n. BeginDevelopment text) name ≡ begun text
named text (Some n) valid =
    let is = valid.0 refl in
    let passes : is_development_name text ≡ true = ap₂ ◌&&◌ is.0 (le-leb (length text) name_limit is.1) in
    sym (ap (λ b. if b then Some (BeginDevelopment text) else None) passes)
named text None valid =
    let test : is_development_name text ≡ false =
    fails text (is_name text) (nat_le (length text) name_limit) refl refl (λ both. true≢false (sym (valid.1 both))) in
    sym (ap (λ b. if b then Some (BeginDevelopment text) else None) test)

-- a development of a name is begun if it may have the name
pub beginning_unfound : (f : Found) → None ≡ first_value f (codes "NAME") → None ≡ beginning_task (rows_of f)
beginning_unfound f is = ap (option_and_then begun) (is ∙ first_value-rows f (codes "NAME"))

pub beginning_found : (f : Found) (text : Text) (name : Option Name) → Some text ≡ first_value f (codes "NAME") → IsSome name ↔ ((is_name text ≡ true) × (length text ≤ name_limit))
    → option_map (λ n. BeginDevelopment text) name ≡ beginning_task (rows_of f)
beginning_found f text name is valid = named text name valid ∙ ap (option_and_then begun) (is ∙ first_value-rows f (codes "NAME"))

-- conditions are listed, or one is shown, as the options say
pub listing_found : (f : Found) (development : Text) (at point kind : Option Text) (task : Option Task) → Some development ≡ first_value f (codes "DEV")
    → at ≡ first_value f (codes "at") → point ≡ first_value f (codes "only") → kind ≡ first_value f (codes "kind") → task ≡ listed development at point kind → task ≡ listing_task (rows_of f)
listing_found f development at point kind task is is_at is_point is_kind asked =
    asked ∙ ap₂ (λ x y. option_and_then (λ d. listed d y point kind) x) (is ∙ first_value-rows f (codes "DEV")) (is_at ∙ first_value-rows f (codes "at"))
    ∙ ap₂ (λ x y. option_and_then (λ d. listed d (first_of (codes "at") (rows_of f)) x y) (first_of (codes "DEV") (rows_of f))) (is_point ∙ first_value-rows f (codes "only"))
    (is_kind ∙ first_value-rows f (codes "kind"))

pub listing_unfound : (f : Found) → None ≡ first_value f (codes "DEV") → None ≡ listing_task (rows_of f)
listing_unfound f is =
    ap (option_and_then (λ d. listed d (first_of (codes "at") (rows_of f)) (first_of (codes "only") (rows_of f)) (first_of (codes "kind") (rows_of f)))) (is ∙ first_value-rows f (codes "DEV"))
