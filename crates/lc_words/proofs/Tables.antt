-- What one more argument and one more command of the table make.
use Rattle.std.proofs.Common.{◌≡◌, ℕ, ◌+◌, ◌<◌, true, false, ◌||◌, Some, List, ◌∷◌, length, get_or, drop, drop-cons, add-one, sym, ◌∙◌, ap, ap₂}
use Rattle.std.specs.Borrow.{Bor}
use Rattle.std.specs.Prelude.{fold}
use Rattle.clap.specs.Words.{AddsArg, AddsSubcommand, App, Text, app_of, new_app, rule_of, with_rule, with_subcommand}
use Rattle.clap.specs.Simple.{app_of_fields}
use Rattle.clap.specs.declared.builder.arg.Arg.{Arg}
use Rattle.clap.specs.declared.builder.command.Command.{Command}
use Rattle.clap.specs.declared.builder.command.Command.TheOpen.{Command-F}
use Rattle.clap.specs.declared.builder.command.Command.TheViews.{out-Command}
use Rattle.lc_words.specs.Commands.{needs_subcommand}
use Rattle.lc_words.specs.Tables.{app_for, rule_for, with_arguments, with_described}
use Rattle.lc_words.specs.declared.commands.Argument.{Argument}
use Rattle.lc_words.specs.declared.commands.Described.{Described}

-- one more element of a fold
fold_next : {A B : Type 0} (f : B → A → B) (old new : B) (xs : List A) (i : ℕ) (d : A) → i < length xs → new ≡ f old (get_or xs i d) → fold f new (drop (i + 1) xs) ≡ fold f old (drop i xs)
fold_next {A} f old new xs i d below is =
    let parts : drop i xs ≡ get_or xs i d ∷ drop (i + 1) xs = rw add-one (drop-cons xs i d below) in
    ap (λ b. fold f b (drop (i + 1) xs)) is ∙ sym (ap (fold f old) parts)

pub next_argument : (old new : Command) (a : Arg) (xs : List Argument) (i : ℕ) (d : Argument) → i < length xs → rule_of a ≡ rule_for (get_or xs i d)
    → a.global ≡ false → AddsArg old a new → with_arguments (app_of new) (drop (i + 1) xs) ≡ with_arguments (app_of old) (drop i xs)
next_argument old new a xs i d below is local adds =
    fold_next (λ b x. with_rule b (rule_for x)) (app_of old) (app_of new) xs i d below (adds.shape local ∙ ap (with_rule (app_of old)) is)

pub stays_local : (old new : Command) (a : Arg) → (out-Command old).has_globals ≡ false → a.global ≡ false → AddsArg old a new → (out-Command new).has_globals ≡ false
stays_local old new a before local adds = adds.globals ∙ ap₂ ◌||◌ before local

pub next_described : (old sub new : Command) (ds : List (Bor Described)) (i : ℕ) (d : Bor Described) → i < length ds → app_of sub ≡ app_for (get_or ds i d).now
    → (out-Command sub).has_globals ≡ false → AddsSubcommand old sub new → with_described (app_of new) (drop (i + 1) ds) ≡ with_described (app_of old) (drop i ds)
next_described old sub new ds i d below is local adds =
    fold_next (λ b x. with_subcommand b (app_for x.now).top) (app_of old) (app_of new) ds i d below
    (adds.shape local ∙ ap (λ a. with_subcommand (app_of old) a.top) is)

-- what the calls change
with_about : Bor (List ℕ) → Command-F Command → Command-F Command
with_about text c = record c { about = Some text }

with_help : Bor (List ℕ) → Command-F Command → Command-F Command
with_help text c = record c { after_help = Some text }

with_required : Command-F Command → Command-F Command
with_required c = record c { subcommand_required = true }

needing_subcommand : App → App
needing_subcommand a = record a { top = record a.top { subcommand_required = true; has_version = true } }

-- the program before it has commands, by what each call made of it
pub begun_program : (name : Text) (made versioned told helped program : Command) (version about help : Bor (List ℕ)) → app_of made ≡ new_app name
    → out-Command versioned ≡ record (out-Command made) { version = Some version } → out-Command told ≡ record (out-Command versioned) { about = Some about }
    → out-Command helped ≡ record (out-Command told) { after_help = Some help } → out-Command program ≡ record (out-Command helped) { subcommand_required = true }
    → app_of program ≡ needs_subcommand name
unfolding with_about with_help with_required needing_subcommand
begun_program name made versioned told helped program version about help is v a h s =
    let whole : out-Command program ≡ record (out-Command made) { version = Some version; about = Some about; after_help = Some help; subcommand_required = true } =
    s ∙ ap with_required (h ∙ ap (with_help help) (a ∙ ap (with_about about) v)) in
    ap app_of_fields whole ∙ ap needing_subcommand is
