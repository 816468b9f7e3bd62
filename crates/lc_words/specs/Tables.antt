-- What the table of commands says, in the terms in which clap's calls state what they read.
use Rattle.std.specs.Prelude.{List, codes, fold, Some}
use Rattle.std.specs.Borrow.{Bor}
use Rattle.clap.specs.Words.{App, Rule, new_app, with_rule, with_subcommand}
use Rattle.clap.specs.declared.builder.value_parser.ValueParser.TheVariants.{Unsigned}
use Rattle.lc_words.specs.Commands.{file_rule, flag_rule, further_rule, needs_subcommand, option_rule}
use Rattle.lc_words.specs.declared.commands.Argument.{Argument}
use Rattle.lc_words.specs.declared.commands.Argument.TheVariants.{Place, Further, Value, Number, Flag}
use Rattle.lc_words.specs.declared.commands.Described.{Described}

-- the rule of an argument
abbrev pub rule_for : Argument → Rule
rule_for (Place name help) = file_rule name.now
rule_for (Further name help) = further_rule name.now
rule_for (Value name value help) = option_rule name.now
rule_for (Number name help least most) = record (option_rule name.now) { parser = Some (Unsigned least most) }
rule_for (Flag name help) = flag_rule name.now

-- a command with further arguments
abbrev pub with_arguments : App → List Argument → App
with_arguments a arguments = fold (λ b argument. with_rule b (rule_for argument)) a arguments

-- a command with its arguments
abbrev pub app_for : Described → App
app_for d = with_arguments (new_app d.name.now) d.arguments.now

-- a program with further commands
abbrev pub with_described : App → List (Bor Described) → App
with_described a ds = fold (λ b d. with_subcommand b (app_for d.now).top) a ds

-- the program with its commands
abbrev pub program_for : List (Bor Described) → App
program_for = with_described (needs_subcommand (codes "lincheck"))
