-- The commands with their arguments, in the terms in which clap's calls state what they read.
use Rattle.std.specs.Prelude.{true, codes, [], Some}
use Rattle.clap.specs.Words.{App, Rule, Text, new_app, new_rule, with_rule, with_subcommand}
use Rattle.clap.specs.declared.builder.action.ArgAction.TheVariants.{Set, SetTrue}
use Rattle.clap.specs.declared.builder.value_parser.ValueParser.TheVariants.{Unsigned}
use Rattle.lc_words.specs.Limits.{size_limit, worker_limit}

-- a required argument that names a file
abbrev pub file_rule : Text → Rule
file_rule name = record (new_rule name) { action = Some Set; required = true }

-- an option with a value, as one that names a file
abbrev pub option_rule : Text → Rule
option_rule name = record (new_rule name) { long = Some name; action = Some Set; value_names = 1 }

-- a required argument that names an object
abbrev pub object_rule : Text → Rule
object_rule name = record (new_rule name) { action = Some Set; required = true }

-- an option with a number of workers, from 1 to their limit
abbrev pub workers_rule : Rule
workers_rule = record (option_rule (codes "workers")) { parser = Some (Unsigned 1 worker_limit) }

-- an option without a value
abbrev pub flag_rule : Text → Rule
flag_rule name = record (new_rule name) { long = Some name; action = Some SetTrue }

-- a command with the options by which a refusal is not explained on a terminal, and is explained
abbrev pub explained : App → App
explained app = with_rule (with_rule app (flag_rule (codes "quiet"))) (flag_rule (codes "explain"))

-- `formula FILE [--quiet] [--explain]`
abbrev pub formula_app : App
formula_app = explained (with_rule (new_app (codes "formula")) (file_rule (codes "FILE")))

-- `judge DEV HISTORY [--quiet] [--explain]`
abbrev pub judge_app : App
judge_app = explained (with_rule (with_rule (new_app (codes "judge")) (file_rule (codes "DEV"))) (file_rule (codes "HISTORY")))

-- `show DEV [--lines] [--quiet] [--explain]`
abbrev pub show_app : App
show_app = explained (with_rule (with_rule (new_app (codes "show")) (file_rule (codes "DEV"))) (flag_rule (codes "lines")))

-- `conditions DEV [--at K]`
abbrev pub listing_app : App
listing_app = with_rule (with_rule (new_app (codes "conditions")) (file_rule (codes "DEV"))) (option_rule (codes "at"))

-- `conditions DEV [--at K] [--only POINT] [--kind KIND] [--quiet] [--explain]`
abbrev pub conditions_app : App
conditions_app = explained (with_rule (with_rule listing_app (option_rule (codes "only"))) (option_rule (codes "kind")))

-- `check DEV CERT`
abbrev pub check_files_app : App
check_files_app = with_rule (with_rule (new_app (codes "check")) (file_rule (codes "DEV"))) (file_rule (codes "CERT"))

-- `check DEV CERT [--workers N]`
abbrev pub check_workers_app : App
check_workers_app = with_rule check_files_app workers_rule

-- `check DEV CERT [--workers N] [--all] [--progress] [--quiet] [--explain]`
abbrev pub check_app : App
check_app = explained (with_rule (with_rule check_workers_app (flag_rule (codes "all"))) (flag_rule (codes "progress")))

-- `prove DEV [--hints FILE]`
abbrev pub prove_files_app : App
prove_files_app = with_rule (with_rule (new_app (codes "prove")) (file_rule (codes "DEV"))) (option_rule (codes "hints"))

-- `prove DEV [--hints FILE] [--all] [--progress] [--quiet] [--explain]`
abbrev pub prove_app : App
prove_app = explained (with_rule (with_rule prove_files_app (flag_rule (codes "all"))) (flag_rule (codes "progress")))

-- `carry OLD CERT NEW`
abbrev pub carry_files_app : App
carry_files_app = with_rule (with_rule (with_rule (new_app (codes "carry")) (file_rule (codes "OLD"))) (file_rule (codes "CERT"))) (file_rule (codes "NEW"))

-- `carry OLD CERT NEW [--hints FILE] [--progress] [--quiet] [--explain]`
abbrev pub carry_app : App
carry_app = explained (with_rule (with_rule carry_files_app (option_rule (codes "hints"))) (flag_rule (codes "progress")))

-- an option with a number of 64 bits
abbrev pub number_rule : Text → Rule
number_rule name = record (option_rule name) { parser = Some (Unsigned 0 18446744073709551615) }

-- `run DEV CERT PLAN`
abbrev pub run_files_app : App
run_files_app = with_rule (with_rule (with_rule (new_app (codes "run")) (file_rule (codes "DEV"))) (file_rule (codes "CERT"))) (file_rule (codes "PLAN"))

-- `run DEV CERT PLAN [--seed N] [--seeds A..B]`
abbrev pub run_seeds_app : App
run_seeds_app = with_rule (with_rule run_files_app (number_rule (codes "seed"))) (option_rule (codes "seeds"))

-- `run DEV CERT PLAN [--seed N] [--seeds A..B] [--trace] [--quiet] [--explain]`
abbrev pub run_app : App
run_app = explained (with_rule run_seeds_app (flag_rule (codes "trace")))

-- `library NAME [--certificate] [--hints]`
abbrev pub library_app : App
library_app = with_rule (with_rule (with_rule (new_app (codes "library")) (object_rule (codes "NAME"))) (flag_rule (codes "certificate"))) (flag_rule (codes "hints"))

-- `draw DEV HISTORY [--html]`
abbrev pub draw_page_app : App
draw_page_app = with_rule (with_rule (with_rule (new_app (codes "draw")) (file_rule (codes "DEV"))) (file_rule (codes "HISTORY"))) (flag_rule (codes "html"))

-- `draw DEV HISTORY [--html] [--around PLACE] [--width N] [--quiet] [--explain]`
abbrev pub draw_app : App
draw_app = explained (with_rule (with_rule draw_page_app (number_rule (codes "around"))) (number_rule (codes "width")))

-- `new NAME`
abbrev pub begin_app : App
begin_app = with_rule (new_app (codes "new")) (object_rule (codes "NAME"))

-- `order DEV HISTORY [--check]`
abbrev pub order_word_app : App
order_word_app = with_rule (with_rule (with_rule (new_app (codes "order")) (file_rule (codes "DEV"))) (file_rule (codes "HISTORY"))) (flag_rule (codes "check"))

-- `order DEV HISTORY [--check] [--budget N] [--quiet] [--explain]`
abbrev pub order_app : App
order_app = explained (with_rule order_word_app (number_rule (codes "budget")))

-- `complete SHORT [--budget N] [--progress] [--quiet] [--explain]`
abbrev pub complete_app : App
complete_app = explained (with_rule (with_rule (with_rule (new_app (codes "complete")) (file_rule (codes "SHORT"))) (number_rule (codes "budget"))) (flag_rule (codes "progress")))

-- an argument that names a file, and may be left out
abbrev pub further_rule : Text → Rule
further_rule name = record (new_rule name) { action = Some Set }

-- an option with a number of clients, or of calls, from 1 to their limit
abbrev pub size_rule : Text → Rule
size_rule name = record (option_rule name) { parser = Some (Unsigned 1 size_limit) }

-- `explore DEV [PLAN]`
abbrev pub explore_files_app : App
explore_files_app = with_rule (with_rule (new_app (codes "explore")) (file_rule (codes "DEV"))) (further_rule (codes "PLAN"))

-- `explore DEV [PLAN] [--clients N] [--calls M] [--numbers A,B,..]`
abbrev pub explore_size_app : App
explore_size_app = with_rule (with_rule (with_rule explore_files_app (size_rule (codes "clients"))) (size_rule (codes "calls"))) (option_rule (codes "numbers"))

-- `explore DEV [PLAN] [--clients N] [--calls M] [--numbers A,B,..] [--bare] [--budget N] [--quiet] [--explain]`
abbrev pub explore_app : App
explore_app = explained (with_rule (with_rule explore_size_app (flag_rule (codes "bare"))) (number_rule (codes "budget")))

-- a command of this name that has a version and needs a subcommand
abbrev pub needs_subcommand : Text → App
needs_subcommand name = record { top = record (new_app name).top { subcommand_required = true; has_version = true }; subs = [] }

-- the program with its first two commands
abbrev pub first_app : App
first_app = with_subcommand (with_subcommand (needs_subcommand (codes "lincheck")) formula_app.top) judge_app.top

-- the program with its first four commands
abbrev pub further_app : App
further_app = with_subcommand (with_subcommand first_app show_app.top) conditions_app.top

-- the program with its first six commands
abbrev pub proving_app : App
proving_app = with_subcommand (with_subcommand further_app check_app.top) prove_app.top

-- the program with its first eight commands
abbrev pub carrying_app : App
carrying_app = with_subcommand (with_subcommand proving_app carry_app.top) library_app.top

-- the program with its first ten commands
abbrev pub drawing_app : App
drawing_app = with_subcommand (with_subcommand carrying_app draw_app.top) begin_app.top

-- the program with its first twelve commands
abbrev pub ordering_app : App
ordering_app = with_subcommand (with_subcommand drawing_app run_app.top) order_app.top

-- the program and its commands
abbrev pub program_app : App
program_app = with_subcommand (with_subcommand ordering_app complete_app.top) explore_app.top
