-- What the words of a command line ask for. The program's own name isn't among them.
--
-- The words are read as clap reads them for a simple command. `fault_of` has the kinds of error that they give, and
-- `subcommand_of` the subcommand that they name, with the values of its arguments. In plain words: the first word names
-- a subcommand, and its arguments follow in order, neither more nor fewer. Its options stand anywhere behind that word,
-- each once at most, as `--NAME VALUE` or as `--NAME=VALUE`. A word that begins with `-` is an option; only `-` alone
-- isn't, and no word behind the first `--`, which itself stands for nothing (POSIX.1-2017, section 12.2, Utility Syntax
-- Guidelines 10 and 14; options with long names, and behind arguments, go beyond these).
use Rattle.std.specs.Prelude.{ℕ, ◌&&◌, nat_le, true, List, [], ◌∷◌, Option, Some, None, if◌then◌else◌, codes, decimal, bytes_eq, option_and_then, unwrap_or}
use Rattle.std.specs.Str.Parse.{digits_value}
use Rattle.clap.specs.Faults.{fault_of}
use Rattle.clap.specs.Kinds.{Kinds}
use Rattle.clap.specs.Simple.{App, new_app, new_rule, with_rule, with_subcommand, on_top, subcommand_of}
use Rattle.clap.specs.Walk.{Row, Rule, first_of}
use Rattle.clap.specs.declared.builder.action.ArgAction.TheVariants.{Set}
use Rattle.lk_words.specs.declared.command.Command.{Command}
use Rattle.lk_words.specs.declared.command.Command.TheVariants.{Check, Labels, Source, Sql}

-- ---- the command line as data

-- an argument that has to be there
abbrev pub needed : List ℕ → Rule
needed name = record (new_rule name) { required = true; action = Some Set }

-- an option, which has one value
abbrev pub optional : List ℕ → Rule
optional name = record (new_rule name) { long = Some name; action = Some Set }

-- `check PROGRAM`
abbrev pub check_app : App
check_app = with_rule (new_app (codes "check")) (needed (codes "program"))

-- `sql PROGRAM`
abbrev pub sql_app : App
sql_app = with_rule (new_app (codes "sql")) (needed (codes "program"))

-- `labels PROGRAM`
abbrev pub labels_app : App
labels_app = with_rule (new_app (codes "labels")) (needed (codes "program"))

-- `source PROGRAM ARG`
abbrev pub bare_source_app : App
bare_source_app = with_rule (with_rule (new_app (codes "source")) (needed (codes "program"))) (needed (codes "arg"))

-- the same with `--tables FILE`, `--store NAME` and `--fuel N`
abbrev pub source_app : App
source_app = with_rule (with_rule (with_rule bare_source_app (optional (codes "tables"))) (optional (codes "store"))) (optional (codes "fuel"))

-- a command line without its subcommands, one of which has to be there; no word asks for help or for the version
abbrev pub bare_app : App
bare_app = on_top
    (λ top. record top { no_binary_name = true; disable_help_flag = true; disable_version_flag = true; disable_help_subcommand = true; subcommand_required = true })
    (new_app (codes "links"))

-- the same with the subcommands that take a program alone
abbrev pub programs_app : App
programs_app = with_subcommand (with_subcommand (with_subcommand bare_app check_app.top) sql_app.top) labels_app.top

-- the command line
abbrev pub links_app : App
links_app = with_subcommand programs_app source_app.top

-- ---- what the values mean

-- the most fuel that words may ask for, and the fuel of `source` where they ask for none: how many nodes its evaluation
-- may enter
abbrev pub most_fuel : ℕ
most_fuel = 1_000_000_000

abbrev pub default_fuel : ℕ
default_fuel = 1_000_000

-- The number that a text writes, from 1 to the most fuel. Each has one text: its decimal digits, with no sign and no
-- zero before them.
abbrev pub number_of : List ℕ → Option ℕ
number_of text =
    let number = digits_value 10 text in
    if bytes_eq text (decimal number) && (nat_le 1 number && nat_le number most_fuel) then Some number else None

-- the number of an option, or the default where the option isn't there
abbrev pub number_or : ℕ → Option (List ℕ) → Option ℕ
number_or default None = Some default
number_or default (Some text) = number_of text

-- the store of `source` where the words name none
abbrev pub default_store : List ℕ
default_store = codes "memory"

-- what comes of a value, where there is one
infixl 10 ◌>>=◌
abbrev ◌>>=◌ : {A B : Type 0} → Option A → (A → Option B) → Option B
option >>= f = option_and_then f option

-- `check`, by the value of its argument: the program is any text
unfoldable pub check_of : List Row → Option Command
check_of rows = do
  program ← first_of (codes "program") rows
  Some (Check (record { program = program }))

-- `sql`, by the value of its argument: the program is any text
unfoldable pub sql_of : List Row → Option Command
sql_of rows = do
  program ← first_of (codes "program") rows
  Some (Sql (record { program = program }))

-- `labels`, by the value of its argument: the program is any text
unfoldable pub labels_of : List Row → Option Command
labels_of rows = do
  program ← first_of (codes "program") rows
  Some (Labels (record { program = program }))

-- `source`, by the values of its arguments: the fuel is a number, and all others are any texts
unfoldable pub source_of : List Row → Option Command
source_of rows = do
  program ← first_of (codes "program") rows
  arg ← first_of (codes "arg") rows
  fuel ← number_or default_fuel (first_of (codes "fuel") rows)
  Some (Source (record {
    program = program;
    arg = arg;
    tables = first_of (codes "tables") rows;
    store = unwrap_or (first_of (codes "store") rows) default_store;
    fuel = fuel;
  }))

-- ---- the words

-- the subcommand that was met, by its name and the values of its arguments
abbrev pub command_of : List ℕ × List Row → Option Command
command_of (name, rows) =
    if bytes_eq name (codes "check") then check_of rows else (if bytes_eq name (codes "sql") then sql_of rows else (if bytes_eq name (codes "labels") then labels_of rows else (if bytes_eq name (codes "source") then source_of rows else None)))

-- a command, where there is no kind of error
abbrev pub unless : Kinds → Option Command → Option Command
unless [] command = command
unless (kind ∷ kinds) command = None

-- The command that the words ask for, or `None` where they have no form: where clap gives an error, or an option's text
-- isn't the number that it has to be.
unfoldable pub form_of : List (List ℕ) → Option Command
form_of words = unless (fault_of links_app words) (option_and_then command_of (subcommand_of links_app words))

-- the name of the store that a command asks for; only `source` asks for one
abbrev pub store_of : Option Command → List ℕ
store_of (Some (Source command)) = command.store
store_of command = []
