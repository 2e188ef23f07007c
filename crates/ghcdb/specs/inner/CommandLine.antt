-- What the command line gives.
use Rattle.std.specs.Prelude.{◌≡◌, ◌≤◌, ◌⊎◌, ℕ, Bool, List, [], ◌∷◌, Option, None, Some, true, false, codes, is_some, option_map}
use Rattle.std.specs.Str.{bytes_eq}
use Rattle.std.specs.Str.Parse.{IsNumeral, digits_value, without_leading_plus}
use Rattle.clap.specs.Words.{AddsArg, AddsInTurn, HasMatchesOf, app_of, IsParsedFrom, IsPlainArg, args_of, first_value, found_of, groups_of}
use Rattle.clap.specs.Built.{TakesValue}
use Rattle.clap.specs.Facts.{least_values}
use Rattle.clap.specs.Texts.{items_of}
use Rattle.clap.specs.declared.builder.action.ArgAction.TheVariants.{Set}
use Rattle.clap.specs.declared.builder.arg.Arg.{Arg}
use Rattle.clap.specs.declared.builder.command.Command.{Command}
use Rattle.clap.specs.declared.builder.command.Command.TheViews.{out-Command}
use Rattle.clap.specs.declared.builder.value_parser.ValueParser.{ValueParser}
use Rattle.clap.specs.declared.builder.value_parser.ValueParser.TheVariants as parser
use Rattle.clap.specs.declared.parser.matches.ArgMatches.{ArgMatches}
use Rattle.clap.specs.declared.parser.matches.Found.{Found}
use Rattle.ghcdb.specs.declared.settings.Given.{Given}
use Rattle.ghcdb.specs.declared.settings.Options.{Options}
use Rattle.ghcdb.specs.declared.settings.WorkersOption.{WorkersOption}
use Rattle.ghcdb.specs.declared.settings.WorkersOption.TheVariants.{Number, Auto}

-- an argument that has to be given, has one value, and excludes no other
pub record IsRequiredValue (id : List ℕ) (argument : Arg) : Type 0 where
  pub id_is : argument.id.now ≡ id
  pub plain : IsPlainArg argument
  pub local : argument.global ≡ false
  pub value : TakesValue argument

-- an argument that need not be given, has no value then and else one, and excludes no other
pub record IsOptionalValue (id : List ℕ) (argument : Arg) : Type 0 where
  pub id_is : argument.id.now ≡ id
  pub plain : IsPlainArg argument
  pub local : argument.global ≡ false
  pub free : argument.required ≡ false
  pub no_default : items_of argument.default_vals ≡ []
  pub value : (argument.action ≡ Some Set) × (argument.val_delim ≡ None) × (1 ≤ least_values argument)

-- the argument that says how many workers make a run: its value, where it is given, passes this parser
pub record IsWorkersValue (by : ValueParser) (argument : Arg) : Type 0 where
  pub optional : IsOptionalValue (codes "workers") argument
  pub parser : argument.value_parser ≡ Some by

-- a command with no argument yet
pub record IsEmptyCommand (command : Command) : Type 0 where
  pub arguments : args_of command ≡ []
  pub groups : groups_of command ≡ []
  pub local : (out-Command command).has_globals ≡ false
  pub negates : (out-Command command).subcommand_negates_reqs ≡ false

-- the command that takes FILE and the query, and needs both, and may take a file to load, one of a schedule and, by this parser, how many workers make a run
pub record IsGhcdb (by : ValueParser) (command : Command) : Type 0 where
  pub start : Command
  pub file : Arg
  pub query : Arg
  pub load : Arg
  pub schedule : Arg
  pub workers : Arg
  pub empty : IsEmptyCommand start
  pub file_is : IsRequiredValue (codes "FILE") file
  pub query_is : IsRequiredValue (codes "query") query
  pub load_is : IsOptionalValue (codes "load") load
  pub schedule_is : IsOptionalValue (codes "schedule") schedule
  pub workers_is : IsWorkersValue by workers
  pub chain : AddsInTurn AddsArg start (file ∷ query ∷ load ∷ schedule ∷ workers ∷ []) command

-- what is found has a value for FILE and one for the query
pub record HasOptions (found : Found) : Type 0 where
  pub file : is_some (first_value found (codes "FILE")) ≡ true
  pub query : is_some (first_value found (codes "query")) ≡ true

-- the options are the values that were found for FILE and for the query, and for the files to load and to play, if there are such
pub record AreOptionsOf (found : Found) (options : Options) : Type 0 where
  pub file : first_value found (codes "FILE") ≡ Some options.file.now
  pub query : first_value found (codes "query") ≡ Some options.query.now
  pub load : first_value found (codes "load") ≡ option_map (λ name. name.now) options.load
  pub schedule : first_value found (codes "schedule") ≡ option_map (λ name. name.now) options.schedule

-- SaysNumber text n: the text, where there is one, is a numeral, with or without a plus sign in front. It says n, a number of 1 to 64; where there is no text, n is 1.
abbrev pub SaysNumber : Option (List ℕ) → ℕ → Type 0
SaysNumber None n = n ≡ 1
SaysNumber (Some text) n = IsNumeral 10 (without_leading_plus text) × (n ≡ digits_value 10 (without_leading_plus text)) × (1 ≤ n) × (n ≤ 64)

-- the text says so many workers: a number, or `auto`
abbrev pub SaysWorkers : Option (List ℕ) → WorkersOption → Type 0
SaysWorkers text (Number n) = SaysNumber text n
SaysWorkers text Auto = text ≡ Some (codes "auto")

-- the parser by which a command line is read that says so many workers: of the numbers of 1 to 64, or of any text
abbrev pub parser_for : WorkersOption → ValueParser
parser_for (Number n) = parser.Unsigned 1 64
parser_for Auto = parser.String

-- the word says `--workers auto`: alone, by an equals sign, or as `auto` behind `--workers`
abbrev pub SaysAuto : Bool → List ℕ → Type 0
SaysAuto behind word = (word ≡ codes "--workers=auto") ⊎ ((behind ≡ true) × (word ≡ codes "auto"))

-- one of the words says it, where the first stands behind `--workers` or not
abbrev pub AskForAuto : Bool → List (List ℕ) → Type 0
AskForAuto behind [] = ⊥
AskForAuto behind (word ∷ words) = SaysAuto behind word ⊎ AskForAuto (bytes_eq word (codes "--workers")) words

-- the options are the values that a parse of that command found; the workers are as many as it found, or 1, or left to the program
pub record IsGivenBy (words : List (List ℕ)) (given : Given) : Type 0 where
  pub command : Command
  pub matches : ArgMatches
  pub is_ghcdb : IsGhcdb (parser_for given.workers) command
  pub parsed : IsParsedFrom command matches
  pub found : HasMatchesOf (app_of command) words matches
  pub options : AreOptionsOf (found_of matches) given.options
  pub workers : SaysWorkers (first_value (found_of matches) (codes "workers")) given.workers
