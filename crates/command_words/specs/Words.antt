-- Words of a command, and what `clap` finds in them for a simple one: options with one value each,
-- and names.
use Rattle.std.specs.Global.{Global}
use Rattle.std.specs.Prelude.{Bool, List, [], map, fold, codes, Option, Some, None, is_some, String}
use Rattle.std.specs.Prelude.{string_bytes, if◌then◌else◌}
use Rattle.std.specs.List.{list_any}
use Rattle.std.specs.Option.{unwrap_or}
use Rattle.clap.specs.Walk.{Row, Text, all_of, first_of, is_empty}
use Rattle.clap.specs.Simple.{App, matches_of, new_app, new_rule, with_rule}
use Rattle.clap.specs.Faults.{fault_of}
use Rattle.clap.specs.declared.builder.action.ArgAction.TheVariants.{Append}

-- the words as texts
abbrev pub texts : List (String Global) → List Text
texts words = map (λ word. string_bytes word) words

-- ---- the command

-- an option with one value, `--name VALUE` or `--name=VALUE`
abbrev pub with_option : App → Text → App
with_option a name = with_rule a (record (new_rule name) { long = Some name })

-- any number of names, each a word that is no option or stands after `--`
abbrev pub with_names : App → Text → App
with_names a name = with_rule a (record (new_rule name) { action = Some Append })

-- the command of a program: these options, each with one value, and any number of files
abbrev pub command_of : (program : Text) (options : List Text) → App
command_of program options = with_names (fold with_option (new_app program) options) (codes "FILE")

-- ---- what is found

-- what is found in the words, the first of which is the program's name, where clap finds no fault
-- in them; an option that is given twice is such a fault, and so is a call for help
unfoldable pub found_in_words : App → List Text → Option (List Row)
found_in_words command words =
    if is_empty (fault_of command words) then Some (matches_of command words) else None

-- the files that are named
abbrev pub names_of : List Row → List Text
names_of rows = unwrap_or (all_of (codes "FILE") rows) []

abbrev pub is_given : List Row → Text → Bool
is_given rows name = is_some (first_of name rows)

abbrev pub gives_any : List Row → List Text → Bool
gives_any rows names = list_any (is_given rows) names
