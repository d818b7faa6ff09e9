-- Usual values and limits of options by number, as the table of options in the README has them. The
-- other definitions name them by the constants of the code, so they say what these numbers make of
-- them.
use Rattle.std.specs.Prelude.{◌≡◌, ℕ, ◌<◌, ◌≤◌, true, List, [], ◌∷◌, length, codes, Option, Some}
use Rattle.std.specs.Prelude.{None}
use Rattle.clap.specs.Walk.{Text}
use Rattle.clap.specs.declared.parser.matches.ValueSource.{ValueSource}
use Rattle.clap.specs.declared.builder.value_parser.Reading.{Reading}
use Rattle.command_words.specs.Command.{asked}
use Rattle.command_words.specs.declared.request.Memory.TheVariants.{Table}
use Rattle.command_words.specs.declared.request.Mode.TheVariants.{Program}
use Rattle.command_words.specs.declared.request.Task.TheVariants.{Replay}
use Rattle.command_words.specs.declared.values.TheConstants.{LONGEST_ORDER, MOST_EVENTS, MOST_SIZE}
use Rattle.command_words.specs.declared.values.TheConstants.{MOST_TURN, USUAL_HEAP, USUAL_PRINTS}
use Rattle.command_words.specs.declared.values.TheConstants.{USUAL_SIZE, USUAL_STEPS, USUAL_TURN}

pub record OptionNumbers : Type 0 where
  pub order : LONGEST_ORDER ≡ 100000
  pub heap : USUAL_HEAP ≡ 65536
  pub steps : USUAL_STEPS ≡ 10000000
  pub prints : USUAL_PRINTS ≡ 65536
  -- rounds of each worker of a cell, and methods of a load
  pub size : USUAL_SIZE ≡ 100
  pub most_size : MOST_SIZE ≡ 1000
  pub events : MOST_EVENTS ≡ 100000
  pub turn : USUAL_TURN ≡ 64
  pub most_turn : MOST_TURN ≡ 1000000

-- what is asked for where only the names of some files are given
abbrev pub FilesAskForUsual : Type 0
FilesAskForUsual =
    (files : List Text) (count : Option ℕ) (source : Option ValueSource) (reading : Reading)
    → 0 < length files → length files ≤ 64
    → asked (record
    { id = codes "FILE"; values = files; count = count; source = source; reading = reading }
    ∷ []) ≡ Some (record {
      mode = Program Replay;
      files = files;
      threads = 0;
      heap = 65536;
      cfg =
          record {
            steps = 10000000;
            turns = 4294967295;
            prints = 65536;
            elide = true;
            range = 4294967295;
          };
      order = [];
      memory = Table;
      size = 100;
      seed = 0;
      events = 100000;
      green = None;
    })

pub record AreOptionsStated : Type 0 where
  pub numbers : OptionNumbers
  pub usual : FilesAskForUsual
