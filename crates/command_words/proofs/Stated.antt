-- The constants of the code are the numbers that are stated.
use Rattle.std.proofs.{Common.{length, refl}, lemmas.Bool.{lt-ltb, le-leb}}
use Rattle.command_words.specs.{Command.asked, Limits.{AreOptionsStated, FilesAskForUsual}, RunValues.settings_of}

files_ask : FilesAskForUsual
unfolding asked settings_of
files_ask files count source reading some few = rw (lt-ltb 0 (length files) some, le-leb (length files) 64 few) refl

pub are_stated : AreOptionsStated
are_stated = record {
  numbers = record { order = refl; heap = refl; steps = refl; prints = refl; size = refl; most_size = refl; events = refl; turn = refl; most_turn = refl };
  usual = files_ask;
}
