-- A file that can't be read.
use Rattle.std.specs.Prelude.{◌≡◌, ℕ, Bool, List, Option}
use Rattle.host_io.specs.Reading.{CannotBeRead}
use Rattle.host_io.specs.declared.shelf.NamedFile.{NamedFile}
use Rattle.run_texts.specs.Unread.{unread_line}
use Rattle.program_answers.specs.declared.answer.Due.{Due}
use Rattle.program_answers.specs.declared.answer.Due.TheVariants.{CannotRead, OutOfMemory}

-- the text is the line of such a file of these names
pub record SaysUnread (files : Option (List NamedFile)) (unreadable : Option (List ℕ → Bool))
    (names : List (List ℕ)) (text : List ℕ) : Type 0 where
  pub file : ℕ
  pub unread : CannotBeRead files unreadable names file
  pub is_line : text ≡ unread_line file

-- the line of the file of this number is due, or want of memory
abbrev pub IsUnreadLine : ℕ → Due → Type 0
IsUnreadLine file (CannotRead text) = text ≡ unread_line file
IsUnreadLine file OutOfMemory = Unit {0}
IsUnreadLine file due = ⊥
