-- What a shelf answers to a reading.
use Rattle.std.specs.Prelude.{◌≡◌, ℕ, ◌<◌, ◌≤◌, Bool, true, false, List, [], length, find, Option}
use Rattle.std.specs.Prelude.{IfSome, Result, Ok, Err}
use Rattle.std.specs.Option.{option_map_or}
use Rattle.std.specs.Str.{bytes_eq}
use Rattle.host_io.specs.Faults.{CountsFault}
use Rattle.host_io.specs.declared.shelf.NamedFile.{NamedFile}
use Rattle.host_io.specs.declared.shelf.ShelfError.{ShelfError}
use Rattle.host_io.specs.declared.shelf.ShelfError.TheVariants.{Memory, Failed, TooLong}

-- the first file of that name
abbrev pub file_of : List NamedFile → List ℕ → Option NamedFile
file_of files name = find (λ f. bytes_eq f.name name) files

-- its content; a file that is not there is empty
abbrev pub content_of : List NamedFile → List ℕ → List ℕ
content_of files name = option_map_or (λ f. f.content) (file_of files name) []

-- where a shelf tells its files, the file of that name has this content
abbrev pub IsContentOf : Option (List NamedFile) → List ℕ → List ℕ → Type 0
IsContentOf files name content = IfSome files (λ fs. content ≡ content_of fs name)

-- The answer to a reading of a name within a limit, by a shelf that tells these files, or tells
-- none at None. Its count of faults goes from before to after.
abbrev pub IsRead : Option (List NamedFile) → List ℕ → ℕ → ℕ → ℕ → Result (List ℕ) ShelfError
    → Type 0
IsRead files name limit before after (Ok content) =
    (after ≡ before) × (length content ≤ limit) × IsContentOf files name content
IsRead files name limit before after (Err TooLong) =
    (after ≡ before) × IfSome files (λ fs. limit < length (content_of fs name))
IsRead files name limit before after (Err Failed) = CountsFault before after
IsRead files name limit before after (Err Memory) = before ≤ after

-- The answer to a reading of a name that the shelf tells whether it can read: it fails where it
-- can't, unless memory runs out before, and nowhere else.
abbrev pub FailsBy : {A : Type 0} → (unreadable : Bool) → Result A ShelfError → Type 0
FailsBy true (Ok content) = ⊥
FailsBy true (Err TooLong) = ⊥
FailsBy false (Err Failed) = ⊥
FailsBy unreadable answer = Unit {0}
