-- A shelf in memory whose calls fail as a list says.
use Rattle.std.specs.Prelude.{ℕ, nat_eq, Bool, ◌||◌, List, [], ◌∷◌, Option, Some, None, is_none}
use Rattle.std.specs.Prelude.{if◌then◌else◌}
use Rattle.std.specs.List.{list_any}
use Rattle.host_io.specs.Faults.{risen}
use Rattle.host_io.specs.Shelf.{file_of}
use Rattle.host_io.specs.declared.shelf.NamedFile.{NamedFile}

-- the files, the numbers of the calls that fail, and how many calls and faults there were
pub record Listed : Type 0 where
  pub files : List NamedFile
  pub failing : List ℕ
  pub calls : ℕ
  pub faults : ℕ

-- the next call fails: its number is on the list, or no file has that name
abbrev pub is_failing : Listed → List ℕ → Bool
is_failing s name = is_none (file_of s.files name) || list_any (nat_eq (risen s.calls)) s.failing

abbrev pub after_reading : Listed → List ℕ → Listed
after_reading s name =
    record s
    { calls = risen s.calls; faults = if is_failing s name then risen s.faults else s.faults }

-- the names that can't be read are those that no file has; where calls are to fail, names alone
-- don't tell it
abbrev pub unreadable_of : List NamedFile → (failing : List ℕ) → Option (List ℕ → Bool)
unreadable_of files [] = Some (λ name. is_none (file_of files name))
unreadable_of files (call ∷ failing) = None
