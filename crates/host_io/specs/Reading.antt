-- Files that are read from a shelf by their names, in order, until one is not read.
use Rattle.std.specs.Prelude.{◌≡◌, ℕ, ◌+◌, ◌<◌, ◌≤◌, nat_lt, Bool, List, [], ◌∷◌, ◌++◌, length, map}
use Rattle.std.specs.Prelude.{take, Option, Some, None, IfSome, Result, Ok, Err, if◌then◌else◌}
use Rattle.std.specs.List.{AllByRecursion, position_from}
use Rattle.host_io.specs.Faults.{CountsFault}
use Rattle.host_io.specs.Shelf.{FailsBy, IsRead, content_of}
use Rattle.jvm_types.specs.declared.limits.TheConstants.{MOST_FILE_BYTES}
use Rattle.host_io.specs.declared.shelf.NamedFile.{NamedFile}
use Rattle.host_io.specs.declared.shelf.ShelfError.{ShelfError}
use Rattle.host_io.specs.declared.shelf.ShelfError.TheVariants.{Memory, Failed, TooLong}

-- the first of some files that is longer than a file may be, counted from a number on; such a file
-- is refused
abbrev pub first_long : ℕ → List (List ℕ) → Option ℕ
first_long file [] = None
first_long file (content ∷ contents) =
    if nat_lt MOST_FILE_BYTES (length content) then Some file else first_long (file + 1) contents

-- the files of these names, where the shelf tells its files
abbrev pub contents_of : List NamedFile → List (List ℕ) → List (List ℕ)
contents_of files names = map (content_of files) names

-- A file of these names can't be read: where the shelf tells which it can't read, the first of
-- these. None before it is too long, since such a file is refused when it is read.
pub record CannotBeRead (files : Option (List NamedFile)) (unreadable : Option (List ℕ → Bool))
    (names : List (List ℕ)) (file : ℕ) : Type 0 where
  pub among : file < length names
  pub first : IfSome unreadable (λ test. position_from test 0 names ≡ Some file)
  pub before : IfSome files (λ fs. first_long 0 (take file (contents_of fs names)) ≡ None)

-- All are read, and these are their contents. The shelf tells its files, or tells none at None, and
-- its count of faults goes from before to after.
pub record AreFilesRead (files : Option (List NamedFile)) (names : List (List ℕ)) (before after : ℕ)
    (contents : List (List ℕ)) : Type 0 where
  pub calm : after ≡ before
  pub many : length contents ≡ length names
  pub short : AllByRecursion (λ content. length content ≤ MOST_FILE_BYTES) contents
  pub are : IfSome files (λ fs. contents ≡ contents_of fs names)

-- The file of this number is the first that is too long of some contents: those of the files of
-- these names or, where the shelf does not tell its files, some of which there are as many.
pub record IsLong (files : Option (List NamedFile)) (names : List (List ℕ)) (file : ℕ)
    : Type 0 where
  pub contents : List (List ℕ)
  pub are : IfSome files (λ fs. contents ≡ contents_of fs names)
  pub many : length contents ≡ length names
  pub first : first_long 0 contents ≡ Some file

-- the file of this number is the first that is not read, for this reason
abbrev pub IsUnread : Option (List NamedFile) → Option (List ℕ → Bool) → List (List ℕ)
    → (before after file : ℕ) → ShelfError → Type 0
IsUnread files unreadable names before after file TooLong =
    (after ≡ before) × IsLong files names file
IsUnread files unreadable names before after file Failed =
    CountsFault before after × CannotBeRead files unreadable names file
IsUnread files unreadable names before after file Memory = before ≤ after

-- the shelf fails at a name where it tells that it can't read it
abbrev pub FailsWhereTold : {A : Type 0} → Option (List ℕ → Bool) → (name : List ℕ)
    → Result A ShelfError → Type 0
FailsWhereTold unreadable name answer = IfSome unreadable (λ test. FailsBy (test name) answer)

-- one more file is read: its content stands behind the contents so far
abbrev pub IsNextRead : {A : Type 0} → Option (List NamedFile) → (name : List ℕ)
    → (before after : ℕ) → (contents more : List (List ℕ)) → Result A ShelfError → Type 0
IsNextRead files name before after contents more (Ok done) =
    (content : List ℕ) × (more ≡ contents ++ content ∷ [])
    × IsRead files name MOST_FILE_BYTES before after (Ok content)
IsNextRead files name before after contents more (Err e) =
    IsRead files name MOST_FILE_BYTES before after (Err e)
