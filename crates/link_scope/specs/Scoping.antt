-- What the calls of a scope answer, in terms of the files that it is made of.
use Rattle.std.specs.Prelude.{◌≡◌, ℕ, ◌<◌, ◌≤◌, Bool, false, List, [], length, take, Option, Some}
use Rattle.std.specs.Prelude.{None, slice_get}
use Rattle.std.specs.List.{AllByRecursion}
use Rattle.jvm_types.specs.ClassGrammar.{IsClass}
use Rattle.jvm_types.specs.ClassNames.{text_at, class_name, class_names}
use Rattle.jvm_types.specs.Members.{Entry}
use Rattle.jvm_types.specs.LinkFaults.{is_repeated, is_taken}
use Rattle.jvm_types.specs.declared.limits.TheConstants.{MOST_FILES}
use Rattle.jvm_types.specs.declared.class_file.Constant.{Constant}
use Rattle.jvm_types.specs.declared.class_file.Member.{Member as ClassMember}
use Rattle.jvm_types.specs.declared.class_file.ClassFile.{ClassFile}
use Rattle.link_scope.specs.declared.scope.Found.{Found}

-- the pool of a file, by its number
abbrev pub pool_of : Option ClassFile → List Constant
pool_of None = []
pool_of (Some c) = c.constants

abbrev pub pool_of_file : List ClassFile → ℕ → List Constant
pool_of_file files file = pool_of (slice_get files file)

-- the text of an index of the pool of a file
abbrev pub file_text : List ClassFile → ℕ → ℕ → List ℕ
file_text files file i = text_at (pool_of_file files file) i

-- what was found is the member of this name
abbrev pub IsFound : List ℕ → Option Found → Option Entry → Type 0
IsFound name None None = Unit {0}
IsFound name (Some f) (Some e) =
    (f.class ≡ e.class) × (f.flags ≡ e.flags) × (f.target ≡ e.target) × (e.name ≡ name)
IsFound name found entry = ⊥

-- at most 64 classes
pub record AreFiles (files : List ClassFile) : Type 0 where
  pub few : length files ≤ MOST_FILES
  pub classes : AllByRecursion IsClass files

-- one of some files: its number and its class
pub record FileOf : Type 0 where
  pub files : List ClassFile
  pub number : ℕ
  pub class : ClassFile

pub record IsFileOf (f : FileOf) : Type 0 where
  pub number : f.number < MOST_FILES
  pub here : slice_get f.files f.number ≡ Some f.class
  pub class : IsClass f.class

-- whether the field, or the method, of this number in its class has the name and the descriptor of
-- one before it
abbrev pub repeats : List Constant → List ClassMember → ℕ → Option ClassMember → Bool
repeats pool members number None = false
repeats pool members number (Some m) = is_repeated pool (take number members) m

-- whether the name of a file's class is that of an earlier file or of a built-in class
abbrev pub takes_name : List ClassFile → ℕ → Option ClassFile → Bool
takes_name files file None = false
takes_name files file (Some c) = is_taken (take file (class_names files)) (class_name c)
