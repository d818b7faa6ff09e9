-- Members by the numbers of their names and descriptors.
use Rattle.std.specs.Prelude.{◌≡◌, ℕ, ◌<◌, Bool, false, List, [], ◌++◌, Option, Some, None}
use Rattle.std.specs.Prelude.{slice_get, if◌then◌else◌}
use Rattle.std.specs.Option.{unwrap_or, option_or}
use Rattle.jvm_types.specs.declared.class_numbers.TheConstants.{OBJECT_CLASS}
use Rattle.std.specs.List.{AllByRecursion}
use Rattle.jvm_types.specs.ClassNames.{text_at, file_class}
use Rattle.jvm_types.specs.Members.{Entry, built_in_fields, built_in_methods, declared_from}
use Rattle.jvm_types.specs.Members.{declared_by, entries_from, member_in}
use Rattle.jvm_types.specs.declared.class_file.Constant.{Constant}
use Rattle.jvm_types.specs.declared.class_file.Member.{Member as ClassMember}
use Rattle.jvm_types.specs.declared.class_file.ClassFile.{ClassFile}
use Rattle.jvm_types.specs.declared.program.Target.{Target}
use Rattle.jvm_types.specs.declared.program.Target.TheVariants as targets
use Rattle.link_scope.specs.Scoping.{IsFound, AreFiles, repeats}
use Rattle.link_scope.specs.TextNumbers.{IsNumbered}
use Rattle.link_scope.specs.Keys.{found_at}
use Rattle.link_scope.specs.declared.table.Key.{Key}
use Rattle.link_scope.specs.declared.scope.Found.{Found}
use Rattle.link_scope.specs.declared.members.Members.{Members}
use Rattle.link_scope.specs.declared.members.Sort.{Sort}
use Rattle.link_scope.specs.declared.members.Sort.TheVariants.{Fields, Methods}

-- ---- fields, or methods

abbrev pub members_of : Sort → ClassFile → List ClassMember
members_of Fields c = c.fields
members_of Methods c = c.methods

abbrev pub target_of_sort : Sort → ℕ → Target
target_of_sort Fields number = targets.Field number
target_of_sort Methods number = targets.Method number

abbrev pub built_in : Sort → List Entry
built_in Fields = built_in_fields
built_in Methods = built_in_methods

-- the members of some files, behind the built-in ones
abbrev pub entries_of : Sort → List ClassFile → List Entry
entries_of sort files =
    built_in sort ++ entries_from (target_of_sort sort) 0 (declared_by (members_of sort) 0 files)

-- whether the member of this number of a file has the name and the descriptor of one before it in
-- its class
abbrev pub repeats_of : Sort → Option ClassFile → ℕ → Bool
repeats_of sort None number = false
repeats_of sort (Some c) number =
    repeats c.constants (members_of sort c) number (slice_get (members_of sort c) number)

-- ---- tables

-- the table has at the numbers of a name and of a descriptor the member that they name among the
-- entries
abbrev pub HasEntries : List (List ℕ × ℕ) → List Entry → List (Key × Found) → Type 0
HasEntries numbers entries table =
    (class : ℕ) (name descriptor : List ℕ) (n d : ℕ) → IsNumbered numbers name n
    → IsNumbered numbers descriptor d
    → IsFound name (found_at table (record { class = class; name = n; descriptor = d }))
    (member_in entries class name descriptor)

-- the table has these entries behind those that it had before
abbrev pub Adds : List (List ℕ × ℕ) → List (Key × Found) → List (Key × Found) → List Entry → Type 0
Adds numbers old new added =
    (entries : List Entry) → HasEntries numbers entries old
    → HasEntries numbers (entries ++ added) new

-- ---- rows of answers

-- what stands in a row, where nothing stands for no
abbrev pub in_flags : List Bool → ℕ → Bool
in_flags row i = unwrap_or (slice_get row i) false

abbrev pub in_flag_rows : List (List Bool) → ℕ → ℕ → Bool
in_flag_rows rows file i = in_flags (unwrap_or (slice_get rows file) []) i

-- whether each member of a class has the name and the descriptor of one before it
abbrev pub AreRepeats : List Constant → List ClassMember → List Bool → Type 0
AreRepeats pool members flags =
    (i : ℕ) → in_flags flags i ≡ repeats pool members i (slice_get members i)

-- ---- the members of a class

-- a member of the class of a file, as an entry
abbrev pub member_entry : List Constant → ℕ → ClassMember → Target → Entry
member_entry pool file m target =
    record {
      class = file_class file;
      name = text_at pool m.name;
      descriptor = text_at pool m.descriptor;
      flags = m.flags;
      target = target;
    }

-- the members of the class of a file, numbered from one on
abbrev pub class_entries : Sort → ℕ → ClassFile → ℕ → List Entry
class_entries sort file c first =
    entries_from (target_of_sort sort) first (declared_from file c.constants 0 (members_of sort c))

-- every entry is of a class with a lower number
abbrev pub AreBelow : ℕ → List Entry → Type 0
AreBelow class entries = AllByRecursion (λ e. e.class < class) entries

-- ---- all members of a sort

-- the table has the members of the files and the built-in ones, and each class its row of answers
pub record AreMembers (sort : Sort) (files : List ClassFile) (numbers : List (List ℕ × ℕ))
    (members : Members) : Type 0 where
  pub shown : HasEntries numbers (entries_of sort files) members.table
  pub repeated : (file number : ℕ)
      → in_flag_rows members.repeated file number ≡ repeats_of sort (slice_get files file) number

-- the member with a key, or else that of Object with its name and descriptor, which no `<init>` is
-- looked for in
abbrev pub found_in : List (Key × Found) → Key → Bool → Option Found
found_in table key is_init =
    option_or (found_at table key)
    (if is_init then None else found_at table (record key { class = OBJECT_CLASS }))

-- the files are classes, and their fields and methods stand in their tables
pub record AreScoped (files : List ClassFile) (numbers : List (List ℕ × ℕ))
    (field_table method_table : Members) : Type 0 where
  pub are_files : AreFiles files
  pub fields : AreMembers Fields files numbers field_table
  pub methods : AreMembers Methods files numbers method_table
