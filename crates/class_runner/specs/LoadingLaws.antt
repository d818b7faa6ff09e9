-- Laws of loading: what files are loaded to, and which rule refuses them where, is known by the
-- files alone, and every list of files is either accepted or refused.
use Rattle.std.specs.Prelude.{◌≡◌, ◌⊎◌, ℕ, ◌<◌, ◌≤◌, List, length}
use Rattle.std.specs.List.{AllByRecursion}
use Rattle.jvm_types.specs.ClassGrammar.{IsByte}
use Rattle.checked_program.specs.MarkedProgram.{MarkedProgram}
use Rattle.jvm_types.specs.declared.limits.TheConstants.{LEAST_HEAP, MOST_FILES, MOST_HEAP}
use Rattle.jvm_types.specs.declared.limits.TheConstants.{MOST_WORKERS}
use Rattle.jvm_types.specs.declared.refusal.Rule.{Rule}
use Rattle.jvm_types.specs.declared.refusal.Place.{Place}
use Rattle.class_runner.specs.Loading.{IsLoaded, IsAccepted, IsRefusedBy}

-- files are loaded to one program
abbrev pub OneLoading : Type 0
OneLoading =
    (files : List (List ℕ)) (heap workers : ℕ) (c d : MarkedProgram) → IsLoaded files heap workers c
    → IsLoaded files heap workers d → c ≡ d

-- files are refused by one rule, at one place
abbrev pub FilesHaveOneRefusal : Type 0
FilesHaveOneRefusal =
    (files : List (List ℕ)) (heap workers : ℕ) (rule other : Rule) (place at : Place)
    → IsRefusedBy files heap workers rule place → IsRefusedBy files heap workers other at
    → (rule ≡ other) × (place ≡ at)

-- no files that are accepted are refused; what is loaded is accepted
abbrev pub AcceptedNotRefused : Type 0
AcceptedNotRefused =
    (files : List (List ℕ)) (heap workers : ℕ) (rule : Rule) (place : Place)
    → IsAccepted files heap workers → IsRefusedBy files heap workers rule place → ⊥

abbrev pub LoadedAccepted : Type 0
LoadedAccepted =
    (files : List (List ℕ)) (heap workers : ℕ) (c : MarkedProgram) → IsLoaded files heap workers c
    → IsAccepted files heap workers

-- from 1 to 64 files of bytes, and numbers inside the limits of the machine
pub record IsLoadable (files : List (List ℕ)) (heap workers : ℕ) : Type 0 where
  pub bytes : AllByRecursion (AllByRecursion IsByte) files
  pub some_file : 0 < length files
  pub few_files : length files ≤ MOST_FILES
  pub few_workers : workers ≤ MOST_WORKERS
  pub heap_from : LEAST_HEAP ≤ heap
  pub heap_to : heap ≤ MOST_HEAP

-- they are accepted, or a rule refuses them
abbrev pub AcceptedOrRefused : Type 0
AcceptedOrRefused =
    (files : List (List ℕ)) (heap workers : ℕ) → IsLoadable files heap workers
    → IsAccepted files heap workers
    ⊎ ((rule : Rule) × (place : Place) × IsRefusedBy files heap workers rule place)
