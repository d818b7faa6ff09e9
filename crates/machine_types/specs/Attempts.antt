-- Attempts: while the lock word is as an attempt noted it, what is due of the attempt leads from
-- its entry to where its thread is now; a limit is no exception. So at the finish the section can
-- stand in the plain run as a whole.
use Rattle.std.specs.Prelude.{◌≡◌, ◌<◌, ℕ, List, [], Contains, Option, Some, None, slice_get}
use Rattle.std.specs.Prelude.{slice_index}
use Rattle.jvm_types.specs.ClassNames.{file_of_class}
use Rattle.jvm_types.specs.declared.outcome.End.{End}
use Rattle.jvm_types.specs.declared.program.FieldInfo.{FieldInfo}
use Rattle.checked_program.specs.FrozenPlaces.{IsFrozenField, IsFrozenStatic, IsGuardedField}
use Rattle.checked_program.specs.FrozenPlaces.{IsGuardedStatic}
use Rattle.checked_program.specs.OwnedArrays.{IsOwnedArrayField}
use Rattle.checked_program.specs.MarkedProgram.{MarkedProgram}
use Rattle.machine_types.specs.Core.{Core}
use Rattle.machine_types.specs.History.{Past, Told, past_at}
use Rattle.machine_types.specs.LockWords.{word_of_lock}
use Rattle.machine_types.specs.declared.lock.LockWord.TheVariants as locks
use Rattle.machine_types.specs.PlainMemory.{Object}
use Rattle.machine_types.specs.Threads.{Attempt, Thread}
use Rattle.machine_types.specs.declared.phase.Phase.{Phase}
use Rattle.machine_types.specs.declared.phase.Phase.TheVariants as phases
use Rattle.machine_types.specs.OwnedPlaces.{Stores, IsElementOf}
use Rattle.machine_types.specs.Words.{class_object, header_word, value_word}
use Rattle.jvm_types.specs.declared.fixed_words.TheConstants.{NEXT_FREE_WORD}
use Rattle.machine_types.specs.Replay.{replayed, at_entry, at_present}
use Rattle.machine_types.specs.Standing.{tags_of}
use Rattle.machine_types.specs.Worlds.{World, IsOwnOrFinished}

-- ---- places that no other thread changes while the monitor m is free, for a thread t

-- a field of an object that no other thread builds
pub record IsFieldAt (c : MarkedProgram) (objects : List Object) (w : World) (next t fi x : ℕ)
    (o : Object) : Type 0 where
  pub there : Contains objects o
  pub field : FieldInfo
  pub is : slice_get c.program.fields fi ≡ Some field
  pub of_class : o.class ≡ field.class
  pub known : IsOwnOrFinished w next t o.reference
  pub place : x ≡ value_word o.reference field.index

pub data Stays (c : MarkedProgram) (stores : Stores) (objects : List Object) (w : World)
    (next t m x : ℕ) : Type 0 where
  header : (o : Object) → Contains objects o → x ≡ header_word o.reference
      → Stays c stores objects w next t m x
  frozen : (fi : ℕ) (o : Object) → IsFrozenField c.program (tags_of c) fi
      → IsFieldAt c objects w next t fi x o → Stays c stores objects w next t m x
  guarded : (fi : ℕ) (o : Object) → IsGuardedField c.program (tags_of c) fi → o.reference ≡ m
      → IsFieldAt c objects w next t fi x o → Stays c stores objects w next t m x
  element : (fi : ℕ) (o : Object) → IsOwnedArrayField c.program (tags_of c) fi → Contains objects o
      → o.reference ≡ m → IsElementOf c stores objects fi o x → Stays c stores objects w next t m x
  frozen_static : (fi : ℕ) (k : IsFrozenStatic c.program fi) → x ≡ k.field.index
      → Stays c stores objects w next t m x
  guarded_static : (fi : ℕ) (k : IsGuardedStatic c.program (tags_of c) fi)
      → class_object c.program (file_of_class k.field.class) ≡ m → x ≡ k.field.index
      → Stays c stores objects w next t m x

-- ---- the fact

abbrev pub IsAsNoted : (words : List ℕ) → Attempt → Type 0
IsAsNoted words a = slice_index words a.monitor ≡ word_of_lock (locks.Free a.noted)

-- over every memory that has, on the places that stay, what the words have
abbrev pub IsLedToPresent : MarkedProgram → (Keeps : (x : ℕ) → Type 0) → (words : List ℕ)
    → (was : Phase) → Thread → Attempt → Past → Type 0
IsLedToPresent c Keeps words was s a d =
    IsAsNoted words a → (memory : ℕ → Option ℕ)
    → ((x : ℕ) → Keeps x → memory x ≡ Some (slice_index words x)) → (ended : List End)
    → replayed c.program a.monitor memory d.due (at_entry s a ended)
    ≡ Some (at_present s a was d.pending ended)

-- an element is read by an instruction that was begun
abbrev pub IsReadBegun : (was : Phase) → (begun : ℕ) → Type 0
IsReadBegun (phases.Element word stored) begun = 0 < begun
IsReadBegun was begun = Unit {0}

-- outside an attempt nothing is due
pub record OwesNothing (d : Past) : Type 0 where
  pub due : d.due ≡ []
  pub pending : d.pending ≡ 0

abbrev pub Owes : MarkedProgram → Stores → List Object → World → Core → (t : ℕ) → (was : Phase)
    → Thread → Option Attempt → Past → Type 0
Owes c stores objects w s t was x None d = OwesNothing d
Owes c stores objects w s t was x (Some a) d =
    IsReadBegun was d.pending
    × IsLedToPresent c (Stays c stores objects w (slice_index s.words NEXT_FREE_WORD) t a.monitor)
    s.words was x a d

pub record Attempts (c : MarkedProgram) (stores : Stores) (objects : List Object) (w : World)
    (was : ℕ → Phase) (told : Told) : Type 0 where
  pub each : (t : ℕ) (x : Thread) → slice_get told.core.threads t ≡ Some x
      → Owes c stores objects w told.core t (was t) x x.attempt (past_at told t)
