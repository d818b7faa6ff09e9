-- The worked runs: programs with settings and an order, and what each comes to.
use Rattle.std.specs.Prelude.{ℕ, pos, negsuc, Bool, true, false, List, [], ◌∷◌, ◌++◌, slice_set}
use Rattle.jvm_types.specs.declared.outcome.End.{End}
use Rattle.jvm_types.specs.declared.outcome.End.TheVariants as ends
use Rattle.jvm_types.specs.declared.outcome.Outcome.{Outcome}
use Rattle.jvm_types.specs.declared.outcome.ThreadReport.{ThreadReport}
use Rattle.jvm_types.specs.declared.outcome.Thrown.TheVariants as thrown
use Rattle.checked_program.specs.MarkedProgram.{MarkedProgram}
use Rattle.machine_types.specs.Core.{Core, start}
use Rattle.machine_types.specs.declared.config.Config.{Config}
use Rattle.machine_types.specs.PlainState.{Printed}
use Rattle.jvm_types.specs.declared.fixed_words.TheConstants.{NEXT_RECORD_WORD}
use Rattle.machine_plays.specs.Writing.{handler_row, thread_turns, usual, report, print_of}
use Rattle.machine_plays.specs.Writing.{printed_by}
use Rattle.machine_plays.specs.WorkedAlone.{add_and_print, add_and_print_twice, all_parts}
use Rattle.machine_plays.specs.WorkedAlone.{call_itself, catch_by_class, divide_by_zero}
use Rattle.machine_plays.specs.WorkedAlone.{index_and_throw, init_only, leaves_by_exception}
use Rattle.machine_plays.specs.WorkedAlone.{low_bit, make_array, measure_null, return_only}
use Rattle.machine_plays.specs.WorkedPairs.{synchronized_pair, counts_up, divides, make_and_set}
use Rattle.machine_plays.specs.WorkedPairs.{make_shared, shared, shared_and_done, twice, unlocked}
use Rattle.machine_plays.specs.WorkedClasses.{leaves_class_by_exception, shared_statics}
use Rattle.machine_plays.specs.WorkedClasses.{static_pair}
use Rattle.machine_plays.specs.WorkedWaits.{locks_out, spins, waiting_program, waits_deep}

-- its outcome, the prints of the plain machine in their order, how many events and parts it has,
-- and for how many plain steps it stands
pub record Result : Type 0 where
  pub outcome : Outcome
  pub prints : List Printed
  pub events : ℕ
  pub steps : ℕ

abbrev pub comes_to : List ThreadReport → (done : End) → List Printed → (events steps : ℕ) → Result
comes_to threads done prints events steps =
    record {
      outcome = record { threads = threads; done = done };
      prints = prints;
      events = events;
      steps = steps;
    }

pub record Run : Type 0 where
  pub program : MarkedProgram
  pub cfg : Config
  pub order : List ℕ
  -- the number of the next monitor record at the start
  pub first_record : ℕ
  -- whether agreement is looked at after each event, which takes most of the time
  pub looks : Bool
  pub result : Result

abbrev pub run_from : (first_record : ℕ) → MarkedProgram → Config → (order : List ℕ) → Result → Run
run_from first_record c cfg order result =
    record {
      program = c;
      cfg = cfg;
      order = order;
      first_record = first_record;
      looks = true;
      result = result;
    }

abbrev pub run : MarkedProgram → Config → (order : List ℕ) → Result → Run
run c cfg order result = run_from 0 c cfg order result

-- without a look at agreement
abbrev pub long_run : MarkedProgram → Config → (order : List ℕ) → Result → Run
long_run c cfg order result = record (run c cfg order result) { looks = false }

abbrev pub first_state : Run → Core
first_state r = with_record (start r.program r.cfg)
  where
    with_record : Core → Core
    with_record s = record s { words = slice_set s.words NEXT_RECORD_WORD r.first_record }

-- more events than any run here has
abbrev pub most_events : ℕ
most_events = 3000

-- ---- results that several runs share

-- 8 is printed three times
abbrev thrice_eight : (instructions elided locked events steps : ℕ) → Result
thrice_eight instructions elided locked events steps =
    comes_to (report ends.Returned
    (print_of 0 (pos 8) ∷ print_of 1 (pos 8) ∷ print_of 2 (pos 8) ∷ []) instructions elided 0
    locked 0 ∷ []) ends.Returned
    (printed_by 0 (pos 8) ∷ printed_by 0 (pos 8) ∷ printed_by 0 (pos 8) ∷ []) events steps

-- thread 1 reads what thread 2 has set, and `done` too
abbrev fought : (elided locked inflated events : ℕ) → Result
fought elided locked inflated events = comes_to
    (report ends.Returned (print_of 1 (pos 8) ∷ []) 25 elided 0 locked 0
    ∷ report ends.Returned (print_of 0 (pos 8) ∷ []) 20 0 0 1 0
    ∷ report ends.Returned [] 14 0 0 1 inflated ∷ [])
    ends.Returned (printed_by 1 (pos 8) ∷ printed_by 0 (pos 8) ∷ []) events 69

-- the only worker meets its limit of instructions
abbrev stopped : (instructions elided events steps : ℕ) → Result
stopped instructions elided events steps =
    comes_to
    (report ends.Returned [] 8 0 0 0 0 ∷ report ends.Steps [] instructions elided 0 0 0 ∷ [])
    ends.NotRun [] events steps

-- ---- one thread

-- 2 and 3 are added and printed.
abbrev pub one_prints : Run
one_prints = run (init_only 3 0 add_and_print []) usual []
    (comes_to (report ends.Returned (print_of 0 (pos 5) ∷ []) 6 0 0 0 0 ∷ []) ends.Returned
    (printed_by 0 (pos 5) ∷ []) 10 7)

-- An object, calls and fields, without a lock.
abbrev pub unlocked_prints : Run
unlocked_prints = run unlocked usual [] (thrice_eight 48 0 0 53 49)

-- A synchronized method takes the lock once, and three sections are elided.
abbrev pub alone_elides : Run
alone_elides = run synchronized_pair usual [] (thrice_eight 66 3 1 80 75)

-- All four take the lock.
abbrev pub alone_locks : Run
alone_locks = run synchronized_pair (record usual { elide = false }) [] (thrice_eight 66 0 4 83 75)

-- The first release makes the count the last one.
abbrev pub alone_ends_at_one : Run
alone_ends_at_one =
    run synchronized_pair (record usual { range = 1 }) [] (thrice_eight 66 0 4 86 75)

-- The count is below the last one.
abbrev pub alone_ends_at_two : Run
alone_ends_at_two =
    run synchronized_pair (record usual { range = 2 }) [] (thrice_eight 66 3 1 80 75)

-- An elided section enters its monitor twice again.
abbrev pub twice_elides : Run
twice_elides = run twice usual []
    (comes_to (report ends.Returned (print_of 0 (pos 16) ∷ []) 52 1 0 1 0 ∷ []) ends.Returned
    (printed_by 0 (pos 16) ∷ []) 66 61)

-- Three roots, in two parts.
abbrev pub all_parts_run : Run
all_parts_run = run all_parts usual []
    (comes_to (report ends.Returned
    (print_of 0 (pos 1) ∷ print_of 1 (pos 2) ∷ print_of 2 (pos 3) ∷ []) 12 0 0 0 0 ∷ [])
    ends.Returned (printed_by 0 (pos 1) ∷ printed_by 0 (pos 2) ∷ printed_by 0 (pos 3) ∷ []) 19
    15)

-- A field of type Z keeps the low bit.
abbrev pub low_bit_is_kept : Run
low_bit_is_kept = run low_bit usual []
    (comes_to (report ends.Returned (print_of 0 (pos 1) ∷ []) 6 0 0 0 0 ∷ []) ends.Returned
    (printed_by 0 (pos 1) ∷ []) 10 7)

-- ---- sections without their lock that see one field set and the other not

-- The first attempt fails at its end, the second one sees both.
abbrev pub torn_tries_again : Run
torn_tries_again =
    run (shared 2) usual
    (thread_turns 13 1 ++ thread_turns 12 2 ++ thread_turns 3 1 ++ thread_turns 7 2)
    (comes_to (report ends.Returned [] 8 0 0 0 0
    ∷ report ends.Returned (print_of 0 (pos 8) ∷ []) 27 1 1 0 0
    ∷ report ends.Returned [] 14 0 0 1 0 ∷ []) ends.Returned (printed_by 1 (pos 8) ∷ []) 65 49)

-- After two attempts that failed the lock is taken.
abbrev pub torn_twice_locks : Run
torn_twice_locks =
    run (shared 3) usual
    (thread_turns 13 1 ++ thread_turns 19 2 ++ thread_turns 8 1 ++ thread_turns 19 3)
    (comes_to (report ends.Returned [] 8 0 0 0 0
    ∷ report ends.Returned (print_of 0 (pos 8) ∷ []) 34 0 2 1 0
    ∷ report ends.Returned [] 14 0 0 1 0 ∷ report ends.Returned [] 14 0 0 1 0 ∷ [])
    ends.Returned (printed_by 1 (pos 8) ∷ []) 94 66)

-- An attempt divides by 0 in a torn view, and fails at the check of its exception.
abbrev pub torn_divides : Run
torn_divides =
    run (divides 2 make_and_set) usual
    (thread_turns 12 1 ++ thread_turns 12 2 ++ thread_turns 7 1 ++ thread_turns 9 2)
    (comes_to (report ends.Returned [] 20 0 0 1 0
    ∷ report ends.Returned (print_of 0 (pos 10) ∷ []) 29 1 1 0 0
    ∷ report ends.Returned [] 16 0 0 1 0 ∷ []) ends.Returned (printed_by 1 (pos 10) ∷ []) 84 67)

-- An attempt would count for long, and fails at the check of its first jump back.
abbrev pub torn_counts : Run
torn_counts =
    run counts_up usual
    (thread_turns 12 1 ++ thread_turns 12 2 ++ thread_turns 8 1 ++ thread_turns 9 2)
    (comes_to (report ends.Returned [] 20 0 0 1 0
    ∷ report ends.Returned (print_of 0 (pos 11) ∷ []) 38 1 1 0 0
    ∷ report ends.Returned [] 16 0 0 1 0 ∷ []) ends.Returned (printed_by 1 (pos 11) ∷ []) 92 74)

-- With locks in the same order, the reader comes first.
abbrev pub locked_is_not_torn : Run
locked_is_not_torn =
    run (shared 2) (record usual { elide = false })
    (thread_turns 13 1 ++ thread_turns 12 2 ++ thread_turns 3 1 ++ thread_turns 7 2)
    (comes_to (report ends.Returned [] 8 0 0 0 0
    ∷ report ends.Returned (print_of 0 (pos 0) ∷ []) 20 0 0 1 0
    ∷ report ends.Returned [] 14 0 0 1 0 ∷ []) ends.Returned (printed_by 1 (pos 0) ∷ []) 73 49)

-- ---- a thread that fails so many turns that it flags the lock

-- The lock is made fat when it is left.
abbrev pub fought_grows : Run
fought_grows =
    run shared_and_done usual (thread_turns 9 2 ++ thread_turns 77 1 ++ thread_turns 14 2)
    (fought 0 1 1 150)

-- The same without elision.
abbrev pub fought_grows_locked : Run
fought_grows_locked =
    run shared_and_done (record usual { elide = false })
    (thread_turns 9 2 ++ thread_turns 77 1 ++ thread_turns 14 2) (fought 0 1 1 149)

-- No record is left.
abbrev pub fought_stays_flat : Run
fought_stays_flat =
    run_from 1024 shared_and_done (record usual { turns = 90 })
    (thread_turns 9 2 ++ thread_turns 77 1 ++ thread_turns 14 2) (fought 1 0 0 146)

-- No record is left, and the count is made the last one.
abbrev pub fought_stays_flat_at_one : Run
fought_stays_flat_at_one =
    run_from 1024 shared_and_done (record usual { turns = 90; range = 1 })
    (thread_turns 9 2 ++ thread_turns 77 1 ++ thread_turns 14 2)
    (fought 0 1 0 148)

-- The other thread looks while the owner of the record is stored, and the lock word not yet.
abbrev pub fought_grows_slowly : Run
fought_grows_slowly =
    run shared_and_done usual (thread_turns 9 2 ++ thread_turns 77 1 ++ thread_turns 10 2
    ++ thread_turns 3 1 ++ thread_turns 4 2) (fought 0 1 1 153)

-- ---- threads that wait and are notified

-- Two threads wait and are woken one by one; `done` notifies without the monitor.
abbrev pub waiters_wake : Run
waiters_wake =
    run (waiting_program 3) usual
    (thread_turns 40 1 ++ thread_turns 40 2 ++ thread_turns 14 3 ++ thread_turns 40 1)
    (comes_to (report ends.Returned [] 10 0 0 0 0
    ∷ report ends.Returned (print_of 0 (pos 1) ∷ []) 13 0 0 1 1
    ∷ report ends.Returned (print_of 1 (pos 2) ∷ []) 13 0 0 1 0
    ∷ report ends.Returned [] 14 0 0 2 0 ∷ [])
    (ends.Uncaught thrown.IllegalMonitorStateException)
    (printed_by 1 (pos 1) ∷ printed_by 2 (pos 2) ∷ []) 151 70)

-- They wait two entries deep; the last notification wakes all that are left.
abbrev pub deep_waiters_wake : Run
deep_waiters_wake =
    run waits_deep (record usual { turns = 100 })
    (thread_turns 40 1 ++ thread_turns 40 2 ++ thread_turns 60 3)
    (comes_to (report ends.Returned [] 8 0 0 0 0
    ∷ report ends.Returned (print_of 0 (pos 1) ∷ []) 17 0 0 1 1
    ∷ report ends.Returned (print_of 1 (pos 2) ∷ []) 17 0 0 1 0
    ∷ report ends.Returned [] 13 0 0 1 0 ∷ []) ends.Returned
    (printed_by 1 (pos 1) ∷ printed_by 2 (pos 2) ∷ []) 143 76)

-- The first wait finds no record, and the others turn at its lock.
abbrev pub no_record_to_wait : Run
no_record_to_wait =
    run_from 1024 (waiting_program 3) (record usual { turns = 20 })
    (thread_turns 40 1 ++ thread_turns 40 2 ++ thread_turns 14 3 ++ thread_turns 40 1)
    (comes_to (report ends.Returned [] 8 0 0 0 0 ∷ report ends.Records [] 8 0 0 1 0
    ∷ report ends.Turns [] 6 0 0 0 0 ∷ report ends.Turns [] 5 0 0 0 0 ∷ []) ends.NotRun [] 80
    32)

-- The first wait finds the last record, and nobody notifies.
abbrev pub last_record_to_wait : Run
last_record_to_wait =
    run_from 1023 (waiting_program 2) (record usual { turns = 30 })
    (thread_turns 40 1 ++ thread_turns 40 2)
    (comes_to (report ends.Returned [] 8 0 0 0 0 ∷ report ends.Turns [] 8 0 0 1 1
    ∷ report ends.Turns [] 8 0 0 1 0 ∷ []) ends.NotRun [] 103 31)

-- The second notification finds no thread that waits.
abbrev pub nobody_left_to_notify : Run
nobody_left_to_notify =
    run (waiting_program 3) (record usual { turns = 30 })
    (thread_turns 40 1 ++ thread_turns 40 3 ++ thread_turns 40 2)
    (comes_to (report ends.Returned [] 8 0 0 0 0
    ∷ report ends.Returned (print_of 0 (pos 1) ∷ []) 13 0 0 1 1 ∷ report ends.Turns [] 8 0 0 1 0
    ∷ report ends.Returned [] 14 0 0 2 0 ∷ []) ends.NotRun (printed_by 1 (pos 1) ∷ []) 130 59)

-- On a flat lock nobody waits yet.
abbrev pub flat_notifications : Run
flat_notifications =
    run waits_deep (record usual { turns = 30 })
    (thread_turns 60 3 ++ thread_turns 40 1 ++ thread_turns 40 2)
    (comes_to (report ends.Returned [] 8 0 0 0 0 ∷ report ends.Turns [] 11 0 0 1 1
    ∷ report ends.Turns [] 11 0 0 1 0 ∷ report ends.Returned [] 13 0 0 1 0 ∷ []) ends.NotRun []
    129 58)

-- Turns begin anew with each entry and each wait: none of them fails five in a row, and two
-- together would.
abbrev pub turns_begin_anew : Run
turns_begin_anew =
    run (waiting_program 3) (record usual { turns = 5 }) (thread_turns 9 1 ++ thread_turns 9 3
    ++ thread_turns 7 1 ++ thread_turns 2 3 ++ thread_turns 11 2 ++ thread_turns 6 3
    ++ thread_turns 8 2 ++ thread_turns 2 1 ++ thread_turns 6 3 ++ thread_turns 7 1
    ++ thread_turns 9 3 ++ thread_turns 9 2)
    (comes_to (report ends.Returned [] 10 0 0 0 0
    ∷ report ends.Returned (print_of 0 (pos 1) ∷ []) 13 0 0 1 1
    ∷ report ends.Returned (print_of 1 (pos 2) ∷ []) 13 0 0 1 0
    ∷ report ends.Returned [] 14 0 0 2 0 ∷ [])
    (ends.Uncaught thrown.IllegalMonitorStateException)
    (printed_by 1 (pos 1) ∷ printed_by 2 (pos 2) ∷ []) 103 70)

-- ---- exceptions, caught and not

-- A division by 0 that nothing catches.
abbrev pub division_throws : Run
division_throws = run (init_only 2 0 divide_by_zero []) usual []
    (comes_to (report (ends.Uncaught thrown.ArithmeticException) [] 3 0 0 0 0 ∷ []) ends.NotRun [] 6
    5)

-- A section without its lock that throws in a view that is not torn.
abbrev pub section_throws : Run
section_throws = run (divides 1 make_shared) usual []
    (comes_to (report ends.Returned [] 8 0 0 0 0
    ∷ report (ends.Uncaught thrown.ArithmeticException) [] 22 1 0 0 0 ∷ []) ends.Returned [] 42
    37)

-- An index out of range, which is caught, and an exception that the program made, which is not.
abbrev pub elements_throw : Run
elements_throw = run (init_only 4 1 index_and_throw (handler_row 4 22 23 0 ∷ [])) usual []
    (comes_to (report (ends.Uncaught thrown.Exception)
    (print_of 0 (pos 7) ∷ print_of 1 (pos 3) ∷ []) 24 0 0 0 0 ∷ []) ends.NotRun
    (printed_by 0 (pos 7) ∷ printed_by 0 (pos 3) ∷ []) 32 27)

-- The 257th frame has no room.
abbrev pub calls_overflow : Run
calls_overflow = long_run (init_only 0 0 call_itself []) usual []
    (comes_to (report (ends.Uncaught thrown.StackOverflowError) [] 256 0 0 0 0 ∷ []) ends.NotRun []
    514 513)

-- The first frame has no room.
abbrev pub root_overflows : Run
root_overflows = long_run (init_only 0 16385 return_only []) usual []
    (comes_to (report (ends.Uncaught thrown.StackOverflowError) [] 0 0 0 0 0 ∷ []) ends.NotRun [] 2
    1)

-- The length of null.
abbrev pub null_throws : Run
null_throws = run (init_only 1 0 measure_null []) usual []
    (comes_to (report (ends.Uncaught thrown.NullPointerException) [] 2 0 0 0 0 ∷ []) ends.NotRun []
    5 4)

-- The first row is for another class.
abbrev pub second_row_catches : Run
second_row_catches =
    run (init_only 2 0 catch_by_class (handler_row 0 4 4 14 ∷ handler_row 0 4 5 5 ∷ [])) usual []
    (comes_to (report ends.Returned (print_of 0 (pos 4) ∷ []) 8 0 0 0 0 ∷ []) ends.Returned
    (printed_by 0 (pos 4) ∷ []) 13 10)

-- An exception leaves a section that has no lock.
abbrev pub section_is_left_elided : Run
section_is_left_elided = run leaves_by_exception usual []
    (comes_to (report (ends.Uncaught thrown.ArithmeticException) [] 10 1 0 0 0 ∷ []) ends.NotRun []
    17 15)

-- The same with the lock.
abbrev pub section_is_left_locked : Run
section_is_left_locked = run leaves_by_exception (record usual { elide = false }) []
    (comes_to (report (ends.Uncaught thrown.ArithmeticException) [] 10 0 0 1 0 ∷ []) ends.NotRun []
    18 15)

-- ---- static synchronized methods, which are sections on their class

-- The setter takes the lock of the class, and the reader's section is elided.
abbrev pub class_is_elided : Run
class_is_elided = run static_pair usual []
    (comes_to (report ends.Returned (print_of 0 (pos 8) ∷ []) 15 1 0 1 0 ∷ []) ends.Returned
    (printed_by 0 (pos 8) ∷ []) 24 20)

-- Both take the lock.
abbrev pub class_is_locked : Run
class_is_locked = run static_pair (record usual { elide = false }) []
    (comes_to (report ends.Returned (print_of 0 (pos 8) ∷ []) 15 0 0 2 0 ∷ []) ends.Returned
    (printed_by 0 (pos 8) ∷ []) 25 20)

-- One field is read before it is set and the other behind it: the attempt fails at its end, and the
-- second one sees both set.
abbrev pub class_is_torn : Run
class_is_torn = run (shared_statics 2) usual (thread_turns 8 1 ++ thread_turns 14 2)
    (comes_to (report ends.Returned [] 0 0 0 0 0
    ∷ report ends.Returned (print_of 0 (pos 8) ∷ []) 16 1 1 0 0
    ∷ report ends.Returned [] 11 0 0 1 0 ∷ []) ends.Returned (printed_by 1 (pos 8) ∷ []) 40 29)

-- An exception leaves a section that has no lock.
abbrev pub class_is_left_elided : Run
class_is_left_elided = run leaves_class_by_exception usual []
    (comes_to (report (ends.Uncaught thrown.ArithmeticException) [] 4 1 0 0 0 ∷ []) ends.NotRun []
    10 9)

-- The same with the lock.
abbrev pub class_is_left_locked : Run
class_is_left_locked = run leaves_class_by_exception (record usual { elide = false }) []
    (comes_to (report (ends.Uncaught thrown.ArithmeticException) [] 4 0 0 1 0 ∷ []) ends.NotRun []
    11 9)

-- ---- limits of instructions, failed turns and prints

-- The sixth instruction would be one too many.
abbrev pub five_steps : Run
five_steps = run (init_only 3 0 add_and_print []) (record usual { steps = 5 }) []
    (comes_to (report ends.Steps (print_of 0 (pos 5) ∷ []) 5 0 0 0 0 ∷ []) ends.NotRun
    (printed_by 0 (pos 5) ∷ []) 7 6)

-- The sixth is the last one.
abbrev pub six_steps : Run
six_steps = run (init_only 3 0 add_and_print []) (record usual { steps = 6 }) []
    (comes_to (report ends.Returned (print_of 0 (pos 5) ∷ []) 6 0 0 0 0 ∷ []) ends.Returned
    (printed_by 0 (pos 5) ∷ []) 10 7)

-- The limit ends an attempt, which stands for nothing.
abbrev pub steps_in_attempt : Run
steps_in_attempt = run (shared 1) (record usual { steps = 12 }) [] (stopped 12 0 27 20)

-- The limit comes behind an elided section.
abbrev pub steps_after_attempt : Run
steps_after_attempt = run (shared 1) (record usual { steps = 17 }) [] (stopped 17 1 33 29)

-- There are just as many instructions.
abbrev pub steps_enough : Run
steps_enough = run (shared 1) (record usual { steps = 20 }) []
    (comes_to (report ends.Returned [] 8 0 0 0 0
    ∷ report ends.Returned (print_of 0 (pos 0) ∷ []) 20 1 0 0 0 ∷ []) ends.Returned
    (printed_by 1 (pos 0) ∷ []) 37 32)

-- The first failed turn is the last one.
abbrev pub one_turn : Run
one_turn = run (shared 2) (record usual { turns = 1 }) []
    (comes_to (report ends.Returned [] 8 0 0 0 0 ∷ report ends.Turns [] 10 0 0 0 0
    ∷ report ends.Returned [] 14 0 0 1 0 ∷ []) ends.NotRun [] 45 37)

-- Each of two threads holds the monitor that the other one wants.
abbrev pub locked_out : Run
locked_out = long_run locks_out (record usual { turns = 1000 }) []
    (comes_to (report ends.Returned [] 9 0 0 0 0 ∷ report ends.Turns [] 11 0 0 1 0
    ∷ report ends.Turns [] 11 0 0 1 0 ∷ []) ends.NotRun [] 2046 36)

-- The second print is one too many.
abbrev pub one_print : Run
one_print = run (init_only 3 0 add_and_print_twice []) (record usual { prints = 1 }) []
    (comes_to (report ends.Prints (print_of 0 (pos 5) ∷ []) 10 0 0 0 0 ∷ []) ends.NotRun
    (printed_by 0 (pos 5) ∷ []) 12 10)

-- Two threads spin until the other one has written.
abbrev pub spinning_ends : Run
spinning_ends = long_run spins (record usual { steps = 1000 }) []
    (comes_to (report ends.Returned [] 0 0 0 0 0 ∷ report ends.Returned [] 12 0 0 0 0
    ∷ report ends.Returned [] 10 0 0 0 0 ∷ []) ends.Returned [] 28 24)

-- ---- new arrays

-- The heap has room for just 2,024 elements.
abbrev pub array_fits : Run
array_fits = long_run (init_only 4 1 (make_array (pos 2024)) []) usual []
    (comes_to (report ends.Returned (print_of 0 (pos 2024) ∷ []) 6 0 0 0 0 ∷ []) ends.Returned
    (printed_by 0 (pos 2024) ∷ []) 11 7)

-- One more has no room.
abbrev pub array_is_too_long : Run
array_is_too_long = run (init_only 4 1 (make_array (pos 2025)) []) usual []
    (comes_to (report (ends.Uncaught thrown.OutOfMemoryError) [] 3 0 0 0 0 ∷ []) ends.NotRun [] 6 5)

-- An array may be empty.
abbrev pub array_is_empty : Run
array_is_empty = run (init_only 4 1 (make_array (pos 0)) []) usual []
    (comes_to (report ends.Returned (print_of 0 (pos 0) ∷ []) 6 0 0 0 0 ∷ []) ends.Returned
    (printed_by 0 (pos 0) ∷ []) 11 7)

-- A length below 0.
abbrev pub array_is_negative : Run
array_is_negative = run (init_only 4 1 (make_array (negsuc 0)) []) usual []
    (comes_to (report (ends.Uncaught thrown.NegativeArraySizeException) [] 3 0 0 0 0 ∷ [])
    ends.NotRun [] 6 5)

-- A length beyond the heap is not tried.
abbrev pub array_is_beyond : Run
array_is_beyond = run (init_only 4 1 (make_array (pos 2147483647)) []) usual []
    (comes_to (report (ends.Uncaught thrown.OutOfMemoryError) [] 3 0 0 0 0 ∷ []) ends.NotRun [] 6 5)
