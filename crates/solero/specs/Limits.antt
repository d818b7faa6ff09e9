-- Limits, usual values and other constants by number, as docs/SUBSET.md and the table of options in
-- the README have them. The other definitions name them by the constants of the code, so they say
-- what these numbers make of them.
use Rattle.std.specs.Prelude.{◌≡◌}
use Rattle.cell_runner.specs.declared.running.TheConstants.{MOST_ROUNDS}
use Rattle.command_words.specs.Limits.{AreOptionsStated}
use Rattle.jvm_types.specs.declared.class_file.TheConstants.{MAGIC, TEXT_BYTES_END}
use Rattle.jvm_types.specs.declared.class_numbers.TheConstants.{CLASS_ITSELF, FIRST_FILE_CLASS}
use Rattle.jvm_types.specs.declared.class_numbers.TheConstants.{INT_ARRAY_CLASS, OBJECT_CLASS}
use Rattle.jvm_types.specs.declared.class_numbers.TheConstants.{PRINT_STREAM_CLASS, SYSTEM_CLASS}
use Rattle.jvm_types.specs.declared.class_numbers.TheConstants.{THROWABLES, THROWABLE_CLASS}
use Rattle.jvm_types.specs.declared.fixed_words.TheConstants.{FIRST_CLASS_WORD, FIRST_READY_WORD}
use Rattle.jvm_types.specs.declared.fixed_words.TheConstants.{FIRST_RECORD_WORD, HEADER_CLASSES}
use Rattle.jvm_types.specs.declared.fixed_words.TheConstants.{MONITOR_RECORDS, NEXT_FREE_WORD}
use Rattle.jvm_types.specs.declared.fixed_words.TheConstants.{NEXT_RECORD_WORD, NEXT_TICKET_WORD}
use Rattle.jvm_types.specs.declared.fixed_words.TheConstants.{OBJECT_HEAD_WORDS, READY_OBJECTS}
use Rattle.jvm_types.specs.declared.flags.TheConstants.{ABSTRACT, FINAL, INTERFACE, NATIVE, PRIVATE}
use Rattle.jvm_types.specs.declared.flags.TheConstants.{PUBLIC, STATIC, SYNCHRONIZED}
use Rattle.jvm_types.specs.declared.limits.TheConstants.{FIRST_VERSION, FLAG_FROM, LAST_VERSION}
use Rattle.jvm_types.specs.declared.limits.TheConstants.{LEAST_HEAP, MOST_ATTEMPTS, MOST_CODE_BYTES}
use Rattle.jvm_types.specs.declared.limits.TheConstants.{MOST_COUNTED, MOST_FILES, MOST_FILE_BYTES}
use Rattle.jvm_types.specs.declared.limits.TheConstants.{MOST_FRAMES, MOST_HEAP, MOST_INSTRUCTIONS}
use Rattle.jvm_types.specs.declared.limits.TheConstants.{MOST_LIMIT, MOST_METHODS, MOST_PRINTS}
use Rattle.jvm_types.specs.declared.limits.TheConstants.{MOST_SLOTS, MOST_WORKERS}
use Rattle.jvm_types.specs.declared.refusal.TheConstants.{NO_METHOD}
use Rattle.load_classes.specs.declared.limits.TheConstants.{MOST_METHODS as MOST_METHODS_OF_LOAD}
use Rattle.record_run.specs.declared.recording.TheConstants.{MOST_EVENTS}

-- ---- class files (JVMS 4)

pub record FileNumbers : Type 0 where
  pub files : MOST_FILES ≡ 64
  pub bytes : MOST_FILE_BYTES ≡ 1048576
  pub magic : MAGIC ≡ 0xCAFEBABE
  pub first_version : FIRST_VERSION ≡ 45
  pub last_version : LAST_VERSION ≡ 50
  pub text_bytes_end : TEXT_BYTES_END ≡ 0xF0
  pub counted : MOST_COUNTED ≡ 65535
  pub code_bytes : MOST_CODE_BYTES ≡ 65535
  pub methods : MOST_METHODS ≡ 4194240
  pub instructions : MOST_INSTRUCTIONS ≡ 67108864
  pub no_method : NO_METHOD ≡ 65535

-- JVMS, tables 4.1, 4.4 and 4.5
pub record FlagNumbers : Type 0 where
  pub of_public : PUBLIC ≡ 0x1
  pub of_private : PRIVATE ≡ 0x2
  pub of_static : STATIC ≡ 0x8
  pub of_final : FINAL ≡ 0x10
  pub of_synchronized : SYNCHRONIZED ≡ 0x20
  pub of_native : NATIVE ≡ 0x100
  pub of_interface : INTERFACE ≡ 0x200
  pub of_abstract : ABSTRACT ≡ 0x400

-- ---- the machine

pub record MachineNumbers : Type 0 where
  pub workers : MOST_WORKERS ≡ 8
  pub frames : MOST_FRAMES ≡ 256
  pub slots : MOST_SLOTS ≡ 16384
  pub least_heap : LEAST_HEAP ≡ 4096
  pub most_heap : MOST_HEAP ≡ 1048576
  pub records : MONITOR_RECORDS ≡ 1024
  pub attempts : MOST_ATTEMPTS ≡ 2
  pub flag_from : FLAG_FROM ≡ 64
  -- of instructions, of failed turns, and of the counts of a lock word
  pub limit : MOST_LIMIT ≡ 4294967295
  pub prints : MOST_PRINTS ≡ 1048576

-- the words that threads share, before those of the classes, and what a header is made of
pub record WordNumbers : Type 0 where
  pub next_free : NEXT_FREE_WORD ≡ 1
  pub next_ticket : NEXT_TICKET_WORD ≡ 2
  pub next_record : NEXT_RECORD_WORD ≡ 3
  pub first_record : FIRST_RECORD_WORD ≡ 4
  pub first_ready : FIRST_READY_WORD ≡ 2052
  pub ready : READY_OBJECTS ≡ 8
  pub first_class : FIRST_CLASS_WORD ≡ 2068
  pub head : OBJECT_HEAD_WORDS ≡ 2
  pub header_classes : HEADER_CLASSES ≡ 65536
  pub system : SYSTEM_CLASS ≡ 0
  pub object : OBJECT_CLASS ≡ 1
  pub int_array : INT_ARRAY_CLASS ≡ 2
  pub print_stream : PRINT_STREAM_CLASS ≡ 3
  pub throwable : THROWABLE_CLASS ≡ 4
  pub throwables : THROWABLES ≡ 12
  pub class_itself : CLASS_ITSELF ≡ 16
  pub first_file : FIRST_FILE_CLASS ≡ 17

-- ---- a cell, a load, and a record

pub record SizeNumbers : Type 0 where
  pub rounds : MOST_ROUNDS ≡ 1000
  pub methods : MOST_METHODS_OF_LOAD ≡ 1000
  pub events : MOST_EVENTS ≡ 100000

-- ---- the whole

pub record AreStated : Type 0 where
  pub files : FileNumbers
  pub flags : FlagNumbers
  pub machine : MachineNumbers
  pub words : WordNumbers
  pub sizes : SizeNumbers
  pub options : AreOptionsStated
