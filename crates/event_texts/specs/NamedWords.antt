-- That the word which is told of an event is the one that the event accesses: each word that
-- threads share has a number, by what it is to the program.
use Rattle.std.specs.Prelude.{◌≡◌, ℕ, List, Option, Some, None, slice_get}
use Rattle.std.specs.Option.{option_map}
use Rattle.jvm_types.specs.declared.fixed_words.TheConstants.{NEXT_FREE_WORD, NEXT_TICKET_WORD}
use Rattle.jvm_types.specs.declared.fixed_words.TheConstants.{NEXT_RECORD_WORD}
use Rattle.jvm_types.specs.declared.program.FieldInfo.{FieldInfo}
use Rattle.jvm_types.specs.declared.program.Program.{Program}
use Rattle.checked_program.specs.MarkedProgram.{MarkedProgram}
use Rattle.machine_types.specs.Accesses.{accessed}
use Rattle.machine_types.specs.Core.{Happening, core}
use Rattle.machine_types.specs.Events.{wanted}
use Rattle.machine_types.specs.Frames.{top_of}
use Rattle.machine_types.specs.Threads.{Thread}
use Rattle.machine_types.specs.Words.{owner_word, bits_word, header_word, value_word}
use Rattle.machine_types.specs.declared.access.Access.{Access}
use Rattle.machine_types.specs.declared.config.Config.{Config}
use Rattle.event_texts.specs.Doings.{doing_at}
use Rattle.event_texts.specs.SharedWords.{SharedWord, Null, NextFree, NextTicket, NextRecord, Owner}
use Rattle.event_texts.specs.SharedWords.{Waiting, Lock, Header, Field, StaticField, Element}
use Rattle.event_texts.specs.SharedWords.{shared_word_of}
use Rattle.event_texts.specs.declared.doing.Doing.{Doing}

-- ---- the number of a word

abbrev pub field_word : (object : ℕ) → Option FieldInfo → ℕ
field_word object None = 0
field_word object (Some f) = value_word object f.index

abbrev pub static_word : Option FieldInfo → ℕ
static_word None = 0
static_word (Some f) = f.index

abbrev pub shared_word_number : Program → SharedWord → ℕ
shared_word_number p Null = 0
shared_word_number p NextFree = NEXT_FREE_WORD
shared_word_number p NextTicket = NEXT_TICKET_WORD
shared_word_number p NextRecord = NEXT_RECORD_WORD
shared_word_number p (Owner m r) = owner_word r
shared_word_number p (Waiting m r) = bits_word r
shared_word_number p (Lock m) = m
shared_word_number p (Header object) = header_word object
shared_word_number p (Field object number) = field_word object (slice_get p.fields number)
shared_word_number p (StaticField number) = static_word (slice_get p.fields number)
shared_word_number p (Element array index) = value_word array index

-- ---- the law

-- what the instruction does at which the top frame stands
abbrev pub doing_of : MarkedProgram → Thread → Option Doing
doing_of c s = option_map (doing_at c.program) (top_of c.program s.frames)

-- of every program, settings and list of events and begins of parts, and each thread of the state
-- that this leads to
abbrev pub NamesAccessedWords : Type 0
NamesAccessedWords =
    (c : MarkedProgram) (cfg : Config) (hs : List Happening) (t : ℕ) (s : Thread) (access : Access)
    → slice_get (core c cfg hs).threads t ≡ Some s → wanted c s s.phase ≡ Some access
    → accessed access ≡ shared_word_number c.program (shared_word_of s (doing_of c s) s.phase)
