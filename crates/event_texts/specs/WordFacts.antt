-- Which word an event accesses, fact by fact: what kind of word it is, and whose.
use Rattle.std.specs.Prelude.{ℕ, List, [], ◌∷◌, ◌++◌, codes, Option, Some, None, slice_get}
use Rattle.std.specs.Fmt.{decimal}
use Rattle.jvm_types.specs.declared.program.FieldInfo.{FieldInfo}
use Rattle.jvm_types.specs.declared.program.Program.{Program}
use Rattle.run_texts.specs.MarksText.{class_text}
use Rattle.event_texts.specs.MonitorFacts.{monitor_fact, on_monitor}
use Rattle.event_texts.specs.SharedWords.{SharedWord, NextFree, NextTicket, NextRecord, Owner}
use Rattle.event_texts.specs.SharedWords.{Waiting, Lock, Header, Field, StaticField, Element}
use Rattle.tellings.specs.declared.facts.Fact.{Fact}
use Rattle.tellings.specs.declared.facts.Fact.TheVariants.{Count, Text}
use Rattle.tellings.specs.declared.keys.Key.{Key}
use Rattle.tellings.specs.declared.keys.Key.TheVariants as keys

-- ---- a field by its class, its object and its name, as `P@2081.a`; its number stands where no
-- name is given

abbrev pub name_or_number : (number : ℕ) → Option (List ℕ) → List ℕ
name_or_number number None = codes "#" ++ decimal number
name_or_number number (Some name) = name

abbrev pub field_class_facts : (names : List (List ℕ)) → Option FieldInfo → List Fact
field_class_facts names None = []
field_class_facts names (Some f) = Text keys.FieldClass (class_text names f.class) ∷ []

abbrev pub field_name_fact : (names : List (List ℕ)) → (number : ℕ) → Fact
field_name_fact names number =
    Text keys.FieldName (name_or_number number (slice_get names number))

-- what kind of field it is, and its class
abbrev pub declared_facts : (kind : List ℕ) → Program → (number : ℕ) → List Fact
declared_facts kind p number =
    Text keys.WordKind kind ∷ field_class_facts p.names (slice_get p.fields number)

-- ---- a word of an object or of an array, and one of a monitor record

abbrev pub numbered_facts : Key → (kind : List ℕ) → Key → (n : ℕ) → List Fact
numbered_facts key kind of n = Text key kind ∷ Count of n ∷ []

abbrev pub record_facts : (kind : List ℕ) → Program → (m r : ℕ) → List Fact
record_facts kind p m r =
    Text keys.Word kind ∷ Count keys.RecordOf r ∷ monitor_fact p m ∷ []

-- ---- all words

abbrev pub plain_word : SharedWord → List ℕ
plain_word NextFree = codes "next free word"
plain_word NextTicket = codes "next ticket"
plain_word NextRecord = codes "next record"
plain_word word = codes "null"

abbrev pub word_facts : Program → (names : List (List ℕ)) → SharedWord → List Fact
word_facts p names (Field a number) =
    declared_facts (codes "field") p number
    ++ (Count keys.FieldObject a ∷ field_name_fact names number ∷ [])
word_facts p names (StaticField number) =
    declared_facts (codes "static field") p number ++ (field_name_fact names number ∷ [])
word_facts p names (Lock m) = on_monitor keys.WordOf (codes "lock word") p m
word_facts p names (Owner m r) = record_facts (codes "owner") p m r
word_facts p names (Waiting m r) = record_facts (codes "waiting bits") p m r
word_facts p names (Header a) = numbered_facts keys.Word (codes "header") keys.HeaderOf a
word_facts p names (Element a index) =
    numbered_facts keys.WordKind (codes "element") keys.ArrayObject a
    ++ (Count keys.Index index ∷ [])
word_facts p names word = Text keys.Word (plain_word word) ∷ []
