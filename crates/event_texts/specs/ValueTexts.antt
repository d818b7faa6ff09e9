-- What stands in the words that threads share, as text.
use Rattle.std.specs.Prelude.{ℕ, zero, suc, ◌-◌, ◌/◌, ◌%◌, ◌==◌, List, [], ◌∷◌, ◌++◌, codes}
use Rattle.std.specs.Prelude.{Option, Some, None, slice_get, if◌then◌else◌}
use Rattle.std.specs.List.{filter, range_with_len}
use Rattle.std.specs.Fmt.{decimal, signed_decimal}
use Rattle.jvm_types.specs.Numbers.{has_flag}
use Rattle.jvm_types.specs.declared.program.FieldInfo.{FieldInfo}
use Rattle.jvm_types.specs.declared.program.Kind.{Kind}
use Rattle.jvm_types.specs.declared.program.Kind.TheVariants as kinds
use Rattle.jvm_types.specs.declared.program.Program.{Program}
use Rattle.machine_types.specs.Ints.{int_of}
use Rattle.machine_types.specs.Monitors.{bit_of}
use Rattle.event_texts.specs.HeaderTexts.{header_text}
use Rattle.event_texts.specs.SharedWords.{SharedWord, Owner, Waiting, Lock, Header, Field}
use Rattle.event_texts.specs.SharedWords.{StaticField, Element}

-- a lock word by its kind and what stands above it; threads have their numbers and 1 there
abbrev pub lock_text : (kind upper : ℕ) → List ℕ
lock_text zero n = codes "Free(" ++ decimal n ++ codes ")"
lock_text (suc zero) n = codes "Fat(" ++ decimal n ++ codes ")"
lock_text (suc (suc zero)) n = codes "Held(" ++ decimal (n - 1) ++ codes ")"
lock_text kind n = codes "Flagged(" ++ decimal (n - 1) ++ codes ")"

abbrev pub thread_text : ℕ → List ℕ
thread_text t = codes "thread " ++ decimal t

abbrev pub owner_text : ℕ → List ℕ
owner_text zero = codes "nobody"
owner_text (suc t) = thread_text t

-- those whose waiting bits are set; threads have numbers from 0 to 8
abbrev pub waiting_threads : (bits : ℕ) → List ℕ
waiting_threads bits = filter (λ t. has_flag (bit_of t) bits) (range_with_len 0 9)

abbrev pub threads_text : List ℕ → List ℕ
threads_text [] = codes "nobody"
threads_text (t ∷ []) = thread_text t
threads_text (t ∷ more) = thread_text t ++ codes " and " ++ threads_text more

abbrev pub object_text : ℕ → List ℕ
object_text a = codes "@" ++ decimal a

abbrev pub reference_text : ℕ → List ℕ
reference_text n = if n == 0 then codes "null" else object_text n

abbrev pub kind_text : Kind → ℕ → List ℕ
kind_text (kinds.Ref class) n = reference_text n
kind_text kind n = signed_decimal (int_of n)

abbrev pub field_value : Option FieldInfo → ℕ → List ℕ
field_value None n = decimal n
field_value (Some f) n = kind_text f.kind n

abbrev pub shared_value_text : Program → SharedWord → ℕ → List ℕ
shared_value_text p (Lock m) n = lock_text (n % 4) (n / 4)
shared_value_text p (Owner m r) n = owner_text n
shared_value_text p (Waiting m r) n = threads_text (waiting_threads n)
shared_value_text p (Field a number) n = field_value (slice_get p.fields number) n
shared_value_text p (StaticField number) n = field_value (slice_get p.fields number) n
shared_value_text p (Element a index) n = signed_decimal (int_of n)
shared_value_text p (Header a) n = header_text p n
shared_value_text p word n = decimal n
