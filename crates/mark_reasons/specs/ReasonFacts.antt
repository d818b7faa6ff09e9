-- What is told of a section and of its mark: the calls that lead from it to what breaks the rule of
-- its mark, and what keeps the place from being read where that is M5. On a line of its own stands
-- each call, and what is behind it, a bit further right.
use Rattle.std.specs.Prelude.{ℕ, ◌==◌, if◌then◌else◌, List, [], ◌∷◌, ◌++◌, codes, Option, Some}
use Rattle.std.specs.Prelude.{None, nat_lt, length, take, slice_get, ◌-◌}
use Rattle.std.specs.List.{flat_map}
use Rattle.jvm_types.specs.declared.code.Insn.{Insn}
use Rattle.jvm_types.specs.declared.program.MethodInfo.{MethodInfo}
use Rattle.jvm_types.specs.declared.program.Program.{Program}
use Rattle.source_lines.specs.declared.sources.Sources.{Sources}
use Rattle.checked_program.specs.declared.section.SectionMark.{SectionMark}
use Rattle.checked_program.specs.declared.section.Spot.{Spot}
use Rattle.checked_program.specs.declared.section.Spot.TheVariants.{Method, Block}
use Rattle.run_texts.specs.MarksText.{class_text}
use Rattle.place_names.specs.PlaceFacts.{method_facts, pc_insn_facts, source_facts_at}
use Rattle.place_names.specs.SectionFacts.{mark_name, section_spot_facts}
use Rattle.tellings.specs.declared.facts.Fact.{Fact}
use Rattle.tellings.specs.declared.facts.Fact.TheVariants.{Words, Text, Count, Opens, Lists, Item}
use Rattle.tellings.specs.declared.facts.Fact.TheVariants.{Closes, Ends}
use Rattle.tellings.specs.declared.keys.Key.TheVariants as keys
use Rattle.guard_analysis.specs.declared.array_faults.Misuse.{Misuse}
use Rattle.guard_analysis.specs.declared.array_faults.Misuse.TheVariants as misuses
use Rattle.mark_reasons.specs.SharedWays.{shared_calls}
use Rattle.mark_reasons.specs.declared.cause.Cause.{Cause}
use Rattle.mark_reasons.specs.declared.cause.Cause.TheVariants as causes
use Rattle.mark_reasons.specs.declared.reason.Site.{Site}
use Rattle.mark_reasons.specs.declared.reason.Reason.{Reason}
use Rattle.mark_reasons.specs.declared.reason.Reason.TheVariants.{Elsewhere, Unreached, Breaks}
use Rattle.mark_reasons.specs.declared.reason.Reason.TheVariants.{Recurs}
use Rattle.mark_reasons.specs.declared.shared.LastWay.{LastWay}

-- ---- sections

-- its class and method begin a line
abbrev pub begun_facts : List (List ℕ) → Option MethodInfo → List Fact
begun_facts names None = []
begun_facts names (Some m) =
    Text keys.SectionClass (class_text names m.class) ∷ Text keys.Method (m.name ++ m.descriptor)
    ∷ []

abbrev pub section_facts : Program → (method : ℕ) → Spot → List Fact
section_facts p method spot =
    begun_facts p.names (slice_get p.methods method) ++ section_spot_facts spot

-- the pc at which it begins
abbrev pub section_pc : Spot → ℕ
section_pc Method = 0
section_pc (Block pc) = pc

-- ---- places

-- the instruction of a number
abbrev pub numbered : Option MethodInfo → ℕ → Option Insn
numbered None i = None
numbered (Some m) i = slice_get m.code i

abbrev pub site_insn_facts : Sources → (method : ℕ) → Option Insn → List Fact
site_insn_facts sources method None = []
site_insn_facts sources method (Some insn) =
    pc_insn_facts insn.pc (Some insn) ++ source_facts_at sources method insn.pc

abbrev pub site_facts : Program → Sources → (method at : ℕ) → List Fact
site_facts p sources method at =
    method_facts p.names (slice_get p.methods method)
    ++ site_insn_facts sources method (numbered (slice_get p.methods method) at)

-- a method, where its code begins
abbrev pub method_site_facts : Program → Sources → (method : ℕ) → List Fact
method_site_facts p sources method =
    method_facts p.names (slice_get p.methods method) ++ source_facts_at sources method 0

-- ---- the way

-- an instruction or a method of the way, on a line of its own
abbrev pub item_facts : List Fact → (behind : List ℕ) → List Fact
item_facts facts behind = Words (codes "\n ") ∷ Item ∷ facts ++ Closes ∷ Words behind ∷ []

abbrev pub call_facts : Program → Sources → Site → List Fact
call_facts p sources x = item_facts (site_facts p sources x.method x.at) (codes " calls")

abbrev pub calls_facts : Program → Sources → List Site → List Fact
calls_facts p sources way = flat_map (call_facts p sources) way

-- calls that stand below another section
abbrev pub shared_facts : Program → Option LastWay → (calls : ℕ) → List Fact
shared_facts p None calls = []
shared_facts p (Some last) calls =
    Words (codes "\n  ") ∷ Item ∷ Count keys.Calls calls ∷ section_facts p last.method last.spot
    ++ Closes ∷ []

-- the last of them where they are those of the way before
abbrev pub way_facts : Program → Sources → Option LastWay → List Site → List Fact
way_facts p sources before way =
    calls_facts p sources (take (length way - shared_calls before way) way)
    ++ (if nat_lt 0 (shared_calls before way)
    then shared_facts p before (shared_calls before way) else [])

-- ---- reasons

-- the rules M1 to M5 in words
abbrev pub rule_words : ℕ → List ℕ
rule_words rule =
    if rule == 1 then codes "it writes a field, a static field or an element" else
    if rule == 2 then codes "it makes an object or an array" else
    if rule == 3 then codes "it enters a monitor that is not known to be the section's" else
    if rule == 4 then codes "it prints, waits or notifies" else
    codes "it reads what the section's lock is not known to guard"

abbrev pub fault_facts : Program → Sources → Site → (rule : ℕ) → List Fact
fault_facts p sources x rule =
    item_facts (site_facts p sources x.method x.at)
    (codes " " ++ mark_name rule ++ codes ": " ++ rule_words rule)

-- what counts against the field of an array
abbrev pub misuse_kind : Misuse → List ℕ
misuse_kind misuses.Read = codes "array_read"
misuse_kind misuses.Written = codes "array_written"
misuse_kind misuses.NotNew = codes "array_not_new"
misuse_kind misuses.Stored = codes "element_written"
misuse_kind misuses.Taken = codes "array_taken"
misuse_kind misuses.Meets = codes "array_meets"

abbrev pub misuse_words : Misuse → List ℕ
misuse_words misuses.Read =
    codes " reads the array's field of an object that is not known to be this"
misuse_words misuses.Written =
    codes " writes the array's field, not known to be under the lock that guards it"
misuse_words misuses.NotNew =
    codes " stores in the array's field what is not known to be a new array"
misuse_words misuses.Stored =
    codes " writes an element, not known to be under the lock that guards it"
misuse_words misuses.Taken =
    codes " takes an array of the field for more than its elements and its length"
misuse_words misuses.Meets =
    codes " leads to where one path brings an array of the field and another does not"

-- what keeps the place of M5 from being read
abbrev pub cause_kind : Cause → List ℕ
cause_kind causes.Element = codes "element"
cause_kind (causes.Misused misuse method at) = misuse_kind misuse
cause_kind causes.Static = codes "static"
cause_kind causes.Shared = codes "shared"
cause_kind causes.Other = codes "other"
cause_kind (causes.Constructor u) = codes "constructor"
cause_kind (causes.Write method at) = codes "write"

abbrev pub cause_place : Program → Sources → Cause → List Fact
cause_place p sources causes.Element =
    Words (codes
    "\n    it is an element of an array that is not known to be the section's own") ∷ []
cause_place p sources (causes.Misused misuse method at) =
    Opens keys.Array ∷ site_facts p sources method at ++ Closes ∷ Words (misuse_words misuse) ∷ []
cause_place p sources causes.Static =
    Words (codes "\n    it is a static field, and the section is not on its class") ∷ []
cause_place p sources causes.Shared = Words (codes "\n    the field is not private") ∷ []
cause_place p sources causes.Other =
    Words (codes
    "\n    it is the field of an object that is not known to be the section's") ∷ []
cause_place p sources (causes.Constructor u) =
    Opens keys.Constructor ∷ method_site_facts p sources u ++ Closes
    ∷ Words (codes " is not known to keep its object to itself") ∷ []
cause_place p sources (causes.Write method at) =
    Opens keys.Write ∷ site_facts p sources method at ++ Closes
    ∷ Words (codes " writes the field, not known to be under the lock that guards it") ∷ []

abbrev pub cause_facts : Program → Sources → Option Cause → List Fact
cause_facts p sources None = []
cause_facts p sources (Some cause) =
    Text keys.Cause (cause_kind cause) ∷ cause_place p sources cause

-- the method that the way comes back to
abbrev pub again_facts : Program → Sources → Option Site → List Fact
again_facts p sources None = []
again_facts p sources (Some x) =
    item_facts (method_site_facts p sources x.method) (codes " again")

abbrev pub reason_facts : Program → Sources → Option LastWay → Reason → List Fact
reason_facts p sources before Elsewhere =
    Text keys.Reason (codes "elsewhere") ∷ Words (codes "\n  its monitor is not known to be this")
    ∷ []
reason_facts p sources before Unreached =
    Text keys.Reason (codes "unreached") ∷ Words (codes "\n  no path reaches it") ∷ []
reason_facts p sources before (Breaks way site rule cause) =
    Text keys.Reason (codes "breaks") ∷ Text keys.Rule (mark_name rule) ∷ Lists keys.Way
    ∷ way_facts p sources before way ++ fault_facts p sources site rule ++ Ends
    ∷ cause_facts p sources cause
reason_facts p sources before (Recurs way again) =
    Text keys.Reason (codes "recurs") ∷ Lists keys.Way
    ∷ way_facts p sources before way ++ again_facts p sources (slice_get way again) ++ Ends ∷ []

abbrev pub some_reason_facts : Program → Sources → Option LastWay → Option Reason → List Fact
some_reason_facts p sources before None = []
some_reason_facts p sources before (Some reason) = reason_facts p sources before reason

-- the section, its mark, where it begins in the source, and why it has the mark
abbrev pub marked_facts : Program → Sources → Option LastWay → SectionMark → Option Reason
    → List Fact
marked_facts p sources before mark reason =
    section_facts p mark.method mark.spot ++ Text keys.Mark (mark_name mark.mark)
    ∷ source_facts_at sources mark.method (section_pc mark.spot)
    ++ some_reason_facts p sources before reason
