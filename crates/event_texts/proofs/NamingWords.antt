-- The word that is told of an event, by the access that the event wants.
use Rattle.std.proofs.Common.{◌≡◌, ℕ, zero, suc, Bool, true, false, List, Option, Some, None, refl, subst, ◌==◌, nat_lt, slice_get, if◌then◌else◌}
use Rattle.std.specs.Option.{option_map}
use Rattle.jvm_types.specs.{Members.is_static, declared.{code.Op.Op, program.{FieldInfo.FieldInfo, Program.Program, Target.Target}}}
use Rattle.checked_program.specs.MarkedProgram.{MarkedProgram}
use Rattle.machine_types.specs.Accesses.{accessed}
use Rattle.machine_types.specs.Effects.{variable_of, kept, effect}
use Rattle.machine_types.specs.{Elision.{is_checked, looks}, Events.{wanted, element_wants}, Frames.{Top, top_of, effect_at}, HeldMonitors.held_at}
use Rattle.machine_types.specs.Instructions.{effect_wants, has_print_left, run_wants}
use Rattle.machine_types.specs.{Monitors.{Claim, Has, Tries, HasNot, claim, claim_by, enter_wants, leave_wants, finish_wants, release}, Threads.{Attempt, Thread, head_of}}
use Rattle.machine_types.specs.{Words.variable_word, declared.{access.Access.{Access, TheVariants.Add}, effect.Effect.Effect}}
use Rattle.machine_types.specs.declared.effect.Effect.TheVariants.{Goes, Reads, Writes, Indexes, Measures, Raises, Makes, Prints, Calls}
use Rattle.machine_types.specs.declared.{effect.Variable.TheVariants.{Instance, Static}, lock.{Held.Held, Kept.Kept}, phase.Phase.Phase}
use Rattle.machine_types.proofs.EffectCases.{Comes, reads_static, writes_static, reads_field, writes_field, comes}
use Rattle.event_texts.specs.{Doings.doing_at, NamedWords.{NamesAccessedWords, shared_word_number, doing_of}}
use Rattle.event_texts.specs.{SharedWords.{effect_word, element_by, element_of, leave_word, run_word, shared_word_of, tried_lock, variable_named}, declared.doing.Doing.Doing}
use Rattle.event_texts.proofs.ElementStands.{IsElementBy, IsElementOf, StandsAtElement, run_stands}
use Rattle.jvm_types.specs.declared.program.Target.TheVariants as targets
use Rattle.machine_types.specs.declared.lock.Kept.TheVariants as keeps
use Rattle.machine_types.specs.declared.phase.Phase.TheVariants as phases

-- ---- the field that an instruction reads or writes is the one that its constant names

-- of every other effect nothing is asked
abbrev Names : Program → Target → Effect → Type 0
Names p target (Reads v) = variable_word v ≡ shared_word_number p (variable_named target v)
Names p target (Writes v word) = variable_word v ≡ shared_word_number p (variable_named target v)
Names p target e = Unit {0}

module _ (p : Program) where
  -- a field by its number
  field_named : (number reference : ℕ) (f : FieldInfo) → slice_get p.fields number ≡ Some f
      → variable_word (variable_of f reference) ≡ shared_word_number p (variable_named (targets.Field number) (variable_of f reference))
  field_named number reference f there = by_test (is_static f.flags)
    where
      by_test : (b : Bool) → variable_word (if b then Static f.index else Instance reference f.index) ≡ shared_word_number p (variable_named (targets.Field number) (if b then Static f.index else Instance reference f.index))
      by_test true = rw there refl
      by_test false = rw there refl

  names : (next : ℕ) (target : Target) (op : Op) (s : List ℕ) (e : Effect) → Comes p 0 next target op s e → Names p target e
  names next _ _ _ _ (reads_static i number s f there) = field_named number 0 f there
  names next _ _ _ _ (writes_static i number v s f there) = field_named number 0 f there
  names next _ _ _ _ (reads_field i number a s f there z) = field_named number a f there
  names next _ _ _ _ (writes_field i number v a s f there z) = field_named number a f there
  names next target op s e k = tt

-- ---- an access that is wanted

-- where one is wanted, it is of this word
abbrev IsOf : Option Access → ℕ → Type 0
IsOf None n = Unit {0}
IsOf (Some a) n = accessed a ≡ n

wanted_of : (o : Option Access) (n : ℕ) (a : Access) → IsOf o n → o ≡ Some a → accessed a ≡ n
wanted_of o n a h e = subst (λ (x : Option Access). IsOf x n) e h

module _ (c : MarkedProgram) (s : Thread) where
  looked : (o : Option Attempt) → IsOf (looks o) (shared_word_number c.program (tried_lock (option_map head_of o)))
  looked None = tt
  looked (Some a) = refl

  goes_word : (b : Bool) → IsOf (if b then looks s.attempt else None) (shared_word_number c.program (tried_lock (option_map head_of s.attempt)))
  goes_word true = looked s.attempt
  goes_word false = tt

  print_word : (b : Bool) (n : ℕ) → IsOf (if b then Some (Add n 1) else None) n
  print_word true n = refl
  print_word false n = tt

  by_effect : (pc : ℕ) (target : Target) (e : Effect) → Names c.program target e → IsOf (effect_wants s pc e) (shared_word_number c.program (effect_word (option_map head_of s.attempt) target e))
  by_effect pc target (Goes to made) h = goes_word (is_checked pc (Goes to made))
  by_effect pc target (Calls number) h = looked s.attempt
  by_effect pc target (Reads v) h = h
  by_effect pc target (Writes v word) h = h
  by_effect pc target (Prints n) h = print_word (has_print_left s) _
  by_effect pc target (Indexes array index stored) h = refl
  by_effect pc target (Measures array) h = refl
  by_effect pc target (Raises x) h = refl
  by_effect pc target (Makes word size) h = refl
  by_effect pc target e h = tt

  by_top : (o : Option Top) → IsOf (run_wants c.program s o) (shared_word_number c.program (run_word (option_map head_of s.attempt) (option_map (doing_at c.program) o)))
  by_top None = tt
  by_top (Some at) = by_effect at.frame.pc at.target (effect_at c.program at) (names c.program at.insn.next at.target at.insn.op at.frame.stack _ (comes c.program 0 at.insn.next at.target at.insn.op at.frame.locals at.frame.stack))

  at_element : (word : ℕ) (stored : Option ℕ) (n : ℕ) → word ≡ n → IsOf (Some (element_wants word stored)) n
  at_element word None n h = h
  at_element word (Some v) n h = h

  element_effect : (word : ℕ) (e : Effect) → IsElementBy word e → word ≡ shared_word_number c.program (element_by e)
  element_effect word (Indexes array index stored) h = h
  element_effect word e h = absurd h

  element_word : (word : ℕ) (d : Option Doing) → IsElementOf word d → word ≡ shared_word_number c.program (element_of d)
  element_word word None h = absurd h
  element_word word (Some d) h = element_effect word d.effect h

  enter_word : (m : ℕ) (k : Claim) → IsOf (enter_wants m k) m
  enter_word m (Has h) = tt
  enter_word m (Tries a) = tt
  enter_word m HasNot = refl

  kept_lock : (m : ℕ) (held : Option Held) (h : Held) (kept : Kept) → held ≡ Some h → h.kept ≡ kept → accessed (release s m kept) ≡ shared_word_number c.program (leave_word m held)
  kept_lock m None h kept e k = absurd (cc)
  kept_lock m (Some x) h (keeps.Flat count) e k = let same : x.kept ≡ keeps.Flat count = cc in rw same refl
  kept_lock m (Some x) h (keeps.Fat r) e k = let same : x.kept ≡ keeps.Fat r = cc in rw same refl

  leave_by : (m : ℕ) (held : Option Held) (attempt : Option Attempt) → IsOf (leave_wants s m (claim_by m held attempt)) (shared_word_number c.program (leave_word m held))
  leave_by m (Some h) attempt = by_depth (nat_lt 1 h.depth)
    where
      by_depth : (b : Bool) → IsOf (if b then None else Some (release s m h.kept)) (shared_word_number c.program (leave_word m (Some h)))
      by_depth true = tt
      by_depth false = kept_lock m (Some h) h h.kept refl refl
  leave_by m None None = tt
  leave_by m None (Some a) = by_monitor (a.monitor == m)
    where
      by_inner : (inner : ℕ) → IsOf (finish_wants m inner) m
      by_inner zero = refl
      by_inner (suc inner) = tt

      by_monitor : (b : Bool) → IsOf (leave_wants s m (if b then Tries a else HasNot)) m
      by_monitor true = by_inner a.inner
      by_monitor false = tt

  by_phase : (phase : Phase) → StandsAtElement phase (doing_of c s) → IsOf (wanted c s phase) (shared_word_number c.program (shared_word_of s (doing_of c s) phase))
  by_phase phases.Run h = by_top (top_of c.program s.frames)
  by_phase (phases.Element word stored) h = at_element word stored _ (element_word word (doing_of c s) h)
  by_phase (phases.Throw x class) h = looked s.attempt
  by_phase (phases.Enter m tried) h = enter_word m (claim s m)
  by_phase (phases.Leave m a) h = leave_by m (held_at s.held m) s.attempt
  by_phase phase h = first_of (assumption, cc)

pub names_accessed_words : NamesAccessedWords
names_accessed_words c cfg hs t s access at e = wanted_of (wanted c s s.phase) _ access (by_phase c s s.phase (run_stands c cfg hs t s at)) e
