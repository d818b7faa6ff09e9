-- An event never leaves the word of a free lock with the count that an attempt noted, unless it stood there before: a release
-- raises the count.
use Rattle.std.proofs.Common.{◌≡◌, ◌≢◌, ℕ, zero, suc, ◌+◌, ◌<◌, ◌≤◌, nat_lt, nat_le, Bool, true, false, Option, Some, None, refl, sym, ap, ◌∙◌, subst, arith, ◌==◌, slice_get, if◌then◌else◌}
use Rattle.jvm_types.specs.declared.program.{FieldInfo.FieldInfo, Kind.{Kind, TheVariants.Ref}, Program.Program, Target.{Target, TheVariants.Field}}
use Rattle.checked_program.specs.MarkedProgram.{MarkedProgram}
use Rattle.machine_types.specs.{Accesses.{accessed, left_by}, Events.wanted, FoundWords.{kind_content, field_content, variable_content, effect_content, run_content, leave_content, content_at}}
use Rattle.machine_types.specs.{Frames.{Top, top_of, effect_at}, HeldMonitors.held_at, Instructions.{effect_wants, run_wants}, LockWords.word_of_lock}
use Rattle.machine_types.specs.{Monitors.{Claim, Has, Tries, HasNot, claim_by, count_kept, enter_wants, finish_wants, freed, leave_wants, release}, Structure.IsFlat, Threads.{Attempt, Thread}}
use Rattle.machine_types.specs.declared.{access.Access.Access, effect.Effect.{Effect, TheVariants.{Goes, Calls, Reads, Writes}}, lock.{Held.Held, Kept.Kept}, phase.Phase.Phase}
use Rattle.laws_states.{specs.Sites.{LockOf, Suits}, proofs.LeftStands.{leaves, no_access, loaded, looked, checked}}
use Rattle.machine_types.specs.declared.lock.Kept.TheVariants as keeps
use Rattle.machine_types.specs.declared.lock.LockWord.TheVariants as locks
use Rattle.machine_types.specs.declared.phase.Phase.TheVariants as phases

-- ---- a field is no lock word

kind_suits_none : (k : Kind) (m : ℕ) → Suits (kind_content k) (LockOf m) → ⊥
kind_suits_none (Ref class) m suits = suits
kind_suits_none k m suits = suits

variable_suits_none : (p : Program) (target : Target) (m : ℕ) → Suits (variable_content p target) (LockOf m) → ⊥
variable_suits_none p (Field number) m suits = (elim (slice_get p.fields number) as (λ (f : Option FieldInfo). (m : ℕ) → Suits (field_content f) (LockOf m) → ⊥)
    [ None ↦ λ m suits. suits | Some f ↦ λ m suits. kind_suits_none f.kind m suits ]) m suits
variable_suits_none p target m suits = suits

-- ---- words of locks

-- a release from the noted count or a later one leaves a later one, as the noted one is not the last
freed_later : (s : Thread) (count n : ℕ) → n ≤ count → n < s.cfg.range → freed s count ≢ word_of_lock (locks.Free n)
freed_later s count n later last e = (elim (nat_lt count s.cfg.range) as (λ (b : Bool). word_of_lock (locks.Free (if b then count + 1 else s.cfg.range)) ≡ word_of_lock (locks.Free n) → ⊥)
    [ true ↦ λ e. omega (arith, e, later) | false ↦ λ e. omega (arith, e, last) ]) e

-- ---- one word

-- the lock word of m, where the count that was noted is no later than the one that is kept of m
module _ (c : MarkedProgram) (x : Thread) (m n got : ℕ) (last : n < x.cfg.range) (kept : (h : Held) (count : ℕ) → held_at x.held m ≡ Some h → h.kept ≡ keeps.Flat count → n ≤ count) where
  -- where the word is now as it was noted, it was so before
  abbrev pub WasNoted : ℕ → Type 0
  WasNoted now = now ≡ word_of_lock (locks.Free n) → got ≡ word_of_lock (locks.Free n)

  never : (now : ℕ) → now ≢ word_of_lock (locks.Free n) → WasNoted now
  never now d e = absurd (d e)

  swapped : (is now : ℕ) → now ≢ word_of_lock (locks.Free n) → WasNoted (if got == is then now else got)
  swapped is now d = elim (got == is) as (λ (b : Bool). WasNoted (if b then now else got)) [ true ↦ never now d | false ↦ λ e. e ]

  module _ (access : Access) (at : accessed access ≡ m) where
    stays : WasNoted got
    stays e = e

    -- ---- an instruction looks at it

    effect_leaves : (pc : ℕ) (target : Target) (e : Effect) → effect_wants x pc e ≡ Some access → Suits (effect_content c.program target e) (LockOf m) → WasNoted (left_by access got)
    effect_leaves pc target (Goes to made) w suits = checked WasNoted access got stays (nat_le to pc) x.attempt w
    effect_leaves pc target (Calls number) w suits = looked WasNoted access got stays x.attempt w
    effect_leaves pc target (Reads v) w suits = loaded WasNoted access got stays _ w
    effect_leaves pc target (Writes v word) w suits = absurd (variable_suits_none c.program target m suits)
    effect_leaves pc target e w suits = absurd suits

    -- ---- the monitor is entered or left

    entry_leaves : (n : ℕ) (claimed : Claim) → enter_wants n claimed ≡ Some access → WasNoted (left_by access got)
    entry_leaves n HasNot w = loaded WasNoted access got stays n w
    entry_leaves n claimed w = no_access WasNoted access got stays w

    -- what is kept of a monitor whose word is accessed
    freed_of : (b count : ℕ) (h : Held) → held_at x.held b ≡ Some h → h.kept ≡ keeps.Flat count → b ≡ m → freed x count ≢ word_of_lock (locks.Free n)
    freed_of b count h e k same = freed_later x count n (kept h count (ap (held_at x.held) (sym same) ∙ e) k) last

    release_leaves : (b : ℕ) (h : Held) (k : Kept) → held_at x.held b ≡ Some h → h.kept ≡ k → Some (release x b k) ≡ Some access → Suits (leave_content (Has (record h { kept = k }))) (LockOf m) → WasNoted (left_by access got)
    release_leaves b h (keeps.Flat count) e k w suits = leaves WasNoted access got stays (release x b (keeps.Flat count)) w (swapped (word_of_lock (locks.Held x.number)) (freed x count)
        (freed_of b count h e k (let same : release x b (keeps.Flat count) ≡ access = cc in ap accessed same ∙ at)))
    release_leaves b h (keeps.Fat r) e k w suits = absurd suits

    finish_leaves : (b inner : ℕ) → finish_wants b inner ≡ Some access → WasNoted (left_by access got)
    finish_leaves b zero w = loaded WasNoted access got stays b w
    finish_leaves b (suc inner) w = no_access WasNoted access got stays w

    leave_leaves : (b : ℕ) (held : Option Held) (attempt : Option Attempt) → held_at x.held b ≡ held → leave_wants x b (claim_by b held attempt) ≡ Some access → Suits (leave_content (claim_by b held attempt)) (LockOf m) → WasNoted (left_by access got)
    leave_leaves b (Some h) attempt e w suits = (elim (nat_lt 1 h.depth) as (λ (deep : Bool). (if deep then None else Some (release x b h.kept)) ≡ Some access → WasNoted (left_by access got))
        [ true ↦ λ w. no_access WasNoted access got stays w | false ↦ λ w. release_leaves b h h.kept e refl w suits ]) w
    leave_leaves b None None e w suits = no_access WasNoted access got stays w
    leave_leaves b None (Some a) e w suits = (elim (a.monitor == b) as (λ (tries : Bool). leave_wants x b (if tries then Tries a else HasNot) ≡ Some access → WasNoted (left_by access got))
        [ true ↦ λ w. finish_leaves b a.inner w | false ↦ λ w. no_access WasNoted access got stays w ]) w

    -- ---- the lock stays flat where there is no record for it

    flat_out_leaves : (b : ℕ) (held : Option Held) → held_at x.held b ≡ held → IsFlat held → accessed access ≡ b → WasNoted (freed x (count_kept held))
    flat_out_leaves b None e flat same = absurd flat
    flat_out_leaves b (Some h) e flat same =
        subst (λ (k : Kept). WasNoted (freed x (count_kept (Some (record h { kept = k }))))) (sym flat.1) (never (freed x flat.0) (freed_of b flat.0 h e flat.1 (sym same ∙ at)))

    -- ---- all phases

    pub phase_leaves : (phase : Phase) → ((b : ℕ) (after : _) → phase ≡ phases.FlatOut b after → IsFlat (held_at x.held b)) → wanted c x phase ≡ Some access → Suits (content_at c x phase) (LockOf m) → WasNoted (left_by access got)
    phase_leaves phases.Run flat w suits = (elim (top_of c.program x.frames) as (λ (top : Option Top). run_wants c.program x top ≡ Some access → Suits (run_content c.program top) (LockOf m) → WasNoted (left_by access got))
        [ None ↦ λ w suits. absurd suits | Some top ↦ λ w suits. effect_leaves top.frame.pc top.target (effect_at c.program top) w suits ]) w suits
    phase_leaves (phases.Throw r class) flat w suits = looked WasNoted access got stays x.attempt w
    phase_leaves (phases.Enter b tried) flat w suits = entry_leaves b _ w
    phase_leaves (phases.Acquire b) flat w suits = loaded WasNoted access got stays b w
    phase_leaves (phases.Take b count) flat w suits = leaves WasNoted access got stays _ w (swapped (word_of_lock (locks.Free count)) (word_of_lock (locks.Held x.number)) (λ e. omega (arith, e)))
    phase_leaves (phases.Flag b u) flat w suits = leaves WasNoted access got stays _ w (swapped (word_of_lock (locks.Held u)) (word_of_lock (locks.Flagged u)) (λ e. omega (arith, e)))
    phase_leaves (phases.Leave b after) flat w suits = leave_leaves b (held_at x.held b) x.attempt refl w suits
    phase_leaves (phases.FlatOut b after) flat w suits =
        let same_access : (a : Access) → Some a ≡ Some access → accessed a ≡ accessed access = λ a e. let same : a ≡ access = cc in ap accessed same in
        leaves WasNoted access got stays _ w (flat_out_leaves b (held_at x.held b) refl (flat b after refl) (let same = same_access _ w in sym same))
    phase_leaves (phases.FatIn b r toward) flat w suits = leaves WasNoted access got stays _ w (never (word_of_lock (locks.Fat r)) (λ e. omega (arith, e)))
    phase_leaves phase flat w suits = absurd suits
