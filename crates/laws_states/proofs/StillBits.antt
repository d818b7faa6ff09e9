-- Most events leave the waiting bits as they are.
use Rattle.std.proofs.Common.{◌≡◌, inl, inr, ℕ, ◌<◌, ◌^◌, List, Option, Some, None, sym, ap, ◌∙◌, subst, slice_index}
use Rattle.jvm_types.specs.{Numbers.has_flag, declared.{fixed_words.TheConstants.MONITOR_RECORDS, program.{Program.Program, Target.Target}}}
use Rattle.checked_program.specs.MarkedProgram.{MarkedProgram}
use Rattle.machine_types.specs.{Accesses.{left_by, words_after}, Events.wanted, FoundWords.{Content, effect_content, run_content, leave_content, content_at}}
use Rattle.machine_types.specs.{Frames.{Top, top_of, effect_at}, Monitors.{Claim, Has, Tries, HasNot, claim}, Owners.Locks, Threads.Thread, Words.bits_word, declared.access.Access.Access}
use Rattle.machine_types.specs.declared.{access.Access.TheVariants.Load, effect.Effect.{Effect, TheVariants.{Reads, Writes}}, lock.Kept.Kept, phase.Phase.Phase}
use Rattle.laws_states.{specs.Sites.{BitsOf, Suits}, proofs.{EventWords.{word_at}, LeftStands.variable_in, Movers.{KnownSites, HeapMover}, WaitingStep.Changes}}
use Rattle.machine_types.specs.declared.lock.Kept.TheVariants as keeps
use Rattle.machine_types.specs.declared.phase.Phase.TheVariants as phases

-- ---- no instruction accesses them, nor does a release

effect_not : (p : Program) (target : Target) (e : Effect) (r : ℕ) → Suits (effect_content p target e) (BitsOf r) → ⊥
effect_not p target (Reads v) r suits = variable_in (λ (content : Content). Suits content (BitsOf r) → ⊥) (λ s. s) (λ s. s) (λ s. s) p target suits
effect_not p target (Writes v word) r suits = variable_in (λ (content : Content). Suits content (BitsOf r) → ⊥) (λ s. s) (λ s. s) (λ s. s) p target suits
effect_not p target e r suits = suits

run_not : (p : Program) (top : Option Top) (r : ℕ) → Suits (run_content p top) (BitsOf r) → ⊥
run_not p None r suits = suits
run_not p (Some at) r suits = effect_not p at.target (effect_at p at) r suits

leave_not : (k : Claim) (r : ℕ) → Suits (leave_content k) (BitsOf r) → ⊥
leave_not (Has h) r suits = (elim h.kept as (λ (k : Kept). Suits (leave_content (Has (record h { kept = k }))) (BitsOf r) → ⊥)
    [ keeps.Flat c ↦ λ suits. suits | keeps.Fat k ↦ λ suits. suits ]) suits
leave_not (Tries a) r suits = suits
leave_not HasNot r suits = suits

-- ---- phases

-- neither sets bits nor clears some
abbrev pub IsStill : Phase → Type 0
IsStill (phases.WaitBit m r) = ⊥
IsStill (phases.NotifyOne m r u) = ⊥
IsStill (phases.NotifyAll m r) = ⊥
IsStill phase = Unit {0}

still_leaves : (c : MarkedProgram) (s : Thread) (phase : Phase) (r : ℕ) (access : Access) (n : ℕ) → IsStill phase → Suits (content_at c s phase) (BitsOf r) → wanted c s phase ≡ Some access → left_by access n ≡ n
still_leaves c s phases.Run r access n is suits w = absurd (run_not c.program (top_of c.program s.frames) r suits)
still_leaves c s (phases.Leave m a) r access n is suits w = absurd (leave_not (claim s m) r suits)
still_leaves c s (phases.WaitLook m k depth) r access n is suits w = let same : Load (bits_word k) ≡ access = cc in ap (λ (a : Access). left_by a n) (sym same)
still_leaves c s (phases.NotifyLook m k) r access n is suits w = let same : Load (bits_word k) ≡ access = cc in ap (λ (a : Access). left_by a n) (sym same)
still_leaves c s phase r access n is suits w = absurd (assumption)

-- ---- words

abbrev pub SameBits : (words after : List ℕ) → Type 0
SameBits words after = (r : ℕ) → r < MONITOR_RECORDS → slice_index after (bits_word r) ≡ slice_index words (bits_word r)

pub same_changes : (v : Locks) (words after : List ℕ) (t : ℕ) → SameBits words after → Changes v words after t
same_changes v words after t same = record {
  less = λ r u low d set. sym (ap (has_flag (2 ^ u)) (same r low)) ∙ set;
  stays = λ r k low d set. ap (has_flag (2 ^ k)) (same r low) ∙ set;
}

module _ (sites : KnownSites) (mover : HeapMover) where
  open mover use {x, state.{c, s}}

  same_here : IsStill x.phase → SameBits s.words (words_after s.words (wanted c x x.phase))
  same_here still r low = elim (word_at mover sites (BitsOf r) low)
      [ inl e ↦ e | inr k ↦ k.left ∙ still_leaves c x x.phase r k.access (slice_index s.words (bits_word r)) still k.suits k.wants ]

  pub still_bits : (phase : Phase) → x.phase ≡ phase → IsStill phase → SameBits s.words (words_after s.words (wanted c x phase))
  still_bits phase e = subst (λ (p : Phase). IsStill p → SameBits s.words (words_after s.words (wanted c x p))) e same_here
