-- Threads that make objects, where one that makes none goes on.
use Rattle.std.proofs.Common.{◌≡◌, ◌≢◌, ◌⊎◌, inl, inr, ℕ, List, Some, sym, ap, ◌∙◌, subst, Contains, slice_get, slice_set}
use Rattle.lists.proofs.ListLaws.{same_some}
use Rattle.jvm_types.specs.declared.program.Program.{Program}
use Rattle.machine_types.{specs.{Agreement.IsPending, PlainMemory.Object, PlainState.Plain, Threads.Thread, declared.phase.Phase.Phase}, proofs.Lists.{got_when_set, got_other}}
use Rattle.laws_states.proofs.Lists.{same_or_not}
use Rattle.laws_simulation.specs.StandsBeside.{IsBeingMade, IsPlainNew}
use Rattle.machine_types.specs.declared.phase.Phase.TheVariants as phases

pub new_again : (p : Program) (q r : Plain) (a word : ℕ) → r.objects ≡ q.objects → IsPlainNew p q a word → IsPlainNew p r a word
new_again p q r a word e k = record { object = k.object; there = subst (λ (os : List Object). Contains os k.object) (sym e) k.there; reference = k.reference; class = k.class; values = k.values; header = k.header }

abbrev pub MakesNone : Phase → Type 0
MakesNone phase = (a word : ℕ) → phase ≡ phases.Made a word → ⊥

module _ (threads : List Thread) (t : ℕ) (x new : Thread)
    (there : slice_get threads t ≡ Some x) where
  abbrev later : List Thread
  later = slice_set threads t new

  own_phase : (u : ℕ) (z : Thread) (a word : ℕ) → slice_get threads u ≡ Some z → z.phase ≡ phases.Made a word → u ≡ t → x.phase ≡ phases.Made a word
  own_phase u z a word e m same =
      let one : z ≡ x = same_some (sym e ∙ (ap (slice_get threads) same ∙ there)) in
      ap (λ (y : Thread). y.phase) (sym one) ∙ m

  own_new : (u : ℕ) (z : Thread) (a word : ℕ) → slice_get later u ≡ Some z → z.phase ≡ phases.Made a word → u ≡ t → new.phase ≡ phases.Made a word
  own_new u z a word e m same =
      let one : z ≡ new = same_some (sym e ∙ (ap (slice_get later) same ∙ got_when_set threads t x new there)) in
      ap (λ (y : Thread). y.phase) (sym one) ∙ m

  pub pending_on : MakesNone x.phase → (n : ℕ) → IsPending threads n → IsPending later n
  pending_on none n k = elim (same_or_not k.0 t)
      [ inl same ↦ absurd (none k.2 k.3 (own_phase k.0 k.1 k.2 k.3 k.4 k.5 same)) | inr d ↦ (k.0, k.1, k.2, k.3, got_other threads t k.0 new d ∙ k.4, k.5, k.6) ]

  pub making_on : MakesNone x.phase → (a : ℕ) → IsBeingMade threads a → IsBeingMade later a
  making_on none a k = elim (same_or_not k.0 t) [ inl same ↦ absurd (none a k.2 (own_phase k.0 k.1 a k.2 k.3 k.4 same)) | inr d ↦ (k.0, k.1, k.2, got_other threads t k.0 new d ∙ k.3, k.4) ]

  -- one that makes an object made it before, but for the thread itself
  pub made_before : (u : ℕ) (z : Thread) (a word : ℕ) → slice_get later u ≡ Some z → z.phase ≡ phases.Made a word → (new.phase ≡ phases.Made a word) ⊎ ((u ≢ t) × (slice_get threads u ≡ Some z))
  made_before u z a word e m = elim (same_or_not u t) [ inl same ↦ inl (own_new u z a word e m same) | inr d ↦ inr (d, sym (got_other threads t u new d) ∙ e) ]

  pub made_by_others : MakesNone new.phase → (u : ℕ) (z : Thread) (a word : ℕ) → slice_get later u ≡ Some z → z.phase ≡ phases.Made a word → slice_get threads u ≡ Some z
  made_by_others none u z a word e m = elim (made_before u z a word e m) [ inl f ↦ absurd (none a word f) | inr k ↦ k.1 ]
