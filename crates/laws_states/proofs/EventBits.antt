-- Whatever event happens, the waiting bits of a record are changed by its owner alone.
use Rattle.std.proofs.Common.{⊎_elim, ◌≡◌, ◌⊎◌, inl, inr, ℕ, ◌+◌, ◌-◌, ◌*◌, ◌^◌, ◌<◌, nat_lt, Bool, true, false, not, Some, refl, sym, ap, ◌∙◌, subst, arith, ◌≢◌, ◌==◌, bit_and, bit_or, slice_index, slice_set}
use Rattle.std.{specs.Int.bit_at, proofs.lemmas.{Bool.Decides.nat_tests, Grind.and_not_bit, Nat.{pow_below, Bits.{and_pow, bit_at_above, bit_at-pow_other}}}}
use Rattle.jvm_types.specs.{Numbers.has_flag, declared.fixed_words.TheConstants.MONITOR_RECORDS}
use Rattle.machine_types.specs.{Accesses.words_after, Events.wanted, Monitors.bit_of, Owners.owner_at, Structure.IsAs, Waiting.is_bit_set, Words.bits_word, declared.phase.Phase.Phase}
use Rattle.laws_states.specs.{ChangeLaws.{Sets, Clears, BitsFollow}, SharedWords.RecordsFit, Sites.BitsOf}
use Rattle.laws_states.proofs.{Lists.{same_or_not, set_here, set_there}, StillBits.{IsStill, still_bits}, WaitingBits.{set_keeps, set_other, left_was_set}}
use Rattle.laws_states.proofs.{Movers.{KnownSites, LockMover, on_heap, fits_bounds}, WaitingStep.{record_of, owned_record}}
use Rattle.machine_types.specs.declared.phase.Phase.TheVariants as phases

-- ---- a bit is cleared

none_of : (u : ℕ) → 0 * 2 ^ u ≡ 0
none_of u = omega arith

pub no_flag : (n u : ℕ) → bit_at n u ≡ 0 → has_flag (bit_of u) n ≡ false
no_flag n u e = ap (λ (k : ℕ). not (k == 0)) (and_pow n u ∙ ap (λ (b : ℕ). b * 2 ^ u) e ∙ none_of u)

-- the bits of few threads
few_set : (n u : ℕ) → n < 2 ^ 9 → has_flag (bit_of u) n ≡ true → u < 9
few_set n u few set = (elim (nat_lt u 9) as (λ (b : Bool). nat_lt u 9 ≡ b → u < 9)
    [ true ↦ λ e. grind (arith, nat_tests, e) | false ↦ λ e. let bad : true ≡ false = sym set ∙ no_flag n u (bit_at_above n 9 u few (grind (arith, nat_tests, e))) in absurd (cc) ]) refl

-- the others stay
others_stay : (n u w : ℕ) → u < 9 → w < 9 → u ≢ w → has_flag (bit_of u) n ≡ true → has_flag (bit_of u) (bit_and n (2 ^ 64 - 1 - bit_of w)) ≡ true
others_stay n u w few low differ set =
    let apart : bit_and (2 ^ w) (2 ^ u) ≡ 0 = and_pow (2 ^ w) u ∙ ap (λ (b : ℕ). b * 2 ^ u) (bit_at-pow_other w u differ) ∙ none_of u in
    ap (λ (k : ℕ). not (k == 0)) (and_not_bit n (2 ^ 64 - 1) (2 ^ w) u refl (omega (arith, pow_below w 64 (omega (arith, low)))) (omega (arith, few)) apart) ∙ set

-- ---- all phases

module _ (sites : KnownSites) (mover : LockMover) (records : RecordsFit mover.state.base.heap.s.words) where
  open mover use {t, x, number, state.{was, base.heap.{c, marked, objects, s, facts}}}

  abbrev Done : Phase → Type 0
  Done phase = BitsFollow s.words (words_after s.words (wanted c x phase)) t phase

  still : (phase : Phase) → x.phase ≡ phase → IsStill phase → Done phase
  still phase e is = record { set = λ r u few out in'. absurd (apart r u few false true (λ q. cc) out in'); cleared = λ r u few in' out. absurd (apart r u few true false (λ q. cc) in' out) }
    where
      apart : (r u : ℕ) → r < MONITOR_RECORDS → (a b : Bool) → a ≢ b → is_bit_set s.words r u ≡ a → is_bit_set (words_after s.words (wanted c x phase)) r u ≡ b → ⊥
      apart r u few a b differ' f g = differ' (sym f ∙ ap (has_flag (bit_of u)) (sym (still_bits sites (on_heap mover) phase e is r few)) ∙ g)

  -- the bits of its own record are written
  written : (phase : Phase) (r value : ℕ) → r < MONITOR_RECORDS → was t ≡ phase → record_of phase ≡ Some r
      → ((u : ℕ) → has_flag (bit_of u) (slice_index s.words (bits_word r)) ≡ false
      → has_flag (bit_of u) value ≡ true → (u ≡ t) × Sets phase r)
      → ((u : ℕ) → has_flag (bit_of u) (slice_index s.words (bits_word r)) ≡ true
      → has_flag (bit_of u) value ≡ false → Clears phase r u)
      → BitsFollow s.words (slice_set s.words (bits_word r) value) t phase
  written phase r value low k of sets clears =
      record { set = λ k u few. set_at k u (same_or_not k r); cleared = λ k u few. cleared_at k u (same_or_not k r) }
    where
      owner : owner_at s.words r ≡ t + 1
      owner = (owned_record mover phase r of k).owner

      here : slice_index (slice_set s.words (bits_word r) value) (bits_word r) ≡ value
      here = set_here s.words (bits_word r) value (sites.inside c objects s (BitsOf r) marked facts low)

      there : (k : ℕ) → k ≢ r → slice_index (slice_set s.words (bits_word r) value) (bits_word k) ≡ slice_index s.words (bits_word k)
      there k other = set_there s.words (bits_word r) (bits_word k) value (λ e. other (omega (arith, e)))

      set_at : (k u : ℕ) → (k ≡ r) ⊎ (k ≢ r) → is_bit_set s.words k u ≡ false → is_bit_set (slice_set s.words (bits_word r) value) k u ≡ true → (u ≡ t) × (owner_at s.words k ≡ t + 1) × Sets phase k
      set_at k u (inl same) out in' = subst (λ (n : ℕ). is_bit_set s.words n u ≡ false → is_bit_set (slice_set s.words (bits_word r) value) n u ≡ true → (u ≡ t) × (owner_at s.words n ≡ t + 1) × Sets phase n) (sym same)
          (λ o i. let k = sets u o (ap (has_flag (bit_of u)) (sym here) ∙ i) in (k.0, owner, k.1)) out in'
      set_at k u (inr other) out in' = let bad : false ≡ true = sym out ∙ ap (has_flag (bit_of u)) (sym (there k other)) ∙ in' in absurd (cc)

      cleared_at : (k u : ℕ) → (k ≡ r) ⊎ (k ≢ r) → is_bit_set s.words k u ≡ true → is_bit_set (slice_set s.words (bits_word r) value) k u ≡ false → (owner_at s.words k ≡ t + 1) × Clears phase k u
      cleared_at k u (inl same) in' out = subst (λ (n : ℕ). is_bit_set s.words n u ≡ true → is_bit_set (slice_set s.words (bits_word r) value) n u ≡ false → (owner_at s.words n ≡ t + 1) × Clears phase n u) (sym same)
          (λ i o. (owner, clears u i (ap (has_flag (bit_of u)) (sym here) ∙ o))) in' out
      cleared_at k u (inr other) in' out = let bad : true ≡ false = sym in' ∙ ap (has_flag (bit_of u)) (sym (there k other)) ∙ out in absurd (cc)

  wait_set : (m r : ℕ) → x.phase ≡ phases.WaitBit m r → was t ≡ phases.WaitBit m r → Done (phases.WaitBit m r)
  wait_set m r e k = written (phases.WaitBit m r) r (bit_or (slice_index s.words (bits_word r)) (bit_of x.number)) (fits_bounds mover (phases.WaitBit m r) e) k refl
      (λ u out in'. (
        ⊎_elim (λ (same : u ≡ t). same)
            (λ (other : u ≢ t). let bad : false ≡ true = sym out ∙ set_other (slice_index s.words (bits_word r)) x.number u (λ q. other (q ∙ number)) in' in absurd (cc)) (same_or_not u t),
        refl,
      ))
      (λ u in' out. let bad : true ≡ false = sym (set_keeps (slice_index s.words (bits_word r)) x.number u in') ∙ out in absurd (cc))

  one_cleared : (m r w : ℕ) → x.phase ≡ phases.NotifyOne m r w → was t ≡ phases.NotifyOne m r w → Done (phases.NotifyOne m r w)
  one_cleared m r w e k = written (phases.NotifyOne m r w) r (bit_and (slice_index s.words (bits_word r)) (2 ^ 64 - 1 - bit_of w)) low k refl
      (λ u out in'. let bad : false ≡ true = sym out ∙ left_was_set (slice_index s.words (bits_word r)) (2 ^ 64 - 1 - bit_of w) u in' in absurd (cc))
      (λ u in' out. (refl, by_number u (same_or_not w u) in' out))
    where
      low : r < MONITOR_RECORDS
      low = (fits_bounds mover (phases.NotifyOne m r w) e).0

      by_number : (u : ℕ) → (w ≡ u) ⊎ (w ≢ u) → has_flag (bit_of u) (slice_index s.words (bits_word r)) ≡ true → has_flag (bit_of u) (bit_and (slice_index s.words (bits_word r)) (2 ^ 64 - 1 - bit_of w)) ≡ false → w ≡ u
      by_number u (inl same) in' out = same
      by_number u (inr other) in' out =
          let few = few_set (slice_index s.words (bits_word r)) u (records.bits r low) in' in
          let bad : true ≡ false = sym (others_stay (slice_index s.words (bits_word r)) u w few (omega (arith, (fits_bounds mover (phases.NotifyOne m r w) e).1)) (λ q. other (sym q)) in') ∙ out in
          absurd (cc)

  pub bits_by_phase : (phase : Phase) → x.phase ≡ phase → IsAs phase (was t) → Done phase
  bits_by_phase (phases.WaitBit m r) e k = wait_set m r e k
  bits_by_phase (phases.NotifyOne m r u) e k = one_cleared m r u e k
  bits_by_phase (phases.NotifyAll m r) e k = written (phases.NotifyAll m r) r 0 (fits_bounds mover (phases.NotifyAll m r) e) k refl (λ u out in'. absurd (cc)) (λ u in' out. refl)
  bits_by_phase phase e k = still phase e tt
