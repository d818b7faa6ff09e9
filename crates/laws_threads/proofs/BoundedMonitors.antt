-- Entering and leaving monitors, waiting and notifying keep a thread within its bounds.
use Rattle.std.proofs.{Common.{◌≡◌, ℕ, zero, suc, ◌+◌, ◌<◌, ◌≤◌, nat_lt, nat_le, true, List, Option, Some, None, refl, subst, ap, arith, option_map, IfSome}, lemmas.Bool.Decides.nat_tests}
use Rattle.lists.proofs.TestLaws.{both_are_true}
use Rattle.jvm_types.specs.declared.{fixed_words.TheConstants.MONITOR_RECORDS, limits.TheConstants.MOST_WORKERS, program.Program.Program}
use Rattle.machine_types.specs.{Bounds.{KeptFits, IsInner, IsBounded}, Elision.elided, FoundWords.{HasCount, most_count}, Going.{with_phase, runs, goes_after}}
use Rattle.machine_types.specs.{HeldMonitors.{held_at, with_held, without_held, deeper, shallower}, LockWords.{lock_by, is_lock_by}, Monitors.{takes, lets_go, retakes, grown}}
use Rattle.machine_types.specs.{Structure.IsFlat, Threads.{Frame, Attempt, Thread}, declared.{lock.{Held.Held, Kept.Kept, LockWord.LockWord}, phase.{After.After, Phase.Phase, Toward.Toward}}}
use Rattle.laws_threads.proofs.{BoundedInstructions.{inside, one_more}, BoundedOnward.{Fit, Spends, spends_less, bounded, running, goes_behind}}
use Rattle.laws_threads.proofs.{HeldBounds.{HeldFit, each_put, each_without, found, flat, flat_put, flat_without, flat_refit, flat_at_most_one}, ThreadMove.begun_attempt}
use Rattle.machine_types.specs.declared.lock.Kept.TheVariants as keeps
use Rattle.machine_types.specs.declared.lock.LockWord.TheVariants as locks
use Rattle.machine_types.specs.declared.phase.Phase.TheVariants as phases
use Rattle.machine_types.specs.declared.phase.Toward.TheVariants as towards

-- ---- lock words

abbrev pub LockFits : LockWord → Type 0
LockFits (locks.Free c) = c < most_count
LockFits (locks.Held u) = u ≤ MOST_WORKERS
LockFits (locks.Flagged u) = Unit {0}
LockFits (locks.Fat r) = r < MONITOR_RECORDS

pub lock_fits : (kind upper : ℕ) → is_lock_by kind upper ≡ true → HasCount (lock_by kind upper) → LockFits (lock_by kind upper)
lock_fits zero n e h = h
lock_fits (suc zero) n e h = grind (arith, nat_tests, e)
lock_fits (suc (suc zero)) n e h = let few : n ≤ 9 = grind (arith, nat_tests, (both_are_true (nat_lt 0 n) (nat_le n 9) e).1) in omega arith
lock_fits (suc (suc (suc kind))) n e h = tt

-- ---- what is held

-- an entry is put for its monitor, whichever stood there
put_fits : (e : Held) (held : List Held) (instructions inflated locked more : ℕ) → HeldFit held instructions inflated locked → KeptFits e.kept → e.depth ≤ instructions → flat e ≤ more
    → HeldFit (with_held e held) instructions inflated (locked + more)
put_fits e held instructions inflated locked more f kept depth few = record {
  kept = each_put (λ h. KeptFits h.kept) e held kept f.kept;
  depths = each_put (λ h. h.depth ≤ instructions) e held depth f.depths;
  inflated_few = let before = f.inflated_few in let flats = flat_put e held in omega arith;
}

-- or in place of the one that stands there, and which is no less of a flat lock
refit_fits : (m : ℕ) (h e : Held) (held : List Held) (instructions inflated locked more : ℕ) → held_at held m ≡ Some h → e.monitor ≡ h.monitor → HeldFit held instructions inflated locked → KeptFits e.kept → e.depth ≤ instructions
    → flat e + more ≤ flat h → HeldFit (with_held e held) instructions (inflated + more) locked
refit_fits m h e held instructions inflated locked more there same f kept depth few = record {
  kept = each_put (λ h. KeptFits h.kept) e held kept f.kept;
  depths = each_put (λ h. h.depth ≤ instructions) e held depth f.depths;
  inflated_few = let before = f.inflated_few in let flats = flat_refit m held h e there same in omega arith;
}

without_fits : (m : ℕ) (held : List Held) (instructions inflated locked : ℕ) → HeldFit held instructions inflated locked → HeldFit (without_held m held) instructions inflated locked
without_fits m held instructions inflated locked f = record {
  kept = each_without (λ h. KeptFits h.kept) m held f.kept;
  depths = each_without (λ h. h.depth ≤ instructions) m held f.depths;
  inflated_few = let before = f.inflated_few in let flats = flat_without m held in omega arith;
}

pub at_found : (P : Held → Type 0) (o : Option Held) (h : Held) → o ≡ Some h → IfSome o P → P h
at_found P o h e all = subst (λ (x : Option Held). IfSome x P) e all

module _ (p : Program) where
  -- ---- a lock is taken

  pub taken : (s : Thread) (m : ℕ) (kept : Kept) → Fit p s → Spends s 1 2 → KeptFits kept → IsBounded p (takes s m kept)
  taken s m kept f k fits =
      let e : Held = record { monitor = m; kept = kept; depth = 1 } in
      let more = one_more s.attempt in
      let one : 1 ≤ s.counts.instructions = let few = k.few in omega arith in
      let held : HeldFit (with_held e s.held) s.counts.instructions s.counts.inflated (s.counts.locked + 1) = put_fits e s.held s.counts.instructions s.counts.inflated s.counts.locked 1 f.held fits one (flat_at_most_one e) in
      running p (record s { held = with_held e s.held; counts = record s.counts { locked = s.counts.locked + 1 } }) (record { limits = f.limits; held = held; tried = f.tried })
      (record { few = let few = k.few in omega arith })

  -- ---- an attempt begins

  pub began : (s : Thread) (m noted number : ℕ) (f : Frame) (below : List Frame) → Fit p s → Spends s 1 2 → noted < most_count → IsBounded p (runs (record s { attempt = Some (begun_attempt m noted number f below) }))
  began s m noted number x below f k fits =
      running p (record s { attempt = Some (begun_attempt m noted number x below) }) (record { limits = f.limits; held = f.held; tried = record { noted = fits; inner = omega arith } })
      (record { few = let few = k.few in let more = one_more s.attempt in omega arith })

  -- ---- entry

  pub deeper_fits : (s : Thread) (m : ℕ) (h : Held) → held_at s.held m ≡ Some h → Fit p s → Spends s 1 2 → IfSome (option_map (λ (h : Held). h.depth) (held_at s.held m)) (λ depth. depth < s.counts.instructions)
      → IsBounded p (runs (record s { held = with_held (deeper h) s.held }))
  deeper_fits s m h there f k below =
      let depth : h.depth < s.counts.instructions = subst (λ (o : Option Held). IfSome (option_map (λ (h : Held). h.depth) o) (λ depth. depth < s.counts.instructions)) there below in
      let kept : KeptFits h.kept = at_found (λ h. KeptFits h.kept) (held_at s.held m) h there (found (λ h. KeptFits h.kept) m s.held f.held.kept) in
      let held : HeldFit (with_held (deeper h) s.held) s.counts.instructions (s.counts.inflated + 0) s.counts.locked =
      refit_fits m h (deeper h) s.held s.counts.instructions s.counts.inflated s.counts.locked 0 there refl f.held kept (omega arith) (omega arith) in
      running p (record s { held = with_held (deeper h) s.held }) (record { limits = f.limits; held = record { kept = held.kept; depths = held.depths; inflated_few = let few = held.inflated_few in omega arith }; tried = f.tried })
      (record { few = let less = spends_less s 1 2 0 1 k (omega arith) (omega arith) in less.few })

  pub inner_fits : (s : Thread) (m : ℕ) (a : Attempt) → s.attempt ≡ Some a → a.monitor ≡ m → Fit p s → Spends s 1 2 → IfSome s.attempt (λ a. IsInner m a s.counts.instructions)
      → IsBounded p (runs (record s { attempt = Some (record a { inner = a.inner + 1 }) }))
  inner_fits s m a e same f k below =
      let inner : IsInner m a s.counts.instructions = subst (λ (o : Option Attempt). IfSome o (λ a. IsInner m a s.counts.instructions)) e below in
      let few : a.inner < s.counts.instructions = inner same in
      let noted : a.noted < most_count = subst (λ (o : Option Attempt). IfSome o (λ a. a.noted < most_count)) e f.tried.noted in
      running p (record s { attempt = Some (record a { inner = a.inner + 1 }) }) (record { limits = f.limits; held = f.held; tried = record { noted = noted; inner = omega arith } })
      (record { few = let spent = k.few in let two = inside 1 2 s.attempt a e in omega arith })

  -- ---- exit

  -- a monitor is being left
  abbrev pub Leaves : Phase → Type 0
  Leaves (phases.Leave m a) = Unit {0}
  Leaves (phases.FlatOut m a) = Unit {0}
  Leaves phase = ⊥

  leaving : (s : Thread) (phase : Phase) → Leaves phase → Fit p s → Spends s 0 2 → IsBounded p (with_phase s phase)
  leaving s (phases.Leave m a) l f k = bounded p s (phases.Leave m a) f tt f.limits.few_turns f.limits.few_steps tt tt k
  leaving s (phases.FlatOut m a) l f k = bounded p s (phases.FlatOut m a) f tt f.limits.few_turns f.limits.few_steps tt tt k
  leaving s phase l f k = absurd l

  behind : (s : Thread) (phase : Phase) (a : After) → Leaves phase → Fit p s → Spends s 0 2 → IsBounded p (goes_after p (with_phase s phase) a)
  behind s phase a l f k = goes_behind p (with_phase s phase) a (leaving s phase l f k) (record { limits = f.limits; held = f.held; tried = f.tried }) (record { few = k.few })

  pub let_go : (s : Thread) (phase : Phase) (m : ℕ) (a : After) → Leaves phase → Fit p s → Spends s 0 2 → IsBounded p (lets_go p (with_phase s phase) m a)
  let_go s phase m a l f k =
      let held : HeldFit (without_held m s.held) s.counts.instructions s.counts.inflated s.counts.locked = without_fits m s.held s.counts.instructions s.counts.inflated s.counts.locked f.held in
      behind (record s { held = without_held m s.held }) phase a l (record { limits = f.limits; held = held; tried = f.tried }) (record { few = k.few })

  pub shallower_fits : (s : Thread) (phase : Phase) (m : ℕ) (a : After) (h : Held) → held_at s.held m ≡ Some h → Leaves phase → Fit p s → Spends s 0 2 → IsBounded p (goes_after p (record s { phase = phase; held = with_held (shallower h) s.held }) a)
  shallower_fits s phase m a h there l f k =
      let depth : h.depth ≤ s.counts.instructions = at_found (λ h. h.depth ≤ s.counts.instructions) (held_at s.held m) h there (found (λ h. h.depth ≤ s.counts.instructions) m s.held f.held.depths) in
      let kept : KeptFits h.kept = at_found (λ h. KeptFits h.kept) (held_at s.held m) h there (found (λ h. KeptFits h.kept) m s.held f.held.kept) in
      let held : HeldFit (with_held (shallower h) s.held) s.counts.instructions (s.counts.inflated + 0) s.counts.locked =
      refit_fits m h (shallower h) s.held s.counts.instructions s.counts.inflated s.counts.locked 0 there refl f.held kept (omega arith) (omega arith) in
      behind (record s { held = with_held (shallower h) s.held }) phase a l (record { limits = f.limits; held = record { kept = held.kept; depths = held.depths; inflated_few = let few = held.inflated_few in omega arith }; tried = f.tried }) (record { few = k.few })

  pub finished : (s : Thread) (phase : Phase) (a : After) (t : Attempt) → Leaves phase → s.attempt ≡ Some t → Fit p s → Spends s 0 2 → IsBounded p (goes_after p (elided (with_phase s phase)) a)
  finished s phase a t l e f k =
      let done : Thread = record s { attempt = None; counts = record s.counts { elided = s.counts.elided + 1 } } in
      behind done phase a l (record { limits = f.limits; held = f.held; tried = record { noted = tt; inner = tt } }) (record { few = let few = k.few in let two = inside 0 2 s.attempt t e in omega arith })

  pub left_inner : (s : Thread) (phase : Phase) (a : After) (t : Attempt) (inner : ℕ) → Leaves phase → s.attempt ≡ Some t → t.inner ≡ suc inner → Fit p s → Spends s 0 2
      → IsBounded p (goes_after p (record s { phase = phase; attempt = Some (record t { inner = inner }) }) a)
  left_inner s phase a t inner l e i f k =
      let noted : t.noted < most_count = subst (λ (o : Option Attempt). IfSome o (λ a. a.noted < most_count)) e f.tried.noted in
      let most : t.inner ≤ s.counts.instructions = subst (λ (o : Option Attempt). IfSome o (λ a. a.inner ≤ s.counts.instructions)) e f.tried.inner in
      behind (record s { attempt = Some (record t { inner = inner }) }) phase a l (record { limits = f.limits; held = f.held; tried = record { noted = noted; inner = omega arith } })
      (record { few = let few = k.few in let two = inside 0 2 s.attempt t e in omega arith })

  -- ---- inflation

  -- a flat lock becomes a fat one
  fat_fits : (s : Thread) (m r : ℕ) (h : Held) → held_at s.held m ≡ Some h → IsFlat (Some h) → r < MONITOR_RECORDS → Fit p s
      → HeldFit (with_held (record h { kept = keeps.Fat r }) s.held) s.counts.instructions (s.counts.inflated + 1) s.counts.locked
  fat_fits s m r h there is_flat fits f =
      let depth : h.depth ≤ s.counts.instructions = at_found (λ h. h.depth ≤ s.counts.instructions) (held_at s.held m) h there (found (λ h. h.depth ≤ s.counts.instructions) m s.held f.held.depths) in
      let one : flat h ≡ 1 = ap (λ (kept : Kept). flat (record h { kept = kept })) is_flat.1 in
      refit_fits m h (record h { kept = keeps.Fat r }) s.held s.counts.instructions s.counts.inflated s.counts.locked 1 there refl f.held fits depth (omega arith)

  pub fattened : (s : Thread) (m r : ℕ) (toward : Toward) (h : Held) → held_at s.held m ≡ Some h → IsFlat (Some h) → r < MONITOR_RECORDS → Fit p s → Spends s 0 2
      → IsBounded p (record s { held = with_held (record h { kept = keeps.Fat r }) s.held; counts = record s.counts { inflated = s.counts.inflated + 1 }; phase = grown m r toward })
  fattened s m r (towards.Leave a) h there is_flat fits f k =
      bounded p (record s { held = _; counts = _ }) (phases.Leave m a) (record { limits = f.limits; held = fat_fits s m r h there is_flat fits f; tried = f.tried }) tt f.limits.few_turns f.limits.few_steps tt tt (record { few = k.few })
  fattened s m r towards.Wait h there is_flat fits f k =
      bounded p (record s { held = _; counts = _ }) (phases.WaitBit m r) (record { limits = f.limits; held = fat_fits s m r h there is_flat fits f; tried = f.tried }) fits f.limits.few_turns f.limits.few_steps tt tt (record { few = k.few })

  -- ---- waiting

  pub gone_to_wait : (s : Thread) (m r : ℕ) (h : Held) → held_at s.held m ≡ Some h → r < MONITOR_RECORDS → Fit p s → Spends s 0 2 → IsBounded p (record s { held = without_held m s.held; phase = phases.WaitLook m r h.depth })
  gone_to_wait s m r h there fits f k =
      let depth : h.depth ≤ s.counts.instructions = at_found (λ h. h.depth ≤ s.counts.instructions) (held_at s.held m) h there (found (λ h. h.depth ≤ s.counts.instructions) m s.held f.held.depths) in
      let held : HeldFit (without_held m s.held) s.counts.instructions s.counts.inflated s.counts.locked = without_fits m s.held s.counts.instructions s.counts.inflated s.counts.locked f.held in
      bounded p (record s { held = without_held m s.held }) (phases.WaitLook m r h.depth) (record { limits = f.limits; held = held; tried = f.tried }) fits f.limits.few_turns f.limits.few_steps depth tt (record { few = k.few })

  pub taken_back : (s : Thread) (m r depth : ℕ) → r < MONITOR_RECORDS → depth ≤ s.counts.instructions → Fit p s → Spends s 0 2 → IsBounded p (retakes s m r depth)
  taken_back s m r depth fits few f k =
      let e : Held = record { monitor = m; kept = keeps.Fat r; depth = depth } in
      let held : HeldFit (with_held e s.held) s.counts.instructions s.counts.inflated (s.counts.locked + 0) = put_fits e s.held s.counts.instructions s.counts.inflated s.counts.locked 0 f.held fits few (omega arith) in
      running p (record s { held = with_held e s.held }) (record { limits = f.limits; held = record { kept = held.kept; depths = held.depths; inflated_few = let few = held.inflated_few in omega arith }; tried = f.tried })
      (record { few = let less = spends_less s 0 2 0 1 k (omega arith) (omega arith) in less.few })
