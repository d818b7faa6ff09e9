-- Whatever event happens, the count that a thread keeps of a flat lock is the one that it found there.
use Rattle.std.proofs.{Common.{◌≡◌, ◌⊎◌, inl, inr, ℕ, Bool, true, false, cond, List, Option, Some, None, refl, sym, ap, ◌∙◌, subst, ◌==◌, slice_get, option_map}, lemmas.Bool.Decides.Decides-eqb}
use Rattle.machine_types.specs.{Accesses.found_by, Elision.elided, Events.{wanted, moved}, Frames.went_on, Going.goes_on_if}
use Rattle.machine_types.specs.{HeldMonitors.{held_at, with_held, without_held, deeper, shallower}, Instructions.printed, LockWords.word_of_lock, Onward.{Onward, after, Running, rooted}}
use Rattle.machine_types.specs.{Owners.{locks_in, references_of}, Threads.Thread, declared.{access.Access.TheVariants.Cas, lock.{Held.Held, Kept.Kept}, phase.Phase.Phase}}
use Rattle.laws_threads.proofs.{HeldLists.{held_monitor, held_put, held_without}, ThreadMove.{Takes, Move, becomes, counting, any_move, same_onward}}
use Rattle.laws_states.{specs.ChangeLaws.{KeepsFlat, CountsFollow}, proofs.{EventLocks.lock_is, LockPhases.lock_reached, Movers.{KnownSites, LockMover, phase_reaches}}}
use Rattle.machine_types.specs.declared.lock.Kept.TheVariants as keeps
use Rattle.machine_types.specs.declared.lock.LockWord.TheVariants as locks
use Rattle.machine_types.specs.declared.phase.Phase.TheVariants as phases
use Rattle.laws_threads.proofs.ThreadMove as moves

module _ (sites : KnownSites) (mover : LockMover) where
  open mover use {x, structured, state.base.heap.{c, objects, s}}

  abbrev Follows : List Held → Type 0
  Follows later = CountsFollow (locks_in (references_of objects) s.words) x.held later

  -- ---- the list as it was, with an entry put, or without one

  same : Follows x.held
  same = λ m n e. inl e

  put : (k : Held) → ((n : ℕ) → k.kept ≡ keeps.Flat n → KeepsFlat (held_at x.held k.monitor) n ⊎ ((locks_in (references_of objects) s.words).lock k.monitor ≡ locks.Free n)) → Follows (with_held k x.held)
  put k from = λ m n e. at m n (k.monitor == m) refl (subst (λ (o : Option Held). KeepsFlat o n) (held_put m k x.held) e)
    where
      at : (m n : ℕ) (b : Bool) → (k.monitor == m) ≡ b → KeepsFlat (cond b (Some k) (held_at x.held m)) n → KeepsFlat (held_at x.held m) n ⊎ ((locks_in (references_of objects) s.words).lock m ≡ locks.Free n)
      at m n true g e = subst (λ (i : ℕ). KeepsFlat (held_at x.held i) n ⊎ ((locks_in (references_of objects) s.words).lock i ≡ locks.Free n)) ((Decides-eqb k.monitor m).0 g) (from n e)
      at m n false g e = inl e

  put_fat : (k : Held) (r : ℕ) → k.kept ≡ keeps.Fat r → Follows (with_held k x.held)
  put_fat k r fat = put k (λ n e. absurd (let bad : keeps.Fat r ≡ keeps.Flat n = sym fat ∙ e in cc))

  put_again : (m : ℕ) (h k : Held) → held_at x.held m ≡ Some h → k.monitor ≡ h.monitor → k.kept ≡ h.kept → Follows (with_held k x.held)
  put_again m h k at same_monitor same_kept = put k (λ n e. inl (subst (λ (o : Option Held). KeepsFlat o n) (sym (ap (held_at x.held) (same_monitor ∙ held_monitor m x.held h at) ∙ at)) (sym same_kept ∙ e)))

  drop_one : (n : ℕ) → Follows (without_held n x.held)
  drop_one n = λ m k e. (elim (n == m) as
      (λ (b : Bool). KeepsFlat (cond b None (held_at x.held m)) k → KeepsFlat (held_at x.held m) k ⊎ ((locks_in (references_of objects) s.words).lock m ≡ locks.Free k))
      [ true ↦ λ e. absurd e | false ↦ λ e. inl e ]) (subst (λ (o : Option Held). KeepsFlat o k) (held_without m n x.held structured.stands.once) e)

  -- as it goes on
  behind : (y : Thread) (o : Option Onward) → Follows y.held → Follows (goes_on_if y o).held
  behind y o k = subst (λ (hs : List Held). Follows hs) (sym (same_onward (λ (s : Thread). s.held) (λ s frames phase turns. refl) y o)) k

  took : (m got : ℕ) (phase : Phase) (kept : Kept) → x.phase ≡ phase → got ≡ found_by s.words (wanted c x phase) → Takes got m phase kept → Follows (with_held (record { monitor = m; kept = kept; depth = 1 }) x.held)
  took m got _ _ e g (moves.a_fat r same_word) = put_fat (record { monitor = m; kept = keeps.Fat r; depth = 1 }) r refl
  took m got _ _ e g (moves.a_flat n same_word) = put (record { monitor = m; kept = keeps.Flat n; depth = 1 }) (λ k h. inr (free ∙ ap locks.Free (same_count k h)))
    where
      free : (locks_in (references_of objects) s.words).lock m ≡ locks.Free n
      free = lock_is sites mover m (locks.Free n)
          (lock_reached c.program objects s (Cas m (word_of_lock (locks.Free n)) (word_of_lock (locks.Held x.number))) (phase_reaches mover sites (phases.Take m n) e))
          (subst (λ (w : ℕ). (w == word_of_lock (locks.Free n)) ≡ true) g same_word)

      same_count : (k : ℕ) → keeps.Flat n ≡ keeps.Flat k → n ≡ k
      same_count k g = cc

  -- ---- all moves

  follow_moved : (i got : ℕ) (phase : Phase) (k : Move c (counting i x) got phase) → x.phase ≡ phase → got ≡ found_by s.words (wanted c x phase) → Follows (becomes c (counting i x) got phase k).held
  follow_moved i got phase (moves.goes o k) e g = behind (counting i x) (Some o) same
  follow_moved i got _ (moves.prints at n f l t) e g = behind (printed (counting i x) got n) (Some (Running (went_on c.program at 0))) same
  follow_moved i got _ (moves.enters_again m n h l) e g = put_again m h (deeper h) l refl refl
  follow_moved i got phase (moves.takes_lock m kept k) e g = took m got phase kept e g k
  follow_moved i got phase (moves.gives_up m a k) e g = behind (record (counting i x) { held = without_held m x.held }) (after c.program x.frames a) (drop_one m)
  follow_moved i got _ (moves.leaves_outer m a h l t) e g = behind (record (counting i x) { held = with_held (shallower h) x.held }) (after c.program x.frames a) (put_again m h (shallower h) l refl refl)
  follow_moved i got _ (moves.leaves_inside m a q inner k l) e g = behind (record (counting i x) { attempt = Some (record q { inner = inner }) }) (after c.program x.frames a) same
  follow_moved i got _ (moves.finishes_try m a q k l y) e g = behind (elided (counting i x)) (after c.program x.frames a) same
  follow_moved i got _ (moves.fattens_lock m r toward h l) e g = put_fat (record h { kept = keeps.Fat r }) r refl
  follow_moved i got _ (moves.gives_up_to_wait m r h l) e g = drop_one m
  follow_moved i got _ (moves.retakes_lock m r depth t) e g = put_fat (record { monitor = m; kept = keeps.Fat r; depth = depth }) r refl
  follow_moved i got _ (moves.starts number roots l) e g = behind (record (counting i x) { roots = roots }) (option_map (rooted c.program x.number number) (slice_get c.program.methods number)) same
  follow_moved i got phase k e g = same

  pub counts_by_phase : (phase : Phase) → x.phase ≡ phase → Follows (moved c x phase (found_by s.words (wanted c x phase))).held
  counts_by_phase phase e = any_move (λ (y : Thread). Follows y.held) c x phase (found_by s.words (wanted c x phase)) (λ i k. follow_moved i (found_by s.words (wanted c x phase)) phase k e refl)
