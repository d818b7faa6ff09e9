-- What a part begins with, thread by thread.
use Rattle.std.proofs.Common.{◌≡◌, ℕ, zero, suc, ◌+◌, true, List, [], ◌∷◌, map, Some, refl, sym, ap, ◌∙◌, arith, slice_get}
use Rattle.jvm_types.specs.declared.program.Program.{Program}
use Rattle.machine_types.specs.{Core.{how_ended, may_begin, next_threads, part_begins, with_roots}, Parts.{done_roots, run_roots}, Threads.Thread}
use Rattle.run_parts.specs.Parts.{AreNumbered, SharesAreNext, shares_begun, own_begun}

worker_begins : (p : Program) (w : Thread) (n : ℕ) → w.number ≡ suc n → w.program.program ≡ p → own_begun w ≡ with_roots (run_roots p) w
worker_begins p w n e h = rw (e, h) refl

workers_begin_each : (p : Program) (ws : List Thread) (from : ℕ) → ((i : ℕ) (w : Thread) → slice_get ws i ≡ Some w → (w.number ≡ from + suc i) × (w.program.program ≡ p)) → map own_begun ws ≡ map (with_roots (run_roots p)) ws
workers_begin_each p [] from h = refl
workers_begin_each p (w ∷ ws) from h =
    let here = h 0 w refl in
    let number : w.number ≡ suc from = here.0 ∙ omega arith in
    let rest = workers_begin_each p ws (suc from) (λ i x e. let k = h (suc i) x e in (k.0 ∙ omega arith, k.1)) in
    ap (λ y. y ∷ map own_begun ws) (worker_begins p w from number here.1) ∙ ap (λ ys. with_roots (run_roots p) w ∷ ys) rest

first_begins : (x : Thread) → x.number ≡ 0 → x.part ≡ 0 → own_begun x ≡ record x { part = 1; first = how_ended x.phase }
first_begins x e h = rw (e, h) refl

done_begins_own : (p : Program) (x : Thread) (n : ℕ) → x.number ≡ 0 → x.part ≡ suc n → x.program.program ≡ p → own_begun x ≡ with_roots (done_roots p) (record x { part = 2 })
done_begins_own p x n e h k = rw (e, h, k) refl

by_part : (p : Program) (x : Thread) (workers : List Thread) (n : ℕ) → AreNumbered p (x ∷ workers) → x.part ≡ n → shares_begun n x workers ≡ part_begins p n x workers
by_part p x workers zero each part =
    ap (λ y. y ∷ map own_begun workers) (first_begins x (each 0 x refl).0 part)
    ∙ ap (λ ys. record x { part = 1; first = how_ended x.phase } ∷ ys) (workers_begin_each p workers 0 (λ i w e. let k = each (suc i) w e in (k.0 ∙ omega arith, k.1)))
by_part p x workers (suc n) each part = ap (λ y. y ∷ workers) (done_begins_own p x n (each 0 x refl).0 part (each 0 x refl).1)

pub shares_are_next : SharesAreNext
shares_are_next p x workers each may = rw may (by_part p x workers x.part each refl)
