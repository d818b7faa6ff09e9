-- The prints of an outcome are those of the plain state.
use Rattle.std.proofs.Common.{◌≡◌, ◌⊎◌, inl, inr, ℕ, zero, suc, ◌+◌, Bool, true, false, cond, List, [], ◌∷◌, ◌++◌, length, map, Option, Some, None, refl, sym, ap, ◌∙◌, subst, arith, length-append, ◌==◌, Contains, option_map, slice_get, slice_set}
use Rattle.std.{specs.List.{sum_by, range_with_len}, proofs.lemmas.{Bool.Decides.Decides-eqb, List.{Elements.{Contains-append_left, Contains-append_right}, Sums.sum_by-cons}, Option.slice_get-map}}
use Rattle.std.proofs.lemmas.Bool.{cases_Bool}
use Rattle.lists.proofs.ListLaws.{same_some}
use Rattle.jvm_types.{specs.declared.{outcome.{Print.Print, ThreadReport.ThreadReport}, program.Program.Program}, proofs.EachAfter.last_got}
use Rattle.checked_program.specs.MarkedProgram.{MarkedProgram}
use Rattle.machine_types.specs.{Core.{Core, start_thread, start, may_begin, with_roots, part_begins, next_threads, report_of, outcome}, Faithful.PrintsFit, PlainState.{Plain, Printed}, Threads.Thread}
use Rattle.machine_types.{specs.declared.config.Config.Config, proofs.Lists.got_when_set}
use Rattle.laws_threads.proofs.StateSteps.{set_other}
use Rattle.laws_states.proofs.Sums.{sum_set}
use Rattle.laws_simulation.{specs.OutcomeLaws.{NextKeepsPrints, StartHasPrints}, proofs.{Assembled.mapped_from, CountedEvents.with_print, PlainPrints.with_printed}}

-- ---- lists

sum_map : {A B : Type 0} (f : B → ℕ) (g : A → B) (xs : List A) → sum_by f (map g xs) ≡ sum_by (λ x. f (g x)) xs
sum_map f g [] = refl
sum_map f g (x ∷ xs) = let a = sum_by-cons f (g x) (map g xs) in let b = sum_by-cons (λ x. f (g x)) x xs in let k = sum_map f g xs in omega (arith, a, b, k)

-- ---- reports

-- the report of a thread has a print
pub record Reports (threads : List Thread) (u : ℕ) (print : Print) : Type 0 where
  pub report : ThreadReport
  pub there : slice_get (map report_of threads) u ≡ Some report
  pub has : Contains report.prints print

abbrev pub prints_in : List Thread → ℕ
prints_in threads = sum_by (λ (x : Thread). length x.prints) threads

reports_sum : (threads : List Thread) → sum_by (λ (r : ThreadReport). length r.prints) (map report_of threads) ≡ prints_in threads
reports_sum threads = sum_map (λ (r : ThreadReport). length r.prints) report_of threads

reported : (threads : List Thread) (u : ℕ) (x : Thread) (print : Print) → slice_get threads u ≡ Some x → Contains x.prints print → Reports threads u print
reported threads u x print e k = record { report = report_of x; there = slice_get-map report_of threads u ∙ ap (option_map report_of) e; has = k }

-- the thread of a report
pub record Reporter (threads : List Thread) (u : ℕ) (print : Print) : Type 0 where
  pub thread : Thread
  pub there : slice_get threads u ≡ Some thread
  pub has : Contains thread.prints print

reporter : (threads : List Thread) (u : ℕ) (print : Print) → Reports threads u print → Reporter threads u print
reporter threads u print r = (elim (slice_get threads u) as (λ (o : Option Thread). slice_get threads u ≡ o → option_map report_of o ≡ Some r.report → Reporter threads u print) [
  | None ↦ λ e f. absurd (cc)
  | Some x ↦ λ e f. record { thread = x; there = e; has = subst (λ (z : ThreadReport). Contains z.prints print) (sym (same_some f)) r.has }
]) refl (sym (slice_get-map report_of threads u) ∙ r.there)

-- what holds of the threads and of the prints of a plain state
pub record Fit (threads : List Thread) (ps : List Printed) : Type 0 where
  pub each : (i : ℕ) (z : Printed) → slice_get ps i ≡ Some z → Reports threads z.thread (record { ticket = i; value = z.value })
  pub no_more : prints_in threads ≡ length ps

pub fit_of : (s : Core) (q : Plain) → PrintsFit (outcome s) q → Fit s.threads q.prints
fit_of s q h = record {
  each = λ i z e. let r = h.each i z e in record { report = r.0; there = r.1; has = r.2 };
  no_more = sym (reports_sum s.threads) ∙ h.no_more;
}

pub prints_of : (s : Core) (q : Plain) → Fit s.threads q.prints → PrintsFit (outcome s) q
prints_of s q h = record {
  each = λ i z e. let r = h.each i z e in (r.report, r.there, r.has);
  no_more = reports_sum s.threads ∙ h.no_more;
}

-- ---- one thread has moved

module _ (threads : List Thread) (t : ℕ) (x y : Thread) (there : slice_get threads t ≡ Some x) where
  moved_on : (u : ℕ) (print : Print) → (Contains x.prints print → Contains y.prints print) → Reports threads u print → Reports (slice_set threads t y) u print
  moved_on u print more r = elim (cases_Bool (u == t)) [
    | inl e ↦
        let same = (Decides-eqb u t).0 e in
        let k = reporter threads u print r in
        let is : x ≡ k.thread = same_some (sym there ∙ ap (slice_get threads) (sym same) ∙ k.there) in
        reported (slice_set threads t y) u y print (ap (slice_get (slice_set threads t y)) same ∙ got_when_set threads t x y there)
        (more (subst (λ (z : Thread). Contains z.prints print) (sym is) k.has))
    | inr e ↦
        let k = reporter threads u print r in
        reported (slice_set threads t y) u k.thread print (set_other threads t u y e ∙ k.there) k.has
  ]

  sums : prints_in (slice_set threads t y) + length x.prints ≡ prints_in threads + length y.prints
  sums = sum_set (λ (z : Thread). length z.prints) threads t x y there

  pub printed_none : (ps later : List Printed) → y.prints ≡ x.prints → later ≡ ps → Fit threads ps → Fit (slice_set threads t y) later
  printed_none ps later same e h = subst (λ (qs : List Printed). Fit (slice_set threads t y) qs) (sym e) (record {
    each = λ i z g. moved_on z.thread (record { ticket = i; value = z.value }) (subst (λ (ls : List Print). Contains ls (record { ticket = i; value = z.value })) (sym same)) (h.each i z g);
    no_more = let k = sums in let n = h.no_more in let l : length y.prints ≡ length x.prints = ap length same in omega (arith, k, n, l);
  })

  pub printed_one : (ps later : List Printed) (print : Print) → y.prints ≡ x.prints ++ print ∷ [] → later ≡ ps ++ record { thread = t; value = print.value } ∷ [] → print.ticket ≡ length ps → Fit threads ps → Fit (slice_set threads t y) later
  printed_one ps later print new e ticket h = subst (λ (qs : List Printed). Fit (slice_set threads t y) qs) (sym e) (record {
    each = λ i z g. by_place i z (last_got ps (record { thread = t; value = print.value }) i z g);
    no_more =
        let k = sums in let n = h.no_more in
        let l : length y.prints ≡ length (x.prints ++ print ∷ []) = ap length new in
        let a = length-append x.prints (print ∷ []) in
        let b = length-append ps (record { thread = t; value = print.value } ∷ []) in
        omega (arith, k, n, l, a, b);
  })
    where
      grown : (old : Print) → Contains x.prints old → Contains y.prints old
      grown old k = subst (λ (ls : List Print). Contains ls old) (sym new) (Contains-append_left x.prints (print ∷ []) old k)

      has_new : Contains y.prints print
      has_new = subst (λ (ls : List Print). Contains ls print) (sym new) (Contains-append_right x.prints (print ∷ []) print (0, omega arith, refl))

      by_place : (i : ℕ) (z : Printed) → (slice_get ps i ≡ Some z) ⊎ ((i ≡ length ps) × (z ≡ record { thread = t; value = print.value })) → Reports (slice_set threads t y) z.thread (record { ticket = i; value = z.value })
      by_place i z (inl g) = moved_on z.thread (record { ticket = i; value = z.value }) (grown _) (h.each i z g)
      by_place i z (inr g) = subst (λ (w : Printed). Reports (slice_set threads t y) w.thread (record { ticket = i; value = w.value })) (sym g.1)
          (subst (λ (n : ℕ). Reports (slice_set threads t y) t (record { ticket = n; value = print.value })) (ticket ∙ sym g.0)
          (reported (slice_set threads t y) t y print (got_when_set threads t x y there) has_new))

  pub printed_by : (ps later : List Printed) (print : Option Print) → y.prints ≡ with_print x.prints print → later ≡ with_printed t ps (option_map (λ (p : Print). p.value) print)
      → ((p : Print) → print ≡ Some p → p.ticket ≡ length ps) → Fit threads ps → Fit (slice_set threads t y) later
  printed_by ps later None same e ticket h = printed_none ps later same e h
  printed_by ps later (Some p) new e ticket h = printed_one ps later p new e (ticket p refl) h

-- ---- where a part begins

-- each thread has printed the same
same_prints : (threads later : List Thread) (ps : List Printed) → map (λ (x : Thread). x.prints) threads ≡ map (λ (x : Thread). x.prints) later → Fit threads ps → Fit later ps
same_prints threads later ps same h = record {
  each = λ i z e.
      let r = reporter threads z.thread (record { ticket = i; value = z.value }) (h.each i z e) in
      let x = mapped_from (λ (x : Thread). x.prints) later threads same z.thread r.thread r.there in
      reported later z.thread x.0 (record { ticket = i; value = z.value }) x.1 (subst (λ (ls : List Print). Contains ls (record { ticket = i; value = z.value })) x.2 r.has);
  no_more = sym (sum_map length (λ (x : Thread). x.prints) later) ∙ ap (sum_by length) (sym same) ∙ sum_map length (λ (x : Thread). x.prints) threads ∙ h.no_more;
}

roots_print_none : (roots : List ℕ) (workers : List Thread) → map (λ (x : Thread). x.prints) workers ≡ map (λ (x : Thread). x.prints) (map (with_roots roots) workers)
roots_print_none roots [] = refl
roots_print_none roots (x ∷ workers) = ap (λ (ls : List (List Print)). x.prints ∷ ls) (roots_print_none roots workers)

begun_same : (p : Program) (part : ℕ) (x : Thread) (workers : List Thread) → map (λ (z : Thread). z.prints) (x ∷ workers) ≡ map (λ (z : Thread). z.prints) (part_begins p part x workers)
begun_same p zero x workers = ap (λ (ls : List (List Print)). x.prints ∷ ls) (roots_print_none _ workers)
begun_same p (suc part) x workers = refl

next_same : (p : Program) (threads : List Thread) → map (λ (z : Thread). z.prints) threads ≡ map (λ (z : Thread). z.prints) (next_threads p threads)
next_same p [] = refl
next_same p (x ∷ workers) = elim (may_begin (x ∷ workers)) as (λ (b : Bool). map (λ (z : Thread). z.prints) (x ∷ workers) ≡ map (λ (z : Thread). z.prints) (cond b (part_begins p x.part x workers) (x ∷ workers)))
    [ true ↦ begun_same p x.part x workers | false ↦ refl ]

pub next_keeps_prints : NextKeepsPrints
next_keeps_prints c s q h = prints_of (record s { threads = next_threads c.program s.threads }) q (same_prints s.threads (next_threads c.program s.threads) q.prints (next_same c.program s.threads) (fit_of s q h))

-- ---- the start

none_printed : (c : MarkedProgram) (cfg : Config) (ns : List ℕ) → prints_in (map (start_thread c cfg) ns) ≡ 0
none_printed c cfg [] = refl
none_printed c cfg (n ∷ ns) = let k = none_printed c cfg ns in let a = sum_by-cons (λ (x : Thread). length x.prints) (start_thread c cfg n) (map (start_thread c cfg) ns) in let b = none n in omega (arith, k, a, b)
  where
    none : (n : ℕ) → length (start_thread c cfg n).prints ≡ 0
    none zero = refl
    none (suc n) = refl

pub start_has_prints : StartHasPrints
start_has_prints c cfg = prints_of (start c cfg) _ (record { each = λ i z e. absurd (cc); no_more = none_printed c cfg (range_with_len 0 (c.program.workers + 1)) })
