-- An exception that nothing caught, and that ended a part of a run, ended a part of a state of the list.
use Rattle.std.proofs.Common.{◌≡◌, ◌≤◌, inl, inr, ◌||◌, ℕ, zero, suc, Bool, true, false, if◌then◌else◌, List, [], ◌∷◌, Option, Some, None, refl, sym, ap, ◌∙◌, subst, arith, nat_lt, slice_get, slice_set, option_map}
use Rattle.std.{specs.{List.list_any, Prelude.Contains}, proofs.lemmas.Option.slice_get-map}
use Rattle.jvm_types.specs.declared.{outcome.{End.End, ThreadReport.ThreadReport}, program.Program.Program}
use Rattle.jvm_types.specs.declared.outcome.End.TheVariants as ends
use Rattle.checked_program.specs.MarkedProgram.{MarkedProgram}
use Rattle.machine_types.specs.{Core.{Core, Happening, core, done_end, end_or_not_run, outcome, report_of, reported_end}, History.shadow, Parts.done_roots}
use Rattle.machine_types.specs.{PlainState.{Plain, PlainThread, plain_goes_on, plain_start, with_thread}, PlainSteps.plain_step, Threads.Thread}
use Rattle.machine_types.specs.declared.{config.Config.Config, phase.Phase.Phase, plain.{Act.Act, PlainStep.PlainStep}}
use Rattle.machine_types.specs.declared.phase.Phase.TheVariants as phases
use Rattle.machine_types.specs.Onward as onward
use Rattle.machine_types.specs.Onward.{Onward}
use Rattle.laws_threads.proofs.Throws.{any_at}
use Rattle.laws_states.specs.PartsStand.{FirstFits}
use Rattle.laws_simulation.{specs.StandsBeside.{end_of_done, ends_shown, own_end}, proofs.Assembled.got_same_length}
use Rattle.laws_refinement.specs.RunsStand.{RunStands, RunsStand}
use Rattle.plain_orders.specs.{LocalSteps.{gone_alone, is_local, onward_alone, stays_live}, Orders.{all_steps, IsLocalRun}, UncaughtRuns.{UncaughtIsCovered, TellsUncaught, has_uncaught_end, is_by_uncaught}}
use Rattle.plain_orders.proofs.{Beside.got_same, Covered.each_run_is_seen, OwnSteps.{live_onward, local_steps_are_own}, Runs.same_run, Swaps.{are_local, known, one_state}}

-- ---- a test of some thread

any_kept : {A : Type 0} (f : A → Bool) (xs : List A) (t : ℕ) (x y : A) → slice_get xs t ≡ Some x → f y ≡ f x → list_any f (slice_set xs t y) ≡ list_any f xs
any_kept f [] t x y e same = absurd (cc)
any_kept f (z ∷ zs) zero x y e same = ap (λ (b : Bool). b || list_any f zs) (same ∙ ap f (got_same x z (sym e)))
any_kept f (z ∷ zs) (suc t) x y e same = ap (λ (b : Bool). f z || b) (any_kept f zs t x y e same)

-- ---- local steps end no part

ended_kept : (x : PlainThread) (o : Onward) → stays_live o ≡ Some o → (plain_goes_on x o).ended ≡ x.ended
ended_kept x onward.RootReturned e = absurd (cc)
ended_kept x (onward.Uncaught class) e = absurd (cc)
ended_kept x o e = refl

gone_ended : (p : Program) (x y : PlainThread) → gone_alone p x ≡ Some y → y.ended ≡ x.ended
gone_ended p x y e =
    let k = live_onward (onward_alone p x x.status) x y e in
    ap (λ (z : PlainThread). z.ended) (sym k.3) ∙ ended_kept x k.0 k.2

one_keeps : (p : Program) (q r : Plain) (a : PlainStep) → is_local p q a ≡ true → plain_step p q a ≡ Some r → has_uncaught_end r ≡ has_uncaught_end q
one_keeps p q r a l e =
    let k = known p q a l in
    let made : plain_step p q a ≡ Some (with_thread q a.thread k.1) =
    ap (λ (act : Act). plain_step p q (record { thread = a.thread; act = act })) k.4 ∙ local_steps_are_own p q a.thread k.0 k.1 k.2 k.3 in
    ap has_uncaught_end (sym (one_state (plain_step p q a) (with_thread q a.thread k.1) r made e))
    ∙ any_kept (λ (x : PlainThread). list_any is_by_uncaught x.ended) q.threads a.thread k.0 k.1 k.2 (ap (list_any is_by_uncaught) (gone_ended p k.0 k.1 k.3))

all_keep : (p : Program) (q z : Plain) (xs : List PlainStep) → IsLocalRun (plain_step p) (is_local p) q xs z → has_uncaught_end z ≡ has_uncaught_end q
all_keep p q z [] v = ap has_uncaught_end (sym v)
all_keep p q z (a ∷ xs) v = all_keep p v.1 z xs v.3 ∙ one_keeps p q v.1 a v.0 v.2

-- ---- what is reported is an end of the plain thread

by_phase : (phase : Phase) → is_by_uncaught (end_or_not_run phase) ≡ true → list_any is_by_uncaught (own_end phase) ≡ true
by_phase (phases.Ended (ends.Uncaught class)) e = refl
by_phase phase e = absurd (cc)

by_first : (p : Program) (part : ℕ) (phase : Phase) (first : Option End) → FirstFits part first → is_by_uncaught (reported_end phase first) ≡ true → list_any is_by_uncaught (ends_shown p part phase) ≡ true
by_first p zero phase first f e = by_phase phase (ap (λ (o : Option End). is_by_uncaught (reported_end phase o)) (sym f) ∙ e)
by_first p (suc part) phase first f e = let no : false ≡ true = ap (λ (o : Option End). is_by_uncaught (reported_end phase o)) (sym f) ∙ e in absurd (cc)

by_roots : (roots : List ℕ) (phase : Phase) → (roots ≡ [] → phase ≡ phases.Ended ends.Returned) → is_by_uncaught (end_or_not_run phase) ≡ true → list_any is_by_uncaught (end_of_done roots phase) ≡ true
by_roots [] phase none e = let no : false ≡ true = ap (λ (ph : Phase). is_by_uncaught (end_or_not_run ph)) (sym (none refl)) ∙ e in absurd (cc)
by_roots (number ∷ roots) phase none e = by_phase phase e

by_part : (p : Program) (part : ℕ) (phase : Phase) → part ≤ 2 → (2 ≤ part → done_roots p ≡ [] → phase ≡ phases.Ended ends.Returned)
    → is_by_uncaught (if nat_lt part 2 then ends.NotRun else end_or_not_run phase) ≡ true → list_any is_by_uncaught (ends_shown p part phase) ≡ true
by_part p zero phase few none e = absurd (cc)
by_part p (suc zero) phase few none e = absurd (cc)
by_part p (suc (suc zero)) phase few none e = by_roots (done_roots p) phase (none (omega arith)) e
by_part p (suc (suc (suc part))) phase few none e = absurd (omega (arith, few))

done_shown : (threads : List Thread) → is_by_uncaught (done_end threads) ≡ true
    → (x : Thread) × (slice_get threads 0 ≡ Some x) × (is_by_uncaught (if nat_lt x.part 2 then ends.NotRun else end_or_not_run x.phase) ≡ true)
done_shown [] e = absurd (cc)
done_shown (x ∷ workers) e = (x, refl, e)

-- ---- a run

module _ (c : MarkedProgram) (cfg : Config) (hs : List Happening) (st : RunStands c cfg hs) where
  abbrev s : Core
  s = core c cfg hs

  first_fits : (t : ℕ) (x : Thread) → slice_get s.threads t ≡ Some x → FirstFits x.part x.first
  first_fits zero x e = st.facts.parts.first x e
  first_fits (suc t) x e =
      let part : x.part ≡ 0 = (st.facts.threads.own (suc t) x e).part (λ d. absurd (omega (arith, d))) in
      let first : x.first ≡ None = st.keep_none (suc t) x e (λ d. absurd (omega (arith, d))) in
      subst (λ (n : ℕ). FirstFits n x.first) (sym part) first

  -- a thread whose plain one has such an end
  shown_at : (t : ℕ) (x : Thread) → slice_get s.threads t ≡ Some x → list_any is_by_uncaught (ends_shown c.program x.part x.phase) ≡ true → has_uncaught_end st.state ≡ true
  shown_at t x e is =
      let place = got_same_length s.threads st.state.threads t x st.beside.agrees.many e in
      any_at (λ (y : PlainThread). list_any is_by_uncaught y.ended) st.state.threads t place.0 place.1
      (ap (list_any is_by_uncaught) (st.beside.ends t x place.0 e place.1) ∙ is)

  reported : (t : ℕ) (r : ThreadReport) (o : Option Thread) → slice_get s.threads t ≡ o → option_map report_of o ≡ Some r → is_by_uncaught r.end ≡ true → has_uncaught_end st.state ≡ true
  reported t r None e f is = absurd (cc)
  reported t r (Some x) e f is =
      shown_at t x e (by_first c.program x.part x.phase x.first (first_fits t x e) (ap (λ (z : ThreadReport). is_by_uncaught z.end) (got_same (report_of x) r f) ∙ is))

  has_one : TellsUncaught (outcome s) → has_uncaught_end st.state ≡ true
  has_one (inl (t, r, e, is)) = reported t r (slice_get s.threads t) refl (sym (slice_get-map report_of s.threads t) ∙ e) is
  has_one (inr is) =
      let d = done_shown s.threads is in
      shown_at 0 d.0 d.1 (by_part c.program d.0.part d.0.phase (st.facts.parts.few d.0 d.1) (λ two none. st.beside.done d.0 d.1 two none) d.2)

pub uncaught_is_covered : RunsStand → UncaughtIsCovered
uncaught_is_covered stands c cfg hs seen marked width settings covers tells =
    let st = stands c cfg hs marked width settings in
    let run : all_steps (plain_step c.program) (plain_start c.program) (shadow c cfg hs) ≡ Some st.state =
    same_run c.program (plain_start c.program) (shadow c cfg hs) ∙ st.run in
    let later = each_run_is_seen (λ (a : PlainStep). a.thread) (plain_step c.program) (is_local c.program) (are_local c.program)
    (plain_start c.program) (Contains seen) covers st.state (shadow c cfg hs) run in
    (later.0, later.2, all_keep c.program st.state later.0 later.1.0 later.1.1 ∙ has_one c cfg hs st tells)
