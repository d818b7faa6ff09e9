-- The reports of the threads, one by one.
use Rattle.std.proofs.Common.{◌≡◌, ℕ, zero, suc, ◌<◌, ◌≤◌, List, [], ◌∷◌, ◌++◌, drop, length, map, Option, Some, None, refl, sym, ap, ◌∙◌, arith, append-nil, slice_set}
use Rattle.jvm_types.specs.declared.outcome.ThreadReport.{ThreadReport}
use Rattle.machine_types.specs.{Core.report_of, Threads.Thread}
use Rattle.table_rule.specs.Views.{View, held_in, HasThreads}
use Rattle.table_runner.specs.Ending.{reported, reported_first}

drop_set : (v : View) (i : ℕ) (o : Option Thread) → drop (suc i) (slice_set v i o) ≡ drop (suc i) v
drop_set [] i o = refl
drop_set (z ∷ zs) zero o = refl
drop_set (z ∷ zs) (suc i) o = drop_set zs i o

drop_at : (v : View) (i : ℕ) → i < length v → drop i v ≡ held_in v i ∷ drop (suc i) v
drop_at [] i lt = absurd (omega arith)
drop_at (z ∷ zs) zero lt = refl
drop_at (z ∷ zs) (suc i) lt = drop_at zs i (omega arith)

pub next_report : (v : View)
    (i : ℕ) (o : Option Thread) (reports : List ThreadReport) (all : List ThreadReport) → i < length v
    → held_in v i ≡ o → reports ++ reported (drop i v) ≡ all
    → reports ++ reported_first o (reported (drop (suc i) (slice_set v i None))) ≡ all
next_report v i o reports all lt e f =
    ap (λ (w : View). reports ++ reported_first o (reported w)) (drop_set v i None)
    ∙ ap (λ (p : Option Thread). reports ++ reported_first p (reported (drop (suc i) v))) (sym e)
    ∙ ap (λ (w : View). reports ++ reported w) (sym (drop_at v i lt)) ∙ f

none_reported : (v : View) → HasThreads v [] → reported v ≡ []
none_reported [] h = refl
none_reported (o ∷ v) h = let e : o ≡ None = h 0 in ap (λ p. reported_first p (reported v)) e
    ∙ none_reported v (λ t. h (suc t))

-- the reports of hands that hold just these threads
pub all_reported : (v : View) (ts : List Thread) → HasThreads v ts → reported v ≡ map report_of ts
all_reported v [] h = none_reported v h
all_reported [] (x ∷ ts) h = absurd (let bad : None ≡ Some x = h 0 in cc)
all_reported (o ∷ v) (x ∷ ts) h = let e : o ≡ Some x = h 0 in ap (λ p. reported_first p (reported v)) e
    ∙ ap (λ rs. report_of x ∷ rs) (all_reported v ts (λ t. h (suc t)))

none_left : (v : View) (i : ℕ) → length v ≤ i → drop i v ≡ []
none_left [] zero le = refl
none_left [] (suc i) le = refl
none_left (z ∷ zs) zero le = absurd (omega arith)
none_left (z ∷ zs) (suc i) le = none_left zs i (omega arith)

pub at_end : (v : View) (i : ℕ) (reports all : List ThreadReport) → length v ≤ i
    → reports ++ reported (drop i v) ≡ all → reports ≡ all
at_end v i reports all le e = sym (append-nil reports)
    ∙ ap (λ (w : View). reports ++ reported w) (sym (none_left v i le)) ∙ e
