-- Hands that are split and joined.
use Rattle.std.{proofs.Common.{◌≡◌, ◌≢◌, ℕ, ◌<◌, Option, Some, None, refl, sym, ap, subst, ◌∙◌, IsSome}, specs.Option.option_or}
use Rattle.lists.specs.Stock.{Stock}
use Rattle.jvm_types.specs.declared.outcome.ThreadReport.{ThreadReport}
use Rattle.checked_program.specs.MarkedProgram.{MarkedProgram}
use Rattle.machine_types.specs.{Threads.Thread, declared.config.Config.Config}
use Rattle.table_rule.{specs.Views.{View, held_in}, proofs.Entries.held_else}
use Rattle.table_runner.specs.{Handed.{Handed, AreHands, EachStands, HasReportRoom, RoomIsThere}, Sharing.{only_thread, merged, thread_alone, view_without, without_thread}}
use Rattle.table_runner.proofs.SharedViews.{alone_else, alone_here, merged_at, without_here}
use mathlib.Core.Logic.{dite}
use native.Mathlib.Decide.{ℕ_discrete}

same_each : (c : MarkedProgram) (cfg : Config) (t : ℕ) (o p q r : Option Thread) → o ≡ q → p ≡ r
    → EachStands c cfg t q r → EachStands c cfg t o p
same_each c cfg t o p q r e f k = subst (λ z. EachStands c cfg t z p) (sym e) (subst (EachStands c cfg t q) (sym f) k)

pub are_without : (h : Handed) (t : ℕ) → AreHands h → AreHands (without_thread h t)
are_without h t k = record {
  run = k.run;
  vacant = k.vacant;
  each = λ u. dite (ℕ_discrete u t)
      (λ e. same_each h.program h.cfg u (held_in (view_without t h.view) u) (held_in (view_without t h.threads) u) None None (ap (held_in (view_without t h.view)) e ∙ without_here h.view t) (ap (held_in (view_without t h.threads)) e ∙ without_here h.threads t) tt)
      (λ n. same_each h.program h.cfg u (held_in (view_without t h.view) u) (held_in (view_without t h.threads) u) (held_in h.view u) (held_in h.threads u) (held_else h.view t u None n) (held_else h.threads t u None n) (k.each u));
}

pub are_alone : (h : Handed) (t : ℕ) → t < 9 → AreHands h → AreHands (thread_alone h t)
are_alone h t lt k = record {
  run = k.run;
  vacant = k.vacant;
  each = λ u. dite (ℕ_discrete u t)
      (λ e. same_each h.program h.cfg u (held_in (only_thread t h.view) u) (held_in (only_thread t h.threads) u) (held_in h.view u) (held_in h.threads u) (ap (held_in (only_thread t h.view)) e ∙ alone_here h.view t lt ∙ ap (held_in h.view) (sym e)) (ap (held_in (only_thread t h.threads)) e ∙ alone_here h.threads t lt ∙ ap (held_in h.threads) (sym e)) (k.each u))
      (λ n. same_each h.program h.cfg u (held_in (only_thread t h.view) u) (held_in (only_thread t h.threads) u) None None (alone_else h.view t u n) (alone_else h.threads t u n) tt);
}

room_of : (o p : Option Thread) (a b : Option (Stock ThreadReport)) → o ≡ p → a ≡ b → RoomIsThere p b
    → RoomIsThere o a
room_of o p a b e f k = subst (λ z. RoomIsThere z a) (sym e) (subst (RoomIsThere p) (sym f) k)

pub room_without : (v : View) (t : ℕ) (was now : Option (Stock ThreadReport)) → (t ≡ 0 → now ≡ None)
    → (t ≢ 0 → now ≡ was) → HasReportRoom v was → HasReportRoom (view_without t v) now
room_without v t was now g f k = dite (ℕ_discrete t 0)
    (λ e. room_of (held_in (view_without t v) 0) None now None (ap (held_in (view_without t v)) (sym e) ∙ without_here v t) (g e) refl)
    (λ n. room_of (held_in (view_without t v) 0) (held_in v 0) now was (held_else v t 0 None (λ e. n (sym e))) (f n) k)

pub room_alone : (v : View) (t : ℕ) (was now : Option (Stock ThreadReport)) → t < 9 → (t ≡ 0 → now ≡ was)
    → (t ≢ 0 → now ≡ None) → HasReportRoom v was → HasReportRoom (only_thread t v) now
room_alone v t was now lt f g k = dite (ℕ_discrete t 0)
    (λ e. room_of (held_in (only_thread t v) 0) (held_in v 0) now was (ap (held_in (only_thread t v)) (sym e) ∙ alone_here v t lt ∙ ap (held_in v) e) (f e) k)
    (λ n. room_of (held_in (only_thread t v) 0) None now None (alone_else v t 0 (λ e. n (sym e))) (g n) refl)

-- ---- joined

each_first : (c : MarkedProgram) (cfg : Config) (t : ℕ) (o p q r : Option Thread) → EachStands c cfg t o p
    → EachStands c cfg t q r → EachStands c cfg t (option_or o q) (option_or p r)
each_first c cfg t None None q r k m = m
each_first c cfg t None (Some y) q r k m = absurd k
each_first c cfg t (Some x) None q r k m = absurd k
each_first c cfg t (Some x) (Some y) q r k m = k

pub are_joined : (h k : Handed) (threads : View) → AreHands h → AreHands k → k.program ≡ h.program
    → k.cfg ≡ h.cfg → ((t : ℕ) → held_in threads t ≡ option_or (held_in h.threads t) (held_in k.threads t))
    → AreHands (record h { threads = threads; view = merged h.view k.view })
are_joined h k threads m n e f at = record {
  run = m.run;
  vacant = m.vacant;
  each = λ t. same_each h.program h.cfg t (held_in (merged h.view k.view) t) (held_in threads t) (option_or (held_in h.view t) (held_in k.view t)) (option_or (held_in h.threads t) (held_in k.threads t)) (merged_at h.view k.view t) (at t)
      (each_first h.program h.cfg t (held_in h.view t) (held_in h.threads t) (held_in k.view t) (held_in k.threads t) (m.each t)
      (subst (λ (d : Config). EachStands h.program d t (held_in k.view t) (held_in k.threads t)) f (subst (λ (c : MarkedProgram). EachStands c k.cfg t (held_in k.view t) (held_in k.threads t)) e (n.each t))));
}

room_first : (o p : Option Thread) (a b new : Option (Stock ThreadReport)) → RoomIsThere o a → RoomIsThere p b
    → (IsSome a → new ≡ a) → (a ≡ None → new ≡ b) → RoomIsThere (option_or o p) new
room_first (Some x) p None b new k m f g = absurd k
room_first (Some x) p (Some r) b new k m f g = subst (RoomIsThere (Some x)) (sym (f refl)) k
room_first None None a b new k m f g = g k ∙ m
room_first None (Some y) a b new k m f g = subst (RoomIsThere (Some y)) (sym (g k)) m

pub room_joined : (v w threads : View) (a b new : Option (Stock ThreadReport)) → HasReportRoom v a → HasReportRoom w b
    → ((t : ℕ) → held_in threads t ≡ option_or (held_in v t) (held_in w t)) → (IsSome a → new ≡ a)
    → (a ≡ None → new ≡ b) → HasReportRoom threads new
room_joined v w threads a b new k m at f g = room_of (held_in threads 0) (option_or (held_in v 0) (held_in w 0)) new new (at 0) refl (room_first (held_in v 0) (held_in w 0) a b new k m f g)
