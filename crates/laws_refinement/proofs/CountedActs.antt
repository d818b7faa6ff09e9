-- What one act of a replay counts in the plain machine: an instruction that it begins, and no monitor that it takes.
use Rattle.std.proofs.{Common.{◌≡◌, ◌≢◌, ℕ, suc, ◌+◌, Bool, true, false, cond, [], ◌∷◌, Option, Some, None, refl, sym, ap, ◌∙◌, arith, ◌==◌, option_and_then}, lemmas.Bool.Decides.Decides-eqb}
use Rattle.lists.proofs.ListLaws.{same_some}
use Rattle.jvm_types.specs.declared.program.Program.{Program}
use Rattle.machine_types.specs.{Counting.{is_free, one_if, run_at, take_at}, Effects.read_by, Frames.{Top, top_of, effect_at}, Onward.{Onward, after, dispatched}, PlainInstructions.got_by}
use Rattle.machine_types.specs.{PlainState.{Plain, Holding, Status, value_at, holding_at}, PlainSteps.{plain_run, plain_step}}
use Rattle.machine_types.specs.{Replay.{Alone, only_on, reads_only, goes, instructs, enters, leaves, replay_act, replayed}, declared.{phase.After.After, plain.Act.Act}}
use Rattle.machine_types.{specs.declared.plain.{Act.TheVariants.{Do, Enter, Exit}, PlainStep.PlainStep}, proofs.AttemptReplay.{stands_as, Stands, played}}
use Rattle.laws_simulation.proofs.PlainCounts.{did_run, did_throw, did_enter, not_run, not_taken}
use Rattle.machine_types.specs.PlainState as plain

-- ---- instructions that an act begins

abbrev step_by : ℕ → Act → PlainStep
step_by t act = record { thread = t; act = act }

goes_begun : (x z : Alone) (o : Option Onward) → goes x o ≡ Some z → z.begun ≡ x.begun
goes_begun x z None e = absurd (cc)
goes_begun x z (Some o) e = sym (ap (λ (y : Alone). y.begun) (same_some e))

instructs_begun : (p : Program) (m : ℕ) (memory : ℕ → Option ℕ) (x z : Alone) (o : Option Top) → instructs p m memory x o ≡ Some z → z.begun ≡ x.begun + 1
instructs_begun p m memory x z None e = absurd (cc)
instructs_begun p m memory x z (Some at) e =
    goes_begun (record x { begun = x.begun + 1 }) z (option_and_then (λ got. option_and_then (only_on m) (reads_only p memory at (effect_at p at) got)) (got_by memory (read_by (effect_at p at)))) e

-- where a test lets it go on
if_begun : (x z : Alone) (o : Option Alone) → (o ≡ Some z → z.begun ≡ x.begun) → (b : Bool) → cond b o None ≡ Some z → z.begun ≡ x.begun
if_begun x z o goes true e = goes e
if_begun x z o goes false e = absurd (cc)

leaves_begun : (p : Program) (x z : Alone) (a : After) (depth : ℕ) → leaves p x a depth ≡ Some z → z.begun ≡ x.begun
leaves_begun p x z a (suc (suc depth)) e = goes_begun (record x { depth = suc depth }) z (after p x.thread.frames a) e
leaves_begun p x z a depth e = absurd (cc)

runs_by : (p : Program) (q : Plain) (t m : ℕ) (x z : Alone) (act : Act) (status : Status) → Stands q t m x → x.thread.status ≡ status → replay_act p m (value_at q) x act status ≡ Some z → run_at t q (step_by t act) + x.begun ≡ z.begun
runs_by p q t m x z Do plain.Run f s e = omega (arith, did_run t q x.thread f.thread s, instructs_begun p m (value_at q) x z (top_of p x.thread.frames) e)
runs_by p q t m x z Do (plain.Throw r class) f s e = omega (arith, did_throw t q x.thread r class f.thread s, goes_begun x z (option_and_then (only_on m) (dispatched p r class x.thread.frames)) e)
runs_by p q t m x z Enter (plain.Enter n) f s e = omega (arith, not_run t q Enter refl, if_begun x z (Some (enters x)) (λ k. sym (ap (λ (y : Alone). y.begun) (same_some k))) (n == m) e)
runs_by p q t m x z Exit (plain.Leave n a) f s e = omega (arith, not_run t q Exit refl, if_begun x z (leaves p x a x.depth) (leaves_begun p x z a x.depth) (n == m) e)
runs_by p q t m x z act status f s e = absurd (cc)

-- ---- monitors that it takes

takes_by : (p : Program) (q : Plain) (t m : ℕ) (x z : Alone) (act : Act) (status : Status) → Stands q t m x → x.thread.status ≡ status → replay_act p m (value_at q) x act status ≡ Some z → take_at t q (step_by t act) ≡ 0
takes_by p q t m x z Do status f s e = not_taken t q Do refl
takes_by p q t m x z Enter (plain.Enter n) f s e = did_enter t n q x.thread f.thread s
    ∙ (elim (n == m) as (λ (b : Bool). (n == m) ≡ b → cond b (Some (enters x)) None ≡ Some z → one_if (is_free (holding_at q.holdings n)) ≡ 0)
    -- it holds the monitor that it enters
    [ true ↦ λ k e. ap (λ (i : ℕ). one_if (is_free (holding_at q.holdings i))) ((Decides-eqb n m).0 k) ∙ ap one_if (ap is_free f.holding) | false ↦ λ k e. absurd (cc) ]) refl e
takes_by p q t m x z Exit status f s e = not_taken t q Exit refl
takes_by p q t m x z act status f s e = absurd (cc)

-- ---- the act

-- it leads to where the replay does, and counts what that begins
pub record Does (p : Program) (q : Plain) (t m : ℕ) (x z : Alone) (act : Act) : Type 0 where
  pub step : plain_step p q (record { thread = t; act = act }) ≡ Some (stands_as q t m z)
  pub runs : run_at t q (record { thread = t; act = act }) + x.begun ≡ z.begun
  pub takes : take_at t q (record { thread = t; act = act }) ≡ 0

pub does : (p : Program) (q : Plain) (t m : ℕ) (x z : Alone) (act : Act) → Stands q t m x → m ≢ 0 → replay_act p m (value_at q) x act x.thread.status ≡ Some z → Does p q t m x z act
does p q t m x z act f some e = record {
  step = (elim (plain_step p q (step_by t act)) as (λ (o : Option Plain). option_and_then (λ v. plain_run p v []) o ≡ Some (stands_as q t m z) → o ≡ Some (stands_as q t m z))
      [ None ↦ λ k. absurd (cc) | Some v ↦ λ k. k ]) (played p q t m (act ∷ []) x z f some (ap (option_and_then (replayed p m (value_at q) [])) e));
  runs = runs_by p q t m x z act x.thread.status f refl e;
  takes = takes_by p q t m x z act x.thread.status f refl e;
}
