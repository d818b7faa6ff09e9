-- An access on the table keeps its rule, whatever access it is.
use Rattle.std.proofs.Common.{◌≡◌, ℕ, ◌+◌, ◌%◌, ◌^◌, ◌<◌, ◌==◌, Bool, true, false, List, length, Option, Some, None, refl, sym, ap, subst, ◌∙◌, arith, mod-eq_of_lt, slice_index, slice_set, if◌then◌else◌, IfSome}
use Rattle.std.proofs.lemmas.List.{set-get_or}
use Rattle.atomic_table.specs.Table.{State, Me, Allows, keeps}
use Rattle.checked_program.specs.MarkedProgram.{MarkedProgram}
use Rattle.machine_types.specs.{Accesses.{accessed, found, found_by, left_by, performed, words_after}, Core.core, Events.wanted, Threads.Thread, declared.access.Access.Access}
use Rattle.machine_types.specs.declared.{access.Access.TheVariants.{Load, Store, Cas, Add, Or, And, Rest}, config.Config.Config}
use Rattle.laws_states.{specs.{GrowingRuns.behind, RunSafety.RunsAreSafe}, proofs.GrowingRuns.runs_keep_sizes}
use Rattle.table_rule.{specs.Views.{View, ShowsRun, StandsIn}, proofs.Shown.{events_show, locals_show}}
use Rattle.table_runner.specs.Accessing.{NextEvent, made_by_event, IsEventMade, Tells, CanMake, Asks, IsNextEventOf}
use lib.ListN.{get_elem?}
use mathlib.Core.Option.{some}
use prog.Atomic.{either}

-- ---- the calls on the table

-- a call that makes the word i what f says, and finds what `got` says of it, is this access
pub record Acts (a : Access) (i : ℕ) (f got : ℕ → ℕ) : Type 0 where
  pub finds : (words : List ℕ) → found words a ≡ got (slice_index words i)
  pub leaves : (words : List ℕ) → left_by a (slice_index words (accessed a)) < 2 ^ 64
      → performed words a ≡ slice_set words i (f (slice_index words i))

abbrev same : ℕ → ℕ
same n = n

abbrev none : ℕ → ℕ
none n = 0

pub loads : (w : ℕ) → Acts (Load w) w same same
loads w = record { finds = λ ws. refl; leaves = λ ws small. refl }

pub stores : (w v : ℕ) → Acts (Store w v) w (λ n. v) same
stores w v = record { finds = λ ws. refl; leaves = λ ws small. refl }

chosen : (b : Bool) (v n : ℕ) → (if b then v else n) ≡ either b v n
chosen true v n = refl
chosen false v n = refl

pub exchanges : (w is v : ℕ) → Acts (Cas w is v) w (λ n. either (n == is) v n) same
exchanges w is v = record { finds = λ ws. refl; leaves = λ ws small. ap (slice_set ws w) (chosen (slice_index ws w == is) v (slice_index ws w)) }

pub adds : (w v : ℕ) → Acts (Add w v) w (λ n. (n + v) % 2 ^ 64) same
adds w v = record { finds = λ ws. refl; leaves = λ ws small. ap (slice_set ws w) (sym (mod-eq_of_lt small)) }

pub ors : (w v : ℕ) → Acts (Or w v) w (λ n. left_by (Or w v) n) same
ors w v = record { finds = λ ws. refl; leaves = λ ws small. refl }

pub ands : (w v : ℕ) → Acts (And w v) w (λ n. left_by (And w v) n) same
ands w v = record { finds = λ ws. refl; leaves = λ ws small. refl }

pub rests : Acts Rest 0 same none
rests = record { finds = λ ws. refl; leaves = λ ws small. sym (set-get_or ws 0 0) }

-- ---- the step

abbrev runs : {S : Type 0} → MarkedProgram → Config → State S View → Type 0
runs c cfg s = ShowsRun c cfg s.words s.views

module _ {S : Type 0} (safe : RunsAreSafe) where
  module _ (e : NextEvent) (a : Access) (i : ℕ) (f got : ℕ → ℕ) (acts : Acts a i f got) (slots words id : ℕ) (me : Me S View) (can : CanMake e me.0 a words) where
    step : (s : State S View) → ShowsRun e.program e.cfg s.words s.views → get_elem? s.views id ≡ some me.0
        → (w : View) × ShowsRun e.program e.cfg (slice_set s.words i (f (slice_index s.words i))) (slice_set s.views id w) × IsEventMade e me.0 (got (slice_index s.words i)) w
    step s run at =
        let y : Thread = e.state in
        let local = locals_show e.program e.cfg s.words s.views id e.number me.0 can.stands.was y run at can.stands.held can.stands.behind.0 in
        let there : StandsIn e.program e.cfg s.words e.number y = local.1 in
        let access = (safe e.program e.cfg there.happenings e.number y can.run.marked can.run.width can.run.settings there.at).access in
        let sum : left_by a (slice_index s.words (accessed a)) < 2 ^ 64 =
        subst (λ ws. left_by a (slice_index ws (accessed a)) < 2 ^ 64) (sym there.words_are) (subst (λ o. IfSome o (λ b. left_by b (slice_index (core e.program e.cfg there.happenings).words (accessed b)) < 2 ^ 64)) can.wants access.sum) in
        let finds : found_by s.words (wanted e.program y y.phase) ≡ got (slice_index s.words i) = ap (found_by s.words) can.wants
        ∙ acts.finds s.words in
        let behind_is : behind e.program s.words y ≡ made_by_event e (got (slice_index s.words i)) = ap (made_by_event e) finds in
        let after : words_after s.words (wanted e.program y y.phase) ≡ slice_set s.words i (f (slice_index s.words i)) = ap (words_after s.words) can.wants
        ∙ acts.leaves s.words sum in
        let event = events_show e.program e.cfg s.words s.views id e.number me.0 can.stands.was y run at can.stands.held can.stands.behind.0 in (
          slice_set me.0 e.number (Some (made_by_event e (got (slice_index s.words i)))),
          subst (λ z. ShowsRun e.program e.cfg (slice_set s.words i (f (slice_index s.words i))) (slice_set s.views id (slice_set me.0 e.number (Some z)))) behind_is
              (subst (λ ws. ShowsRun e.program e.cfg ws (slice_set s.views id (slice_set me.0 e.number (Some (behind e.program s.words y))))) after event.0),
          record {
            happens = record {
              happenings = there.happenings;
              at = there.at;
              finds = sym finds ∙ ap (λ ws. found_by ws (wanted e.program y y.phase)) there.words_are;
            };
            view = refl;
          },
        )

    allows_its :
        Allows (runs e.program e.cfg) slots id me i f (λ n w. IsEventMade e me.0 (got n) w.0 × (w.1 ≡ me.1))
    allows_its s run long at small = let made_it = step s run at in (made_it.0, keeps, tt, made_it.1, (made_it.2, refl))

    inside : accessed a < words
    inside =
        let y : Thread = e.state in
        let access = (safe e.program e.cfg can.stands.behind.1.0 e.number y can.run.marked can.run.width can.run.settings can.stands.behind.1.1).access in
        let lt : accessed a < length (core e.program e.cfg can.stands.behind.1.0).words = subst (λ o. IfSome o (λ b. accessed b < length (core e.program e.cfg can.stands.behind.1.0).words)) can.wants access.inside in
        omega (arith, lt, (runs_keep_sizes e.program e.cfg can.stands.behind.1.0).words, can.run.long)

  pub allows : (o : Option NextEvent)
      (c : MarkedProgram) (cfg : Config) (a : Access) (i : ℕ) (f got : ℕ → ℕ) (slots words id : ℕ) (me : Me S View)
      → Acts a i f got → IsNextEventOf o c cfg → Asks o me.0 a words
      → (accessed a < words) × Allows (runs c cfg) slots id me i f (λ n w. Tells o me.0 (got n) w.0 × (w.1 ≡ me.1))
  allows None c cfg a i f got slots words id me acts is asks = absurd is
  allows (Some e) c cfg a i f got slots words id me acts is asks = (
    inside e a i f got acts slots words id me asks,
    subst (λ (d : Config). Allows (runs c d) slots id me i f (λ n w. IsEventMade e me.0 (got n) w.0 × (w.1 ≡ me.1))) is.1
        (subst (λ (p : MarkedProgram). Allows (runs p e.cfg) slots id me i f (λ n w. IsEventMade e me.0 (got n) w.0 × (w.1 ≡ me.1))) is.0 (allows_its e a i f got acts slots words id me asks)),
  )

  -- the same where the access is known by its kind
  pub allows_as : (o : Option NextEvent)
      (c : MarkedProgram) (cfg : Config) (b a : Access) (i : ℕ) (f got : ℕ → ℕ) (slots words id : ℕ) (me : Me S View)
      → b ≡ a → Acts a i f got → IsNextEventOf o c cfg → Asks o me.0 b words
      → (accessed a < words) × Allows (runs c cfg) slots id me i f (λ n w. Tells o me.0 (got n) w.0 × (w.1 ≡ me.1))
  allows_as o c cfg b a i f got slots words id me is acts of_run asks = allows o c cfg a i f got slots words id me acts of_run (subst (λ k. Asks o me.0 k words) is asks)
