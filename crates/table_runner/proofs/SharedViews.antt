-- Views that are cut and merged keep the rule of the table.
use Rattle.std.{proofs.Common.{◌≡◌, ◌≢◌, ℕ, zero, suc, ◌<◌, ◌⊎◌, inl, inr, [], ◌∷◌, ◌++◌, replicate, Option, Some, None, refl, sym, ap, subst, ◌∙◌, slice_get, slice_set}, specs.Option.option_or}
use Rattle.std.proofs.lemmas.List.{set-get_or}
use Rattle.atomic_table.{specs.Table.{State, Me, Allows, Splits, Joins, keeps}, proofs.Lists.set_else}
use Rattle.checked_program.specs.MarkedProgram.{MarkedProgram}
use Rattle.machine_types.specs.{Core.{Core, NextPart, core, next_threads}, Threads.Thread, declared.config.Config.Config}
use Rattle.laws_states.proofs.GrowingRuns.{one_more}
use Rattle.table_rule.{specs.Views.{View, held_in, HasThreads, ShowsRun}, proofs.{CutViews.cut_shows, Entries.{held_else, held_set, none_held}, JoinedViews.joined_shows}}
use Rattle.table_rule.proofs.WholeViews.{part_shows, whole_holds, whole_run}
use Rattle.table_runner.specs.Sharing.{Beginning, CanBegin, HasBegun, TellsBegin, only_thread, merged, view_without}

-- ---- entries

pub without_here : (v : View) (t : ℕ) → held_in (view_without t v) t ≡ None
without_here [] t = refl
without_here (z ∷ zs) zero = refl
without_here (z ∷ zs) (suc t) = without_here zs t

pub alone_here : (v : View) (t : ℕ) → t < 9 → held_in (only_thread t v) t ≡ held_in v t
alone_here v t lt = held_set (replicate 9 None) t (held_in v t) lt

pub alone_else : (v : View) (t u : ℕ) → u ≢ t → held_in (only_thread t v) u ≡ None
alone_else v t u n = held_else (replicate 9 None) t u (held_in v t) n ∙ none_held 9 u

first_alone : (o : Option Thread) → o ≡ option_or o None
first_alone None = refl
first_alone (Some x) = refl

pub merged_at : (v w : View) (t : ℕ) → held_in (merged v w) t ≡ option_or (held_in v t) (held_in w t)
merged_at [] w t = refl
merged_at (o ∷ v) [] zero = first_alone o
merged_at (o ∷ v) [] (suc t) = first_alone (held_in v t)
merged_at (o ∷ v) (p ∷ w) zero = refl
merged_at (o ∷ v) (p ∷ w) (suc t) = merged_at v w t

first_from : (o p : Option Thread) (z : Thread) → option_or o p ≡ Some z → (o ≡ Some z) ⊎ (p ≡ Some z)
first_from None p z e = inr e
first_from (Some x) p z e = inl e

first_left : (o p : Option Thread) (z : Thread) → o ≡ Some z → option_or o p ≡ Some z
first_left None p z e = let bad : None ≡ Some z = e in absurd (cc)
first_left (Some x) p z e = e

first_right : (o p : Option Thread) (z : Thread) → o ≡ None → p ≡ Some z → option_or o p ≡ Some z
first_right None p z e k = k
first_right (Some x) p z e k = let bad : Some x ≡ None = e in absurd (cc)

-- ---- the steps

abbrev runs : {S : Type 0} → MarkedProgram → Config → State S View → Type 0
runs c cfg s = ShowsRun c cfg s.words s.views

module _ {S : Type 0} (c : MarkedProgram) (cfg : Config) where
  pub splits : (id t : ℕ) (v : View) → t < 9 → Splits {S = S} (runs c cfg) id v (view_without t v) (only_thread t v)
  splits id t v lt s run at = record {
    happenings = run.happenings;
    words_are = run.words_are;
    threads_are = cut_shows (core c cfg run.happenings).threads s.views id t v (view_without t v) (only_thread t v) run.threads_are at (without_here v t) (λ u n. held_else v t u None n) (alone_here v t lt) (λ u n. alone_else v t u n);
  }

  pub joins : (id other : ℕ) (v w : View) → Joins {S = S} (runs c cfg) id v other w (merged v w) []
  joins id other v w s run at apart at_other = record {
    happenings = run.happenings;
    words_are = run.words_are;
    threads_are = joined_shows (core c cfg run.happenings).threads s.views id other v w (merged v w) [] run.threads_are at apart
        (sym (set_else s.views id other (merged v w) apart) ∙ at_other)
        (λ u z e. first_from (held_in v u) (held_in w u) z (sym (merged_at v w u) ∙ e))
        (λ u z e. merged_at v w u ∙ first_left (held_in v u) (held_in w u) z e)
        (λ u z e k. merged_at v w u ∙ first_right (held_in v u) (held_in w u) z e k)
        (λ u. refl);
  }

module _ {S : Type 0} (c : MarkedProgram) (cfg : Config) where
  pub begins : (slots id : ℕ) (me : Me S View) (w : View) (o : Option Beginning) → CanBegin c cfg me.0 w
      → o ≡ Some (record { program = c; cfg = cfg; threads = w })
      → Allows {S = S} (runs c cfg) slots id me 0 (λ n. n) (λ n m. TellsBegin o m.0 × (m.1 ≡ me.1))
  begins slots id me w o can is s run long at small =
      let hs = whole_run c cfg s.words s.views id me.0 can.threads run at can.follow can.all in
      let holds = whole_holds c cfg s.words s.views id me.0 can.threads run at can.follow can.all in
      let holds_next : HasThreads w (next_threads c.program (core c cfg hs).threads) = can.begin (core c cfg hs).threads holds in
      let begun : HasBegun (record { program = c; cfg = cfg; threads = w }) w = record { view = refl; happenings = hs ++ NextPart ∷ []; holds = λ t. holds_next t ∙ ap (λ (z : Core). slice_get z.threads t) (sym (one_more c cfg hs NextPart)) } in
      (w, keeps, tt, subst (λ ws. ShowsRun c cfg ws (slice_set s.views id w)) (sym (set-get_or s.words 0 0)) (part_shows c cfg s.words s.views id me.0 can.threads run at can.follow can.all w holds_next), (subst (λ p. TellsBegin p w) (sym is) begun, refl))
