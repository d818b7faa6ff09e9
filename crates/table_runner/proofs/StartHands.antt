-- Hands that hold all threads of the start.
use Rattle.std.proofs.Common.{◌≡◌, ℕ, zero, suc, ◌+◌, ◌<◌, ◌≤◌, false, length-set, length-append, List, [], ◌∷◌, ◌++◌, map, length, replicate, option_map, Option, Some, None, refl, sym, ap, subst, ◌∙◌, arith, IsSome, slice_get, slice_set}
use Rattle.std.specs.List.{range_with_len}
use Rattle.atomic_table.specs.Seated.{TableId}
use Rattle.lists.specs.Stock.{Stock}
use Rattle.jvm_types.specs.declared.outcome.ThreadReport.{ThreadReport}
use Rattle.checked_program.specs.MarkedProgram.{MarkedProgram, IsMarked}
use Rattle.machine_types.{specs.{Core.{core, is_live_thread, start, start_thread}, Settings.AreSettings, Threads.Thread, declared.config.Config.Config}, proofs.AtStart.is_start_thread}
use Rattle.laws_states.{specs.RunFacts.HaveWidth, proofs.GrowingRuns.runs_keep_sizes}
use Rattle.table_rule.{specs.Views.{View, held_in, HasThreads}, proofs.Entries.{got_there, held_else, held_set, none_held, some_held}}
use Rattle.table_runner.specs.{Handed.{Handed, AreHands, EachStands, HasReportRoom, IsTableOf, RoomIsThere}, Running.{AtStart, IsAlone, RunsHere}}
use mathlib.Core.Logic.{dite}
use native.Mathlib.Decide.{ℕ_discrete}

each_stands : (c : MarkedProgram) (cfg : Config) (t : ℕ) (o p : Option Thread)
    → o ≡ slice_get (core c cfg []).threads t → p ≡ slice_get (core c cfg []).threads t
    → EachStands c cfg t o p
each_stands c cfg t None None e f = tt
each_stands c cfg t None (Some y) e f = absurd (let bad : None ≡ Some y = e ∙ sym f in cc)
each_stands c cfg t (Some x) None e f = absurd (let bad : Some x ≡ None = e ∙ sym f in cc)
each_stands c cfg t (Some x) (Some y) e f = let two : Some x ≡ Some y = e
    ∙ sym f in let one : y ≡ x = cc in ((zero, one), ([], sym f))

pub are_held : (h : Handed) → IsMarked h.program → AreSettings h.cfg → HaveWidth h.cfg
    → h.table_id.words ≡ length (start h.program h.cfg).words → h.table_id.slots ≡ 0
    → h.view ≡ map Some (start h.program h.cfg).threads → HasThreads h.threads (start h.program h.cfg).threads
    → AreHands h
unfolding core
are_held h marked settings width long vacant view threads = record {
  run = record { marked = marked; settings = settings; width = width; long = long };
  vacant = vacant;
  each = λ t. each_stands h.program h.cfg t (held_in h.view t) (held_in h.threads t) (ap (λ (v : View). held_in v t) view ∙ some_held (start h.program h.cfg).threads t) (threads t);
}

first_there : (c : MarkedProgram) (cfg : Config) (n : ℕ) → n ≡ suc (c.program.workers)
    → (x : Thread) × (slice_get (map (start_thread c cfg) (range_with_len 0 n)) 0 ≡ Some x)
first_there c cfg zero e = absurd (omega (arith, e))
first_there c cfg (suc n) e = (start_thread c cfg 0, refl)

pub room_held : (v : View) (c : MarkedProgram) (cfg : Config) (room : Stock ThreadReport)
    → HasThreads v (start c cfg).threads → (room.items ≡ []) × (9 ≤ room.spare) → HasReportRoom v (Some room)
room_held v c cfg room h r =
    let first = first_there c cfg (c.program.workers + 1) (omega arith) in
    subst (λ o. RoomIsThere o (Some room)) (sym (h 0 ∙ first.1)) r

-- ---- the threads, each put at its number

got_beyond : (ts : List Thread) (t : ℕ) → length ts ≤ t → slice_get ts t ≡ None
got_beyond [] t le = refl
got_beyond (x ∷ xs) zero le = absurd (omega (arith, le))
got_beyond (x ∷ xs) (suc t) le = got_beyond xs t (omega (arith, le))

got_front : (ts : List Thread) (x : Thread) (t : ℕ) → t < length ts
    → slice_get (ts ++ x ∷ []) t ≡ slice_get ts t
got_front [] x t lt = absurd (omega (arith, lt))
got_front (y ∷ ys) x zero lt = refl
got_front (y ∷ ys) x (suc t) lt = got_front ys x t (omega (arith, lt))

got_last : (ts : List Thread) (x : Thread) → slice_get (ts ++ x ∷ []) (length ts) ≡ Some x
got_last [] x = refl
got_last (y ∷ ys) x = got_last ys x

-- those behind the ones that are left stand at their numbers
pub record ArePlaced (all left : List Thread) (v : View) : Type 0 where
  pub front : (t : ℕ) → t < length left → slice_get all t ≡ slice_get left t
  pub behind : (t : ℕ) → length left ≤ t → held_in v t ≡ slice_get all t
  pub long : length v ≡ 9
  pub few : length left ≤ 9

pub none_placed : (all : List Thread) (v : View) → v ≡ replicate 9 None → length all ≤ 9 → ArePlaced all all v
none_placed all v e few = record {
  front = λ t lt. refl;
  behind = λ t le. ap (λ (w : View). held_in w t) e ∙ none_held 9 t ∙ sym (got_beyond all t le);
  long = ap length e;
  few = few;
}

pub next_placed : (all left now : List Thread) (x : Thread) (v : View) → ArePlaced all left v
    → left ≡ now ++ x ∷ [] → ArePlaced all now (slice_set v (length now) (Some x))
next_placed all left now x v p e = record {
  front = λ t lt. p.front t (omega (arith, lt, longer)) ∙ ap (λ (ts : List Thread). slice_get ts t) e
      ∙ got_front now x t lt;
  behind = λ t le. dite (ℕ_discrete t (length now)) (here t) (λ n. held_else v (length now) t (Some x) n ∙ p.behind t (omega (arith, le, longer, n)));
  long = length-set v (length now) (Some x) ∙ p.long;
  few = omega (arith, longer, p.few);
}
  where
    longer : length left ≡ suc (length now)
    longer = ap length e ∙ length-append now (x ∷ []) ∙ omega arith

    here : (t : ℕ) → t ≡ length now → held_in (slice_set v (length now) (Some x)) t ≡ slice_get all t
    here t same =
        ap (held_in (slice_set v (length now) (Some x))) same
        ∙ held_set v (length now) (Some x) (omega (arith, longer, p.few, p.long))
        ∙ sym (p.front t (omega (arith, same, longer)) ∙ ap (λ (ts : List Thread). slice_get ts t) e ∙ ap (slice_get (now ++ x ∷ [])) same ∙ got_last now x)

pub all_placed : (all left : List Thread) (v : View) → ArePlaced all left v → left ≡ [] → HasThreads v all
all_placed all left v p e t = p.behind t (subst (λ (ts : List Thread). length ts ≤ t) (sym e) (omega arith))

-- ---- how far the run is

module _ (c : MarkedProgram) (cfg : Config) where
  is_idle : (u : ℕ) (o : Option Thread) → slice_get (start c cfg).threads (suc u) ≡ o
      → is_live_thread o ≡ false
  is_idle u None e = refl
  is_idle u (Some x) e = ap (λ (y : Thread). is_live_thread (Some y)) (sym (is_start_thread c cfg (suc u) x e))

  first_part : (o : Option Thread) → slice_get (start c cfg).threads 0 ≡ o → IsSome o
      → option_map (λ x. x.part) o ≡ Some 0
  first_part None e some = let bad = some in absurd (cc)
  first_part (Some x) e some = ap (λ (y : Thread). Some y.part) (sym (is_start_thread c cfg 0 x e))

pub here_at_start : (table : TableId) (c : MarkedProgram) (cfg : Config) (h : Handed) → AtStart table c cfg h
    → RunsHere table c cfg h
here_at_start table c cfg h s = record { of = s.of; all = λ t le. subst IsSome (sym (held t le).1) refl }
  where
    held : (t : ℕ) → t ≤ c.program.workers → (x : Thread) × (held_in h.threads t ≡ Some x)
    held t le = let got = got_there (core c cfg []).threads t (omega (arith, le, (runs_keep_sizes c cfg []).threads)) in (got.0, s.threads t ∙ got.1)

pub alone_at_start : (table : TableId) (c : MarkedProgram) (cfg : Config) (h : Handed) → AtStart table c cfg h
    → IsAlone 0 h.threads
unfolding core
alone_at_start table c cfg h s = record {
  part_is = first_part c cfg (held_in h.threads 0) (sym (s.threads 0)) ((here_at_start table c cfg h s).all 0 (omega arith));
  workers = λ u. is_idle c cfg u (held_in h.threads (suc u)) (sym (s.threads (suc u)));
}

pub at_start : (table : TableId) (c : MarkedProgram) (cfg : Config) (h : Handed) → IsTableOf table c cfg h → HasThreads h.threads (start c cfg).threads
    → AtStart table c cfg h
unfolding core
at_start table c cfg h of threads = record { of = of; threads = threads }
