-- Hands at the begin of a part.
use Rattle.std.proofs.Common.{◌≡◌, ℕ, zero, suc, Bool, true, false, List, [], ◌∷◌, Option, Some, None, is_some, option_map, refl, sym, ap, subst, ◌∙◌, IsSome}
use Rattle.atomic_table.specs.Seated.{TableId}
use Rattle.lists.specs.Stock.{Stock}
use Rattle.jvm_types.specs.declared.{outcome.ThreadReport.ThreadReport, program.Program.Program}
use Rattle.checked_program.specs.MarkedProgram.{MarkedProgram}
use Rattle.machine_types.specs.{Core.{may_begin, next_threads}, Threads.Thread, declared.config.Config.Config}
use Rattle.laws_states.specs.StateLaws.{ProgramsKeepThreads, RunsHaveState}
use Rattle.local_events.proofs.LocalLaws.{follows_itself}
use Rattle.run_parts.specs.Parts.{AreNumbered, SharesAreNext, own_begun}
use Rattle.table_rule.specs.Views.{View, held_in, HasThreads, HoldsAll}
use Rattle.table_runner.specs.{Handed.{Handed, AreHands, EachStands, HasReportRoom}, Parts.{IsPartBegun, BegunBy}, Running.AreSame, Sharing.{CanBegin, HasBegun, IsNextPart}}
use Rattle.table_runner.proofs.{HandedThreads.{is_thread, room_as}, NextThreads.next_holds, WholeHands.{all_follow, each_of_run, holds_its, threads_of}}

numbered : ProgramsKeepThreads → RunsHaveState → (h : Handed) → AreHands h → (ts : List Thread)
    → HasThreads h.threads ts → AreNumbered h.program.program ts
numbered keep reach h k ts holds t y e =
    let stands : EachStands h.program h.cfg t (held_in h.view t) (Some y) = subst (EachStands h.program h.cfg t (held_in h.view t)) (holds t ∙ e) (k.each t) in
    let its = is_thread keep reach h.program h.cfg h.table_id.words t y k.run (each_of_run h.program h.cfg t (held_in h.view t) y stands) in
    (its.number, ap (λ (c : MarkedProgram). c.program) its.program)

pub next_of : ProgramsKeepThreads → RunsHaveState → SharesAreNext → (h : Handed) (w : View) (b : Bool)
    → AreHands h → ((ts : List Thread) → HasThreads h.threads ts → b ≡ may_begin ts) → b ≡ true
    → IsPartBegun (held_in h.threads 0) h.threads w → (ts : List Thread) → HasThreads h.threads ts
    → HasThreads w (next_threads h.program.program ts)
next_of keep reach shares h w b k may told begun ts holds = next_holds h.threads w shares h.program.program ts holds (sym (may ts holds) ∙ told) begun (numbered keep reach h k ts holds)

pub can_begin : ProgramsKeepThreads → RunsHaveState → SharesAreNext → (h : Handed) (w : View) (b : Bool)
    → AreHands h → HoldsAll h.program h.threads → ((ts : List Thread) → HasThreads h.threads ts → b ≡ may_begin ts)
    → b ≡ true → IsPartBegun (held_in h.threads 0) h.threads w → CanBegin h.program h.cfg h.view w
can_begin keep reach shares h w b k all may told begun = record {
  threads = h.threads;
  follow = all_follow h k;
  all = all;
  begin = next_of keep reach shares h w b k may told begun;
}

stands_now : (c : MarkedProgram)
    (cfg : Config) (w : View) (b : HasBegun (record { program = c; cfg = cfg; threads = w }) w) (t : ℕ) (o : Option Thread)
    → held_in w t ≡ o → EachStands c cfg t o o
stands_now c cfg w b t None e = tt
stands_now c cfg w b t (Some y) e = (follows_itself c y, (b.happenings, sym (b.holds t) ∙ e))

pub are_next : (h : Handed) (w view : View) → AreHands h
    → HasBegun (record { program = h.program; cfg = h.cfg; threads = w }) view
    → AreHands (record h { threads = w; view = view })
are_next h w view k b = record {
  run = k.run;
  vacant = k.vacant;
  each = λ t. subst (λ (v : View). EachStands h.program h.cfg t (held_in v t) (held_in w t)) (sym b.view) (stands_now h.program h.cfg w (record { view = refl; happenings = b.happenings; holds = b.holds }) t (held_in w t) refl);
}

mapped_some : (o : Option Thread) → is_some o ≡ is_some (option_map own_begun o)
mapped_some None = refl
mapped_some (Some x) = refl

begun_some : (v w : View) (n : ℕ) → BegunBy n v w → is_some (held_in v 0) ≡ is_some (held_in w 0)
begun_some v w zero b = mapped_some (held_in v 0) ∙ ap is_some (sym (b 0))
begun_some v w (suc n) b = mapped_some (held_in v 0) ∙ ap is_some (sym b.first)

pub room_next : (v w : View) (o : Option Thread) (room : Option (Stock ThreadReport)) → held_in v 0 ≡ o
    → IsSome o → IsPartBegun o v w → HasReportRoom v room → HasReportRoom w room
room_next v w None room e some b k = absurd (let bad : false ≡ true = some in cc)
room_next v w (Some x) room e some b k = room_as (held_in v 0) (held_in w 0) room (begun_some v w x.part b) k

next_still : (p : Program) (ts : List Thread) → may_begin ts ≡ false → next_threads p ts ≡ ts
next_still p [] none = refl
next_still p (x ∷ ts) none = rw none refl

-- where no part may begin
pub none_next : (h : Handed) (b : Bool) → AreHands h → HoldsAll h.program h.threads
    → ((ts : List Thread) → HasThreads h.threads ts → b ≡ may_begin ts) → b ≡ false → IsNextPart h h b
none_next h b k all may none =
    let ts : List Thread = threads_of h.threads in
    let held : HasThreads h.threads ts = holds_its h k all in
    record {
      threads = ts;
      held = held;
      may = may ts held;
      begun = subst (HasThreads h.threads) (sym (next_still h.program.program ts (sym (may ts held) ∙ none))) held;
      known = λ told. absurd (let no : false ≡ true = sym none ∙ told in cc);
      counted = λ told. absurd (let no : false ≡ true = sym none ∙ told in cc);
      rest = refl;
    }

pub is_next : (h : Handed) (w view : View) (z : TableId) (n : ℕ) (b : Bool) → AreHands h
    → HoldsAll h.program h.threads → ((ts : List Thread) → HasThreads h.threads ts → b ≡ may_begin ts)
    → ((ts : List Thread) → HasThreads h.threads ts → HasThreads w (next_threads h.program.program ts)) → z ≡ h.table_id → view ≡ w
    → n ≡ suc h.steps → IsNextPart h (record h { table_id = z; steps = n; threads = w; view = view }) b
is_next h w view z n b k all may next same known counts =
    let ts : List Thread = threads_of h.threads in
    let held : HasThreads h.threads ts = holds_its h k all in
    record { threads = ts; held = held; may = may ts held; begun = next ts held; known = λ told. known; counted = λ told. counts; rest = λ i. record h { table_id = same i; steps = n; threads = w; view = view } }

begun_at : (v w : View) (n : ℕ) → BegunBy n v w → (u : ℕ) → is_some (held_in w u) ≡ is_some (held_in v u)
begun_at v w zero b u = ap is_some (b u) ∙ sym (mapped_some (held_in v u))
begun_at v w (suc n) b zero = ap is_some b.first ∙ sym (mapped_some (held_in v 0))
begun_at v w (suc n) b (suc u) = ap is_some (b.others u)

same_begun : (v w : View) (o : Option Thread) → IsSome o → IsPartBegun o v w → (u : ℕ)
    → is_some (held_in w u) ≡ is_some (held_in v u)
same_begun v w None some b = absurd (let bad : false ≡ true = some in cc)
same_begun v w (Some x) some b = begun_at v w x.part b

pub same_next : (h : Handed) (w view : View) (z : TableId) (n : ℕ) → IsSome (held_in h.threads 0)
    → IsPartBegun (held_in h.threads 0) h.threads w → z ≡ h.table_id
    → AreSame h (record h { table_id = z; steps = n; threads = w; view = view })
same_next h w view z n some b e = record { program = refl; cfg = refl; table = e; numbers = same_begun h.threads w (held_in h.threads 0) some b }
