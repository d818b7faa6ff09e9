-- What was accepted where a trace broke off is a front of it.
use Rattle.std.{proofs.{Common.{◌≡◌, ℕ, List, [], ◌∷◌, ◌++◌, Option, Some, None, refl, sym, ap, subst, ◌∙◌, append_assoc}, lemmas.List.append-nil}, specs.Option.option_map}
use Rattle.jvm_types.specs.declared.outcome.Outcome.{Outcome}
use Rattle.checked_program.specs.MarkedProgram.{MarkedProgram, IsMarked}
use Rattle.laws_states.specs.{EveryOrder.EveryOrderHasRun, RunFacts.HaveWidth}
use Rattle.machine_types.specs.{Core.{Core, Happening, core, happened, outcome, start}, Schedules.{IsSchedule, Stage, First, Turn, turn_at}, Settings.AreSettings, declared.config.Config.Config}
use Rattle.replay_runner.{specs.Replays.IsLedByTurns, proofs.Turns.{led_on, schedule_of}}
use Rattle.place_names.specs.declared.names.Names.{Names}
use Rattle.run_trace.specs.{EventLines.{trail_along, ends_from, trail_start, lines_from, trace_text}, Lines.{put_text, shown_text}, ReportJson.report_in}
use Rattle.std.specs.Prelude.{Ok, Err, Result, take, drop}
use Rattle.std.proofs.lemmas.List.{take-append-drop}
use Rattle.host_io.specs.Faults.{CountsFault}
use Rattle.run_trace.specs.declared.traces.TraceError.{TraceError, TheVariants.{Memory, Failed}}
use Rattle.run_trace.specs.{Traces.{BreaksOff, IsCutShort, IsHappeningTold, IsPut, IsTracedBehind, IsBrokenOff, IsFrontTold, IsStarted, IsTraceFront, WalksOn, next_line, number_after}, declared.{events.Part.Part, traces.Tracing.Tracing}}
use Rattle.run_trace.proofs.{LongerRuns.{lines_ahead, told_both}, Walks.{text_in_walk, walked_at_start}, ShownLines.shown_more}

-- ---- fronts of texts

told_nothing : (o : Option (List ℕ)) → o ≡ option_map (λ t. t ++ []) o
told_nothing None = refl
told_nothing (Some t) = ap Some (sym (append-nil t))

-- nothing was accepted
pub still_front : (told now : Option (List ℕ)) (text : List ℕ) → now ≡ told → IsFrontTold told now text
still_front told now text e = record { front = []; rest = text; whole = refl; accepted = e ∙ told_nothing told }

-- of a text behind one that was accepted whole
pub front_behind : (told mid now : Option (List ℕ)) (a b : List ℕ) → mid ≡ option_map (λ t. t ++ a) told → IsFrontTold mid now b → IsFrontTold told now (a ++ b)
front_behind told mid now a b e f = record {
  front = a ++ f.front;
  rest = f.rest;
  whole = ap (λ (x : List ℕ). a ++ x) f.whole ∙ sym (append_assoc a f.front f.rest);
  accepted = told_both told mid now a f.front e f.accepted;
}

-- and of a text with another one behind it
pub front_before : (told now : Option (List ℕ)) (a b : List ℕ) → IsFrontTold told now a → IsFrontTold told now (a ++ b)
front_before told now a b f = record {
  front = f.front;
  rest = f.rest ++ b;
  whole = ap (λ (x : List ℕ). x ++ b) f.whole ∙ append_assoc f.front f.rest b;
  accepted = f.accepted;
}

-- as a sink accepts it
pub taken_front : (told now : Option (List ℕ)) (text : List ℕ) (n : ℕ) → now ≡ option_map (λ t. t ++ take n text) told → IsFrontTold told now text
taken_front told now text n e = record { front = take n text; rest = drop n text; whole = sym (take-append-drop n text); accepted = e }

pub same_front : (told now : Option (List ℕ)) (a b : List ℕ) → a ≡ b → IsFrontTold told now a → IsFrontTold told now b
same_front told now a b e f = subst (λ (x : List ℕ). IsFrontTold told now x) e f

-- ---- within the lines of events

module _ (c : MarkedProgram) (order : List ℕ) (names : Names) (part : Part) where
  -- between two
  pub breaks_still : (m : Tracing) (next : Option Turn) (told now : Option (List ℕ)) → now ≡ told → BreaksOff c order names part m next told now
  breaks_still m next told now e cfg first w = record {
    happenings = w.happenings;
    stage = w.stage;
    core = m.machine.core;
    leads = w.leads;
    front = record {
      front = shown_text part (lines_from c names part 1 (trail_start c cfg) w.happenings);
      rest = [];
      whole = sym (append-nil (shown_text part (lines_from c names part 1 (trail_start c cfg) w.happenings)));
      accepted = e ∙ w.text;
    };
  }

  -- within the line of the next one
  pub breaks_within : (m : Tracing) (next : Option Turn) (h : Happening) (stage : Stage) (told now : Option (List ℕ)) → next ≡ Some (record { happening = h; stage = stage })
      → IsFrontTold told now (put_text part m.shown (next_line c names part m h)) → BreaksOff c order names part m next told now
  breaks_within m next h stage told now is f cfg first w =
      let hs = w.happenings in
      let lines = shown_text part (lines_from c names part 1 (trail_start c cfg) hs) in
      let line = put_text part m.shown (next_line c names part m h) in
      record {
        happenings = hs ++ h ∷ [];
        stage = stage;
        core = happened c m.machine.core h;
        leads = led_on c (First order) (start c cfg) hs w.stage m.machine.core h stage w.leads (w.turn ∙ is);
        front = same_front first now (lines ++ line) (shown_text part (lines_from c names part 1 (trail_start c cfg) (hs ++ h ∷ []))) (sym (text_in_walk c cfg order names part first m h next told w)) (front_behind first told now lines line w.text f);
      }

  -- behind what was walked
  pub breaks_then : (m n : Tracing) (turn at : Option Turn) (told mid now : Option (List ℕ)) (before between : ℕ) → WalksOn c order names part m turn told before n at mid between
      → BreaksOff c order names part n at mid now → BreaksOff c order names part m turn told now
  breaks_then m n turn at told mid now before between on f cfg first w = f cfg first (on.walked cfg first w)

  -- so it broke off behind what was walked, at a happening
  pub broke_at : (m n r : Tracing) (turn at : Option Turn) (h : Happening) (stage : Stage) (told mid now : Option (List ℕ)) (before between after : ℕ) (e : TraceError) → WalksOn c order names part m turn told before n at mid between
      → at ≡ Some (record { happening = h; stage = stage }) → IsHappeningTold c names part h n r mid now between after {A = Unit {0}} (Err e) → IsCutShort c order names part m turn told before now after e
  broke_at m n r turn at h stage told mid now before between after Memory on is did = (did.0 ∙ on.calm, breaks_then m n turn at told mid now before between on (breaks_still n at mid now did.1))
  broke_at m n r turn at h stage told mid now before between after Failed on is did = (subst (λ (k : ℕ). CountsFault k after) on.calm did.0, breaks_then m n turn at told mid now before between on (breaks_within n at h stage mid now is did.1))

  -- or later
  pub broke_then : (m n : Tracing) (turn at : Option Turn) (told mid now : Option (List ℕ)) (before between after : ℕ) (e : TraceError) → WalksOn c order names part m turn told before n at mid between
      → IsCutShort c order names part n at mid between now after e → IsCutShort c order names part m turn told before now after e
  broke_then m n turn at told mid now before between after Memory on b = (b.0 ∙ on.calm, breaks_then m n turn at told mid now before between on b.1)
  broke_then m n turn at told mid now before between after Failed on b = (subst (λ (k : ℕ). CountsFault k after) on.calm b.0, breaks_then m n turn at told mid now before between on b.1)

-- ---- the whole

clash : {A : Type 0} (o : Option A) (x : A) → o ≡ Some x → o ≡ None → ⊥
clash o x e f = cc

abbrev happening_of : Happening → Option Turn → Happening
happening_of h None = h
happening_of h (Some turn) = turn.happening

abbrev stage_then : Stage → Option Turn → Stage
stage_then stage None = stage
stage_then stage (Some turn) = turn.stage

-- some events to which an order has led are the first of all for which it stands
ahead : (c : MarkedProgram) (from : Stage) (s : Core) (gs : List Happening) (at : Stage) (t : Core) (hs : List Happening) → IsLedByTurns c from s gs at t → IsSchedule c from s hs → (rest : List Happening) × (hs ≡ gs ++ rest)
ahead c from s [] at t hs led all = (hs, refl)
ahead c from s (g ∷ gs) at t [] led all = absurd (clash (turn_at from s) (record { happening = g; stage = led.0 }) led.1 all)
ahead c from s (g ∷ gs) at t (h ∷ hs) led all =
    let event_is : g ≡ h = ap (happening_of g) (sym led.1 ∙ all.1) in
    let stage_is : led.0 ≡ all.0 = ap (stage_then led.0) (sym led.1 ∙ all.1) in
    let there = subst (λ (x : Stage). IsSchedule c x (happened c s g) hs) (sym stage_is) (subst (λ (x : Happening). IsSchedule c all.0 (happened c s x) hs) (sym event_is) all.2) in
    let on = ahead c led.0 (happened c s g) gs at t hs led.2 there in
    (on.0, λ i. sym event_is i ∷ on.1 i)

module _ (c : MarkedProgram) (cfg : Config) (order : List ℕ) (names : Names) (part : Part) where
  -- where it broke off in the line of an event
  pub broken_front : EveryOrderHasRun → IsMarked c → HaveWidth cfg → AreSettings cfg → (told now : Option (List ℕ)) → IsBrokenOff c cfg order names part told now → IsTraceFront [] c cfg order names part told now
  broken_front runs marked width settings told now b =
      let all = runs c cfg order marked width settings in
      let cut = ahead c (First order) (start c cfg) b.happenings b.stage b.core all.0 b.leads all.1 in
      let lines = λ (hs : List Happening). shown_text part (lines_from c names part 1 (trail_start c cfg) hs) in
      let on = shown_more part (lines_from c names part 1 (trail_start c cfg) b.happenings) (lines_from c names part (number_after 1 b.happenings) (trail_along c (trail_start c cfg) b.happenings) cut.0) in
      let more : List ℕ = on.0 in
      let ends = ends_from c names part.form 1 (trail_start c cfg) all.0 in
      let report = report_in part.form (outcome (core c cfg all.0)) in
      let text_is : lines b.happenings ++ more ≡ lines all.0 = sym on.1 ∙ ap (shown_text part) (sym (lines_ahead c names part 1 (trail_start c cfg) b.happenings cut.0)) ∙ ap lines (sym cut.1) in
      record {
        happenings = all.0;
        schedule = all.1;
        accepted = front_before told now (lines all.0 ++ ends) report (front_before told now (lines all.0) ends (same_front told now (lines b.happenings ++ more) (lines all.0) text_is (front_before told now (lines b.happenings) more b.front)));
      }

  -- before the first line
  pub still_trace : EveryOrderHasRun → IsMarked c → HaveWidth cfg → AreSettings cfg → (told now : Option (List ℕ)) → now ≡ told → IsTraceFront [] c cfg order names part told now
  still_trace runs marked width settings told now e =
      let all = runs c cfg order marked width settings in
      record { happenings = all.0; schedule = all.1; accepted = still_front told now (trace_text c cfg names part all.0) e }

  -- all lines were told: in those of the ends
  pub ends_front : (told mid now : Option (List ℕ)) (before between : ℕ) (m n : Tracing) → IsStarted c cfg m → WalksOn c order names part m (turn_at (First order) m.machine.core) told before n None mid between
      → IsFrontTold mid now n.ends.items → IsTraceFront [] c cfg order names part told now
  ends_front told mid now before between m n begun on f =
      let w = on.walked cfg told (walked_at_start c cfg order names part told m begun) in
      let all = schedule_of c (First order) (start c cfg) w.happenings w.stage n.machine.core w.leads w.turn in
      let lines = shown_text part (lines_from c names part 1 (trail_start c cfg) w.happenings) in
      let ends = ends_from c names part.form 1 (trail_start c cfg) w.happenings in
      record {
        happenings = w.happenings;
        schedule = all.0;
        accepted = front_before told now (lines ++ ends) (report_in part.form (outcome (core c cfg w.happenings))) (front_behind told mid now lines ends w.text (same_front mid now n.ends.items ends w.ends f));
      }

  -- and these: in the report
  pub report_front : (told mid late now : Option (List ℕ)) (before between : ℕ) (m n : Tracing) (o : Outcome) → IsStarted c cfg m → WalksOn c order names part m (turn_at (First order) m.machine.core) told before n None mid between
      → late ≡ option_map (λ t. t ++ n.ends.items) mid → o ≡ outcome n.machine.core → IsFrontTold late now (report_in part.form o) → IsTraceFront [] c cfg order names part told now
  unfolding core
  report_front told mid late now before between m n o begun on ended is f =
      let w = on.walked cfg told (walked_at_start c cfg order names part told m begun) in
      let all = schedule_of c (First order) (start c cfg) w.happenings w.stage n.machine.core w.leads w.turn in
      let told_is : o ≡ outcome (core c cfg w.happenings) = is ∙ ap outcome (sym all.1) in
      let lines = shown_text part (lines_from c names part 1 (trail_start c cfg) w.happenings) in
      let ends = ends_from c names part.form 1 (trail_start c cfg) w.happenings in
      let with_ends : late ≡ option_map (λ t. t ++ (lines ++ ends)) told = told_both told mid late lines n.ends.items w.text ended ∙ ap (λ (x : List ℕ). option_map (λ t. t ++ (lines ++ x)) told) w.ends in
      record {
        happenings = w.happenings;
        schedule = all.0;
        accepted = front_behind told late now (lines ++ ends) (report_in part.form (outcome (core c cfg w.happenings))) with_ends (same_front late now (report_in part.form o) (report_in part.form (outcome (core c cfg w.happenings))) (ap (report_in part.form) told_is) f);
      }

-- ---- what is answered

module _ (c : MarkedProgram) (cfg : Config) (order : List ℕ) (names : Names) (part : Part) (runs : EveryOrderHasRun) (marked : IsMarked c) (width : HaveWidth cfg) (settings : AreSettings cfg) where
  -- there was no memory for the start
  pub unstarted : (told : Option (List ℕ)) (before : ℕ) (e : TraceError) → e ≡ Memory → IsTracedBehind [] c cfg order names part told told before before (Err e)
  unstarted told before Memory is = (refl, still_trace c cfg order names part runs marked width settings told told refl)
  unstarted told before Failed is = absurd (failed_is_memory is)
    where
      failed_is_memory : Failed ≡ Memory → ⊥
      failed_is_memory e = cc

  -- among the lines of events
  pub unwalked : (told now : Option (List ℕ)) (before after : ℕ) (m : Tracing) (e : TraceError) → IsStarted c cfg m → IsCutShort c order names part m (turn_at (First order) m.machine.core) told before now after e → IsTracedBehind [] c cfg order names part told now before after (Err e)
  unwalked told now before after m Memory begun b = (b.0, broken_front c cfg order names part runs marked width settings told now (b.1 cfg told (walked_at_start c cfg order names part told m begun)))
  unwalked told now before after m Failed begun b = (b.0, broken_front c cfg order names part runs marked width settings told now (b.1 cfg told (walked_at_start c cfg order names part told m begun)))

module _ (c : MarkedProgram) (cfg : Config) (order : List ℕ) (names : Names) (part : Part) where
  -- among those of the ends
  pub unended : (told mid now : Option (List ℕ)) (before between after : ℕ) (m n : Tracing) (text : List ℕ) (e : TraceError) → IsStarted c cfg m → WalksOn c order names part m (turn_at (First order) m.machine.core) told before n None mid between
      → text ≡ n.ends.items → IsPut mid now between after text {A = Unit {0}} (Err e) → IsTracedBehind [] c cfg order names part told now before after (Err e)
  unended told mid now before between after m n text Memory begun on is put = (put.0 ∙ on.calm, ends_front c cfg order names part told mid now before between m n begun on (still_front mid now n.ends.items put.1))
  unended told mid now before between after m n text Failed begun on is put =
      (subst (λ (k : ℕ). CountsFault k after) on.calm put.0, ends_front c cfg order names part told mid now before between m n begun on (same_front mid now text n.ends.items is put.1))

  -- in the report
  pub unreported : (told mid late now : Option (List ℕ)) (before between beyond after : ℕ) (m n : Tracing) (o : Outcome) (e : TraceError) → IsStarted c cfg m → WalksOn c order names part m (turn_at (First order) m.machine.core) told before n None mid between
      → late ≡ option_map (λ t. t ++ n.ends.items) mid → beyond ≡ between → o ≡ outcome n.machine.core → IsPut late now beyond after (report_in part.form o) {A = Unit {0}} (Err e) → IsTracedBehind [] c cfg order names part told now before after (Err e)
  unreported told mid late now before between beyond after m n o Memory begun on ended still is put =
      (put.0 ∙ still ∙ on.calm, report_front c cfg order names part told mid late now before between m n o begun on ended is (still_front late now (report_in part.form o) put.1))
  unreported told mid late now before between beyond after m n o Failed begun on ended still is put =
      (subst (λ (k : ℕ). CountsFault k after) (still ∙ on.calm) put.0, report_front c cfg order names part told mid late now before between m n o begun on ended is put.1)

-- ---- behind a text that was put before

module _ (c : MarkedProgram) (cfg : Config) (order : List ℕ) (names : Names) (part : Part) (text : List ℕ) where
  front_then : (told mid now : Option (List ℕ)) → mid ≡ option_map (λ t. t ++ text) told → IsTraceFront [] c cfg order names part mid now → IsTraceFront text c cfg order names part told now
  front_then told mid now is f = record { happenings = f.happenings; schedule = f.schedule; accepted = front_behind told mid now text (trace_text c cfg names part f.happenings) is f.accepted }

  pub traced_then : (told mid now : Option (List ℕ)) (before between after : ℕ) (came : Result Outcome TraceError) → IsPut told mid before between text {A = Unit {0}} (Ok tt)
      → IsTracedBehind [] c cfg order names part mid now between after came → IsTracedBehind text c cfg order names part told now before after came
  traced_then told mid now before between after (Ok o) put w = record {
    happenings = w.happenings;
    schedule = w.schedule;
    outcome_is = w.outcome_is;
    text = told_both told mid now text (trace_text c cfg names part w.happenings) put.1 w.text;
    calm = w.calm ∙ put.0;
  }
  traced_then told mid now before between after (Err Memory) put w = (w.0 ∙ put.0, front_then told mid now put.1 w.1)
  traced_then told mid now before between after (Err Failed) put w = (subst (λ (k : ℕ). CountsFault k after) put.0 w.0, front_then told mid now put.1 w.1)

  -- or within it
  module _ (runs : EveryOrderHasRun) (marked : IsMarked c) (width : HaveWidth cfg) (settings : AreSettings cfg) where
    within : (told now : Option (List ℕ)) → IsFrontTold told now text → IsTraceFront text c cfg order names part told now
    within told now f =
        let all = runs c cfg order marked width settings in
        record { happenings = all.0; schedule = all.1; accepted = front_before told now text (trace_text c cfg names part all.0) f }

    pub unbegun : (told now : Option (List ℕ)) (before after : ℕ) (e : TraceError) → IsPut told now before after text {A = Unit {0}} (Err e) → IsTracedBehind text c cfg order names part told now before after (Err e)
    unbegun told now before after Memory put = (put.0, within told now (still_front told now text put.1))
    unbegun told now before after Failed put = (put.0, within told now put.1)
