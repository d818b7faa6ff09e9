-- What was walked, walked on by a turn, and to the end.
use Rattle.std.{proofs.{Common.{◌≡◌, ℕ, ◌+◌, List, [], ◌∷◌, ◌++◌, length, map, Option, Some, None, refl, sym, ap, subst, ◌∙◌}, lemmas.List.append-nil}, specs.Option.option_map}
use Rattle.jvm_types.specs.declared.outcome.Outcome.{Outcome}
use Rattle.checked_program.specs.MarkedProgram.{MarkedProgram}
use Rattle.machine_types.specs.{Core.{Core, Happening, core, happened, outcome, start}, Schedules.{Stage, First, Turn, turn_at}, declared.config.Config.Config}
use Rattle.replay_runner.{specs.{Replays.IsLedByTurns, Running.Running}, proofs.Turns.{led_on, schedule_of}}
use Rattle.place_names.specs.declared.names.Names.{Names}
use Rattle.run_trace.specs.{EventLines.{Trail, trail_along, ends_from, event_end, trail_after, trail_start, lines_from, next_line_number, seen_of_event, told_line}, Lines.{TraceLine, lines_shown, lines_text, put_text, shown_behind, shown_text}, Owing.{owed_after, seen_by}, ReportJson.report_in, Stands.stands_after}
use Rattle.run_trace.specs.{Traces.{Happened, IsStarted, IsWholeTrace, TraceWalked, WalksOn, next_line, number_after, seen_next}, declared.{events.Part.Part, traces.Tracing.Tracing}}
use Rattle.run_trace.proofs.{LongerRuns.{ends_on, lines_on, own_line, trail_on, number_on, told_both}, ShownLines.{count_with, none_shown, text_with}, Owings.{nothing_owed, owed_on, same_seen}}
use Rattle.machine_types.specs.History as history
use Rattle.event_texts.specs.Shares as shares

abbrev turn_to : Happening → Stage → Option Turn
turn_to h stage = Some (record { happening = h; stage = stage })

-- ---- one turn

module _ (c : MarkedProgram) (cfg : Config) (order : List ℕ) (names : Names) (part : Part) (first : Option (List ℕ)) where
  -- its thread before it, by the run so far
  seen_in_walk : (m : Tracing) (h : Happening) (next : Option Turn) (told : Option (List ℕ)) (w : TraceWalked c cfg order names part first m next told)
      → seen_next c m h ≡ seen_of_event c (trail_along c (trail_start c cfg) w.happenings) h
  seen_in_walk m h next told w = (λ i. seen_by c (sym w.core i) (w.owed i) (w.stands i) h) ∙ sym (same_seen c (trail_along c (trail_start c cfg) w.happenings) h)

  -- its line, of the run so far
  line_in_walk : (m : Tracing) (h : Happening) (next : Option Turn) (told : Option (List ℕ)) (w : TraceWalked c cfg order names part first m next told)
      → own_line c names part (number_after 1 w.happenings) (trail_along c (trail_start c cfg) w.happenings) h ≡ next_line c names part m h
  line_in_walk m h next told w =
      let seen_is : seen_next c m h ≡ seen_of_event c (trail_along c (trail_start c cfg) w.happenings) h = seen_in_walk m h next told w in
      sym (λ i. told_line c names part (w.number i) (sym w.core i) (w.stands i) (seen_is i) h)

  -- so what is shown with it
  pub text_in_walk : (m : Tracing) (h : Happening) (next : Option Turn) (told : Option (List ℕ)) (w : TraceWalked c cfg order names part first m next told)
      → shown_text part (lines_from c names part 1 (trail_start c cfg) (w.happenings ++ h ∷ [])) ≡ shown_text part (lines_from c names part 1 (trail_start c cfg) w.happenings) ++ put_text part m.shown (next_line c names part m h)
  text_in_walk m h next told w =
      let lines : List TraceLine = lines_from c names part 1 (trail_start c cfg) w.happenings in
      let line : Option TraceLine = own_line c names part (number_after 1 w.happenings) (trail_along c (trail_start c cfg) w.happenings) h in
      ap (shown_text part) (lines_on c names part 1 (trail_start c cfg) w.happenings h) ∙ text_with part lines line ∙ (λ i. shown_text part lines ++ put_text part (sym w.shown i) (line_in_walk m h next told w i))

  count_in_walk : (m : Tracing) (h : Happening) (next : Option Turn) (told : Option (List ℕ)) (w : TraceWalked c cfg order names part first m next told)
      → length (lines_shown part (lines_from c names part 1 (trail_start c cfg) (w.happenings ++ h ∷ []))) ≡ shown_behind part m.shown (next_line c names part m h)
  count_in_walk m h next told w =
      let lines : List TraceLine = lines_from c names part 1 (trail_start c cfg) w.happenings in
      let line : Option TraceLine = own_line c names part (number_after 1 w.happenings) (trail_along c (trail_start c cfg) w.happenings) h in
      ap (λ (x : List TraceLine). length (lines_shown part x)) (lines_on c names part 1 (trail_start c cfg) w.happenings h) ∙ count_with part lines line ∙ (λ i. shown_behind part (sym w.shown i) (line_in_walk m h next told w i))

  turned : (m n : Tracing) (h : Happening) (stage : Stage) (told now : Option (List ℕ)) (before after : ℕ) → Happened c names part h m n told now before after
      → TraceWalked c cfg order names part first m (turn_to h stage) told → TraceWalked c cfg order names part first n (turn_at stage n.machine.core) now
  turned m n h stage told now before after did w =
      let hs = w.happenings in
      let u : Trail = trail_along c (trail_start c cfg) hs in
      let core_is : happened c m.machine.core h ≡ n.machine.core = ap (λ (d : MarkedProgram). happened d m.machine.core h) (sym w.program) ∙ sym (ap (λ (r : Running). r.core) did.machine) in
      let seen_is : seen_next c m h ≡ seen_of_event c u h = seen_in_walk m h (turn_to h stage) told w in
      let owes : n.owed ≡ map shares.owed (history.told c u.told h).pasts = did.owed ∙ (λ i. owed_after (w.owed i) h (seen_by c (sym w.core i) (w.owed i) (w.stands i) h)) ∙ sym (owed_on c u h) in
      let stood : n.stands ≡ (trail_after c u h).stands = did.stands ∙ (λ i. stands_after c (sym w.core i) (w.stands i) h (seen_is i)) in
      record {
        program = ap (λ (r : Running). r.program) did.machine ∙ w.program;
        settings = ap (λ (r : Running). r.cfg) did.machine ∙ w.settings;
        happenings = hs ++ h ∷ [];
        stage = stage;
        leads = subst (λ (s : Core). IsLedByTurns c (First order) (start c cfg) (hs ++ h ∷ []) stage s) core_is (led_on c (First order) (start c cfg) hs w.stage m.machine.core h stage w.leads w.turn);
        turn = refl;
        number = did.number ∙ ap next_line_number w.number ∙ sym (number_on 1 hs h);
        core = ap (λ (v : Trail). v.told.core) (trail_on c (trail_start c cfg) hs h) ∙ ap (λ (s : Core). happened c s h) w.core ∙ core_is;
        shown = did.shown ∙ sym (count_in_walk m h (turn_to h stage) told w);
        owed = owes ∙ sym (ap (λ (v : Trail). map shares.owed v.told.pasts) (trail_on c (trail_start c cfg) hs h));
        stands = stood ∙ sym (ap (λ (v : Trail). v.stands) (trail_on c (trail_start c cfg) hs h));
        ends = did.ends ∙ (λ i. w.ends i ++ event_end c names part.form (w.number i) (sym w.core i) (seen_is i) h) ∙ sym (ends_on c names part.form 1 (trail_start c cfg) hs h);
        text = told_both first told now (shown_text part (lines_from c names part 1 (trail_start c cfg) hs)) (put_text part m.shown (next_line c names part m h)) w.text did.text
            ∙ ap (λ (text : List ℕ). option_map (λ t. t ++ text) first) (sym (text_in_walk m h (turn_to h stage) told w));
      }

-- ---- on from a turn

module _ (c : MarkedProgram) (order : List ℕ) (names : Names) (part : Part) where
  -- to the same turn
  pub walks_itself : (m : Tracing) (turn other : Option Turn) (told : Option (List ℕ)) (before : ℕ) → other ≡ turn → WalksOn c order names part m turn told before m other told before
  walks_itself m turn other told before e = subst (λ (o : Option Turn). WalksOn c order names part m turn told before m o told before) (sym e) (record { program = refl; walked = λ cfg first w. w; calm = refl })

  -- by one turn more
  pub walks_by : (m n r : Tracing) (turn at next : Option Turn) (h : Happening) (stage : Stage) (told mid now : Option (List ℕ)) (before between after : ℕ)
      → WalksOn c order names part m turn told before n at mid between → at ≡ turn_to h stage → Happened c names part h n r mid now between after → next ≡ turn_at stage r.machine.core
      → WalksOn c order names part m turn told before r next now after
  walks_by m n r turn at next h stage told mid now before between after on is did e = record {
    program = ap (λ (x : Running). x.program) did.machine ∙ on.program;
    walked = λ cfg first w. subst (λ (o : Option Turn). TraceWalked c cfg order names part first r o now) (sym e) (turned c cfg order names part first n r h stage mid now between after did (subst (λ (o : Option Turn). TraceWalked c cfg order names part first n o mid) is (on.walked cfg first w)));
    calm = did.calm ∙ on.calm;
  }

  -- by one turn, and from there on
  pub walks_both : (m n r : Tracing) (turn at next : Option Turn) (told mid now : Option (List ℕ)) (before between after : ℕ)
      → WalksOn c order names part m turn told before n at mid between → WalksOn c order names part n at mid between r next now after → WalksOn c order names part m turn told before r next now after
  walks_both m n r turn at next told mid now before between after f g = record { program = g.program ∙ f.program; walked = λ cfg first w. g.walked cfg first (f.walked cfg first w); calm = g.calm ∙ f.calm }

-- ---- the whole run

pub walked_at_start : (c : MarkedProgram) (cfg : Config) (order : List ℕ) (names : Names) (part : Part) (told : Option (List ℕ)) (m : Tracing) → IsStarted c cfg m
    → TraceWalked c cfg order names part told m (turn_at (First order) m.machine.core) told
walked_at_start c cfg order names part told m begun = record {
  program = ap (λ (r : Running). r.program) begun.machine;
  settings = ap (λ (r : Running). r.cfg) begun.machine;
  happenings = [];
  stage = First order;
  leads = (refl, sym (ap (λ (r : Running). r.core) begun.machine));
  turn = refl;
  number = begun.number;
  shown = begun.shown ∙ sym (ap length (none_shown part));
  core = sym (ap (λ (r : Running). r.core) begun.machine);
  owed = begun.owed ∙ sym (nothing_owed (c.program.workers + 1));
  stands = begun.stands;
  ends = begun.ends;
  text = by_told told ∙ ap (λ (lines : List TraceLine). option_map (λ t. t ++ lines_text part.from lines) told) (sym (none_shown part));
}
  where
    by_told : (o : Option (List ℕ)) → o ≡ option_map (λ t. t ++ []) o
    by_told None = refl
    by_told (Some t) = ap Some (sym (append-nil t))

-- the lines were told, then the ends, and then the report
pub whole : (c : MarkedProgram) (cfg : Config) (order : List ℕ) (names : Names) (part : Part) (told mid late now : Option (List ℕ)) (before between beyond after : ℕ) (m n : Tracing) (o : Outcome)
    → IsStarted c cfg m → WalksOn c order names part m (turn_at (First order) m.machine.core) told before n None mid between → late ≡ option_map (λ t. t ++ n.ends.items) mid → beyond ≡ between
    → o ≡ outcome n.machine.core → now ≡ option_map (λ t. t ++ report_in part.form o) late → after ≡ beyond → IsWholeTrace [] c cfg order names part told now before after o
unfolding core
whole c cfg order names part told mid late now before between beyond after m n o begun on ended still is put calm =
    let w = on.walked cfg told (walked_at_start c cfg order names part told m begun) in
    let hs = w.happenings in
    let all = schedule_of c (First order) (start c cfg) hs w.stage n.machine.core w.leads w.turn in
    let told_is : o ≡ outcome (core c cfg hs) = is ∙ ap outcome (sym all.1) in
    let lines = shown_text part (lines_from c names part 1 (trail_start c cfg) hs) in
    let with_ends : late ≡ option_map (λ t. t ++ (lines ++ ends_from c names part.form 1 (trail_start c cfg) hs)) told =
    told_both told mid late lines n.ends.items w.text ended ∙ ap (λ (ends : List ℕ). option_map (λ t. t ++ (lines ++ ends)) told) w.ends in
    record {
      happenings = hs;
      schedule = all.0;
      outcome_is = told_is;
      text = told_both told late now (lines ++ ends_from c names part.form 1 (trail_start c cfg) hs) (report_in part.form o) with_ends put
          ∙ ap (λ (x : Outcome). option_map (λ t. t ++ ((lines ++ ends_from c names part.form 1 (trail_start c cfg) hs) ++ report_in part.form x)) told) told_is;
      calm = calm ∙ still ∙ on.calm;
    }
