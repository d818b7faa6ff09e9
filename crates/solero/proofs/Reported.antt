-- What is reported of runs on threads: one that was recorded, and one of a load.
use Rattle.std.proofs.Common.{◌≡◌, ℕ, ◌++◌, List, refl, subst, ap, ◌∙◌}
use Rattle.jvm_types.specs.declared.outcome.Outcome.{Outcome}
use Rattle.checked_program.specs.MarkedProgram.{MarkedProgram}
use Rattle.machine_types.specs.{Core.{Happening, core, outcome}, Faithful.{IsFaithful, IsOver, IsPlainRun}, Schedules.IsScheduleOf, declared.config.Config.Config}
use Rattle.run_parts.specs.Ended.{IsEndOfRun}
use Rattle.record_run.specs.Recordings.{IsRecorded}
use Rattle.run_texts.specs.{LoadText.summary_text, OrderText.order_line, Report.report_text}
use Rattle.command_words.specs.Command.{Asked}
use Rattle.program_answers.specs.{Finish.finish_of, declared.finish.Finish.Finish}
use Rattle.solero.specs.Answer.{ReportsOver, ReportsRecord, SumsUp, text_with_prints}

-- whatever happens in it, a run stands for one of the plain machine
abbrev pub ArePlain : MarkedProgram → Config → Type 0
ArePlain c cfg = (hs : List Happening) → IsFaithful c cfg hs

-- and its report has the prints of that
abbrev pub HavePrints : MarkedProgram → Config → Type 0
HavePrints c cfg = (hs : List Happening) (run : IsPlainRun c cfg hs) → report_text (outcome (core c cfg hs)) ≡ text_with_prints run.state.prints (outcome (core c cfg hs))

-- the report of what some happenings come to
reports : (asked : Asked) (checked : MarkedProgram) (hs : List Happening) (finish : Finish) → ArePlain checked asked.cfg → HavePrints checked asked.cfg → IsOver (core checked asked.cfg hs) → finish ≡ finish_of (outcome (core checked asked.cfg hs))
    → ReportsOver asked checked hs finish (report_text (outcome (core checked asked.cfg hs)))
reports asked checked hs finish plain prints over finished = record { plain = plain hs; over = over; report = refl; prints = prints hs; finished = finished }

pub record_made : (asked : Asked) (checked : MarkedProgram) (order : List ℕ) (o : Outcome) (finish : Finish) (text : List ℕ) → ArePlain checked asked.cfg → HavePrints checked asked.cfg
    → ((hs : List Happening) → IsScheduleOf checked asked.cfg order hs → IsOver (core checked asked.cfg hs))
    → IsRecorded checked asked.cfg asked.events order o → finish ≡ finish_of o → text ≡ report_text o ++ order_line order → ReportsRecord asked checked finish text
record_made asked checked order o finish text plain prints over recorded finished is_text =
    let hs = recorded.replayed.0 in
    let is : o ≡ outcome (core checked asked.cfg hs) = recorded.replayed.2 in
    record {
      order = order;
      happenings = hs;
      schedule = recorded.replayed.1;
      recorded = subst (λ (x : Outcome). IsRecorded checked asked.cfg asked.events order x) is recorded;
      report = report_text (outcome (core checked asked.cfg hs));
      run = reports asked checked hs finish plain prints (over hs recorded.replayed.1) (finished ∙ ap finish_of is);
      with_order = is_text ∙ ap (λ (x : Outcome). report_text x ++ order_line order) is;
    }

pub load_summed : (asked : Asked) (checked : MarkedProgram) (o : Outcome) (finish : Finish) (text : List ℕ) → ArePlain checked asked.cfg → HavePrints checked asked.cfg
    → IsEndOfRun checked asked.cfg o → finish ≡ finish_of o → text ≡ summary_text asked.size asked.seed o → SumsUp asked checked finish text
load_summed asked checked o finish text plain prints ended finished is_text =
    let hs = ended.0 in
    let is : o ≡ outcome (core checked asked.cfg hs) = ended.2 in
    record {
      happenings = hs;
      report = report_text (outcome (core checked asked.cfg hs));
      run = reports asked checked hs finish plain prints ended.1 (finished ∙ ap finish_of is);
      summed = is_text ∙ ap (λ (x : Outcome). summary_text asked.size asked.seed x) is;
    }
