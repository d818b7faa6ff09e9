-- The outcomes of a program, written to a sink, and what they come to.
use Rattle.std.specs.Prelude.{◌≡◌, ◌<◌, ℕ, Bool, true, false, List, ◌++◌, length, take, Option}
use Rattle.std.specs.Prelude.{Result, Ok, Err}
use Rattle.std.specs.List.{list_any}
use Rattle.std.specs.Option.{option_map}
use Rattle.checked_program.specs.MarkedProgram.{MarkedProgram}
use Rattle.host_io.specs.Faults.{CountsFault}
use Rattle.json_lines.specs.declared.form.Form.{Form}
use Rattle.jvm_types.specs.declared.program.Program.{Program}
use Rattle.machine_types.specs.declared.config.Config.{Config}
use Rattle.outcomes.specs.Lists.{AreOutcomes}
use Rattle.outcomes.specs.declared.all_outcomes.Outcomes.{Outcomes}
use Rattle.source_lines.specs.declared.sources.Sources.{Sources}
use Rattle.outcome_texts.specs.AllFacts.{outcomes_text}
use Rattle.outcome_texts.specs.Expected.{is_unexpected}
use Rattle.outcome_texts.specs.Findings.{finding, is_found}
use Rattle.outcome_texts.specs.declared.findings.Forbidden.{Forbidden}
use Rattle.outcome_texts.specs.declared.telling.OutcomesError.{OutcomesError}
use Rattle.outcome_texts.specs.declared.telling.OutcomesError.TheVariants.{Memory, Failed}
use Rattle.outcome_texts.specs.declared.telling.Told.{Told}
use Rattle.outcome_texts.specs.declared.telling.Verdict.{Verdict}
use Rattle.outcome_texts.specs.declared.telling.Verdict.TheVariants as verdicts

-- something that no run is to do was found, whether or not all orders were tried; or else an
-- outcome that is not expected; or neither was
abbrev pub verdict_by : (is_found is_unexpected is_whole : Bool) → Verdict
verdict_by true unexpected whole = verdicts.Found
verdict_by false true whole = verdicts.Unexpected
verdict_by false false true = verdicts.NoOther
verdict_by false false false = verdicts.Unknown

-- by a file of expected outcomes, if one is given
abbrev pub verdict_of : Program → Outcomes → List Forbidden → (file : Option (List ℕ)) → Verdict
verdict_of p o forbidden file =
    verdict_by (list_any (λ f. is_found (finding p o f)) forbidden) (is_unexpected p o file)
    o.is_whole

-- outcomes of the program were told, and this is what they come to
pub record AreOutcomesTold (form : Form) (c : MarkedProgram) (cfg : Config) (sources : Sources)
    (forbidden : List Forbidden) (file told now : Option (List ℕ)) (verdict : Verdict)
    : Type 0 where
  pub outcomes : Outcomes
  pub are : AreOutcomes c cfg outcomes
  pub text : now
      ≡ option_map (λ t. t ++ outcomes_text form c.program sources outcomes forbidden file) told
  pub comes : verdict ≡ verdict_of c.program outcomes forbidden file

-- or a front of them
pub record IsFrontOfOutcomes (form : Form) (c : MarkedProgram) (cfg : Config) (sources : Sources)
    (forbidden : List Forbidden) (file told now : Option (List ℕ)) : Type 0 where
  pub outcomes : Outcomes
  pub are : AreOutcomes c cfg outcomes
  pub n : ℕ
  pub less : n < length (outcomes_text form c.program sources outcomes forbidden file)
  pub text : now ≡ option_map
      (λ t. t ++ take n (outcomes_text form c.program sources outcomes forbidden file)) told

-- what is to be told of outcomes of the program, and what they come to
pub record AreOutcomesReady (form : Form) (c : MarkedProgram) (cfg : Config) (sources : Sources)
    (forbidden : List Forbidden) (file : Option (List ℕ)) (told : Told) : Type 0 where
  pub outcomes : Outcomes
  pub are : AreOutcomes c cfg outcomes
  pub text : told.text.items ≡ outcomes_text form c.program sources outcomes forbidden file
  pub comes : told.verdict ≡ verdict_of c.program outcomes forbidden file

-- they were written whole; or there was no memory, and nothing was written; or the sink failed
abbrev pub AreOutcomesWritten : Form → MarkedProgram → Config → Sources → List Forbidden
    → (file told now : Option (List ℕ)) → (before after : ℕ) → Result Verdict OutcomesError
    → Type 0
AreOutcomesWritten form c cfg sources forbidden file told now before after (Ok verdict) =
    (after ≡ before) × AreOutcomesTold form c cfg sources forbidden file told now verdict
AreOutcomesWritten form c cfg sources forbidden file told now before after (Err Memory) =
    (after ≡ before) × (now ≡ told)
AreOutcomesWritten form c cfg sources forbidden file told now before after (Err Failed) =
    CountsFault before after × IsFrontOfOutcomes form c cfg sources forbidden file told now
