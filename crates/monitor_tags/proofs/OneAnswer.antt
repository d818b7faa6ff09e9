-- A method has one answer.
use Rattle.std.proofs.{Common.{◌≡◌, Result, refl, IfOk, IfErr}, lemmas.Result.{IfOk-weaker, IfErr-weaker}}
use Rattle.jvm_types.specs.declared.{program.{MethodInfo.MethodInfo, Program.Program}, refusal.SRule.SRule}
use Rattle.checked_program.specs.{Tagging.{tag_plan, IsTaggingOf}, declared.tag.Tags.Tags}
use Rattle.laws_sections.proofs.TagAnswers.{one_tagging_all, no_refusal}
use Rattle.code_visits.specs.{Analyses.IsStopped, declared.stop.Stop.Stop}
use Rattle.monitor_tags.specs.{Visiting.{error_of, IsTagRefusal}, declared.error.TagError.{TagError, TheVariants.{Memory, Refused}}}
use Rattle.code_visits.specs.declared.stop.Stop.TheVariants as stops

pub one_of : (p : Program) (m : MethodInfo) (found t : Tags) → IsTaggingOf p m found → IsTaggingOf p m t → found ≡ t
one_of p m found t a b = λ i. record { frames = one_tagging_all p m found.frames t.frames a b i }

pub only_by : (p : Program) (m : MethodInfo) (result : Result Tags TagError) → IfOk result (IsTaggingOf p m) → (t : Tags) → IsTaggingOf p m t → IfOk result (λ found. found ≡ t)
only_by p m result ok t is = IfOk-weaker result (IsTaggingOf p m) (λ found. found ≡ t) (λ found h. one_of p m found t h is) ok

not_refused : (p : Program) (m : MethodInfo) (t : Tags) (e : TagError) → IsTaggingOf p m t → IsTagRefusal p m e → e ≡ Memory
not_refused p m t Memory is h = refl
not_refused p m t (Refused rule pc) is h = absurd (no_refusal p m t.frames rule pc is h)

pub tagged_by : (p : Program) (m : MethodInfo) (result : Result Tags TagError) → IfErr result (IsTagRefusal p m) → (t : Tags) → IsTaggingOf p m t → IfErr result (λ e. e ≡ Memory)
tagged_by p m result refused t is = IfErr-weaker result (IsTagRefusal p m) (λ e. e ≡ Memory) (λ e h. not_refused p m t e is h) refused

-- why its visits stopped is why it is refused
pub refused_so : (p : Program) (m : MethodInfo) (stop : Stop SRule) → IsStopped (tag_plan p m) stop → IsTagRefusal p m (error_of stop)
refused_so p m stops.Memory h = tt
refused_so p m (stops.Refused rule pc) h = h
