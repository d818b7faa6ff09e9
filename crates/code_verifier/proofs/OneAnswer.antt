-- A method has one answer.
use Rattle.std.proofs.{Common.{◌≡◌, Result, refl, IfOk, IfErr}, lemmas.Result.{IfOk-weaker, IfErr-weaker}}
use Rattle.jvm_types.specs.{Verifying.IsTypingOf, declared.{program.{MethodInfo.MethodInfo, Program.Program}, refusal.VRule.VRule, typing.Typing.Typing}}
use Rattle.laws_programs.proofs.{KnownTyping.typing_of_one, OneTyping.no_refusal}
use Rattle.code_visits.{specs.{Analyses.IsStopped, TypePlan.type_plan, declared.stop.Stop.Stop}, proofs.TypeVisits.is_refused}
use Rattle.code_verifier.specs.{Visiting.{verify_error_of, IsRefusal}, declared.error.VerifyError.{VerifyError, TheVariants.{Memory, Refused}}}
use Rattle.code_visits.specs.declared.stop.Stop.TheVariants as stops

pub only_by : (p : Program) (m : MethodInfo) (result : Result Typing VerifyError) → IfOk result (IsTypingOf p m) → (t : Typing) → IsTypingOf p m t → IfOk result (λ found. found ≡ t)
only_by p m result ok t is = IfOk-weaker result (IsTypingOf p m) (λ found. found ≡ t) (λ found h. typing_of_one p m found t h is) ok

not_refused : (p : Program) (m : MethodInfo) (t : Typing) (e : VerifyError) → IsTypingOf p m t → IsRefusal p m e → e ≡ Memory
not_refused p m t Memory is h = refl
not_refused p m t (Refused rule pc) is h = absurd (no_refusal p m t.frames rule pc is h)

pub typed_by : (p : Program) (m : MethodInfo) (result : Result Typing VerifyError) → IfErr result (IsRefusal p m) → (t : Typing) → IsTypingOf p m t → IfErr result (λ e. e ≡ Memory)
typed_by p m result refused t is = IfErr-weaker result (IsRefusal p m) (λ e. e ≡ Memory) (λ e h. not_refused p m t e is h) refused

-- why its visits stopped is why it is refused
pub refused_so : (p : Program) (m : MethodInfo) (stop : Stop VRule) → IsStopped (type_plan p m) stop → IsRefusal p m (verify_error_of stop)
refused_so p m stops.Memory h = tt
refused_so p m (stops.Refused rule pc) h = is_refused p m rule pc h
