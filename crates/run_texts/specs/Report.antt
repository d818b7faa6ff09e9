-- The report of a run: the printed numbers, how each part ended, and what each thread counted.
use Rattle.std.specs.Prelude.{ℕ, ◌+◌, nat_le, List, [], ◌∷◌, ◌++◌, codes, if◌then◌else◌}
use Rattle.std.specs.List.{flat_map}
use Rattle.std.specs.Fmt.{decimal, signed_decimal}
use Rattle.jvm_types.specs.declared.outcome.Thrown.{Thrown}
use Rattle.jvm_types.specs.declared.outcome.Thrown.TheVariants.{Throwable, Exception, Error}
use Rattle.jvm_types.specs.declared.outcome.Thrown.TheVariants.{RuntimeException}
use Rattle.jvm_types.specs.declared.outcome.Thrown.TheVariants.{InterruptedException}
use Rattle.jvm_types.specs.declared.outcome.Thrown.TheVariants.{ArithmeticException}
use Rattle.jvm_types.specs.declared.outcome.Thrown.TheVariants.{NullPointerException}
use Rattle.jvm_types.specs.declared.outcome.Thrown.TheVariants.{ArrayIndexOutOfBoundsException}
use Rattle.jvm_types.specs.declared.outcome.Thrown.TheVariants.{NegativeArraySizeException}
use Rattle.jvm_types.specs.declared.outcome.Thrown.TheVariants.{IllegalMonitorStateException}
use Rattle.jvm_types.specs.declared.outcome.Thrown.TheVariants.{OutOfMemoryError}
use Rattle.jvm_types.specs.declared.outcome.Thrown.TheVariants.{StackOverflowError}
use Rattle.jvm_types.specs.declared.outcome.End.{End}
use Rattle.jvm_types.specs.declared.outcome.End.TheVariants.{Returned, Uncaught, Steps, Turns}
use Rattle.jvm_types.specs.declared.outcome.End.TheVariants.{Records, Prints, NotRun}
use Rattle.jvm_types.specs.declared.outcome.Print.{Print}
use Rattle.jvm_types.specs.declared.outcome.Counts.{Counts}
use Rattle.jvm_types.specs.declared.outcome.ThreadReport.{ThreadReport}
use Rattle.jvm_types.specs.declared.outcome.Outcome.{Outcome}

abbrev pub line : List ℕ → List ℕ
line text = text ++ 10 ∷ []

-- ---- the prints

-- a print put among others that stand in order of their tickets, before the first whose ticket is
-- not less
abbrev pub put : Print → List Print → List Print
put p [] = p ∷ []
put p (q ∷ qs) = if nat_le p.ticket q.ticket then p ∷ q ∷ qs else q ∷ put p qs

-- in order of the tickets; those with one ticket stay in the order in which they stood
abbrev pub by_ticket : List Print → List Print
by_ticket [] = []
by_ticket (p ∷ ps) = put p (by_ticket ps)

abbrev pub print_line : Print → List ℕ
print_line p = line (signed_decimal p.value)

abbrev pub print_lines : List ThreadReport → List ℕ
print_lines threads = flat_map print_line (by_ticket (flat_map (λ t. t.prints) threads))

-- ---- the ends

abbrev pub thrown_name : Thrown → List ℕ
thrown_name Throwable = codes "java/lang/Throwable"
thrown_name Exception = codes "java/lang/Exception"
thrown_name Error = codes "java/lang/Error"
thrown_name RuntimeException = codes "java/lang/RuntimeException"
thrown_name InterruptedException = codes "java/lang/InterruptedException"
thrown_name ArithmeticException = codes "java/lang/ArithmeticException"
thrown_name NullPointerException = codes "java/lang/NullPointerException"
thrown_name ArrayIndexOutOfBoundsException = codes "java/lang/ArrayIndexOutOfBoundsException"
thrown_name NegativeArraySizeException = codes "java/lang/NegativeArraySizeException"
thrown_name IllegalMonitorStateException = codes "java/lang/IllegalMonitorStateException"
thrown_name OutOfMemoryError = codes "java/lang/OutOfMemoryError"
thrown_name StackOverflowError = codes "java/lang/StackOverflowError"

abbrev pub end_text : End → List ℕ
end_text Returned = codes "returned"
end_text (Uncaught x) = codes "uncaught " ++ thrown_name x
end_text Steps = codes "steps"
end_text Turns = codes "turns"
end_text Records = codes "records"
end_text Prints = codes "prints"
end_text NotRun = codes "not run"

-- thread 0 ends the part `init`, each other thread its own
abbrev pub thread_ends : ℕ → List ThreadReport → List ℕ
thread_ends number [] = []
thread_ends number (t ∷ ts) =
    line (codes "thread " ++ decimal number ++ codes " " ++ end_text t.end)
    ++ thread_ends (number + 1) ts

abbrev pub end_lines : List ThreadReport → End → List ℕ
end_lines [] done = line (codes "done " ++ end_text done)
end_lines (t ∷ ts) done =
    line (codes "init " ++ end_text t.end) ++ thread_ends 1 ts
    ++ line (codes "done " ++ end_text done)

-- ---- the counts

abbrev pub counts_line : ℕ → Counts → List ℕ
counts_line number c =
    line (codes "counts " ++ decimal number ++ codes " instructions " ++ decimal c.instructions
    ++ codes " elided " ++ decimal c.elided ++ codes " failed " ++ decimal c.failed
    ++ codes " locked " ++ decimal c.locked ++ codes " inflated " ++ decimal c.inflated)

abbrev pub counts_lines : ℕ → List ThreadReport → List ℕ
counts_lines number [] = []
counts_lines number (t ∷ ts) = counts_line number t.counts ++ counts_lines (number + 1) ts

-- ---- the whole

abbrev pub report_text : Outcome → List ℕ
report_text o = print_lines o.threads ++ end_lines o.threads o.done ++ counts_lines 0 o.threads
