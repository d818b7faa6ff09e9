-- The top frame by the number of the instruction at its pc.
use Rattle.std.{proofs.Common.{◌≡◌, ◌<◌, ℕ, suc, Bool, true, false, List, [], ◌∷◌, length, Option, Some, None, refl, sym, ap, ◌∙◌, arith, slice_get, ◌==◌, if◌then◌else◌}, specs.Option.option_map}
use Rattle.jvm_types.specs.declared.{code.Insn.Insn, program.{MethodInfo.MethodInfo, Program.Program, Target.Target}}
use Rattle.jvm_types.proofs.EachAfter.{item_at, no_item, next_item}
use Rattle.code_table.specs.PcTables.{number_at}
use Rattle.checked_program.specs.CodeIndex.{number_in}
use Rattle.machine_types.specs.{Frames.{at_pc, top_at, top_in, top_of}, Threads.Frame}
use Rattle.frames.specs.FrameLists.{top, below}

on_test : {A : Type 0} (x : A) (xs : List A) (t : Bool) (rest : Option A) (o : Option ℕ) → rest ≡ item_at xs o → (if t then Some x else rest) ≡ item_at (x ∷ xs) (if t then Some 0 else option_map suc o)
on_test x xs true rest o e = refl
on_test x xs false rest o e = e ∙ next_item x xs o

at_number : {A : Type 0} (code : List Insn) (xs : List A) (pc : ℕ) → at_pc code xs pc ≡ item_at xs (number_at code pc)
at_number [] xs pc = refl
at_number (insn ∷ insns) [] pc = sym (no_item (number_at (insn ∷ insns) pc))
at_number (insn ∷ insns) (x ∷ xs) pc = on_test x xs (insn.pc == pc) (at_pc insns xs pc) (number_at insns pc) (at_number insns xs pc)

-- where the method is there
top_number : (p : Program) (frames : List Frame) (m : MethodInfo) → 0 < length frames → slice_get p.methods (top frames).method ≡ Some m
    → top_of p frames ≡ top_at (top frames) (below frames) m (item_at m.code (number_in (slice_get p.methods (top frames).method) (top frames).pc)) (item_at m.targets (number_in (slice_get p.methods (top frames).method) (top frames).pc))
top_number p [] m some e = absurd (omega (arith, some))
top_number p (f ∷ fs) m some e =
    let number : number_in (slice_get p.methods f.method) f.pc ≡ number_at m.code f.pc = ap (λ (o : Option MethodInfo). number_in o f.pc) e in
    let insn : at_pc m.code m.code f.pc ≡ item_at m.code (number_in (slice_get p.methods f.method) f.pc) = at_number m.code m.code f.pc ∙ ap (item_at m.code) (sym number) in
    let target : at_pc m.code m.targets f.pc ≡ item_at m.targets (number_in (slice_get p.methods f.method) f.pc) = at_number m.code m.targets f.pc ∙ ap (item_at m.targets) (sym number) in
    ap (λ (o : Option MethodInfo). top_in f fs o) e ∙ (λ i. top_at f fs m (insn i) (target i))

no_number : (f : Frame) (fs : List Frame) (m : MethodInfo) (insn : Option Insn) → top_at f fs m insn None ≡ None
no_number f fs m None = refl
no_number f fs m (Some insn) = refl

-- ---- no instruction there, no target, and both

pub none_there : (p : Program) (frames : List Frame) (m : MethodInfo) → 0 < length frames → slice_get p.methods (top frames).method ≡ Some m
    → number_in (slice_get p.methods (top frames).method) (top frames).pc ≡ None → top_of p frames ≡ None
none_there p frames m some e n = top_number p frames m some e ∙ ap (λ (o : Option ℕ). top_at (top frames) (below frames) m (item_at m.code o) (item_at m.targets o)) n

pub no_insn : (p : Program) (frames : List Frame) (m : MethodInfo) (i : ℕ) → 0 < length frames → slice_get p.methods (top frames).method ≡ Some m
    → number_in (slice_get p.methods (top frames).method) (top frames).pc ≡ Some i → slice_get m.code i ≡ None → top_of p frames ≡ None
no_insn p frames m i some e n none = top_number p frames m some e ∙ ap (λ (o : Option ℕ). top_at (top frames) (below frames) m (item_at m.code o) (item_at m.targets o)) n ∙ ap (λ (o : Option Insn). top_at (top frames) (below frames) m o (slice_get m.targets i)) none

pub no_target : (p : Program) (frames : List Frame) (m : MethodInfo) (i : ℕ) → 0 < length frames → slice_get p.methods (top frames).method ≡ Some m
    → number_in (slice_get p.methods (top frames).method) (top frames).pc ≡ Some i → slice_get m.targets i ≡ None → top_of p frames ≡ None
no_target p frames m i some e n none = top_number p frames m some e ∙ ap (λ (o : Option ℕ). top_at (top frames) (below frames) m (item_at m.code o) (item_at m.targets o)) n ∙ ap (λ (o : Option Target). top_at (top frames) (below frames) m (slice_get m.code i) o) none ∙ no_number (top frames) (below frames) m (slice_get m.code i)

pub both_there : (p : Program) (frames : List Frame) (m : MethodInfo) (i : ℕ) (insn : Insn) (target : Target) → 0 < length frames → slice_get p.methods (top frames).method ≡ Some m
    → number_in (slice_get p.methods (top frames).method) (top frames).pc ≡ Some i → slice_get m.code i ≡ Some insn → slice_get m.targets i ≡ Some target
    → top_of p frames ≡ Some (record { frame = top frames; below = below frames; method = m; insn = insn; target = target })
both_there p frames m i insn target some e n a b = top_number p frames m some e ∙ ap (λ (o : Option ℕ). top_at (top frames) (below frames) m (item_at m.code o) (item_at m.targets o)) n ∙ (λ j. top_at (top frames) (below frames) m (a j) (b j))
