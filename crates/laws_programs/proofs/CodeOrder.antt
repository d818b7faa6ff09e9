-- Instructions follow one another, so that their pcs ascend.
use Rattle.std.proofs.Common.{◌≡◌, ℕ, zero, suc, ◌+◌, ◌<◌, ◌≤◌, ◌⊎◌, inl, inr, ⊎_elim, true, false, cond, List, [], ◌∷◌, length, take, Some, refl, sym, ap, ◌∙◌, subst, arith, length-append, ◌==◌, slice_get}
use Rattle.std.{specs.List.{AllByRecursion, AllZip}, proofs.lemmas.{Bool.{eq-eqb, or_cases, ne_eqb, Decides.nat_tests}, Slice.Zip.AllZip-long}}
use Rattle.jvm_types.specs.{CodeGrammar.{SpellsInsns, is_start, IsStart, RowFits}, CodeTable.branches_to, ProgramInvariant.{IsMethodOf, IsRowOf, IsTargetOf, site_in}, Verifying.{IsLaidOut, new_class}}
use Rattle.jvm_types.{specs.declared.{class_file.Handler.Handler, code.Insn.Insn, program.{MethodInfo.MethodInfo, Program.Program, Row.Row, Target.Target}}, proofs.EachAfter.all_weaker}
use Rattle.laws_programs.specs.CodeLaws.{MethodsAreLaidOut, PcsAscend, OneInsn, PcsAreShort, CodeStarts, NextFollows, Begins, StartsBegin, BranchesBegin, HandlersBegin, InsnsHaveTargets, ClassOfNew}
use Rattle.laws_programs.proofs.{FieldOrder.one_index, LeastFrames.some_front, LocalGoing.at_index}
use Rattle.jvm_types.specs.declared.program.Target.TheVariants as targets

-- ---- a method of a program is laid out

rows_turned : (handlers : List Handler) (rows : List Row) → AllZip IsRowOf handlers rows → AllZip (λ (r : Row) (h : Handler). (r.start ≡ h.start) × (r.end ≡ h.end) × (r.handler ≡ h.handler)) rows handlers
rows_turned [] [] all = all
rows_turned (h ∷ handlers) (r ∷ rows) all = ((all.0.start, all.0.end, all.0.handler), rows_turned handlers rows all.1)
rows_turned handlers rows all = absurd all

pub laid_out : (p : Program) (before : List MethodInfo) (m : MethodInfo) → IsMethodOf p before m → IsLaidOut m
laid_out p before m is = record {
  bytes = is.coded.bytes;
  handlers = is.coded.handlers;
  code = is.coded.code;
  rows = rows_turned is.coded.handlers m.rows is.coded.rows;
  targets = AllZip-long (λ (insn : Insn) target. IsTargetOf p (site_in m) insn.op target) m.code m.targets is.targets;
}

pub methods_laid_out : MethodsAreLaidOut
methods_laid_out p number m is e = laid_out p (take number p.methods) m (is.methods number m e)

-- ---- pcs

later : (pc : ℕ) (insns : List Insn) (bytes : List ℕ) (i : ℕ) (insn : Insn) → SpellsInsns pc insns bytes → slice_get insns i ≡ Some insn → pc ≤ insn.pc
later pc [] bytes i insn s e = absurd (cc)
later pc (x ∷ insns) bytes zero insn s e = let same : x ≡ insn = cc in omega (arith, s.3, ap (λ (y : Insn). y.pc) same)
later pc (x ∷ insns) bytes (suc i) insn s e = omega (arith, later x.next insns s.1 i insn s.6 e, s.4)

ascending : (pc : ℕ) (insns : List Insn) (bytes : List ℕ) (i j : ℕ) (insn other : Insn) → SpellsInsns pc insns bytes → slice_get insns i ≡ Some insn → slice_get insns j ≡ Some other → i < j → insn.pc < other.pc
ascending pc (x ∷ insns) bytes zero (suc j) insn other s e f h =
    let same : x ≡ insn = cc in
    omega (arith, s.3, s.4, ap (λ (y : Insn). y.pc) same, some_front pc x.op s.0 s.5, later x.next insns s.1 j other s.6 f)
ascending pc (x ∷ insns) bytes (suc i) (suc j) insn other s e f h = ascending x.next insns s.1 i j insn other s.6 e f (omega (arith, h))
ascending pc insns bytes i j insn other s e f h = absurd (first_of (cc, omega (arith, h)))

pub ascend : PcsAscend
ascend m i j insn other laid e f h = ascending 0 m.code laid.bytes i j insn other laid.code.spelled e f h

pub one_number : OneInsn
one_number m i j insn other laid e f same = one_index i j insn.pc other.pc (λ k. ascend m i j insn other laid e f k) (λ k. ascend m j i other insn laid f e k) same

inside : (pc : ℕ) (insns : List Insn) (bytes : List ℕ) (i : ℕ) (insn : Insn) → SpellsInsns pc insns bytes → slice_get insns i ≡ Some insn → insn.pc < pc + length bytes
inside pc [] bytes i insn s e = absurd (cc)
inside pc (x ∷ insns) bytes zero insn s e =
    let same : x ≡ insn = cc in
    omega (arith, s.3, ap (λ (y : Insn). y.pc) same, some_front pc x.op s.0 s.5, ap length s.2, length-append s.0 s.1)
inside pc (x ∷ insns) bytes (suc i) insn s e = omega (arith, inside x.next insns s.1 i insn s.6 e, s.4, ap length s.2, length-append s.0 s.1)

pub short : PcsAreShort
short m i insn laid e =
    let h = inside 0 m.code laid.bytes i insn laid.code.spelled e in
    (omega (arith, h), omega (arith, h, laid.code.short))

starting : (insns : List Insn) (bytes : List ℕ) → SpellsInsns 0 insns bytes → 0 < length bytes → (insn : Insn) × (slice_get insns 0 ≡ Some insn) × (insn.pc ≡ 0)
starting [] bytes s h = absurd (omega (arith, h, ap length s))
starting (x ∷ insns) bytes s h = (x, refl, s.3)

pub starts : CodeStarts
starts m laid = starting m.code laid.bytes laid.code.spelled laid.code.some

-- ---- the following instruction

following : (pc : ℕ) (insns : List Insn) (bytes : List ℕ) (i : ℕ) (insn : Insn) → SpellsInsns pc insns bytes → slice_get insns i ≡ Some insn
    → ((other : Insn) × (slice_get insns (suc i) ≡ Some other) × (other.pc ≡ insn.next)) ⊎ ((suc i ≡ length insns) × (insn.next ≡ pc + length bytes))
following pc [] bytes i insn s e = absurd (cc)
following pc (x ∷ []) bytes zero insn s e =
    let same : x ≡ insn = cc in
    inr (omega arith, omega (arith, ap (λ (y : Insn). y.next) same, s.4, ap length s.2, length-append s.0 s.1, ap length s.6))
following pc (x ∷ y ∷ insns) bytes zero insn s e =
    let same : x ≡ insn = cc in
    inl (y, refl, s.6.3 ∙ ap (λ (z : Insn). z.next) same)
following pc (x ∷ insns) bytes (suc i) insn s e =
    ⊎_elim (λ h. inl h) (λ h. inr (omega (arith, h.0), omega (arith, h.1, s.4, ap length s.2, length-append s.0 s.1))) (following x.next insns s.1 i insn s.6 e)

pub follows : NextFollows
follows m i insn laid e = ⊎_elim (λ h. inl h) (λ h. inr (h.0, omega (arith, h.1))) (following 0 m.code laid.bytes i insn laid.code.spelled e)

-- ---- where an instruction begins

begin_at : (insns : List Insn) (pc : ℕ) → is_start insns pc ≡ true → (i : ℕ) × (insn : Insn) × (slice_get insns i ≡ Some insn) × (insn.pc ≡ pc)
begin_at [] pc h = absurd (cc)
begin_at (x ∷ insns) pc h = ⊎_elim (λ (e : (x.pc == pc) ≡ true). (0, x, refl, grind (arith, nat_tests, e)))
    (λ (e : is_start insns pc ≡ true). let found = begin_at insns pc e in (suc found.0, found.1, found.2, found.3)) (or_cases (x.pc == pc) (is_start insns pc) h)

pub begin : StartsBegin
begin m pc h = let found = begin_at m.code pc h in record { number = found.0; insn = found.1; there = found.2; starts = found.3 }

pub branches_begin : BranchesBegin
branches_begin m i insn laid e =
    all_weaker (IsStart m.code) (Begins m) (begin m) (branches_to insn.op) (at_index (λ (x : Insn). AllByRecursion (IsStart m.code) (branches_to x.op)) m.code i insn laid.code.targets e)

handlers_in : (m : MethodInfo) (size : ℕ) (rows : List Row) (handlers : List Handler) → AllZip (λ (r : Row) (h : Handler). (r.start ≡ h.start) × (r.end ≡ h.end) × (r.handler ≡ h.handler)) rows handlers
    → AllByRecursion (RowFits m.code size) handlers → AllByRecursion (λ (r : Row). Begins m r.handler) rows
handlers_in m size [] handlers all fit = tt
handlers_in m size (r ∷ rows) [] all fit = absurd all
handlers_in m size (r ∷ rows) (h ∷ handlers) all fit = (subst (Begins m) (sym all.0.2) (begin m h.handler fit.0.handler), handlers_in m size rows handlers all.1 fit.1)

pub handlers_begin : HandlersBegin
handlers_begin m laid = handlers_in m (length laid.bytes) m.rows laid.handlers laid.rows laid.code.rows_fit

-- ---- targets

target_at : (R : Insn → Target → Type 0) (insns : List Insn) (ts : List Target) (i : ℕ) (insn : Insn) → AllZip R insns ts → slice_get insns i ≡ Some insn → (t : Target) × (slice_get ts i ≡ Some t) × R insn t
target_at R (x ∷ insns) (t ∷ ts) zero insn all e = let same : x ≡ insn = cc in (t, refl, subst (λ (y : Insn). R y t) same all.0)
target_at R (x ∷ insns) (t ∷ ts) (suc i) insn all e = target_at R insns ts i insn all.1 e
target_at R insns ts i insn all e = absurd (first_of (assumption, cc))

pub have_targets : InsnsHaveTargets
have_targets p number i m insn is e f = target_at (λ (x : Insn) t. IsTargetOf p (site_in m) x.op t) m.code m.targets i insn (is.methods number m e).targets f

-- ---- the class of a `new`

-- the target at a place decides, whatever stands before it
skipped : (x : Insn) (insns : List Insn) (t : Target) (ts : List Target) (pc : ℕ) → (x.pc == pc) ≡ false → new_class (x ∷ insns) (t ∷ ts) pc ≡ new_class insns ts pc
skipped x insns (targets.Class class) ts pc e = ap (λ b. cond b (Some class) (new_class insns ts pc)) e
skipped x insns t ts pc e = refl

new_in : (from : ℕ) (insns : List Insn) (bytes : List ℕ) (ts : List Target) (i : ℕ) (insn : Insn) (class : ℕ) → SpellsInsns from insns bytes
    → slice_get insns i ≡ Some insn → slice_get ts i ≡ Some (targets.Class class) → new_class insns ts insn.pc ≡ Some class
new_in from (x ∷ insns) bytes (t ∷ ts) zero insn class s e f =
    let same : x ≡ insn = cc in
    let is : targets.Class class ≡ t = cc in
    subst (λ (u : Target). new_class (x ∷ insns) (u ∷ ts) insn.pc ≡ Some class) is
    (ap (λ b. cond b (Some class) (new_class insns ts insn.pc)) (eq-eqb x.pc insn.pc (ap (λ (y : Insn). y.pc) same)))
new_in from (x ∷ insns) bytes (t ∷ ts) (suc i) insn class s e f =
    let behind = later x.next insns s.1 i insn s.6 e in
    skipped x insns t ts insn.pc (ne_eqb x.pc insn.pc (λ same. omega (arith, same, behind, s.3, s.4, some_front from x.op s.0 s.5))) ∙ new_in x.next insns s.1 ts i insn class s.6 e f
new_in from insns bytes ts i insn class s e f = absurd (cc)

pub class_of_the_new : ClassOfNew
class_of_the_new m i insn class laid e f = new_in 0 m.code laid.bytes m.targets i insn class laid.code.spelled e f
