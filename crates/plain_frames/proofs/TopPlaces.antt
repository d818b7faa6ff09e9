-- A frame stands at the instruction that is found by its method and its pc.
use Rattle.std.proofs.Common.{◌≡◌, ℕ, zero, suc, ◌+◌, ◌≤◌, ◌<◌, length, Bool, true, false, List, [], ◌∷◌, drop, Option, Some, None, refl, sym, ap, ◌∙◌, arith, slice_get, option_map, ◌==◌, if◌then◌else◌}
use Rattle.std.proofs.lemmas.{List.{drop_more, drop_all}, Option.{slice_get_within, get_or_from_slice_get}}
use Rattle.jvm_types.specs.declared.{code.Insn.Insn, program.{MethodInfo.MethodInfo, Program.Program, Target.Target}}
use Rattle.jvm_types.proofs.EachAfter.{item_at, no_item, next_item, drop_got}
use Rattle.code_table.specs.PcTables.{number_at}
use Rattle.checked_program.specs.CodeIndex.{number_in}
use Rattle.machine_types.specs.{Frames.{at_pc, top_at, top_in, top_of}, Threads.Frame}

-- ---- the item at a pc, by the number of the instruction there

at_pc_is : {A : Type 0} (code : List Insn) (xs : List A) (pc : ℕ) → at_pc code xs pc ≡ item_at xs (number_at code pc)
at_pc_is [] xs pc = refl
at_pc_is (insn ∷ insns) [] pc = sym (no_item (number_at (insn ∷ insns) pc))
at_pc_is (insn ∷ insns) (x ∷ xs) pc = by_test (insn.pc == pc) (at_pc_is insns xs pc ∙ next_item x xs (number_at insns pc))
  where
    by_test : (t : Bool) → at_pc insns xs pc ≡ item_at (x ∷ xs) (option_map suc (number_at insns pc)) → (if t then Some x else at_pc insns xs pc) ≡ item_at (x ∷ xs) (if t then Some 0 else option_map suc (number_at insns pc))
    by_test true h = refl
    by_test false h = h

at_number : {A : Type 0} (code : List Insn) (xs : List A) (pc : ℕ) (n : Option ℕ) → number_at code pc ≡ n → at_pc code xs pc ≡ item_at xs n
at_number code xs pc n e = at_pc_is code xs pc ∙ ap (item_at xs) e

-- ---- the frame at a place

none_left : {A : Type 0} (xs : List A) (i : ℕ) → slice_get xs i ≡ None → drop i xs ≡ []
none_left [] zero e = refl
none_left [] (suc i) e = refl
none_left (x ∷ xs) zero e = absurd (cc)
none_left (x ∷ xs) (suc i) e = none_left xs i e

pub no_frame : (p : Program) (fs : List Frame) (down : ℕ) → slice_get fs down ≡ None → None ≡ top_of p (drop down fs)
no_frame p fs down e = ap (top_of p) (sym (none_left fs down e))

pub no_below : (p : Program) (fs : List Frame) (n : ℕ) → length fs ≤ n → None ≡ top_of p (drop n fs)
no_below p fs n l = ap (top_of p) (sym (drop_all n fs l))

opened : (p : Program) (fs : List Frame) (down : ℕ) (f : Frame) (m : Option MethodInfo) → slice_get fs down ≡ Some f → slice_get p.methods f.method ≡ m → top_in f (drop (down + 1) fs) m ≡ top_of p (drop down fs)
opened p fs down f m e is = ap (top_in f (drop (down + 1) fs)) (sym is) ∙ ap (top_of p) (sym (drop_got fs down f e))

pub no_method : (p : Program) (fs : List Frame) (down : ℕ) (f : Frame) → slice_get fs down ≡ Some f → slice_get p.methods f.method ≡ None → None ≡ top_of p (drop down fs)
no_method p fs down f e m = opened p fs down f None e m

by_places : (p : Program) (fs : List Frame) (down : ℕ) (f : Frame) (m : MethodInfo) (i : Option Insn) (t : Option Target) → slice_get fs down ≡ Some f → slice_get p.methods f.method ≡ Some m
    → at_pc m.code m.code f.pc ≡ i → at_pc m.code m.targets f.pc ≡ t → top_at f (drop (down + 1) fs) m i t ≡ top_of p (drop down fs)
by_places p fs down f m i t e is a b = (λ j. top_at f (drop (down + 1) fs) m (sym a j) (sym b j)) ∙ opened p fs down f (Some m) e is

numbered : (p : Program) (f : Frame) (m : MethodInfo) (n : Option ℕ) → slice_get p.methods f.method ≡ Some m → number_in (slice_get p.methods f.method) f.pc ≡ n → number_at m.code f.pc ≡ n
numbered p f m n is e = rw is at e

pub no_number : (p : Program) (fs : List Frame) (down : ℕ) (f : Frame) (m : MethodInfo) → slice_get fs down ≡ Some f → slice_get p.methods f.method ≡ Some m → number_in (slice_get p.methods f.method) f.pc ≡ None → None ≡ top_of p (drop down fs)
no_number p fs down f m e is n =
    let none = numbered p f m None is n in
    by_places p fs down f m None None e is (at_number m.code m.code f.pc None none) (at_number m.code m.targets f.pc None none)

by_items : (p : Program) (fs : List Frame) (down : ℕ) (f : Frame) (m : MethodInfo) (n : ℕ) (i : Option Insn) (t : Option Target) → slice_get fs down ≡ Some f → slice_get p.methods f.method ≡ Some m
    → number_in (slice_get p.methods f.method) f.pc ≡ Some n → slice_get m.code n ≡ i → slice_get m.targets n ≡ t → top_at f (drop (down + 1) fs) m i t ≡ top_of p (drop down fs)
by_items p fs down f m n i t e is at a b =
    let some = numbered p f m (Some n) is at in
    by_places p fs down f m i t e is (at_number m.code m.code f.pc (Some n) some ∙ a) (at_number m.code m.targets f.pc (Some n) some ∙ b)

none_at : (f : Frame) (below : List Frame) (m : MethodInfo) (t : Option Target) → None ≡ top_at f below m None t
none_at f below m None = refl
none_at f below m (Some t) = refl

pub no_insn : (p : Program) (fs : List Frame) (down : ℕ) (f : Frame) (m : MethodInfo) (n : ℕ) → slice_get fs down ≡ Some f → slice_get p.methods f.method ≡ Some m
    → number_in (slice_get p.methods f.method) f.pc ≡ Some n → slice_get m.code n ≡ None → None ≡ top_of p (drop down fs)
no_insn p fs down f m n e is at a = none_at f (drop (down + 1) fs) m (slice_get m.targets n) ∙ by_items p fs down f m n None (slice_get m.targets n) e is at a refl

pub no_target : (p : Program) (fs : List Frame) (down : ℕ) (f : Frame) (m : MethodInfo) (n : ℕ) (insn : Insn) → slice_get fs down ≡ Some f → slice_get p.methods f.method ≡ Some m
    → number_in (slice_get p.methods f.method) f.pc ≡ Some n → slice_get m.code n ≡ Some insn → slice_get m.targets n ≡ None → None ≡ top_of p (drop down fs)
no_target p fs down f m n insn e is at a b = by_items p fs down f m n (Some insn) None e is at a b

pub placed : (p : Program) (fs : List Frame) (down : ℕ) (f : Frame) (m : MethodInfo) (n : ℕ) (insn : Insn) (target : Target) → slice_get fs down ≡ Some f → slice_get p.methods f.method ≡ Some m
    → number_in (slice_get p.methods f.method) f.pc ≡ Some n → slice_get m.code n ≡ Some insn → slice_get m.targets n ≡ Some target
    → Some (record { frame = f; below = drop (down + 1) fs; method = m; insn = insn; target = target }) ≡ top_of p (drop down fs)
placed p fs down f m n insn target e is at a b = by_items p fs down f m n (Some insn) (Some target) e is at a b
