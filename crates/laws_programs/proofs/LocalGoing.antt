-- What holds in the course of the visits of a method: each instruction that has a frame and does not wait is sound.
use Rattle.std.proofs.Common.{◌≡◌, ℕ, zero, suc, ◌<◌, Bool, true, false, List, [], ◌∷◌, map, length, Option, Some, None, Ok, ◌⊎◌, ⊎_elim, inl, inr, refl, sym, ap, ◌∙◌, subst, length-set, arith, ◌==◌, slice_get, slice_set}
use Rattle.std.{specs.List.{filter, AllByRecursion, AllZip}, proofs.lemmas.{Bool.{cond_both, Decides.nat_tests}, List.length-map}}
use Rattle.jvm_types.specs.{CodeGrammar.{is_start, IsStart, SpellsInsns, RowFits}, CodeTable.{row, branches_to}, Types.{TypeFrame, entry_type_frame}}
use Rattle.jvm_types.specs.Verifying.{Node, node_at, covers, first_nodes, visited, waiting_from, next_visit, Visits, FrameFits, IsFrameBelow, IsSound, IsAssignment, IsLaidOut, LocalLaw}
use Rattle.jvm_types.specs.declared.{class_file.Handler.Handler, code.Insn.Insn, program.{MethodInfo.MethodInfo, Program.Program, Row.Row, Target.Target}}
use Rattle.laws_programs.proofs.{FrameBounds.entry_bounded, LocalBrought.AreBounded, LocalEdges.{Carries, unclashed}, LocalRisen.{frame_self, risen_at, risen_length, frames_of, fits_risen}}
use Rattle.laws_programs.proofs.{LocalVisit.{Leads, sound_risen, cleared_frames, visit_carries, visit_sound}, VisitsEnd.cleared}

-- ---- a method that is laid out

pub at_index : {A : Type 0} (P : A → Type 0) (xs : List A) (i : ℕ) (x : A) → AllByRecursion P xs → slice_get xs i ≡ Some x → P x
at_index P [] i x h e = absurd (cc)
at_index {A = A} P (y ∷ xs) zero x h e = let same : y ≡ x = cc in subst P same h.0
at_index P (y ∷ xs) (suc i) x h e = at_index P xs i x h.1 e

kept_of : {A : Type 0} (P : A → Type 0) (test : A → Bool) (xs : List A) → AllByRecursion P xs → AllByRecursion P (filter test xs)
kept_of P test [] h = tt
kept_of P test (x ∷ xs) h = cond_both (test x) (x ∷ filter test xs) (filter test xs) (AllByRecursion P) (λ e. (h.0, kept_of P test xs h.1)) (λ e. kept_of P test xs h.1)

handlers_start : (code : List Insn) (size : ℕ) (rows : List Row) (handlers : List Handler) → AllZip (λ r (h : Handler). (r.start ≡ h.start) × (r.end ≡ h.end) × (r.handler ≡ h.handler)) rows handlers
    → AllByRecursion (RowFits code size) handlers → AllByRecursion (λ r. is_start code r.handler ≡ true) rows
handlers_start code size [] handlers z h = tt
handlers_start code size (r ∷ rows) [] z h = absurd z
handlers_start code size (r ∷ rows) (k ∷ handlers) z h = (subst (λ (pc : ℕ). is_start code pc ≡ true) (sym z.0.2) h.0.handler, handlers_start code size rows handlers z.1 h.1)

leads : (m : MethodInfo) → IsLaidOut m → (i : ℕ) (insn : Insn) → slice_get m.code i ≡ Some insn → Leads m insn
leads m laid i insn e = record {
  branches = at_index (λ (x : Insn). AllByRecursion (IsStart m.code) (branches_to x.op)) m.code i insn laid.code.targets e;
  handlers = kept_of (λ (r : Row). is_start m.code r.handler ≡ true) (covers insn.pc) m.rows (handlers_start m.code (length laid.bytes) m.rows laid.handlers laid.rows laid.code.rows_fit);
}

-- it has a first instruction, at pc 0
pub begins : (m : MethodInfo) → IsLaidOut m → (insn : Insn) × (code : List Insn) × (m.code ≡ insn ∷ code) × (insn.pc ≡ 0)
begins m laid = first m.code laid.code.spelled
  where
    first : (code : List Insn) → SpellsInsns 0 code laid.bytes → (insn : Insn) × (rest : List Insn) × (code ≡ insn ∷ rest) × (insn.pc ≡ 0)
    first [] s = let some : 0 < length laid.bytes = laid.code.some in absurd (omega (arith, some, ap length s))
    first (insn ∷ rest) s = (insn, rest, refl, s.3)

-- ---- the start

pub record IsGoing (p : Program) (m : MethodInfo) (nodes : List Node) : Type 0 where
  pub long : length nodes ≡ length m.code
  pub bounded : AreBounded m nodes
  pub entry : FrameFits m.code (frames_of nodes) (entry_type_frame m) 0
  pub sound : (i : ℕ) (node : Node) (insn : Insn) (target : Target) (f : TypeFrame) → slice_get nodes i ≡ Some node → node.waits ≡ false → slice_get m.code i ≡ Some insn → slice_get m.targets i ≡ Some target
      → node.frame ≡ Some f → IsSound m insn (row p m insn.pc target insn.op) (frames_of nodes) f

pub first_long : (m : MethodInfo) (code : List Insn) → length (first_nodes m code) ≡ length code
first_long m [] = refl
first_long m (insn ∷ code) = ap suc (length-map code _)

none_bounded : (m : MethodInfo) (code : List Insn) → AreBounded m (map (λ other. record { frame = None; waits = false }) code)
none_bounded m [] = tt
none_bounded m (insn ∷ code) = (tt, none_bounded m code)

first_bounded : (m : MethodInfo) (code : List Insn) → AreBounded m (first_nodes m code)
first_bounded m [] = tt
first_bounded m (insn ∷ code) = (entry_bounded m, none_bounded m code)

first_entry : (m : MethodInfo) (insn : Insn) (code : List Insn) → insn.pc ≡ 0 → FrameFits (insn ∷ code) (frames_of (first_nodes m (insn ∷ code))) (entry_type_frame m) 0
first_entry m insn code e =
    cond_both (insn.pc == 0) (Some (entry_type_frame m)) _ (IsFrameBelow (Some (entry_type_frame m))) (λ t. frame_self (Some (entry_type_frame m))) (λ t. absurd (grind (arith, nat_tests, e, t)))

some_same : {a b : Node} → Some a ≡ Some b → a ≡ b
some_same e = cc

none_there : (code : List Insn) (i : ℕ) (node : Node) → slice_get (map (λ other. record { frame = None; waits = false }) code) i ≡ Some node → node.frame ≡ None
none_there [] i node e = absurd (cc)
none_there (insn ∷ code) zero node e = sym (ap (λ (n : Node). n.frame) (some_same e))
none_there (insn ∷ code) (suc i) node e = none_there code i node e

first_waits : (m : MethodInfo) (code : List Insn) (i : ℕ) (node : Node) → slice_get (first_nodes m code) i ≡ Some node → node.waits ≡ false → node.frame ≡ None
first_waits m [] i node e w = absurd (cc)
first_waits m (insn ∷ code) zero node e w = let waits : true ≡ false = ap (λ (n : Node). n.waits) (some_same e) ∙ w in absurd (cc)
first_waits m (insn ∷ code) (suc i) node e w = none_there code i node e

pub first_going : (p : Program) (m : MethodInfo) → IsLaidOut m → IsGoing p m (first_nodes m m.code)
first_going p m laid = record {
  long = first_long m m.code;
  bounded = first_bounded m m.code;
  entry = let b = begins m laid in subst (λ (code : List Insn). FrameFits code (frames_of (first_nodes m code)) (entry_type_frame m) 0) (sym b.2) (first_entry m b.0 b.1 b.3);
  sound = λ i node insn target f e w c t g. let none : Some f ≡ None = sym g ∙ first_waits m m.code i node e w in absurd (cc);
}

-- ---- one visit

pub got_set : {A : Type 0} (xs : List A) (i j : ℕ) (x y : A) → slice_get (slice_set xs i x) j ≡ Some y → ((j ≡ i) × (x ≡ y)) ⊎ (slice_get xs j ≡ Some y)
got_set (a ∷ xs) zero zero x y e = inl (refl, cc)
got_set (a ∷ xs) (suc i) (suc j) x y e = ⊎_elim (λ h. inl (ap suc h.0, h.1)) (λ h. inr h) (got_set xs i j x y e)
got_set xs i j x y e = inr e

visit_goes : (p : Program) (m : MethodInfo) (nodes mid : List Node) (i : ℕ) → IsLaidOut m → IsGoing p m nodes → visited p m i nodes ≡ Ok mid → IsGoing p m mid
visit_goes p m nodes mid i laid going made = record {
  long = sym (risen_length (cleared nodes i) mid carries.risen) ∙ length-set _ _ _ ∙ going.long;
  bounded = carries.bounded;
  entry = fits_risen m.code (cleared nodes i) mid (entry_type_frame m) 0 carries.risen (as_cleared (λ fs. FrameFits m.code fs (entry_type_frame m) 0) going.entry);
  sound = λ j b insn target f e w c t g.
      let a = risen_at (cleared nodes i) mid j b carries.risen e in
      from_either j a.0 insn target f (got_set nodes i j (record (node_at nodes i) { waits = false }) a.0 a.1) (a.2.kept w).0 c t ((a.2.kept w).1 ∙ g);
}
  where
    carries : Carries m (cleared nodes i) mid
    carries = visit_carries p m nodes mid i (leads m laid i) going.bounded going.long made

    as_cleared : (P : List (Option TypeFrame) → Type 0) → P (frames_of nodes) → P (frames_of (cleared nodes i))
    as_cleared P h = subst P (sym (cleared_frames nodes i)) h

    from_either : (j : ℕ) (a : Node) (insn : Insn) (target : Target) (f : TypeFrame) → ((j ≡ i) × (record (node_at nodes i) { waits = false } ≡ a)) ⊎ (slice_get nodes j ≡ Some a) → a.waits ≡ false
        → slice_get m.code j ≡ Some insn → slice_get m.targets j ≡ Some target → a.frame ≡ Some f → IsSound m insn (row p m insn.pc target insn.op) (frames_of mid) f
    from_either j a insn target f (inl h) w c t g =
        visit_sound p m nodes mid i (leads m laid i) going.bounded going.long made insn target f
        (subst (λ (k : ℕ). slice_get m.code k ≡ Some insn) h.0 c) (subst (λ (k : ℕ). slice_get m.targets k ≡ Some target) h.0 t) (ap (λ (n : Node). n.frame) h.1 ∙ g)
    from_either j a insn target f (inr h) w c t g =
        sound_risen m insn (row p m insn.pc target insn.op) f (cleared nodes i) mid carries.risen
        (as_cleared (λ fs. IsSound m insn (row p m insn.pc target insn.op) fs f) (going.sound j a insn target f h w c t g))

-- ---- all visits

pub all_go : (p : Program) (m : MethodInfo) → IsLaidOut m → (is : List ℕ) (nodes last : List Node) → IsGoing p m nodes → Visits p m nodes is last → IsGoing p m last × (next_visit last ≡ None)
all_go p m laid [] nodes last going v = subst (λ (ns : List Node). IsGoing p m ns × (next_visit ns ≡ None)) (sym v.1) (going, v.0)
all_go p m laid (i ∷ is) nodes last going v = all_go p m laid is v.1 last (visit_goes p m nodes v.1 i laid going v.2) v.3

rests : (k : ℕ) (nodes : List Node) (i : ℕ) (node : Node) → waiting_from k nodes ≡ None → slice_get nodes i ≡ Some node → node.waits ≡ false
rests k [] i node h e = absurd (cc)
rests k (a ∷ nodes) zero node h e = ap (λ (n : Node). n.waits) (sym (some_same e)) ∙ (unclashed a.waits k (waiting_from (suc k) nodes) h).0
rests k (a ∷ nodes) (suc i) node h e = rests (suc k) nodes i node (unclashed a.waits k (waiting_from (suc k) nodes) h).1 e

frame_from : (nodes : List Node) (i : ℕ) (frame : Option TypeFrame) → slice_get (frames_of nodes) i ≡ Some frame → (node : Node) × (slice_get nodes i ≡ Some node) × (node.frame ≡ frame)
frame_from [] i frame e = absurd (cc)
frame_from (a ∷ nodes) zero frame e = (a, refl, cc)
frame_from (a ∷ nodes) (suc i) frame e = frame_from nodes i frame e

pub local_law : LocalLaw
local_law p m frames laid typed =
    let ends = all_go p m laid typed.visits (first_nodes m m.code) typed.last (first_going p m laid) typed.made in
    subst (λ (fs : List (Option TypeFrame)). IsAssignment p m fs) (sym typed.are) (record {
      long = length-map typed.last _ ∙ ends.0.long;
      entry = ends.0.entry;
      sound = λ i insn target f c t e. let n = frame_from typed.last i (Some f) e in ends.0.sound i n.0 insn target f n.1 (rests 0 typed.last i n.0 ends.1 n.1) c t n.2;
    })
