-- What holds at each instruction of a checked program.
use Rattle.std.proofs.Common.{◌≡◌, ℕ, zero, suc, Bool, true, false, cond, not, ◌&&◌, ◌||◌, List, [], ◌∷◌, ◌++◌, take, Option, Some, None, refl, sym, ap, ◌∙◌, subst, append-nil, slice_get}
use Rattle.std.{specs.List.{find, filter}, proofs.lemmas.Option.same_Some}
use Rattle.jvm_types.specs.{ClassTree.is_subclass, CodeTable.{arguments, is_init, row, virtual_row, special_row, static_row}, Members.{MethodSite, is_static, is_init_name, is_class_init_name}}
use Rattle.jvm_types.specs.{ProgramInvariant.{IsTargetOf, site_in}, Types.TypeFrame, Verifying.{IsLaidOut, IsTypingOf, covers}, declared.{code.{Insn.Insn, Op.Op}, op_row.{OpRow.OpRow, Want.Want}}}
use Rattle.jvm_types.specs.declared.{op_row.Want.TheVariants.{AnObject, ToStart}, program.{MethodInfo.MethodInfo, Program.Program, Row.Row, Target.Target}, typing.Typing.Typing}
use Rattle.laws_programs.{specs.{EdgeLaws.FrameStandsAt, TargetLaws.HasRow}, proofs.{CodeOrder.{laid_out, have_targets}, EdgeTargets.found, EntryFrame.arguments_fit_all, FrameLast.frame_law}}
use Rattle.laws_programs.proofs.{LocalGoing.local_law, NewVisits.new_behind, RuleUses.{hold, arguments_suit_all, receiver_good}, TargetRows.rows_stand}
use Rattle.checked_program.specs.CheckedLaws.{AreFramesOf, CheckedIsSound, CalledFit, IsPlace, FramesHavePlaces, HoldsAtInstruction, CheckedPlacesHold, receiver_want, CallsSuit, CatchersAreAmong}
use Rattle.checked_program.specs.{CheckedProgram.{CheckedProgram, IsChecked, AreTypings}, Marks.called_method, Tagging.{catches_all, until_all}}
use Rattle.jvm_types.specs.declared.code.Op.TheVariants as ops
use Rattle.jvm_types.specs.declared.program.Target.TheVariants as targets

-- ---- typings at their numbers

typing_at : (p : Program) (ms : List MethodInfo) (ts : List Typing) (i : ℕ) (m : MethodInfo) → AreTypings p ms ts → slice_get ms i ≡ Some m → (t : Typing) × (slice_get ts i ≡ Some t) × IsTypingOf p m t
typing_at p (n ∷ ms) (t ∷ ts) zero m all e = let same : n ≡ m = cc in (t, refl, subst (λ (x : MethodInfo). IsTypingOf p x t) same all.0)
typing_at p (n ∷ ms) (t ∷ ts) (suc i) m all e = typing_at p ms ts i m all.1 e
typing_at p ms ts i m all e = absurd (first_of (assumption, cc))

pub checked_sound : CheckedIsSound
checked_sound c number m is e =
    let there = typing_at c.program c.program.methods c.typings number m is.typings e in
    let laid : IsLaidOut m = laid_out c.program (take number c.program.methods) m (is.program.methods number m e) in
    (there.0, there.1, record { laid = laid; typed = there.2; sound = local_law c.program m there.0.frames laid there.2 })

pub called_fit_all : CalledFit
called_fit_all c number m is e =
    let s = checked_sound c number m is e in
    arguments_fit_all c.program m s.0.frames s.2.laid s.2.typed

-- ---- places

frames_of_typing : (c : CheckedProgram) (number : ℕ) (m : MethodInfo) (typing : Typing) → IsChecked c → slice_get c.program.methods number ≡ Some m → slice_get c.typings number ≡ Some typing → AreFramesOf c.program m typing
frames_of_typing c number m typing is e t =
    let s = checked_sound c number m is e in
    subst (λ (x : Typing). AreFramesOf c.program m x) (same_Some _ _ (sym s.1 ∙ t)) s.2

pub have_places : FramesHavePlaces
have_places c method pc m typing f is e t d =
    let at : FrameStandsAt m typing.frames pc f = found m typing.frames pc f d in
    let target = have_targets c.program method at.number m at.insn is.program e at.there in (
      at.number,
      at.insn,
      target.0,
      at.starts,
      record { method = method; typing = typing; in_program = e; its_typing = t; its_frames = refl; in_code = at.there; its_target = target.1; has = at.has },
    )

held_at : (c : CheckedProgram) (m : MethodInfo) (frames : List (Option TypeFrame)) (i : ℕ) (insn : Insn) (target : Target) (f : TypeFrame) → IsChecked c → (at : IsPlace c m frames i insn target f) → HoldsAtInstruction c.program m at.typing.frames insn target f
held_at c m frames i insn target f is at =
    let of = frames_of_typing c at.method m at.typing is at.in_program at.its_typing in
    let has : slice_get at.typing.frames i ≡ Some (Some f) = subst (λ (fs : List (Option TypeFrame)). slice_get fs i ≡ Some (Some f)) at.its_frames at.has in
    let there = have_targets c.program at.method i m insn is.program at.in_program at.in_code in
    let names = subst (λ (t : Target). IsTargetOf c.program (site_in m) insn.op t) (same_Some _ _ (sym there.1 ∙ at.its_target)) there.2 in
    let sound = of.sound.sound i insn target f at.in_code at.its_target has in
    let bounds = frame_law c.program m at.typing.frames of.laid of.typed i f has in
    record {
      names = names;
      has_row = rows_stand c.program m insn.pc target insn.op names;
      rules = hold m insn (row c.program m insn.pc target insn.op) f sound.before;
      sound = sound;
      locals = bounds.0;
      stack = bounds.1;
      ready = bounds.2;
      behind = new_behind c.program m at.typing.frames i insn f of.laid of.typed at.in_code has;
    }

pub places_hold_all : CheckedPlacesHold
places_hold_all c m frames i insn target f is at = subst (λ (fs : List (Option TypeFrame)). HoldsAtInstruction c.program m fs insn target f) (sym at.its_frames) (held_at c m frames i insn target f is at)

-- ---- calls

-- what a call takes: the arguments, and below them a receiver where the method has one
record Takes (called : MethodInfo) (r : OpRow) : Type 0 where
  receiver : List Want
  is : r.takes ≡ arguments called ++ receiver
  one : is_static called.flags ≡ false → receiver ≡ receiver_want (is_init called) called.class ∷ []

pub no_init : (a b c : Bool) → not (a || b || c) ≡ true → b ≡ false
no_init false false c e = refl
no_init a b c e = absurd (cc)

virtual_takes : (called : MethodInfo) → is_init called ≡ false → Takes called (virtual_row (Some called))
virtual_takes called e = record { receiver = AnObject called.class ∷ []; is = refl; one = λ h. ap (λ b. receiver_want b called.class ∷ []) (sym e) }

special_takes : (called : MethodInfo) → Takes called (special_row (Some called))
special_takes called = by_init (is_init called) refl
  where
    by_init : (b : Bool) → is_init called ≡ b → Takes called (special_row (Some called))
    by_init true e = record { receiver = ToStart called.class ∷ []; is = rw e refl; one = λ h. ap (λ b. receiver_want b called.class ∷ []) (sym e) }
    by_init false e = record { receiver = AnObject called.class ∷ []; is = rw e refl; one = λ h. ap (λ b. receiver_want b called.class ∷ []) (sym e) }

static_takes : (called : MethodInfo) → is_static called.flags ≡ true → Takes called (static_row (Some called))
static_takes called e = record { receiver = []; is = sym (append-nil (arguments called)); one = λ h. absurd (let bad : true ≡ false = sym e ∙ h in cc) }

-- the method that is named is the one with the number
same_method : (p : Program) (u number : ℕ) (a b : MethodInfo) → Some u ≡ Some number → slice_get p.methods u ≡ Some a → slice_get p.methods number ≡ Some b → a ≡ b
same_method p u number a b e f g = same_Some _ _ (sym f ∙ ap (slice_get p.methods) (same_Some u number e) ∙ g)

row_takes : (p : Program) (site : MethodSite) (pc : ℕ) (op : Op) (target : Target) (r : OpRow) (number : ℕ) (called : MethodInfo) → called_method op target ≡ Some number → slice_get p.methods number ≡ Some called
    → HasRow p site pc target op r → Takes called r
row_takes p site pc (ops.Invokevirtual i) (targets.Method u) r number called e d h =
    let same = same_method p u number h.method called e h.there d in
    subst (λ (x : OpRow). Takes called x) (sym h.its)
    (subst (λ (x : MethodInfo). Takes x (virtual_row (Some h.method))) same (virtual_takes h.method (no_init (is_static h.method.flags) (is_init_name h.method.name) (is_class_init_name h.method.name) h.fits)))
row_takes p site pc (ops.Invokespecial i) (targets.Method u) r number called e d h =
    let same = same_method p u number h.method called e h.there d in
    subst (λ (x : OpRow). Takes called x) (sym h.its) (subst (λ (x : MethodInfo). Takes x (special_row (Some h.method))) same (special_takes h.method))
row_takes p site pc (ops.Invokestatic i) (targets.Method u) r number called e d h =
    let same = same_method p u number h.method called e h.there d in
    subst (λ (x : OpRow). Takes called x) (sym h.its) (subst (λ (x : MethodInfo). Takes x (static_row (Some h.method))) same (static_takes h.method h.sort))
row_takes p site pc op target r number called e d h = absurd (let none : None ≡ Some number = e in cc)

pub calls_suit_all : CallsSuit
calls_suit_all c m called frames i number insn target f is at e d =
    let h = held_at c m frames i insn target f is at in
    let r : OpRow = row c.program m insn.pc target insn.op in
    let takes = row_takes c.program (site_in m) insn.pc insn.op target r number called e d h.has_row in
    record {
      arguments = arguments_suit_all m called insn r f takes.receiver h.rules takes.is;
      receiver = λ s. receiver_good m called insn r f (receiver_want (is_init called) called.class) h.rules (takes.is ∙ ap (λ (ws : List Want). arguments called ++ ws) (takes.one s));
    }

-- ---- exceptions

among : (pc class : ℕ) (rows : List Row) (handler : Row) → find (λ r. covers pc r && (catches_all r || is_subclass class r.catch_class)) rows ≡ Some handler → (k : ℕ) × (slice_get (until_all (filter (covers pc) rows)) k ≡ Some handler)
among pc class [] handler e = absurd (cc)
among pc class (r ∷ rows) handler e = by_cover (covers pc r) e (among pc class rows handler)
  where
    rest : Option Row
    rest = find (λ r. covers pc r && (catches_all r || is_subclass class r.catch_class)) rows

    later : List Row
    later = filter (covers pc) rows

    by_catch : (b c : Bool) → cond (b || c) (Some r) rest ≡ Some handler → (rest ≡ Some handler → (k : ℕ) × (slice_get (until_all later) k ≡ Some handler))
        → (k : ℕ) × (slice_get (cond b (r ∷ []) (r ∷ until_all later)) k ≡ Some handler)
    by_catch false false e more = let m = more e in (suc m.0, m.1)
    by_catch b c e more = (0, e)

    by_cover : (a : Bool) → cond (a && (catches_all r || is_subclass class r.catch_class)) (Some r) rest ≡ Some handler → (rest ≡ Some handler → (k : ℕ) × (slice_get (until_all later) k ≡ Some handler))
        → (k : ℕ) × (slice_get (until_all (cond a (r ∷ later) later)) k ≡ Some handler)
    by_cover true e more = by_catch (catches_all r) (is_subclass class r.catch_class) e more
    by_cover false e more = more e

pub catchers_among : CatchersAreAmong
catchers_among m pc class handler e = among pc class m.rows handler e
