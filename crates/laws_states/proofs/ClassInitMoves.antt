-- An event brings a thread no frame of a `<clinit>`, unless a root of its is one: no instruction calls one (JVMS 2.9).
use Rattle.std.proofs.Common.{◌≡◌, ℕ, zero, suc, ◌+◌, ◌-◌, Bool, true, false, not, ◌&&◌, ◌||◌, List, [], ◌∷◌, drop, length, Option, Some, None, refl, ap, sym, subst, ◌∙◌, arith, ◌==◌, codes, bytes_eq, option_map, slice_get, IfSome}
use Rattle.std.{specs.List.AllByRecursion, proofs.lemmas.Slice.Eq.bytes_eq-Decides}
use Rattle.lists.proofs.{ListLaws.same_some, TestLaws.both_are_true}
use Rattle.jvm_types.specs.{ClassNames.file_class, Members.{MethodSite, is_static, is_synchronized, is_init_name, is_class_init_name}, Numbers.has_number, ProgramInvariant.site_in}
use Rattle.jvm_types.specs.declared.{code.Op.Op, op_row.OpRow.OpRow, outcome.{Counts.Counts, Thrown.{Thrown, TheVariants.StackOverflowError}}, program.{MethodInfo.MethodInfo, Program.Program}}
use Rattle.jvm_types.specs.declared.program.{Row.Row, Target.Target}
use Rattle.laws_programs.specs.TargetLaws.{HasRow}
use Rattle.checked_program.specs.{MarkedProgram.{MarkedProgram, IsMarked}, Marks.called_method}
use Rattle.machine_types.specs.{Bounds.part_roots, Events.moved}
use Rattle.machine_types.specs.Frames.{Top, top_of, frames_of, effect_at, pushed, went_on, has_room, waiting, entry_frame, arguments_of, monitor_of, given_back, given, returned, handler_at}
use Rattle.machine_types.specs.{Going.{goes_on, goes_on_if, goes_after}, HeldMonitors.{with_held, without_held, shallower, held_at}, Instructions.printed}
use Rattle.machine_types.specs.Onward.{Onward, Running, Throwing, Entering, Leaving, RootReturned, Uncaught, threw, done, entered, called, rooted, root_arguments, back, returns, unwound, handed, after}
use Rattle.machine_types.specs.{Parts.{is_entry_named, entries_named}, ReadyObjects.{class_of, thrown_of}, Shown.Show, Standing.Operands, Structure.{IsStructured, operands_in}}
use Rattle.machine_types.specs.{Threads.{Frame, Attempt, Thread}, Words.header_class, declared.effect.Effect.Effect}
use Rattle.machine_types.specs.declared.{effect.Effect.TheVariants.{Raises, Calls, Returns}, lock.Held.Held, phase.After.After}
use Rattle.machine_types.{specs.declared.phase.Phase.Phase, proofs.PlainPartLaws.frames_are}
use Rattle.laws_threads.{specs.EntryFrames.frames_in, proofs.{EffectsOfInsns.{Fits, IsCalling}, Roots.numbered, ShownFrames.{by_top, fits_at, holds_at}}}
use Rattle.laws_threads.proofs.ThreadMove.{GoesBy, Move, becomes, counting, any_move, if_either, if_mapped, tried_attempt}
use Rattle.laws_states.specs.ClassInits.{IsNoClassInit, RunsNoClassInit, IsBehindInit}
use Rattle.jvm_types.specs.declared.code.Op.TheVariants as ops
use Rattle.jvm_types.specs.declared.program.Target.TheVariants as targets
use Rattle.machine_types.specs.declared.phase.After.TheVariants as afters
use Rattle.laws_threads.proofs.ThreadMove as moves

-- ---- a method that is called, or begins a part behind `init`, is none

by_virtual : (a b d : Bool) → not (a || b || d) ≡ true → d ≡ false
by_virtual false false false e = refl
by_virtual a b d e = absurd (cc)

by_special : (a d e : Bool) → (not (a || d) && e) ≡ true → d ≡ false
by_special false false e h = refl
by_special a d e h = absurd (cc)

by_static : (a b d : Bool) → (a && not (b || d)) ≡ true → d ≡ false
by_static true false false e = refl
by_static a b d e = absurd (cc)

named_none : (p : Program) (u number : ℕ) (h m : MethodInfo) → slice_get p.methods u ≡ Some h → Some u ≡ Some number → slice_get p.methods number ≡ Some m
    → is_class_init_name h.name ≡ false → is_class_init_name m.name ≡ false
named_none p u number h m at e there none = subst (λ (m : MethodInfo). is_class_init_name m.name ≡ false) (same_some (sym at ∙ ap (slice_get p.methods) (same_some e) ∙ there)) none

called_none : (p : Program) (site : MethodSite) (pc number : ℕ) (op : Op) (target : Target) (r : OpRow) → called_method op target ≡ Some number → HasRow p site pc target op r → IsNoClassInit p number
called_none p site pc number (ops.Invokevirtual i) (targets.Method u) r e h m there =
    named_none p u number h.method m h.there e there (by_virtual (is_static h.method.flags) (is_init_name h.method.name) (is_class_init_name h.method.name) h.fits)
called_none p site pc number (ops.Invokespecial i) (targets.Method u) r e h m there =
    named_none p u number h.method m h.there e there (by_special (is_static h.method.flags) (is_class_init_name h.method.name) _ h.fits)
called_none p site pc number (ops.Invokestatic i) (targets.Method u) r e h m there =
    named_none p u number h.method m h.there e there (by_static (is_static h.method.flags) (is_init_name h.method.name) (is_class_init_name h.method.name) h.fits)
called_none p site pc number op target r e h m there = absurd (let bad : None ≡ Some number = e in cc)

entry_none : (p : Program) (name descriptor : List ℕ) (number : ℕ) → is_class_init_name name ≡ false → has_number (entries_named p name descriptor) number ≡ true → IsNoClassInit p number
entry_none p name descriptor number other h m e =
    let x = numbered (is_entry_named name descriptor) p.methods 0 number h in
    let there : slice_get p.methods number ≡ Some x.method = ap (slice_get p.methods) (omega (arith, x.number)) ∙ x.there in
    let passes : is_entry_named name descriptor m ≡ true = subst (λ (y : MethodInfo). is_entry_named name descriptor y ≡ true) (same_some (sym there ∙ e)) x.passes in
    let parts = both_are_true ((m.class == file_class 0) && bytes_eq m.name name) (bytes_eq m.descriptor descriptor) passes in
    ap is_class_init_name ((bytes_eq-Decides m.name name).0 (both_are_true (m.class == file_class 0) (bytes_eq m.name name) parts.0).1) ∙ other

pub root_none : (p : Program) (thread part number : ℕ) → IsBehindInit thread part → has_number (part_roots p thread part) number ≡ true → IsNoClassInit p number
root_none p zero (suc (suc part)) number behind h = entry_none p (codes "done") (codes "()V") number refl h
root_none p (suc thread) part number behind h = entry_none p (codes "run") (codes "(I)V") number refl h
root_none p thread part number behind h = absurd behind

-- ---- how frames go on

module _ (p : Program) where
  abbrev AreNone : List Frame → Type 0
  AreNone fs = AllByRecursion (λ f. IsNoClassInit p f.method) fs

  abbrev EntryIsNone : Option Attempt → Type 0
  EntryIsNone o = IfSome o (λ a. IsNoClassInit p a.entry.method)

  abbrev OnNone : Onward → Type 0
  OnNone o = AreNone (frames_in o)

  abbrev GoNone : Option Onward → Type 0
  GoNone o = IfSome o (λ o. AreNone (frames_in o))

  dropped : (n : ℕ) (fs : List Frame) → AreNone fs → AreNone (drop n fs)
  dropped zero fs k = k
  dropped (suc n) [] k = tt
  dropped (suc n) (f ∷ fs) k = dropped n fs k.1

  pushed_none : (v : ℕ) (fs : List Frame) → AreNone fs → AreNone (pushed v fs)
  pushed_none v [] k = tt
  pushed_none v (f ∷ fs) k = k

  top_none : (fs : List Frame) (at : Top) → top_of p fs ≡ Some at → AreNone fs → AreNone (frames_of at)
  top_none fs at e k = subst AreNone (sym (frames_are p fs at e)) k

  back_none : (fs : List Frame) → AreNone fs → AreNone (frames_in (back fs))
  back_none [] k = tt
  back_none (f ∷ fs) k = k

  given_none : (result : List ℕ) (o : Option Top) → IfSome o (λ at. AreNone (frames_of at)) → AreNone (given result o)
  given_none result None k = tt
  given_none result (Some at) k = k

  returned_none : (at : Top) → AreNone (frames_of at) → AreNone (returned p at)
  returned_none at k = given_none (given_back at.insn.op at.frame.stack) (top_of p at.below) (below (top_of p at.below) refl)
    where
      below : (o : Option Top) → top_of p at.below ≡ o → IfSome o (λ at. AreNone (frames_of at))
      below None e = tt
      below (Some next) e = top_none at.below next e k.1

  returns_none : (at : Top) → AreNone (frames_of at) → AreNone (frames_in (returns p at))
  returns_none at k = if_either OnNone (is_synchronized at.method.flags) (Leaving (monitor_of p at.method at.frame) afters.Return (frames_of at)) (back (returned p at)) k (back_none (returned p at) (returned_none at k))

  unwound_none : (x : ℕ) (class : Thrown) (fs : List Frame) → AreNone fs → AreNone (frames_in (unwound x class fs))
  unwound_none x class [] k = tt
  unwound_none x class (f ∷ fs) k = k

  handed_none : (x : ℕ) (class : Thrown) (at : Top) (row : Option Row) → AreNone (frames_of at) → AreNone (frames_in (handed p x class at row))
  handed_none x class at (Some r) k = k
  handed_none x class at None k =
      if_either OnNone (is_synchronized at.method.flags) (Leaving (monitor_of p at.method at.frame) (afters.Unwind x class) (frames_of at)) (unwound x class at.below) k (unwound_none x class at.below k.1)

  enters_none : (at : Top) (number : ℕ) (m : MethodInfo) → IsNoClassInit p number → AreNone (frames_of at) → AreNone (frames_in (called p at number m))
  enters_none at number m none k =
      if_either OnNone (has_room p (frames_of at) m) (entered p m (entry_frame number m (arguments_of p at)) (waiting p at)) (threw StackOverflowError at)
      (if_either OnNone (is_synchronized m.flags) (Entering (monitor_of p m (entry_frame number m (arguments_of p at))) (entry_frame number m (arguments_of p at) ∷ waiting p at)) (Running (entry_frame number m (arguments_of p at) ∷ waiting p at)) (none, k) (none, k))
      k

  after_none : (fs : List Frame) (a : After) → AreNone fs → GoNone (after p fs a)
  after_none fs afters.Next k = k
  after_none fs afters.Return k = (elim (top_of p fs) as (λ (o : Option Top). top_of p fs ≡ o → GoNone (option_map (λ at. back (returned p at)) o))
      [ None ↦ λ e. tt | Some at ↦ λ e. back_none (returned p at) (returned_none at (top_none fs at e k)) ]) refl
  after_none fs (afters.Unwind x class) k = unwound_none x class (drop 1 fs) (dropped 1 fs k)

  -- the method that an effect calls
  abbrev CallsNone : Effect → Type 0
  CallsNone (Calls number) = IsNoClassInit p number
  CallsNone e = Unit {0}

  done_none : (at : Top) (e : Effect) (got : ℕ) → CallsNone e → AreNone (frames_of at) → GoNone (done p at e got)
  done_none at (Raises x) got none k = if_mapped OnNone (thrown_of (header_class got)) (λ class. Throwing x class (frames_of at)) (λ class. k)
  done_none at (Calls number) got none k = if_mapped OnNone (slice_get p.methods number) (called p at number) (λ m. enters_none at number m none k)
  done_none at Returns got none k = returns_none at k
  done_none at e got none k = assumption

  -- ---- a thread goes on

  goes_none : (s : Thread) (o : Onward) → EntryIsNone s.attempt → AreNone (frames_in o) → RunsNoClassInit p (goes_on s o)
  goes_none s RootReturned entry k = record { frames = tt; entry = entry }
  goes_none s (Uncaught class) entry k = record { frames = tt; entry = entry }
  goes_none s o entry k = record { frames = k; entry = entry }

  goes_if_none : (s : Thread) (o : Option Onward) → RunsNoClassInit p s → GoNone o → RunsNoClassInit p (goes_on_if s o)
  goes_if_none s None h k = h
  goes_if_none s (Some o) h k = goes_none s o h.entry k

-- ---- all moves

module _ (c : MarkedProgram) (s : Thread) (got : ℕ) (h : RunsNoClassInit c.program s) (calls : (at : Top) (number : ℕ) → top_of c.program s.frames ≡ Some at → effect_at c.program at ≡ Calls number → IsNoClassInit c.program number)
    (roots : (number : ℕ) (rest : List ℕ) → s.roots ≡ number ∷ rest → IsNoClassInit c.program number) where
  at_top : (at : Top) → top_of c.program s.frames ≡ Some at → AllByRecursion (λ f. IsNoClassInit c.program f.method) (frames_of at)
  at_top at e = top_none c.program s.frames at e h.frames

  effect_none : (at : Top) (e : Effect) → top_of c.program s.frames ≡ Some at → effect_at c.program at ≡ e → CallsNone c.program e
  effect_none at (Calls number) top is = calls at number top is
  effect_none at e top is = tt

  goes_by_none : (was : Phase) (o : Onward) → GoesBy c.program s got was o → AllByRecursion (λ f. IsNoClassInit c.program f.method) (frames_in o)
  goes_by_none _ o (moves.by_effect at e _ top is silent d) = subst (λ (w : Option Onward). GoNone c.program w) d (done_none c.program at e got (effect_none at e top is) (at_top at top))
  goes_by_none _ _ (moves.by_machine at class top y) = at_top at top
  goes_by_none _ _ (moves.by_nobody at m count k top y there l) = at_top at top
  goes_by_none _ _ (moves.by_element word stored at top) = at_top at top
  goes_by_none _ _ (moves.by_object a word) = pushed_none c.program a s.frames h.frames
  goes_by_none _ _ (moves.by_handler x class at top) = handed_none c.program x class at (handler_at (class_of class) at) (at_top at top)
  goes_by_none _ _ k = h.frames

  tried_none : (t : Attempt) → s.attempt ≡ Some t → IsNoClassInit c.program t.entry.method
  tried_none t e = subst (EntryIsNone c.program) e h.entry

  left_none : (held : List Held) (attempt : Option Attempt) (counts : Counts) (a : After) → EntryIsNone c.program attempt → RunsNoClassInit c.program (goes_after c.program (record s { held = held; attempt = attempt; counts = counts }) a)
  left_none held attempt counts a entry = goes_if_none c.program (record s { held = held; attempt = attempt; counts = counts }) (after c.program s.frames a) (record { frames = h.frames; entry = entry }) (after_none c.program s.frames a h.frames)

  starts_none : (number : ℕ) (rest : List ℕ) → s.roots ≡ number ∷ rest → (o : Option MethodInfo) → GoNone c.program (option_map (rooted c.program s.number number) o)
  starts_none number rest e None = tt
  starts_none number rest e (Some m) = if_either (OnNone c.program) (has_room c.program [] m) (Running (entry_frame number m (root_arguments s.number m) ∷ [])) (Uncaught StackOverflowError) (roots number rest e, tt) tt

  move_none : (was : Phase) (k : Move c s got was) → RunsNoClassInit c.program (becomes c s got was k)
  move_none was (moves.stays k) = h
  move_none was (moves.goes o k) = goes_none c.program s o h.entry (goes_by_none was o k)
  move_none was (moves.fails_in t e d k) = record { frames = (tried_none t e, dropped c.program (length s.frames - t.base) s.frames h.frames); entry = tt }
  move_none _ (moves.makes at word size e l t) = record { frames = at_top at e; entry = h.entry }
  move_none _ (moves.prints at n e l t) = goes_none c.program (printed s got n) (Running (went_on c.program at 0)) h.entry (at_top at e)
  move_none _ (moves.asks_to_wait at m e now top is l k) = record { frames = at_top at top; entry = h.entry }
  move_none _ (moves.asks at m e now top y l k) = record { frames = at_top at top; entry = h.entry }
  move_none _ (moves.enters_inside m tried t k) = record { frames = h.frames; entry = tried_none t (tried_attempt m (held_at s.held m) s.attempt t k) }
  move_none _ (moves.begins_to_try m tried noted f below e y l t free) = record { frames = h.frames; entry = (subst (AreNone c.program) e h.frames).0 }
  move_none was (moves.gives_up m a k) = left_none (without_held m s.held) s.attempt s.counts a h.entry
  move_none _ (moves.leaves_outer m a e l t) = left_none (with_held (shallower e) s.held) s.attempt s.counts a h.entry
  move_none _ (moves.leaves_inside m a t inner k e) = left_none s.held (Some (record t { inner = inner })) s.counts a (tried_none t (tried_attempt m (held_at s.held m) s.attempt t k))
  move_none _ (moves.finishes_try m a t k e y) = left_none s.held None (record s.counts { elided = s.counts.elided + 1 }) a tt
  move_none _ (moves.starts number rest e) =
      goes_if_none c.program (record s { roots = rest }) (option_map (rooted c.program s.number number) (slice_get c.program.methods number)) (record { frames = h.frames; entry = h.entry }) (starts_none number rest e (slice_get c.program.methods number))
  move_none _ k = record { frames = h.frames; entry = h.entry }

-- ---- an event

module _ (c : MarkedProgram) (marked : IsMarked c) where
  calls_none : (operands : Operands) (fs : List Frame) (shown : List ℕ) → Show c operands fs shown → (at : Top) (number : ℕ) → top_of c.program fs ≡ Some at → effect_at c.program at ≡ Calls number → IsNoClassInit c.program number
  calls_none operands fs shown show at number top is =
      by_top c marked operands (λ fs shown (at : Top). effect_at c.program at ≡ Calls number → IsNoClassInit c.program number)
      (λ f below own rest top b is.
      (let k = top.stands in
      let calling : IsCalling c.program k.insn k.target f.stack number = subst (Fits c.program k.method k.insn k.target f.stack) is (fits_at c marked f below k) in
      called_none c.program (site_in k.method) k.insn.pc number k.insn.op k.target _ calling.names (holds_at c marked f k).has_row))
      fs shown at top show is

  pub moved_none : (was : Phase) (x : Thread) (got : ℕ) → IsStructured c was x → RunsNoClassInit c.program x → ((number : ℕ) (rest : List ℕ) → x.roots ≡ number ∷ rest → IsNoClassInit c.program number) → RunsNoClassInit c.program (moved c x x.phase got)
  moved_none was x got stood h roots =
      any_move (RunsNoClassInit c.program) c x x.phase got
      (λ n k. move_none c (counting n x) got (record { frames = h.frames; entry = h.entry }) (calls_none (operands_in was) x.frames stood.stands.shown stood.stands.show) roots x.phase k)
