-- Exceptions: to a handler, or out of a frame.
use Rattle.std.proofs.lemmas.Bool.Decides.{nat_tests}
use Rattle.std.{proofs.Common.{◌≡◌, ℕ, arith, Bool, true, false, cond, not, ◌&&◌, ◌||◌, List, [], ◌∷◌, ◌++◌, Some, None, refl, sym, ap, ◌∙◌, subst}, specs.List.{AllByRecursion, list_any, filter}}
use Rattle.jvm_types.specs.{CodeTable.can_throw, Verifying.{is_return, covers, covering}, declared.{code.Insn.Insn, program.{MethodInfo.MethodInfo, Program.Program, Row.Row, Target.Target}}}
use Rattle.laws_programs.proofs.LocalGoing.{at_index}
use Rattle.checked_program.specs.{LockTags.IsShapeBelow, MarkedProgram.{MarkedProgram, IsMarked}, Tagging.{catches_all, until_all, tags_at_handler}, Visits.EdgeFits}
use Rattle.checked_program.proofs.CheckedPlaces.{catchers_among}
use Rattle.machine_types.specs.{Frames.{Top, effect_at, frames_of, handler_of, handler_at, caught}, Shown.{Shows, ShowsAtCall, ShowBelow, Show}, Standing.{Standing, Whole, Thrown}}
use Rattle.machine_types.specs.{Structure.{TopIs, any_op}, Threads.Frame, declared.effect.Effect.{Effect, TheVariants.{Throws, Raises, Indexes, Makes, Calls, Waits, Notifies, NotifiesAll}}}
use Rattle.laws_threads.specs.{CallLaws.IsLeft, ThrowLaws.{may_throw, EffectsThrow, ThrowsShow, CaughtShows, ThrowsOn, UnwoundShows, UnwindsBehindRelease}}
use Rattle.laws_threads.proofs.{FramePlaces.{one_standing, sound_at, top_by}, FrameReturns.{is_call, left, leaves_one}, ShownFrames.{by_top, fits_at, landed, whole_landed}, TypedMoves.handler_found}
use Rattle.laws_threads.proofs.EffectsOfInsns as effects

-- ---- effects

throws_at : (p : Program) (m : MethodInfo) (insn : Insn) (target : Target) (s : List ℕ) (e : Effect) → effects.Fits p m insn target s e → may_throw e ≡ true → can_throw insn.op ≡ true
throws_at p m insn target s (Throws x) h t = h
throws_at p m insn target s (Raises x) h t = h
throws_at p m insn target s (Indexes array index stored) h t = h.1
throws_at p m insn target s (Makes word size) h t = h.throws
throws_at p m insn target s (Calls number) h t = (is_call p m insn.pc insn.next insn.op target number h.names).throws
throws_at p m insn target s (Waits n) h t = h.1
throws_at p m insn target s (Notifies n) h t = h.1
throws_at p m insn target s (NotifiesAll n) h t = h.1
throws_at p m insn target s e h t = absurd (cc)

pub effects_throw_law : EffectsThrow
effects_throw_law c fs shown at is e s t =
    by_top c is Whole (λ fs shown (at : Top). may_throw (effect_at c.program at) ≡ true → can_throw at.insn.op ≡ true)
    (λ f below own rest top b t. throws_at c.program top.stands.method top.stands.insn top.stands.target f.stack (effect_at c.program (top_by c is f below top.stands)) (fits_at c is f below top.stands) t) fs shown at e s t

pub throws_law : ThrowsShow
throws_law c fs shown at is e s t =
    by_top c is Whole (λ fs shown (at : Top). can_throw at.insn.op ≡ true → Show c Thrown (frames_of at) shown × TopIs c can_throw (frames_of at))
    (λ f below own rest top b t.
    ((own, rest, refl, record { stands = top.stands; made = top.made; choice = top.choice; locals = top.locals; stack = tt; shown_are = top.shown_are }, b), (top.stands, t))) fs shown at e s t

-- ---- rows

-- where none catches there is none that catches all
pub none_catches : (pc class : ℕ) (rows : List Row) → handler_of pc class rows ≡ None → list_any catches_all (filter (covers pc) rows) ≡ false
none_catches pc class [] e = refl
none_catches pc class (x ∷ rows) e = grind (arith, nat_tests, e, none_catches pc class rows)

pub may_leave_by : (a b d : Bool) → b ≡ true → d ≡ false → (a || (b && not d)) ≡ true
may_leave_by a b d e f = grind (arith, nat_tests, e, f)

module _ (c : MarkedProgram) (is : IsMarked c) where
  -- ---- to a handler

  caught_frame : (f : Frame) (own : List ℕ) (top : Shows c Thrown f own) → can_throw top.stands.insn.op ≡ true → (class x : ℕ) (r : Row) → handler_of f.pc class top.stands.method.rows ≡ Some r → Shows c Whole (record f { pc = r.handler; stack = x ∷ [] }) own
  caught_frame f own top t class x r e =
      let k = top.stands in
      let all : AllByRecursion (λ (handler : Row). EdgeFits IsShapeBelow k.method.code k.at.frames (tags_at_handler k.tags) handler.handler) (until_all (covering k.method k.insn.pc)) =
      subst (λ (b : Bool). AllByRecursion (λ (handler : Row). EdgeFits IsShapeBelow k.method.code k.at.frames (tags_at_handler k.tags) handler.handler) (cond b (until_all (covering k.method k.insn.pc)) [])) t (sound_at c is f k).handlers_fit in
      let among = catchers_among k.method k.insn.pc class r (sym (handler_found k.insn.pc class k.method.rows) ∙ ap (λ (n : ℕ). handler_of n class k.method.rows) k.pc_is ∙ e) in
      let fits : EdgeFits IsShapeBelow k.method.code k.at.frames (tags_at_handler k.tags) r.handler =
      at_index (λ (handler : Row). EdgeFits IsShapeBelow k.method.code k.at.frames (tags_at_handler k.tags) handler.handler) (until_all (covering k.method k.insn.pc)) among.0 r all among.1 in
      subst (λ (xs : List ℕ). Shows c Whole (record f { pc = r.handler; stack = x ∷ [] }) xs) (sym top.shown_are)
      (whole_landed c is (record f { pc = r.handler; stack = x ∷ [] }) k.method k.at.frames (tags_at_handler k.tags) top.choice (landed c is f k (tags_at_handler k.tags) r.handler f.locals (x ∷ []) fits) top.locals (tt, tt))

  -- ---- out of a frame

  -- a frame that waits throws it on
  thrown_on : (callee : ℕ) (below : List Frame) (rest : List ℕ) → ShowBelow c callee below rest → Show c Thrown below rest × ThrowsOn c below
  thrown_on callee [] rest b = (b, tt)
  thrown_on callee (g ∷ gs) rest b =
      let w : ShowsAtCall c callee g b.0 = b.3 in
      let k = w.shows.stands in
      ((b.0, b.1, b.2, record { stands = k; made = w.shows.made; choice = w.shows.choice; locals = w.shows.locals; stack = tt; shown_are = w.shows.shown_are }, b.4), (k, (is_call c.program k.method k.insn.pc k.insn.next k.insn.op k.target callee w.calls).throws))

  unwound_frame : (f : Frame) (below : List Frame) (own rest : List ℕ) (top : Shows c Thrown f own) → ShowBelow c f.method below rest → can_throw top.stands.insn.op ≡ true → (class : ℕ) → handler_of f.pc class top.stands.method.rows ≡ None
      → IsLeft c (top_by c is f below top.stands) any_op Thrown below (own ++ rest) × ThrowsOn c below
  unwound_frame f below own rest top b t class e =
      let k = top.stands in
      let on = thrown_on f.method below rest b in
      let none : list_any catches_all (covering k.method k.insn.pc) ≡ false = none_catches k.insn.pc class k.method.rows (ap (λ (n : ℕ). handler_of n class k.method.rows) k.pc_is ∙ e) in
      (left c is Thrown Thrown any_op f below own rest top below (may_leave_by (is_return k.insn.op) (can_throw k.insn.op) (list_any catches_all (covering k.method k.insn.pc)) t none) refl on.0, on.1)

  can_throw_at : (f : Frame) (k : Standing c f) (below : List Frame) → TopIs c can_throw (f ∷ below) → can_throw k.insn.op ≡ true
  can_throw_at f k below a = let same = one_standing c is f k a.0 in ap (λ (x : Insn). can_throw x.op) same.insn ∙ a.1

-- ---- the laws

pub caught_law : CaughtShows
caught_law c fs shown at class x r is e s a h =
    by_top c is Thrown (λ (fs : List Frame) shown (at : Top). TopIs c can_throw fs → handler_at class at ≡ Some r → Show c Whole (caught r x at) shown)
    (λ f below own rest top b a h. (own, rest, refl, caught_frame c is f own top (can_throw_at c is f top.stands below a) class x r h, b)) fs shown at e s a h

pub unwound_law : UnwoundShows
unwound_law c fs shown at class is e s a h =
    by_top c is Thrown (λ (fs : List Frame) shown (at : Top). TopIs c can_throw fs → handler_at class at ≡ None → IsLeft c at any_op Thrown at.below shown × ThrowsOn c at.below)
    (λ f below own rest top b a h. unwound_frame c is f below own rest top b (can_throw_at c is f top.stands below a) class h) fs shown at e s a h

pub unwind_behind_law : UnwindsBehindRelease
unwind_behind_law c [] shown m is s l = absurd l
unwind_behind_law c (f ∷ below) shown m is s l =
    let own : s.0 ≡ m ∷ [] = leaves_one c is Thrown m f s.0 s.3 l.0 l.1 in
    let on = thrown_on c is f.method below s.1 s.4 in
    (s.1, s.2 ∙ ap (λ (xs : List ℕ). xs ++ s.1) own, on.0, on.1)
