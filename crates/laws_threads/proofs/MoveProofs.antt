-- The laws of moves.
use Rattle.std.proofs.Common.{◌≡◌, ℕ, true, false, List, [], ◌∷◌, Option, Some, None, refl, subst}
use Rattle.lists.proofs.ListLaws.{same_some}
use Rattle.jvm_types.specs.{Numbers.has_number, Verifying.edges, declared.{code.{Insn.Insn, Op.Op}, program.{MethodInfo.MethodInfo, Program.Program, Target.Target}}}
use Rattle.machine_types.specs.{Frames.{Top, effect_at, went, went_on, making}, Shown.Show, Standing.{Whole, Lacking}, Structure.{TopIs, is_element_op}, Threads.Frame, declared.effect.Effect.Effect}
use Rattle.machine_types.{specs.declared.effect.Effect.TheVariants.{Goes, Reads, Writes, Indexes, Measures, Prints, Makes, Waits, Notifies, NotifiesAll}, proofs.EffectCases.next_edge}
use Rattle.laws_threads.{specs.MoveLaws.{is_lock_op, MovesShow, goes_to, EffectsFollowEdges, EffectsShow, ElementsShow, MakingShows, PushedShows}, proofs.EffectsOfInsns.{IsMove, Fits}}
use Rattle.laws_threads.proofs.{FrameMoves.{moved, making_frame, pushed_frame}, FramePlaces.{one_standing, top_by}, ShownFrames.{by_top, fits_at}}
use Rattle.jvm_types.specs.declared.code.Op.TheVariants as ops

pub moves_law : MovesShow
moves_law c fs shown at to made is e s free edge =
    by_top c is Whole (λ fs shown (at : Top). is_lock_op at.insn.op ≡ false → has_number (edges at.insn) to ≡ true → Show c Whole (went c.program at to made) shown)
    (λ f below own rest top b free edge. (own, rest, refl, moved c is f own top to made free edge, b)) fs shown at e s free edge

-- ---- effects

follows : (p : Program) (m : MethodInfo) (insn : Insn) (target : Target) (s : List ℕ) (to : ℕ) (e : Effect) → Fits p m insn target s e → goes_to insn.next e ≡ Some to → IsMove insn to
follows p m insn target s to (Goes on made) h g = subst (IsMove insn) (same_some g) h
follows p m insn target s to (Reads v) h g = subst (IsMove insn) (same_some g) h
follows p m insn target s to (Writes v word) h g = subst (IsMove insn) (same_some g) h
follows p m insn target s to (Indexes array index stored) h g = subst (IsMove insn) (same_some g) h.0
follows p m insn target s to (Measures array) h g = subst (IsMove insn) (same_some g) h
follows p m insn target s to (Prints n) h g = subst (IsMove insn) (same_some g) h
follows p m insn target s to (Waits n) h g = subst (IsMove insn) (same_some g) h.0
follows p m insn target s to (Notifies n) h g = subst (IsMove insn) (same_some g) h.0
follows p m insn target s to (NotifiesAll n) h g = subst (IsMove insn) (same_some g) h.0
follows p m insn target s to e h g = absurd (cc)

pub follow_law : EffectsFollowEdges
follow_law c fs shown at to is e s g =
    by_top c is Whole (λ fs shown (at : Top). goes_to at.insn.next (effect_at c.program at) ≡ Some to → IsMove at.insn to)
    (λ f below own rest top b g. follows c.program top.stands.method top.stands.insn top.stands.target f.stack to (effect_at c.program (top_by c is f below top.stands)) (fits_at c is f below top.stands) g) fs shown at e s g

pub effects_law : EffectsShow
effects_law c fs shown at to made is e s g = let edge = follow_law c fs shown at to is e s g in moves_law c fs shown at to made is e s edge.0 edge.1

element_moves : (insn : Insn) (stored : Option ℕ) → is_element_op stored insn.op ≡ true → IsMove insn insn.next
element_moves insn stored e = by_op stored insn.op e
  where
    by_op : (stored : Option ℕ) (op : Op) → is_element_op stored op ≡ true → IsMove (record { pc = insn.pc; next = insn.next; op = op }) insn.next
    by_op None ops.Iaload e = (refl, next_edge insn.next)
    by_op (Some v) ops.Iastore e = (refl, next_edge insn.next)
    by_op stored op e = absurd (cc)

pub elements_law : ElementsShow
elements_law c fs shown at stored made is e s is_at =
    by_top c is Whole (λ (fs : List Frame) shown (at : Top). TopIs c (is_element_op stored) fs → Show c Whole (went_on c.program at made) shown)
    (λ f below own rest top b is_at.
    let same = one_standing c is f is_at.0 top.stands in
    let edge = element_moves top.stands.insn stored (subst (λ (x : Insn). is_element_op stored x.op ≡ true) same.insn is_at.1) in
    (own, rest, refl, moved c is f own top top.stands.insn.next made edge.0 edge.1, b)) fs shown at e s is_at

-- ---- new objects

pub making_law : MakingShows
making_law c fs shown at word size is e s g =
    by_top c is Whole (λ fs shown (at : Top). effect_at c.program at ≡ Makes word size → Show c Lacking (making c.program at) shown)
    (λ f below own rest top b g.
    (own, rest, refl, making_frame c is f own top (subst (Fits c.program top.stands.method top.stands.insn top.stands.target f.stack) g (fits_at c is f below top.stands)), b)) fs shown at e s g

pub pushed_law : PushedShows
pushed_law c [] shown v s = s
pushed_law c (f ∷ fs) shown v s = (s.0, s.1, s.2, pushed_frame c f s.0 v s.3, s.4)
