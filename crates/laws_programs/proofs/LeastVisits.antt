-- The visits keep every frame at or below that of an assignment, and break no rule but V7.
use Rattle.std.{proofs.Common.{◌≡◌, ℕ, true, false, List, [], ◌∷◌, length, map, Option, Some, None, Result, Ok, Err, refl, sym, subst, arith, slice_get, slice_set}, specs.List.AllByRecursion}
use Rattle.jvm_types.specs.{CodeGrammar.SpellsInsns, CodeTable.row, Types.{TypeFrame, frame_below, entry_type_frame}, declared.{code.Insn.Insn, op_row.OpRow.OpRow, program.MethodInfo.MethodInfo}}
use Rattle.jvm_types.specs.Verifying.{Node, node_at, first_nodes, broken_before, frame_after, edges, frame_at_handler, catch_fault, brought, all_brought, clash, handled, unless_broken, covering, gone_on, visited_row, visited_insn, visited, Visits, Breaks, frame_at, FrameFits, IsSound, IsAssignment, IsLaidOut, LeastLaw, RefusalLaw}
use Rattle.jvm_types.{specs.declared.{program.{Program.Program, Row.Row, Target.Target}, refusal.VRule.{VRule, TheVariants.V7}}, proofs.FrameOrder.{parts_below, locals_below, ready_below, pairs_self}}
use Rattle.laws_programs.proofs.LeastFrames.{AreBelow, AreDistinct, below_some, fits_below, brought_below, all_brought_below, quiet_below, Above, frame_above, frames_below, distinct, no_clash}
use Rattle.laws_programs.proofs.{MonoFrames.after_below, MonoRules.{v7_alone, suit_at}}

-- a visit keeps the frames below, or breaks V7
abbrev Keeps : List (Option TypeFrame) → Result (List Node) (VRule × ℕ) → Type 0
Keeps others (Ok nodes) = AreBelow nodes others
Keeps others (Err fault) = fault.0 ≡ V7

-- ---- the edges of one visit

handler_below : (handler : Row) (f g : TypeFrame) → frame_below f g ≡ true → frame_below (frame_at_handler handler f) (frame_at_handler handler g) ≡ true
handler_below handler f g h = parts_below (frame_at_handler handler f) (frame_at_handler handler g)
    (pairs_self (frame_at_handler handler f).stack) (locals_below f g h) (ready_below f g h)

handled_keeps : (m : MethodInfo) (pc : ℕ) (f g : TypeFrame) (handlers : List Row) (nodes : List Node) (others : List (Option TypeFrame)) → AreDistinct m.code → AreBelow nodes others
    → frame_below f g ≡ true → AllByRecursion (λ handler. catch_fault m pc handler ≡ None) handlers
    → AllByRecursion (λ handler. FrameFits m.code others (frame_at_handler handler g) handler.handler) handlers → Keeps others (handled m pc f handlers nodes)
handled_keeps m pc f g [] nodes others once below h hold fit = below
handled_keeps m pc f g (handler ∷ handlers) nodes others once below h hold fit =
    let at : TypeFrame = frame_at_handler handler f in
    let fits : FrameFits m.code others at handler.handler = below_some at (frame_at_handler handler g) (frame_at m.code others handler.handler) (handler_below handler f g h) fit.0 in
    let same : clash m.code (handler.handler ∷ []) 1 nodes ≡ None = no_clash m.code (handler.handler ∷ []) at nodes others once below (fits, tt) in
    rw hold.0 (rw same (handled_keeps m pc f g handlers (brought m.code handler.handler at nodes) others once
    (brought_below m.code handler.handler at nodes others below fits) h hold.1 fit.1))

-- ---- one visit

row_keeps : (m : MethodInfo) (insn : Insn) (r : OpRow) (f g : TypeFrame) (nodes : List Node) (others : List (Option TypeFrame)) → AreDistinct m.code → AreBelow nodes others
    → frame_below f g ≡ true → IsSound m insn r others g → Keeps others (visited_row m insn r f nodes)
row_keeps m insn r f g nodes others once below h sound = by_rule (broken_before m insn r f) (v7_alone m insn r f g h sound.before)
  where
    fit : AllByRecursion (FrameFits m.code others (frame_after m r f)) (edges insn)
    fit = fits_below m.code others (frame_after m r f) (frame_after m r g) (after_below m r f g h (suit_at m insn r g sound.before)) (edges insn) sound.edges_fit

    goes_on : Keeps others (gone_on m insn f (frame_after m r f) nodes)
    goes_on = rw (no_clash m.code (edges insn) (frame_after m r f) nodes others once below fit) (rw sound.after
        (handled_keeps m insn.pc f g (covering m insn.pc) (all_brought m.code (edges insn) (frame_after m r f) nodes) others once
        (all_brought_below m.code (edges insn) (frame_after m r f) nodes others below fit) h sound.rows_hold sound.handlers_fit))

    by_rule : (o : Option VRule) → ((rule : VRule) → o ≡ Some rule → rule ≡ V7) → Keeps others (unless_broken insn.pc o (gone_on m insn f (frame_after m r f) nodes))
    by_rule None v7 = goes_on
    by_rule (Some rule) v7 = v7 rule refl

insn_keeps : (p : Program) (m : MethodInfo) (i : ℕ) (insn : Option Insn) (target : Option Target) (frame : Option TypeFrame) (nodes quiet : List Node) (others : List (Option TypeFrame))
    → AreDistinct m.code → IsAssignment p m others → AreBelow nodes others → AreBelow quiet others
    → slice_get m.code i ≡ insn → slice_get m.targets i ≡ target → (node_at nodes i).frame ≡ frame → Keeps others (visited_insn p m insn target frame quiet)
insn_keeps p m i (Some insn) (Some target) (Some f) nodes quiet others once good below still at by has =
    let above : Above f others i = frame_above nodes others i f below has in
    row_keeps m insn (row p m insn.pc target insn.op) f above.frame quiet others once still above.below (good.sound i insn target above.frame at by above.is)
insn_keeps p m i insn target frame nodes quiet others once good below still at by has = still

pub visit_keeps_below : (p : Program) (m : MethodInfo) (i : ℕ) (nodes : List Node) (others : List (Option TypeFrame)) → AreDistinct m.code → IsAssignment p m others
    → AreBelow nodes others → Keeps others (visited p m i nodes)
visit_keeps_below p m i nodes others once good below = insn_keeps p m i (slice_get m.code i) (slice_get m.targets i) (node_at nodes i).frame nodes
    (slice_set nodes i (record (node_at nodes i) { waits = false })) others once good below (quiet_below nodes others i below) refl refl refl

-- ---- all visits

visits_keep : (p : Program) (m : MethodInfo) (others : List (Option TypeFrame)) → AreDistinct m.code → IsAssignment p m others → (nodes : List Node) (is : List ℕ) (last : List Node)
    → AreBelow nodes others → Visits p m nodes is last → AreBelow last others
visits_keep p m others once good nodes [] last below made = subst (λ (ns : List Node). AreBelow ns others) (sym made.1) below
visits_keep p m others once good nodes (i ∷ is) last below made =
    visits_keep p m others once good made.1 is last (subst (Keeps others) made.2 (visit_keeps_below p m i nodes others once good below)) made.3

breaks_v7 : (p : Program) (m : MethodInfo) (others : List (Option TypeFrame)) → AreDistinct m.code → IsAssignment p m others → (nodes : List Node) (is : List ℕ) (fault : VRule × ℕ)
    → AreBelow nodes others → Breaks p m nodes is fault → fault.0 ≡ V7
breaks_v7 p m others once good nodes [] fault below made = absurd made
breaks_v7 p m others once good nodes (i ∷ []) fault below made = subst (Keeps others) made.1 (visit_keeps_below p m i nodes others once good below)
breaks_v7 p m others once good nodes (i ∷ j ∷ is) fault below made =
    breaks_v7 p m others once good made.1 (j ∷ is) fault (subst (Keeps others) made.2 (visit_keeps_below p m i nodes others once good below)) made.3

-- ---- the start

unreached_below : (insns : List Insn) (others : List (Option TypeFrame)) → length others ≡ length insns → AreBelow (map (λ other. record { frame = None; waits = false }) insns) others
unreached_below [] [] e = tt
unreached_below [] (g ∷ others) e = absurd (omega (arith, e))
unreached_below (insn ∷ insns) [] e = absurd (omega (arith, e))
unreached_below (insn ∷ insns) (g ∷ others) e = (tt, unreached_below insns others (omega (arith, e)))

start_below : (m : MethodInfo) (code : List Insn) (bytes : List ℕ) (others : List (Option TypeFrame)) → SpellsInsns 0 code bytes → length others ≡ length code
    → FrameFits code others (entry_type_frame m) 0 → AreBelow (first_nodes m code) others
start_below m [] bytes [] spelled long entry = tt
start_below m (insn ∷ insns) bytes (g ∷ others) spelled long entry = (rw spelled.3 at entry, unreached_below insns others (omega (arith, long)))
start_below m code bytes others spelled long entry = absurd entry

started_below : (p : Program) (m : MethodInfo) (others : List (Option TypeFrame)) → IsLaidOut m → IsAssignment p m others → AreBelow (first_nodes m m.code) others
started_below p m others laid good = start_below m m.code laid.bytes others laid.code.spelled good.long good.entry

-- ---- the laws

pub least : LeastLaw
least p m frames others laid good typed i f g at above =
    frames_below typed.last others (visits_keep p m others (distinct 0 m.code laid.bytes laid.code.spelled) good (first_nodes m m.code) typed.visits typed.last (started_below p m others laid good) typed.made)
    i f g (subst (λ (fs : List (Option TypeFrame)). slice_get fs i ≡ Some f) typed.are at) above

pub due : RefusalLaw
due p m others rule pc laid refused other good =
    other (breaks_v7 p m others (distinct 0 m.code laid.bytes laid.code.spelled) good (first_nodes m m.code) refused.visits (rule, pc) (started_below p m others laid good) refused.broken)
