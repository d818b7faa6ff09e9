-- An attempt stands as an exception goes to a handler, or leaves the top frame.
use Rattle.std.{specs.List.list_any, proofs.Common.{◌≡◌, ℕ, zero, suc, slice_get, Bool, true, false, List, [], ◌∷◌, Option, Some, None, refl, sym, ap, ◌∙◌, subst, arith, ◌==◌, if◌then◌else◌}}
use Rattle.std.proofs.lemmas.Bool.{cond_both, Decides.nat_tests}
use Rattle.lists.proofs.{ListLaws.same_some, TestLaws.{first_true, second_true}}
use Rattle.jvm_types.specs.{CodeTable.can_throw, Members.is_synchronized, Verifying.{covering, is_return}, declared.{code.Insn.Insn, outcome.Thrown.Thrown, program.Row.Row}}
use Rattle.checked_program.{specs.{MarkedProgram.{MarkedProgram, IsMarked}, TaggedCode.caught, Tagging.{catches_all, until_all, catchers, tags_at_handler}}, proofs.CheckedPlaces.catchers_among}
use Rattle.machine_types.specs.{Frames.{Top, handler_of, handler_at, monitor_of}, Onward.{Leaving, handed, unwound}, ReadyObjects.class_of, Structure.{Finishes, frames_inside}}
use Rattle.laws_threads.{specs.InsideMoves.{GoesOnInside, OnwardStands, ThrowsInside}, proofs.{AttemptMoves.{not_alone, along, unwound_on}, FrameReturns.leaves_none, SectionFrames.Runs}}
use Rattle.laws_threads.proofs.{FrameThrows.{may_leave_by, none_catches}, Inside.{InAttempt, locking, runs_inside, stays}, Standings.{top_here, top_at_standing, one_insn}, TypedMoves.handler_found}
use Rattle.jvm_types.specs.declared.code.Op.TheVariants as ops
use Rattle.machine_types.specs.declared.phase.After.TheVariants as afters
use Rattle.machine_types.specs.declared.phase.Phase.TheVariants as phases

-- the row that catches has its handler among the catchers
pub any_at : {A : Type 0} (test : A → Bool) (xs : List A) (i : ℕ) (x : A) → slice_get xs i ≡ Some x → test x ≡ true → list_any test xs ≡ true
any_at test [] i x e t = absurd (cc)
any_at test (y ∷ xs) zero x e t = first_true (test y) (list_any test xs) (subst (λ z. test z ≡ true) (sym (same_some e)) t)
any_at test (y ∷ xs) (suc i) x e t = second_true (test y) (list_any test xs) (any_at test xs i x e t)

-- ---- the law

module _ (c : MarkedProgram) (marked : IsMarked c) (x : ℕ) (class : Thrown) (thread : InAttempt c (phases.Throw x class)) where
  open thread use {frame as f, below, held, attempt as a, tries as k, agrees as s}

  never_finished : Finishes a (phases.Throw x class) (frames_inside a (f ∷ below)) → ⊥
  never_finished f = let bad = f.leaves in cc

  abbrev r : Runs c a f (frames_inside a below)
  r = runs_inside c (phases.Throw x class) f below held a k never_finished

  abbrev top : Top
  top = top_here c f below r.stands

  throws : can_throw r.stands.insn.op ≡ true
  throws = ap (λ (i : Insn). can_throw i.op) (one_insn c marked f r.stands s.phase_shows.0) ∙ s.phase_shows.1

  no_exit : r.stands.insn.op ≡ ops.Monitorexit → ⊥
  no_exit e = let bad : false ≡ true = sym (ap can_throw e) ∙ throws in cc

  by_row : (row : Row) → handler_of f.pc (class_of class) r.stands.method.rows ≡ Some row → OnwardStands c (handed c.program x class top (Some row)) → GoesOnInside c (handed c.program x class top (Some row)) held a
  by_row row e l =
      let m = r.stands.method in
      let insn = r.stands.insn in
      let at : handler_of insn.pc (class_of class) m.rows ≡ Some row = ap (λ pc. handler_of pc (class_of class) m.rows) r.stands.pc_is ∙ e in
      let found = catchers_among m insn.pc (class_of class) row (sym (handler_found insn.pc (class_of class) m.rows) ∙ at) in
      let among : list_any (λ h. h.handler == row.handler) (catchers m insn) ≡ true = subst (λ b. list_any (λ h. h.handler == row.handler) (if b then until_all (covering m insn.pc) else []) ≡ true) (sym throws) (any_at (λ h. h.handler == row.handler) (until_all (covering m insn.pc)) found.0 row found.1 (grind (arith, nat_tests))) in
      let there : list_any (λ h. h.handler == l.insn.pc) (catchers m insn) ≡ true = subst (λ pc. list_any (λ h. h.handler == pc) (catchers m insn) ≡ true) (sym l.pc_is) among in
      along c marked (phases.Throw x class) f held a below phases.Run k r (record f { pc = row.handler; stack = x ∷ [] }) l (tags_at_handler r.stands.tags) refl refl (caught l.insn there) tt no_exit

  -- no row catches, so no tag is held
  none_held : handler_of f.pc (class_of class) r.stands.method.rows ≡ None → r.stands.tags.held ≡ []
  none_held e =
      let m = r.stands.method in
      let insn = r.stands.insn in
      let at : handler_of insn.pc (class_of class) m.rows ≡ None = ap (λ pc. handler_of pc (class_of class) m.rows) r.stands.pc_is ∙ e in
      leaves_none c marked f r.stands (may_leave_by (is_return insn.op) (can_throw insn.op) (list_any catches_all (covering m insn.pc)) throws (none_catches insn.pc (class_of class) m.rows at))

  by_none : handler_of f.pc (class_of class) r.stands.method.rows ≡ None → GoesOnInside c (handed c.program x class top None) held a
  by_none e =
      let none = none_held e in
      cond_both (is_synchronized r.stands.method.flags) (Leaving (monitor_of c.program r.stands.method f) (afters.Unwind x class) (f ∷ below)) (unwound x class below) (λ o. GoesOnInside c o held a)
      (λ q. stays c (phases.Throw x class) (phases.Leave (monitor_of c.program r.stands.method f) (afters.Unwind x class)) f below held a k (locking c marked (phases.Throw x class) f below held a k (frames_inside a below) r none q) never_finished)
      (λ q. unwound_on c marked (phases.Throw x class) f held a below a.inner x class k r (not_alone c marked (phases.Throw x class) f held a below k r none q))

  by_handler : (o : Option Row) → handler_of f.pc (class_of class) r.stands.method.rows ≡ o → OnwardStands c (handed c.program x class top o) → GoesOnInside c (handed c.program x class top o) held a
  by_handler (Some row) e l = by_row row e l
  by_handler None e l = by_none e

pub throws_inside : ThrowsInside
throws_inside c x class [] held a at marked k s e l = absurd (cc)
throws_inside c x class (f ∷ below) held a at marked k s e l =
    let thread : InAttempt c (phases.Throw x class) = record { frame = f; below = below; held = held; attempt = a; tries = k; agrees = s } in
    let r' = r c marked x class thread in
    let same = top_at_standing c marked f below r'.stands at e in
    subst (λ t. OnwardStands c (handed c.program x class t (handler_at (class_of class) t)) → GoesOnInside c (handed c.program x class t (handler_at (class_of class) t)) held a) same (by_handler c marked x class thread (handler_of f.pc (class_of class) r'.stands.method.rows) refl) l
