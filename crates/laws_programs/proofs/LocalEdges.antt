-- What the nodes are after the normal edges of an instruction, and after those to its handlers.
use Rattle.std.{proofs.Common.{◌≡◌, ℕ, Bool, true, false, cond, ◌&&◌, List, [], ◌∷◌, length, Option, Some, None, Result, Ok, refl, sym, ◌∙◌, subst, arith, ◌==◌}, specs.List.AllByRecursion}
use Rattle.std.proofs.lemmas.Bool.{cond_both, eqb-true, not-false, or_left, or_right, Decides.nat_tests}
use Rattle.jvm_types.specs.{CodeGrammar.is_start, Numbers.has_number, Types.TypeFrame, declared.{code.Insn.Insn, program.{MethodInfo.MethodInfo, Row.Row}, refusal.VRule.VRule}}
use Rattle.jvm_types.specs.Verifying.{Node, brought, all_brought, has_other_depth, clash, unless_caught, catch_fault, frame_at_handler, handled, frame_at, FrameFits}
use Rattle.laws_programs.proofs.{FrameBounds.{IsBounded, handler_bounded}, LocalBrought.{AreBounded, IsDeep, brought_risen, brought_bounded, brought_deep, brought_fits}}
use Rattle.laws_programs.proofs.LocalRisen.{AreRisen, all_risen_self, all_risen_trans, risen_length, frames_of, fits_risen}

-- ---- several edges

-- what edges leave of the nodes
pub record Carries (m : MethodInfo) (nodes mid : List Node) : Type 0 where
  pub risen : AreRisen nodes mid
  pub bounded : AreBounded m mid

-- a frame of this depth may be brought to each of these pcs
abbrev AreDeep : List Insn → ℕ → List Node → List ℕ → Type 0
AreDeep code depth nodes tos = AllByRecursion (λ to. IsDeep depth (frame_at code (frames_of nodes) to)) tos

module _ (m : MethodInfo) (f : TypeFrame) (b : IsBounded m f) (code : List Insn) where
  deep_kept : (to : ℕ) (nodes : List Node) (tos : List ℕ) → AreDeep code (length f.stack) nodes tos → AreDeep code (length f.stack) (brought code to f nodes) tos
  deep_kept to nodes [] d = tt
  deep_kept to nodes (pc ∷ tos) d = (brought_deep m f b to (length f.stack) pc refl code nodes d.0, deep_kept to nodes tos d.1)

  pub all_carried : (tos : List ℕ) (nodes : List Node) → AreBounded m nodes → AreDeep code (length f.stack) nodes tos → Carries m nodes (all_brought code tos f nodes)
  all_carried [] nodes c d = record { risen = all_risen_self nodes; bounded = c }
  all_carried (to ∷ tos) nodes c d =
      let next : List Node = brought code to f nodes in
      let one : AreRisen nodes next = brought_risen m f b to code nodes c d.0 in
      let more : Carries m next (all_brought code tos f next) = all_carried tos next (brought_bounded m f b to code nodes c) (deep_kept to nodes tos d.1) in
      record { risen = all_risen_trans nodes next (all_brought code tos f next) one more.risen; bounded = more.bounded }

  pub all_fit : (tos : List ℕ) (nodes : List Node) → AreBounded m nodes → length nodes ≡ length code → AllByRecursion (λ to. is_start code to ≡ true) tos → AreDeep code (length f.stack) nodes tos
      → AllByRecursion (FrameFits code (frames_of (all_brought code tos f nodes)) f) tos
  all_fit [] nodes c l s d = tt
  all_fit (to ∷ tos) nodes c l s d =
      let next : List Node = brought code to f nodes in
      let bounded : AreBounded m next = brought_bounded m f b to code nodes c in
      let long : length next ≡ length code = sym (risen_length nodes next (brought_risen m f b to code nodes c d.0)) ∙ l in
      let deep : AreDeep code (length f.stack) next tos = deep_kept to nodes tos d.1 in
      let one : FrameFits code (frames_of next) f to = brought_fits m f b to code nodes c s.0 l d.0 in
      (fits_risen code next (all_brought code tos f next) f to (all_carried tos next bounded deep).risen one, all_fit tos next bounded long s.1 deep)

-- ---- where V5 holds

pub picks : (P : ℕ → Type 0) (tos : List ℕ) → ((to : ℕ) → has_number tos to ≡ true → P to) → AllByRecursion P tos
picks P [] h = tt
picks P (to ∷ tos) h = (h to (or_left (to == to) (has_number tos to) (grind (arith, nat_tests))), picks P tos (λ x e. h x (or_right (to == x) (has_number tos x) e)))

same_depth : (frame : Option TypeFrame) (depth : ℕ) → has_other_depth frame depth ≡ false → IsDeep depth frame
same_depth None depth e = tt
same_depth (Some g) depth e = eqb-true (length g.stack) depth (not-false (length g.stack == depth) e)

pub unclashed : (t : Bool) (pc : ℕ) (more : Option ℕ) → cond t (Some pc) more ≡ None → (t ≡ false) × (more ≡ None)
unclashed true pc more e = absurd (cc)
unclashed false pc more e = (refl, e)

pub second_false : (t u : Bool) → (t && u) ≡ false → t ≡ true → u ≡ false
second_false true u e f = e
second_false false u e f = absurd (cc)

clash_deep : (tos : List ℕ) (depth to : ℕ) → has_number tos to ≡ true → (code : List Insn) (nodes : List Node) → clash code tos depth nodes ≡ None → IsDeep depth (frame_at code (frames_of nodes) to)
clash_deep tos depth to h (insn ∷ code) (node ∷ nodes) e =
    let parts = unclashed (has_number tos insn.pc && has_other_depth node.frame depth) insn.pc (clash code tos depth nodes) e in
    cond_both (insn.pc == to) node.frame (frame_at code (frames_of nodes) to) (IsDeep depth)
    (λ e. same_depth node.frame depth (second_false (has_number tos insn.pc) (has_other_depth node.frame depth) parts.0 (subst (λ (pc : ℕ). has_number tos pc ≡ true) (sym (eqb-true insn.pc to e)) h)))
    (λ e. clash_deep tos depth to h code nodes parts.1)
clash_deep tos depth to h code nodes e = tt

pub edges_deep : (code : List Insn) (tos : List ℕ) (depth : ℕ) (nodes : List Node) → clash code tos depth nodes ≡ None → AreDeep code depth nodes tos
edges_deep code tos depth nodes e = picks (λ to. IsDeep depth (frame_at code (frames_of nodes) to)) tos (λ to h. clash_deep tos depth to h code nodes e)

-- ---- the edges to handlers

pub record Handles (m : MethodInfo) (pc : ℕ) (f : TypeFrame) (handlers : List Row) (nodes mid : List Node) : Type 0 where
  pub carries : Carries m nodes mid
  pub hold : AllByRecursion (λ handler. catch_fault m pc handler ≡ None) handlers
  pub fit : AllByRecursion (λ handler. FrameFits m.code (frames_of mid) (frame_at_handler handler f) handler.handler) handlers

pub uncaught : (fault : Option (VRule × ℕ)) (at : Option ℕ) (more : Result (List Node) (VRule × ℕ)) (mid : List Node) → unless_caught fault at more ≡ Ok mid → (fault ≡ None) × (at ≡ None) × (more ≡ Ok mid)
uncaught None None more mid e = (refl, refl, e)
uncaught fault at more mid e = absurd (cc)

pub handles : (m : MethodInfo) (pc : ℕ) (f : TypeFrame) → IsBounded m f → (handlers : List Row) (nodes mid : List Node) → AreBounded m nodes → length nodes ≡ length m.code
    → AllByRecursion (λ handler. is_start m.code handler.handler ≡ true) handlers → handled m pc f handlers nodes ≡ Ok mid → Handles m pc f handlers nodes mid
handles m pc f b [] nodes mid c l s e = let same : nodes ≡ mid = cc in
    record { carries = record { risen = subst (λ (ns : List Node). AreRisen nodes ns) same (all_risen_self nodes); bounded = subst (λ (ns : List Node). AreBounded m ns) same c }; hold = tt; fit = tt }
handles m pc f b (handler ∷ handlers) nodes mid c l s e =
    let g : TypeFrame = frame_at_handler handler f in
    let to : ℕ = handler.handler in
    let next : List Node = brought m.code to g nodes in
    let parts = uncaught (catch_fault m pc handler) (clash m.code (to ∷ []) 1 nodes) (handled m pc f handlers next) mid e in
    let bound : IsBounded m g = handler_bounded m pc handler f parts.0 b in
    let deep : IsDeep 1 (frame_at m.code (frames_of nodes) to) = (edges_deep m.code (to ∷ []) 1 nodes parts.1).0 in
    let one : AreRisen nodes next = brought_risen m g bound to m.code nodes c deep in
    let long : length next ≡ length m.code = sym (risen_length nodes next one) ∙ l in
    let more : Handles m pc f handlers next mid = handles m pc f b handlers next mid (brought_bounded m g bound to m.code nodes c) long s.1 parts.2 in
    record {
      carries = record { risen = all_risen_trans nodes next mid one more.carries.risen; bounded = more.carries.bounded };
      hold = (parts.0, more.hold);
      fit = (fits_risen m.code next mid g to more.carries.risen (brought_fits m g bound to m.code nodes c s.0 l deep), more.fit);
    }
