-- What visits of any kind leave at the nodes, of whatever code: frames only rise, one that has changed waits, and under the
-- last frames no rule is broken and each edge to a node with a frame fits. Where pcs repeat, an edge leads to the first.
use Rattle.std.proofs.Common.{◌≡◌, ℕ, zero, suc, length, Bool, true, false, cond, not, ◌&&◌, ◌||◌, List, [], ◌∷◌, Option, Some, None, Result, Ok, refl, sym, ap, ◌∙◌, subst, ◌==◌, slice_get, IsSomeAnd}
use Rattle.std.{specs.List.{AllByRecursion, AllZip}, proofs.lemmas.{Bool.{and_right, eq-eqb, eqb-true, not-false, or_parts, true≢false}, Option.same_Some}}
use Rattle.jvm_types.{specs.{Numbers.has_number, declared.code.Insn.Insn}, proofs.EachAfter.all_weaker}
use Rattle.laws_programs.proofs.LocalEdges.{unclashed as none_clashes}
use Rattle.checked_program.specs.Visits.{Meeting, Act, Break, Bring, PlanNode, joined, edge_brought, edges_brought, clashes_with, meeting_clash, unless_meeting_clash, acted}

-- the first instruction of a pc, by its number
abbrev pub IsFirstOf : List Insn → ℕ → ℕ → Type 0
IsFirstOf [] pc j = ⊥
IsFirstOf (insn ∷ code) pc zero = (insn.pc == pc) ≡ true
IsFirstOf (insn ∷ code) pc (suc j) = ((insn.pc == pc) ≡ false) × IsFirstOf code pc j

-- an order in which two frames that may meet are below the frame that they meet in
pub record Orders {A : Type 0} (d : Meeting A) (Below : A → A → Type 0) : Type 0 where
  pub self : (f : A) → Below f f
  pub trans : (f g h : A) → Below f g → Below g h → Below f h
  pub left : (g f : A) → d.clashes g f ≡ false → Below g (d.meet g f)
  pub right : (g f : A) → d.clashes g f ≡ false → Below f (d.meet g f)
  pub equal : (f g : A) → d.same f g ≡ true → f ≡ g
  -- a frame may meet itself, and one that it met it may meet again
  pub own : (f : A) → d.clashes f f ≡ false
  pub again : (g f : A) → d.clashes g f ≡ false → d.clashes (d.meet g f) f ≡ false

pub unclashed : {A R : Type 0} (rule : R) (o : Option ℕ) (more : Result (List (PlanNode A)) (R × ℕ)) (mid : List (PlanNode A))
    → unless_meeting_clash rule o more ≡ Ok mid → (o ≡ None) × (more ≡ Ok mid)
unclashed rule (Some pc) more mid e = absurd (cc)
unclashed rule None more mid e = (refl, e)

module _ {A : Type 0} (d : Meeting A) (Below : A → A → Type 0) (order : Orders d Below) where
  abbrev pub IsBelow : Option A → Option A → Type 0
  IsBelow None g = Unit {0}
  IsBelow (Some f) g = IsSomeAnd g (λ h. Below f h)

  frame_self : (f : Option A) → IsBelow f f
  frame_self None = tt
  frame_self (Some f) = order.self f

  pub frame_trans : (f g h : Option A) → IsBelow f g → IsBelow g h → IsBelow f h
  frame_trans None g h a b = tt
  frame_trans (Some f) (Some g) (Some h) a b = order.trans f g h a b
  frame_trans f g h a b = absurd (assumption)

  -- ---- nodes only rise, and one that has changed waits

  pub record IsRisen (a b : PlanNode A) : Type 0 where
    pub frame : IsBelow a.frame b.frame
    pub kept : b.waits ≡ false → (a.waits ≡ false) × (a.frame ≡ b.frame)

  abbrev pub AreRisen : List (PlanNode A) → List (PlanNode A) → Type 0
  AreRisen xs ys = AllZip IsRisen xs ys

  node_self : (a : PlanNode A) → IsRisen a a
  node_self a = record { frame = frame_self a.frame; kept = λ e. (e, refl) }

  pub risen_self : (xs : List (PlanNode A)) → AreRisen xs xs
  risen_self [] = tt
  risen_self (a ∷ xs) = (node_self a, risen_self xs)

  risen_trans : (xs ys zs : List (PlanNode A)) → AreRisen xs ys → AreRisen ys zs → AreRisen xs zs
  risen_trans [] [] zs h k = k
  risen_trans (a ∷ xs) (b ∷ ys) (c ∷ zs) h k =
      (record { frame = frame_trans a.frame b.frame c.frame h.0.frame k.0.frame; kept = λ e. ((h.0.kept (k.0.kept e).0).0, (h.0.kept (k.0.kept e).0).1 ∙ (k.0.kept e).1) }, risen_trans xs ys zs h.1 k.1)
  risen_trans xs ys zs h k = absurd (assumption)

  pub risen_length : (xs ys : List (PlanNode A)) → AreRisen xs ys → length xs ≡ length ys
  risen_length [] [] h = refl
  risen_length (a ∷ xs) (b ∷ ys) h = ap suc (risen_length xs ys h.1)
  risen_length xs ys h = absurd h

  -- the node that one was, and the node that one becomes
  pub risen_from : (xs ys : List (PlanNode A)) (i : ℕ) (b : PlanNode A) → AreRisen xs ys → slice_get ys i ≡ Some b → (a : PlanNode A) × (slice_get xs i ≡ Some a) × IsRisen a b
  risen_from [] [] i b h e = absurd (cc)
  risen_from [] (y ∷ ys) i b h e = absurd h
  risen_from (x ∷ xs) [] i b h e = absurd h
  risen_from (x ∷ xs) (y ∷ ys) zero b h e = (x, refl, subst (λ (z : PlanNode A). IsRisen x z) (cc) h.0)
  risen_from (x ∷ xs) (y ∷ ys) (suc i) b h e = risen_from xs ys i b h.1 e

  pub risen_to : (xs ys : List (PlanNode A)) (i : ℕ) (a : PlanNode A) → AreRisen xs ys → slice_get xs i ≡ Some a → (b : PlanNode A) × (slice_get ys i ≡ Some b) × IsBelow a.frame b.frame
  risen_to (x ∷ xs) (y ∷ ys) zero a h e = let same : x ≡ a = cc in (y, refl, subst (λ (z : PlanNode A). IsBelow z.frame y.frame) same h.0.frame)
  risen_to (x ∷ xs) (y ∷ ys) (suc i) a h e = risen_to xs ys i a h.1 e
  risen_to xs ys i a h e = absurd (first_of (assumption, cc))

  -- ---- one edge

  -- a frame that is brought to a pc is below the one at its first instruction
  abbrev pub LandsOn : List Insn → List (PlanNode A) → A → ℕ → Type 0
  LandsOn code nodes f to = (j : ℕ) (b : PlanNode A) → IsFirstOf code to j → slice_get nodes j ≡ Some b → IsBelow (Some f) b.frame

  lands_risen : (code : List Insn) (xs ys : List (PlanNode A)) (f : A) (to : ℕ) → AreRisen xs ys → LandsOn code xs f to → LandsOn code ys f to
  lands_risen code xs ys f to h l j b first e =
      let a = risen_from xs ys j b h e in
      frame_trans (Some f) a.0.frame b.frame (l j a.0 first a.1) a.2.frame

  joined_rises : (waits : Bool) (frame : Option A) (f : A) → clashes_with d frame f ≡ false → IsRisen (record { frame = frame; waits = waits }) (joined d waits frame f) × IsBelow (Some f) (joined d waits frame f).frame
  joined_rises waits None f e = (record { frame = tt; kept = λ w. absurd (cc) }, order.self f)
  joined_rises waits (Some g) f e = (record { frame = order.left g f e; kept = kept }, order.right g f e)
    where
      kept : (waits || not (d.same g (d.meet g f))) ≡ false → (waits ≡ false) × (Some g ≡ Some (d.meet g f))
      kept w = let parts = or_parts waits (not (d.same g (d.meet g f))) w in (parts.0, ap Some (order.equal g (d.meet g f) (not-false (d.same g (d.meet g f)) parts.1)))

  joined_clashes : (waits : Bool) (frame : Option A) (f : A) → clashes_with d frame f ≡ false → clashes_with d (joined d waits frame f).frame f ≡ false
  joined_clashes waits None f e = order.own f
  joined_clashes waits (Some g) f e = order.again g f e

  pub record Brings (code : List Insn) (tos : List ℕ) (f : A) (to : ℕ) (nodes mid : List (PlanNode A)) : Type 0 where
    pub risen : AreRisen nodes mid
    pub lands : LandsOn code mid f to
    pub rest : meeting_clash d code tos f mid ≡ None

  one_edge : (code : List Insn) (tos : List ℕ) (f : A) (to : ℕ) (nodes : List (PlanNode A)) → meeting_clash d code (to ∷ tos) f nodes ≡ None → Brings code tos f to nodes (edge_brought d code to f nodes)
  one_edge [] tos f to nodes c = record { risen = risen_self nodes; lands = λ j b first e. absurd first; rest = refl }
  one_edge (insn ∷ code) tos f to [] c = record { risen = tt; lands = λ j b first e. absurd (cc); rest = refl }
  one_edge (insn ∷ code) tos f to (node ∷ nodes) c =
      let parts = none_clashes ((to == insn.pc || has_number tos insn.pc) && clashes_with d node.frame f) insn.pc (meeting_clash d code (to ∷ tos) f nodes) c in
      by_test (insn.pc == to) refl parts.0 parts.1 (one_edge code tos f to nodes parts.1)
    where
      -- of a test with more pcs
      fewer : (t u v : Bool) → ((t || u) && v) ≡ false → (u && v) ≡ false
      fewer true true true e = absurd (cc)
      fewer false u v e = e
      fewer t u v e = refl

      fewer_clash : (code : List Insn) (nodes : List (PlanNode A)) → meeting_clash d code (to ∷ tos) f nodes ≡ None → meeting_clash d code tos f nodes ≡ None
      fewer_clash (x ∷ code) (n ∷ nodes) c =
          let parts = none_clashes ((to == x.pc || has_number tos x.pc) && clashes_with d n.frame f) x.pc (meeting_clash d code (to ∷ tos) f nodes) c in
          ap (λ t. cond t (Some x.pc) (meeting_clash d code tos f nodes)) (fewer (to == x.pc) (has_number tos x.pc) (clashes_with d n.frame f) parts.0) ∙ fewer_clash code nodes parts.1
      fewer_clash code nodes c = refl

      here : (t u v : Bool) → t ≡ true → ((t || u) && v) ≡ false → v ≡ false
      here true u v e h = h
      here false u v e h = absurd (cc)

      by_test : (t : Bool) → (insn.pc == to) ≡ t → ((to == insn.pc || has_number tos insn.pc) && clashes_with d node.frame f) ≡ false → meeting_clash d code (to ∷ tos) f nodes ≡ None → Brings code tos f to nodes (edge_brought d code to f nodes)
          → Brings (insn ∷ code) tos f to (node ∷ nodes) (cond t (joined d node.waits node.frame f ∷ nodes) (node ∷ edge_brought d code to f nodes))
      by_test true t c k more =
          let free : clashes_with d node.frame f ≡ false = here (to == insn.pc) (has_number tos insn.pc) (clashes_with d node.frame f) (eq-eqb to insn.pc (sym (eqb-true insn.pc to t))) c in
          let test : (has_number tos insn.pc && clashes_with d (joined d node.waits node.frame f).frame f) ≡ false = and_right (has_number tos insn.pc) (clashes_with d (joined d node.waits node.frame f).frame f) (joined_clashes node.waits node.frame f free) in
          record {
            risen = ((joined_rises node.waits node.frame f free).0, risen_self nodes);
            lands = at free;
            rest = ap (λ t. cond t (Some insn.pc) (meeting_clash d code tos f nodes)) test ∙ fewer_clash code nodes k;
          }
        where
          at : clashes_with d node.frame f ≡ false → (j : ℕ) (b : PlanNode A)
              → IsFirstOf (insn ∷ code) to j → slice_get (joined d node.waits node.frame f ∷ nodes) j ≡ Some b → IsBelow (Some f) b.frame
          at free zero b first e = subst (λ (n : PlanNode A). IsBelow (Some f) n.frame) (same_Some _ _ e) (joined_rises node.waits node.frame f free).1
          at free (suc j) b first e = absurd (true≢false (sym t ∙ first.0))
      by_test false t c k more = record {
        risen = (node_self node, more.risen);
        lands = at;
        rest = ap (λ t. cond t (Some insn.pc) (meeting_clash d code tos f (edge_brought d code to f nodes))) (fewer (to == insn.pc) (has_number tos insn.pc) (clashes_with d node.frame f) c) ∙ more.rest;
      }
        where
          at : (j : ℕ) (b : PlanNode A) → IsFirstOf (insn ∷ code) to j → slice_get (node ∷ edge_brought d code to f nodes) j ≡ Some b → IsBelow (Some f) b.frame
          at zero b first e = absurd (true≢false (sym first ∙ t))
          at (suc j) b first e = more.lands j b first.1 e

  -- ---- all edges, and all that an instruction does

  pub record BringsAll (code : List Insn) (tos : List ℕ) (f : A) (nodes mid : List (PlanNode A)) : Type 0 where
    pub risen : AreRisen nodes mid
    pub lands : AllByRecursion (LandsOn code mid f) tos

  all_land : (code : List Insn) (xs ys : List (PlanNode A)) (f : A) (tos : List ℕ) → AreRisen xs ys → AllByRecursion (LandsOn code xs f) tos → AllByRecursion (LandsOn code ys f) tos
  all_land code xs ys f tos h l = all_weaker (LandsOn code xs f) (LandsOn code ys f) (λ to k. lands_risen code xs ys f to h k) tos l

  all_edges : (code : List Insn) (tos : List ℕ) (f : A) (nodes : List (PlanNode A)) → meeting_clash d code tos f nodes ≡ None → BringsAll code tos f nodes (edges_brought d code tos f nodes)
  all_edges code [] f nodes c = record { risen = risen_self nodes; lands = tt }
  all_edges code (to ∷ tos) f nodes c =
      let next : List (PlanNode A) = edge_brought d code to f nodes in
      let one : Brings code tos f to nodes next = one_edge code tos f to nodes c in
      let more : BringsAll code tos f next (edges_brought d code tos f next) = all_edges code tos f next one.rest in
      record { risen = risen_trans nodes next (edges_brought d code tos f next) one.risen more.risen; lands = (lands_risen code next (edges_brought d code tos f next) f to more.risen one.lands, more.lands) }

  -- no rule is broken, and each frame that is brought fits
  abbrev pub IsActFine : {R : Type 0} → List Insn → List (PlanNode A) → Act A R → Type 0
  IsActFine code nodes (Break rule pc) = ⊥
  IsActFine code nodes (Bring rule tos f) = AllByRecursion (LandsOn code nodes f) tos

  abbrev pub Sound : {R : Type 0} → List Insn → List (PlanNode A) → List (Act A R) → Type 0
  Sound code nodes acts = AllByRecursion (IsActFine code nodes) acts

  act_risen : {R : Type 0} (code : List Insn) (xs ys : List (PlanNode A)) → AreRisen xs ys → (act : Act A R) → IsActFine code xs act → IsActFine code ys act
  act_risen code xs ys h (Break rule pc) s = s
  act_risen code xs ys h (Bring rule tos f) s = all_land code xs ys f tos h s

  pub sound_risen : {R : Type 0} (code : List Insn) (xs ys : List (PlanNode A)) (acts : List (Act A R)) → AreRisen xs ys → Sound code xs acts → Sound code ys acts
  sound_risen code xs ys acts h s = all_weaker (IsActFine code xs) (IsActFine code ys) (act_risen code xs ys h) acts s

  pub record Does {R : Type 0} (code : List Insn) (acts : List (Act A R)) (nodes mid : List (PlanNode A)) : Type 0 where
    pub risen : AreRisen nodes mid
    pub sound : Sound code mid acts

  pub does : {R : Type 0} (code : List Insn) (acts : List (Act A R)) (nodes mid : List (PlanNode A)) → acted d code acts nodes ≡ Ok mid → Does code acts nodes mid
  does code [] nodes mid e = let same : nodes ≡ mid = cc in record { risen = subst (λ (ns : List (PlanNode A)). AreRisen nodes ns) same (risen_self nodes); sound = tt }
  does code (Break rule pc ∷ acts) nodes mid e = absurd (cc)
  does code (Bring rule tos f ∷ acts) nodes mid e =
      let next : List (PlanNode A) = edges_brought d code tos f nodes in
      let parts = unclashed rule (meeting_clash d code tos f nodes) (acted d code acts next) mid e in
      let one : BringsAll code tos f nodes next = all_edges code tos f nodes parts.0 in
      let more : Does code acts next mid = does code acts next mid parts.1 in
      record { risen = risen_trans nodes next mid one.risen more.risen; sound = (all_land code next mid f tos more.risen one.lands, more.sound) }
