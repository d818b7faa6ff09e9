-- What a mark says of its section.
use Rattle.std.proofs.Common.{◌≡◌, ℕ, suc, ◌*◌, ◌<◌, ◌≤◌, Bool, true, false, List, [], length, Some, None, zero, refl, sym, ap, subst, ◌∙◌, arith, ◌==◌, slice_get, slice_index_or}
use Rattle.std.proofs.lemmas.Bool.Decides.{nat_tests}
use Rattle.jvm_types.specs.{ProgramInvariant.IsProgram, declared.program.{MethodInfo.MethodInfo, Program.Program}}
use Rattle.graph_closure.specs.Walks.{AreRecurring}
use Rattle.checked_program.specs.{Marks.{callee, IsOnOwn, OwnBreaks, CalleeBreaks, CalleeRecurs, Applies, elsewhere, itself, called, recurring, HasMark, turn}, OwnedArrays.reads_owned, Sections.{Section, section_mode}}
use Rattle.checked_program.specs.{TaggedCode.{Tagged, tagged_by}, declared.{section.Uses.Uses, tag.Tags.Tags}}
use Rattle.guard_analysis.{specs.{CallGraph.{node_of, call_graph}, Faults.LeadsToItself}, proofs.{CallEdges.called_inside, CalleesFound.itself_flagged, Grading.fault_low}}
use Rattle.mark_reasons.specs.{Firsts.IsFirst, OwnFlags.AreOwn, Reasons.{HasReason, IsSpotReached}, Searches.{own_call, turns}, declared.reason.Reason.TheVariants.{Elsewhere, Unreached}}
use Rattle.mark_reasons.proofs.Nodes.{no_uses, calls_known, inside_calls}

module _ (p : Program) (tags : Tagged) (uses : Uses) (s : Section) where
  own_low : (n : ℕ) → OwnBreaks p tags uses s n → n ≤ 5
  own_low n o = subst (λ x. x ≤ 5) o.breaks.fault_is (fault_low p uses.fields (section_mode p s) o.breaks.insn.op o.breaks.target o.breaks.f.stack (reads_owned uses s.method o.i))

  -- M1 to M5
  pub own_breaks : (n : ℕ) → n ≤ 5 → Applies p tags uses s n → OwnBreaks p tags uses s n
  own_breaks n l (elsewhere e off) = absurd (omega (arith, l, e))
  own_breaks n l (itself o) = o
  own_breaks n l (called e c) = absurd (omega (arith, l, e))
  own_breaks n l (recurring e c) = absurd (omega (arith, l, e))

  -- M6
  pub callee_breaks : (n : ℕ) → n ≡ 6 → Applies p tags uses s n → CalleeBreaks p tags uses s
  callee_breaks n q (elsewhere e off) = absurd (omega (arith, q, e))
  callee_breaks n q (itself o) = absurd (omega (arith, q, own_low n o))
  callee_breaks n q (called e c) = c
  callee_breaks n q (recurring e c) = absurd (omega (arith, q, e))

  -- M7
  pub callee_recurs : (n : ℕ) → n ≡ 7 → Applies p tags uses s n → CalleeRecurs p tags s
  callee_recurs n q (elsewhere e off) = absurd (omega (arith, q, e))
  callee_recurs n q (itself o) = absurd (omega (arith, q, own_low n o))
  callee_recurs n q (called e c) = absurd (omega (arith, q, e))
  callee_recurs n q (recurring e c) = c

  -- M8
  pub is_elsewhere : (n : ℕ) → n ≡ 8 → Applies p tags uses s n → IsOnOwn p tags s.method s.spot → ⊥
  is_elsewhere n q (elsewhere e off) = off
  is_elsewhere n q (itself o) = absurd (omega (arith, q, own_low n o))
  is_elsewhere n q (called e c) = absurd (omega (arith, q, e))
  is_elsewhere n q (recurring e c) = absurd (omega (arith, q, e))

  -- no other
  is_eight : (n : ℕ) → 8 ≤ n → Applies p tags uses s n → n ≡ 8
  is_eight n l (elsewhere e off) = e
  is_eight n l (itself o) = absurd (omega (arith, l, own_low n o))
  is_eight n l (called e c) = absurd (omega (arith, l, e))
  is_eight n l (recurring e c) = absurd (omega (arith, l, e))

  pub reached_reason : (n : ℕ) → 8 ≤ n → HasMark p tags uses s n → IsSpotReached p tags s.method s.spot → HasReason p tags uses s n (Some Elsewhere)
  reached_reason zero l h reached = absurd (omega (arith, l))
  reached_reason (suc n) l h reached = let eight = is_eight (suc n) l h.0 in (eight, reached, is_elsewhere (suc n) eight h.0)

  pub unreached_reason : (n : ℕ) → 8 ≤ n → HasMark p tags uses s n → (IsSpotReached p tags s.method s.spot → ⊥) → HasReason p tags uses s n (Some Unreached)
  unreached_reason zero l h none = absurd (omega (arith, l))
  unreached_reason (suc n) l h none = (is_eight (suc n) l h.0, none)

  pub applies : (n : ℕ) → 0 < n → HasMark p tags uses s n → Applies p tags uses s n
  applies zero l h = absurd (omega (arith, l))
  applies (suc n) l h = h.0

  -- a section of another mark is on this
  pub not_off : (n : ℕ) → 0 < n → n < 8 → HasMark p tags uses s n → (IsOnOwn p tags s.method s.spot → ⊥) → ⊥
  not_off zero l low h off = omega (arith, l)
  not_off (suc n) l low h off = h.1 8 (let first : turn 8 < turn (suc n) = before n low in first) (elsewhere refl off)
    where
      before : (n : ℕ) → suc n < 8 → 0 < turn (suc n)
      before n low = let test : (suc n == 8) ≡ false = grind (arith, nat_tests) in rw test (omega arith)

  -- its method is one of the program
  pub method_there : (n : ℕ) → n < 8 → Applies p tags uses s n → (m : MethodInfo) × (slice_get p.methods s.method ≡ Some m)
  method_there n l (elsewhere e off) = absurd (omega (arith, l, e))
  method_there n l (itself o) = (o.breaks.m, o.breaks.at.in_program)
  method_there n l (called e c) = (c.is_called.calls.m, c.is_called.calls.at.in_program)
  method_there n l (recurring e c) = (c.is_called.calls.m, c.is_called.calls.at.in_program)

-- an own instruction calls a node that leads to a cycle
module _ (p : Program) (tags : List Tags) (is : IsProgram p) (recurs : List Bool) (are : AreRecurring (call_graph p tags).from (call_graph p tags).to (3 * length p.methods) recurs) (s : Section)
    (m : MethodInfo) (t : Tags) (own : List Bool) (at_m : slice_get p.methods s.method ≡ Some m) (at_t : slice_get tags s.method ≡ Some t) (flags : AreOwn p (tagged_by tags) s.method s.spot own) where
  pub own_turns : CalleeRecurs p (tagged_by tags) s → IsFirst (λ i. turns recurs (own_call p (section_mode p s) m t.frames own i)) (length m.code) None → ⊥
  own_turns c none =
      let k = c.is_called in
      let leads : LeadsToItself p (tagged_by tags) k.first = record { called = c.called; over = k.over; through = k.through; recurs = c.recurs } in
      let flag : slice_index_or recurs (node_of k.first) false ≡ true = itself_flagged p tags is recurs are k.first (called_inside p (tagged_by tags) is (callee s.method (section_mode p s)) k.first k.i k.calls) leads in
      let own_flag : slice_index_or own k.i false ≡ true = flags.all k.i k.own in
      let call : own_call p (section_mode p s) m t.frames own k.i ≡ Some (node_of k.first) = rw own_flag (calls_known p no_uses tags is s.method m t at_m at_t (section_mode p s) k.i k.first k.calls) in
      let bad : true ≡ false = sym (ap (λ o. turns recurs o) call ∙ flag) ∙ none k.i (inside_calls p no_uses tags is s.method m t at_m at_t (section_mode p s) k.i k.first k.calls) in
      cc
