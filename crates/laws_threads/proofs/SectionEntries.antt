-- Where a section begins: at pc 0 no tag is held, and right behind a `monitorenter` the tag that it took is the innermost.
use Rattle.std.proofs.Common.{◌≡◌, ◌⊎◌, inl, inr, ℕ, suc, ◌<◌, true, false, List, [], ◌∷◌, ◌++◌, length, Option, Some, None, refl, sym, ap, ◌∙◌, subst, arith, ◌==◌, IsSomeAnd, slice_get, if◌then◌else◌}
use Rattle.std.proofs.lemmas.{Bool.{Decides.nat_tests}, Option.slice_get-get_or}
use Rattle.lists.proofs.ListLaws.{same_some}
use Rattle.jvm_types.specs.{CodeTable.{branches_to, falls_through}, Numbers.has_number, Verifying.{IsLaidOut, edges}, declared.{code.{Insn.Insn, Op.Op}, op_row.OpRow.OpRow}}
use Rattle.jvm_types.specs.declared.program.{MethodInfo.MethodInfo, Target.Target}
use Rattle.laws_programs.proofs.CodeOrder.{ascend, one_number, short, follows}
use Rattle.checked_program.specs.{LockTags.{TagShape, IsShapeBelow, entry_tags}, MarkedProgram.{MarkedProgram, IsMarked}, TaggedCode.{IsAt, onward, row_of}}
use Rattle.checked_program.specs.{Tagging.{enters_untagged, tags_after, tags_by_op, IsTagSound}, Visits.frame_at_pc, declared.tag.Tag.Tag}
use Rattle.laws_sections.proofs.MonitorExits.{held_law}
use Rattle.machine_types.specs.{Standing.{Standing, tags_of}, Structure.IsBehindEntry, Threads.Frame}
use Rattle.laws_threads.proofs.{FramePlaces.of_standing, MarkedMethods.found_at, Standings.{are_tagged, laid}}
use Rattle.jvm_types.specs.declared.code.Op.TheVariants as ops

-- ---- pcs

pub next_later : (m : MethodInfo) (i : ℕ) (insn : Insn) → IsLaidOut m → slice_get m.code i ≡ Some insn → insn.pc < insn.next
next_later m i insn l e = elim (follows m i insn l e) as (λ _. insn.pc < insn.next) [
  | inl (other, f, p) ↦ let up = ascend m i (suc i) insn other l e f (omega arith) in omega (arith, up, p)
  | inr (last, p) ↦ let up = (short m i insn l e).0 in omega (arith, up, p)
]

-- the `monitorenter` that a frame stands right behind
pub record Entered (c : MarkedProgram) (f : Frame) (k : Standing c f) : Type 0 where
  pub at : ℕ
  pub insn : Insn
  pub there : slice_get k.method.code at ≡ Some insn
  pub enters : insn.op ≡ ops.Monitorenter
  pub next : insn.next ≡ f.pc
  pub before : k.number ≡ suc at

module _ (c : MarkedProgram) (marked : IsMarked c) where
  pub entered_before : (f : Frame) (k : Standing c f) → IsBehindEntry k.method.code f.pc → Entered c f k
  entered_before f k (insn, (i, within, is), op, next) = by_place (follows k.method i insn (laid c marked f k) there)
    where
      there : slice_get k.method.code i ≡ Some insn
      there = slice_get-get_or k.method.code i insn within ∙ ap Some is

      by_place : ((other : Insn) × (slice_get k.method.code (suc i) ≡ Some other) × (other.pc ≡ insn.next)) ⊎ ((suc i ≡ length k.method.code) × (insn.next ≡ length (laid c marked f k).bytes)) → Entered c f k
      by_place (inl (other, e, p)) = record { at = i; insn = insn; there = there; enters = op; next = next; before = one_number k.method k.number (suc i) k.insn other (laid c marked f k) k.at.in_code e (k.pc_is ∙ sym next ∙ sym p) }
      by_place (inr (last, p)) = absurd (let inside = (short k.method k.number k.insn (laid c marked f k) k.at.in_code).0 in let here = k.pc_is in omega (arith, inside, here, p, next))

  -- an instruction at the pc before that of the frame is that `monitorenter`
  pub just_before : (f : Frame) (k : Standing c f) (e : Entered c f k) (j : ℕ) (other : Insn) → slice_get k.method.code j ≡ Some other → suc other.pc ≡ f.pc → j ≡ e.at
  just_before f k e j other there p =
      let laid = laid c marked f k in
      let low = ascend k.method j e.at other e.insn laid there e.there in
      let high = ascend k.method k.number j k.insn other laid k.at.in_code there in
      let same : j ≡ k.number → other.pc ≡ k.insn.pc = λ same. ap (λ (x : Insn). x.pc) (same_some (sym there ∙ ap (λ n. slice_get k.method.code n) same ∙ k.at.in_code)) in
      grind (arith, low, high, same, next_later k.method e.at e.insn laid e.there, e.next, k.pc_is, p, e.before)

  -- ---- tags

  -- at the start of a method
  pub none_held : (f : Frame) (k : Standing c f) → f.pc ≡ 0 → k.tags.held ≡ []
  none_held f k first = by_frame (frame_at_pc k.method.code k.at.frames 0) refl (of_standing c marked f k).sound.entry
    where
      by_frame : (o : Option TagShape) → frame_at_pc k.method.code k.at.frames 0 ≡ o → IsSomeAnd o (λ g. IsShapeBelow (entry_tags k.method) g) → k.tags.held ≡ []
      by_frame None q h = absurd h
      by_frame (Some g) q h =
          let l = found_at k.method.code k.at.frames 0 g q in
          let same : l.0 ≡ k.number = one_number k.method l.0 k.number l.1 k.insn (laid c marked f k) l.2 k.at.in_code (l.3 ∙ sym (k.pc_is ∙ first)) in
          let tags : k.tags ≡ g = same_some (same_some (sym k.at.frame ∙ ap (λ i. slice_get k.at.frames i) (sym same) ∙ l.4)) in
          let below : IsShapeBelow (entry_tags k.method) g = h in
          ap (λ (x : TagShape). x.held) tags ∙ sym below.held

  -- behind a `monitorenter`
  taken : (pc : ℕ) (row : OpRow) (op : Op) (f : TagShape) → op ≡ ops.Monitorenter → enters_untagged op f.stack ≡ false → (t : Tag) × (ts : List Tag) × (f.stack ≡ t ∷ ts) × ((tags_by_op pc row op f.stack f).held ≡ t ∷ f.held)
  taken pc row op f is e = by_stack f.stack refl (subst (λ o. enters_untagged o f.stack ≡ false) is e)
    where
      by_stack : (ts : List Tag) → f.stack ≡ ts → enters_untagged ops.Monitorenter ts ≡ false → (t : Tag) × (rest : List Tag) × (f.stack ≡ t ∷ rest) × ((tags_by_op pc row op f.stack f).held ≡ t ∷ f.held)
      by_stack [] q z = absurd (let bad : true ≡ false = z in cc)
      by_stack (t ∷ ts) q z = (t, ts, q, ap (λ o. (tags_by_op pc row o f.stack f).held) is ∙ ap (λ s. (tags_by_op pc row ops.Monitorenter s f).held) q)

  goes_next : (op : Op) (next pc : ℕ) → op ≡ ops.Monitorenter → next ≡ pc → has_number (branches_to op ++ (if falls_through op then next ∷ [] else [])) pc ≡ true
  goes_next op next pc is p = subst (λ o. has_number (branches_to o ++ (if falls_through o then next ∷ [] else [])) pc ≡ true) (sym is) (let same : (next == pc) ≡ true = grind (arith, nat_tests, p) in rw same refl)

  -- the tags of the `monitorenter`, the tag that it took, and the edge
  pub record Took (f : Frame) (k : Standing c f) (g : TagShape) (insn : Insn) (target : Target) : Type 0 where
    pub taken_tag : Tag
    pub others : List Tag
    pub stack : g.stack ≡ taken_tag ∷ others
    pub held : k.tags.held ≡ taken_tag ∷ g.held
    pub edge : has_number (edges insn) k.insn.pc ≡ true
    pub brings : (tags_after insn (row_of c.program k.method insn target) g).held ≡ k.tags.held

  pub took : (f : Frame) (k : Standing c f) (e : Entered c f k) (target : Target) (g : TagShape) → IsAt c.program (tags_of c) f.method e.at k.method e.insn target g → Took f k g e.insn target
  took f k e target g at =
      let standing : IsTagSound k.method e.insn (row_of c.program k.method e.insn target) k.at.frames g = (of_standing c marked f k).sound.sound e.at e.insn target g e.there at.names (subst (λ fs. slice_get fs e.at ≡ Some (Some g)) (same_some (sym at.of_method ∙ k.at.of_method)) at.frame) in
      let t = taken e.insn.pc (row_of c.program k.method e.insn target) e.insn.op g e.enters standing.enters in
      let edge : has_number (edges e.insn) k.insn.pc ≡ true = goes_next e.insn.op e.insn.next k.insn.pc e.enters (e.next ∙ sym k.pc_is) in
      let brings = held_law c.program (tags_of c) f.method e.at k.number k.method e.insn k.insn target k.target g k.tags (tags_after e.insn (row_of c.program k.method e.insn target) g) (are_tagged c marked) at k.at (onward k.insn edge) in
      record { taken_tag = t.0; others = t.1; stack = t.2; held = sym brings ∙ t.3; edge = edge; brings = brings }
