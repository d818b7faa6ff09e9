-- The frames of a section as its top one moves: own instructions along edges, invocations and returns.
use Rattle.std.proofs.{Common.{◌≡◌, ℕ, suc, ◌<◌, ◌≤◌, List, [], ◌∷◌, length, drop, Some, refl, sym, ap, ◌∙◌, subst, arith, ⊎_elim, inl, inr, ◌⊎◌, slice_get}, lemmas.Bool.cases_lt}
use Rattle.jvm_types.specs.declared.{code.{Insn.Insn, Op.Op}, op_row.OpRow.OpRow, program.{MethodInfo.MethodInfo, Program.Program, Target.Target}}
use Rattle.checked_program.specs.{LockTags.TagShape, SectionLaws.{IsSectionPart, IsExit, OwnLaw, MoveLaw}, Sections.{IsDeep, StaysDeep, IsInBlock, IsOwn}, Tagging.tags_by_op, declared.tag.Tag.Tag}
use Rattle.checked_program.specs.{TaggedCode.{Tagged, IsAt, Goes, onward, caught, IsReachedEdge, row_of}, declared.{section.Spot.TheVariants.{Method, Block}, tag.Tag.TheVariants.Untagged}}
use Rattle.jvm_types.specs.declared.code.Op.TheVariants as ops
use Rattle.jvm_types.specs.declared.stack_move.StackMove.TheVariants as moves

-- ---- held lists along edges

held_after : (pc : ℕ) (r : OpRow) (op : Op) (ts : List Tag) (f : TagShape) → (op ≡ ops.Monitorexit) ⊎ (length f.held ≤ length (tags_by_op pc r op ts f).held)
held_after pc r ops.Monitorexit ts f = inl refl
held_after pc r ops.Monitorenter (t ∷ ts) f = inr (omega arith)
held_after pc r (ops.Stack moves.Dup) (Untagged ∷ ts) f = inr (omega arith)
held_after pc r op ts f = inr (omega arith)

exit_after : (pc : ℕ) (r : OpRow) (ts : List Tag) (f : TagShape) → length f.held ≤ suc (length (tags_by_op pc r ops.Monitorexit ts f).held)
exit_after pc r ts f = elim f.held as (λ held. length held ≤ suc (length (drop 1 held))) [ [] ↦ omega arith | t ∷ ts ↦ omega arith ]

-- the held list that an edge brings
held_along : (p : Program) (m : MethodInfo) (insn : Insn) (target : Target) (f : TagShape) (other : Insn) (h : TagShape) → Goes p m insn target f other h
    → (length f.held ≤ length h.held) ⊎ ((insn.op ≡ ops.Monitorexit) × (length f.held ≤ suc (length h.held)))
held_along p m insn target f other h (caught o e) = inl (omega arith)
held_along p m insn target f other h (onward o e) = ⊎_elim
    (λ (x : insn.op ≡ ops.Monitorexit). inr (x, subst (λ op. length f.held ≤ suc (length (tags_by_op insn.pc (row_of p m insn target) op f.stack f).held)) (sym x) (exit_after insn.pc (row_of p m insn target) f.stack f)))
    (λ x. inl x)
    (held_after insn.pc (row_of p m insn target) insn.op f.stack f)

-- ---- own instructions

-- one instruction has one frame
pub one_frame : (p : Program) (tags : Tagged) (mi i : ℕ) (m n : MethodInfo) (insn other : Insn) (target next : Target) (f g : TagShape) → IsAt p tags mi i m insn target f → IsAt p tags mi i n other next g → f ≡ g
one_frame p tags mi i m n insn other target next f g a b =
    let frames : a.frames ≡ b.frames = (let e : Some a.frames ≡ Some b.frames = sym a.of_method ∙ b.of_method in cc) in
    let e : Some (Some f) ≡ Some (Some g) = sym a.frame ∙ ap (λ l. slice_get l i) frames ∙ b.frame in cc

pub last_deep : (p : Program) (tags : Tagged) (mi d i : ℕ) (over : List ℕ) (j : ℕ) → StaysDeep p tags mi d i over j → IsDeep p tags mi d j
last_deep p tags mi d i [] j s = subst (λ x. IsDeep p tags mi d x) s.0 s.1
last_deep p tags mi d i (k ∷ over) j s = last_deep p tags mi d k over j s.2

pub deep_more : (p : Program) (tags : Tagged) (mi d i : ℕ) (over : List ℕ) (j l : ℕ) → StaysDeep p tags mi d i over j → IsReachedEdge p tags mi j l → IsDeep p tags mi d l → (more : List ℕ) × StaysDeep p tags mi d i more l
deep_more p tags mi d i [] j l s e h = (l ∷ [], (s.1, subst (λ x. IsReachedEdge p tags mi x l) (sym s.0) e, (refl, h)))
deep_more p tags mi d i (k ∷ over) j l s e h = let r = deep_more p tags mi d k over j l s.2 e h in (k ∷ r.0, (s.0, s.1, r.1))

-- how deep the frame of an own instruction of a block is
pub own_deep : (p : Program) (tags : Tagged) (mi pc i : ℕ) (m : MethodInfo) (insn : Insn) (target : Target) (f : TagShape) (b : IsInBlock p tags mi pc i) → IsAt p tags mi i m insn target f → length b.f.held < length f.held
own_deep p tags mi pc i m insn target f b a =
    let last = last_deep p tags mi (length b.f.held) b.first b.over i b.stays in
    subst (λ z. length b.f.held < length z.held) (one_frame p tags mi i last.m m last.insn insn last.target target last.f f last.at a) last.deep

-- an edge that stays deep leads to an own instruction
pub own_more : (p : Program) (tags : Tagged) (mi pc i j : ℕ) (b : IsInBlock p tags mi pc i) → IsReachedEdge p tags mi i j → IsDeep p tags mi (length b.f.held) j → IsInBlock p tags mi pc j
own_more p tags mi pc i j b e deep =
    let more = deep_more p tags mi (length b.f.held) b.first b.over i j b.stays e deep in
    record { enter = b.enter; f = b.f; begins = b.begins; first = b.first; edge = b.edge; over = more.0; stays = more.1 }

pub own_law : OwnLaw
own_law p tags mi i j Method m insn other target next f g h own a b e k = inl (record { m = m; insn = other; target = next; f = g; at = b })
own_law p tags mi i j (Block pc) m insn other target next f g h own a b e k = ⊎_elim
    (λ (l : length f.held ≤ length h.held). inl (inside (omega (arith, l, deep, same))))
    (λ x. ⊎_elim
    (λ (l : length own.f.held < length g.held). inl (inside l))
    (λ (l : length g.held ≤ length own.f.held). let le : length f.held ≤ suc (length h.held) = x.1 in inr (exit x.0 (omega (arith, le, l, deep, same))))
    (cases_lt (length own.f.held) (length g.held)))
    (held_along p m insn target f other h e)
  where
    same : length h.held ≡ length g.held
    same = ap (λ z. length z) k

    deep : length own.f.held < length f.held
    deep = own_deep p tags mi pc i m insn target f own a

    inside : length own.f.held < length g.held → IsInBlock p tags mi pc j
    inside l = own_more p tags mi pc i j own (record { m = m; insn = insn; target = target; f = f; from = a; other = other; next = next; g = g; to = b; h = h; goes = e }) (record { m = m; insn = other; target = next; f = g; at = b; deep = l })

    exit : insn.op ≡ ops.Monitorexit → length f.held ≡ suc (length own.f.held) → IsExit p tags mi (Block pc) insn f
    exit x last = record { exits = x; depth = length own.f.held; of_entry = (own.enter, own.f, own.begins, refl); last = last }

-- ---- the frames of a section

pub move_law : MoveLaw
move_law p tags s o j a [] mode m insn other target next f g h parts from to e k =
    let last : IsSectionPart p tags s o a mode = parts in
    ⊎_elim
    (λ (own : IsOwn p tags s.method s.spot j). inl (moved last own))
    (λ (x : IsExit p tags s.method s.spot insn f). inr (refl, x))
    (own_law p tags s.method a.at j s.spot m insn other target next f g h last.own (subst (λ mi. IsAt p tags mi a.at m insn target f) last.method from) (subst (λ mi. IsAt p tags mi j m other next g) last.method to) e k)
  where
    moved : IsSectionPart p tags s o a mode → IsOwn p tags s.method s.spot j → IsSectionPart p tags s o (record a { at = j }) mode
    moved last own = record { method = last.method; receiver = last.receiver; own = own; mode_is = last.mode_is }
move_law p tags s o j a (b ∷ parts) mode m insn other target next f g h all from to e k = inl (all.0, all.1, all.2, all.3)
