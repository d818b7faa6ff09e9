-- Ranks of frames of tags: a place counts one, and one more where it has a tag. So a frame that meets another and changes
-- goes down, and no instruction lifts one by much.
use Rattle.std.proofs.Common.{◌≡◌, ℕ, zero, suc, ◌+◌, ◌*◌, ◌<◌, ◌≤◌, Bool, true, false, List, [], ◌∷◌, ◌++◌, length, map, drop, Option, Some, None, refl, ap, arith, ◌&&◌, if◌then◌else◌, slice_get, slice_set}
use Rattle.std.{specs.List.AllByRecursion, proofs.lemmas.Bool.cond_both}
use Rattle.jvm_types.specs.{CodeTable.{row, value_of, locals_after}, Verifying.edges, declared.{code.{Insn.Insn, Op.Op}, op_row.{Given.Given, OpRow.OpRow}, program.{MethodInfo.MethodInfo, Row.Row}}}
use Rattle.jvm_types.{specs.declared.{program.{Program.Program, Target.Target}, refusal.SRule.{SRule, TheVariants.{S1, S2, S3, S4}}}, proofs.EachAfter.all_append}
use Rattle.checked_program.specs.{LockTags.{TagShape, same_tag, same_tags, meet_tags, without}, Visits.{Act, Bring}, declared.tag.Tag.{Tag, TheVariants.{Untagged, At}}}
use Rattle.checked_program.specs.Tagging.{moved_tags, tags_by_op, tags_after, tags_at_handler, catchers, enters_untagged, exits_other, leaves_held, tag_meeting, break_if, acts_at, tag_plan}
use Rattle.laws_sections.proofs.{RowGives.few_given, TagOrder.{own_tag, own_tags, one_frame}, VisitsEnd.{BringsUpTo, Ranks}}
use Rattle.jvm_types.specs.declared.code.Op.TheVariants as ops
use Rattle.jvm_types.specs.declared.stack_move.StackMove.TheVariants as moves

-- ---- ranks

abbrev tag_rank : Tag → ℕ
tag_rank Untagged = 1
tag_rank t = 2

abbrev tags_rank : List Tag → ℕ
tags_rank [] = 0
tags_rank (t ∷ ts) = tag_rank t + tags_rank ts

abbrev frame_rank : TagShape → ℕ
frame_rank f = tags_rank f.stack + tags_rank f.locals

rank_some : (t : Tag) → 1 ≤ tag_rank t
rank_some Untagged = omega arith
rank_some t = omega arith

rank_small : (t : Tag) → tag_rank t ≤ 2
rank_small Untagged = omega arith
rank_small t = omega arith

-- ---- where two meet

-- a rank that falls where a test fails
abbrev Falls : Bool → ℕ → ℕ → Type 0
Falls true new old = new ≤ old
Falls false new old = new < old

fall_both : (a b : Bool) (m n r s : ℕ) → Falls a m r → Falls b n s → Falls (a && b) (m + n) (r + s)
fall_both true true m n r s h k = omega (arith, h, k)
fall_both false false m n r s h k = omega (arith, h, k)
fall_both a b m n r s h k = omega (arith, h, k)

lost_falls : (t : Tag) → Falls (same_tag t Untagged) 1 (tag_rank t)
lost_falls Untagged = omega arith
lost_falls t = omega arith

kept_falls : (t : Tag) (b : Bool) → b ≡ true → Falls b (tag_rank t) (tag_rank t)
kept_falls t true e = omega arith
kept_falls t false e = absurd (cc)

tag_falls : (t u : Tag) (b : Bool) → Falls (same_tag t (if b then t else Untagged)) (tag_rank (if b then t else Untagged)) (tag_rank t)
tag_falls t u true = kept_falls t (same_tag t t) (own_tag t)
tag_falls t u false = lost_falls t

tags_fall : (ts us : List Tag) → Falls (same_tags ts (meet_tags ts us)) (tags_rank (meet_tags ts us)) (tags_rank ts)
tags_fall [] us = omega arith
tags_fall (t ∷ ts) [] = omega (arith, rank_some t)
tags_fall (t ∷ ts) (u ∷ us) = fall_both (same_tag t (if same_tag t u then t else Untagged)) (same_tags ts (meet_tags ts us)) _ _ _ _ (tag_falls t u (same_tag t u)) (tags_fall ts us)

frame_falls : (g f : TagShape) → tag_meeting.same g (tag_meeting.meet g f) ≡ false → frame_rank (tag_meeting.meet g f) < frame_rank g
frame_falls g f e = by_tests (same_tags g.stack (meet_tags g.stack f.stack)) (same_tags g.locals (meet_tags g.locals f.locals)) (same_tags g.held g.held) (own_tags g.held) e (tags_fall g.stack f.stack) (tags_fall g.locals f.locals)
  where
    by_tests : (a b c : Bool) → c ≡ true → (a && (b && c)) ≡ false → Falls a (tags_rank (meet_tags g.stack f.stack)) (tags_rank g.stack) → Falls b (tags_rank (meet_tags g.locals f.locals)) (tags_rank g.locals)
        → frame_rank (tag_meeting.meet g f) < frame_rank g
    by_tests a b false c e h k = absurd (cc)
    by_tests true true true c e h k = absurd (cc)
    by_tests false false true c e h k = omega (arith, h, k)
    by_tests a b c d e h k = omega (arith, h, k)

-- ---- the frame after an instruction, and at a handler

rank_append : (ts us : List Tag) → tags_rank (ts ++ us) ≡ tags_rank ts + tags_rank us
rank_append [] us = omega arith
rank_append (t ∷ ts) us = omega (arith, rank_append ts us)

rank_map : (f : Given → Tag) (gs : List Given) → tags_rank (map f gs) ≤ 2 * length gs
rank_map f [] = omega arith
rank_map f (g ∷ gs) = omega (arith, rank_small (f g), rank_map f gs)

rank_drop : (n : ℕ) (ts : List Tag) → tags_rank (drop n ts) ≤ tags_rank ts
rank_drop (suc n) (t ∷ ts) = omega (arith, rank_drop n ts)
rank_drop n ts = omega arith

rank_set : (ts : List Tag) (n : ℕ) (t : Tag) → tags_rank (slice_set ts n t) ≤ tags_rank ts + 1
rank_set [] n t = omega arith
rank_set (u ∷ ts) zero t = omega (arith, rank_small t, rank_some u)
rank_set (u ∷ ts) (suc n) t = omega (arith, rank_set ts n t)

rank_without : (pc : ℕ) (ts : List Tag) → tags_rank (without pc ts) ≤ tags_rank ts
rank_without pc [] = omega arith
rank_without pc (t ∷ ts) = cond_both (same_tag t (At pc)) Untagged t (λ u. tag_rank u + tags_rank (without pc ts) ≤ tag_rank t + tags_rank ts)
    (λ e. omega (arith, rank_some t, rank_without pc ts)) (λ e. omega (arith, rank_without pc ts))

rank_locals : (write : Option (ℕ × Given)) (stack locals : List Tag) → tags_rank (locals_after Untagged (λ type. Untagged) write stack locals) ≤ tags_rank locals + 1
rank_locals None stack locals = omega arith
rank_locals (Some write) stack locals = rank_set locals write.0 (value_of Untagged (λ type. Untagged) stack locals write.1)

rank_moved : (r : OpRow) (f : TagShape) → length r.gives ≤ 6 → frame_rank (moved_tags r f) ≤ frame_rank f + 13
rank_moved r f h = omega (
  arith,
  h,
  rank_append (map (value_of Untagged (λ type. Untagged) f.stack f.locals) r.gives) (drop (length r.takes) f.stack),
  rank_map (value_of Untagged (λ type. Untagged) f.stack f.locals) r.gives,
  rank_drop (length r.takes) f.stack,
  rank_locals r.writes f.stack f.locals,
)

rank_by_op : (pc : ℕ) (r : OpRow) (op : Op) (ts : List Tag) (f : TagShape) → ts ≡ f.stack → length r.gives ≤ 6 → frame_rank (tags_by_op pc r op ts f) ≤ frame_rank f + 13
rank_by_op pc r (ops.Stack moves.Dup) (Untagged ∷ ts) f e h = omega (arith, rank_without pc ts, rank_without pc f.locals, ap tags_rank e)
rank_by_op pc r ops.Monitorenter (t ∷ ts) f e h = rank_moved r f h
rank_by_op pc r ops.Monitorexit ts f e h = rank_moved r f h
rank_by_op pc r op ts f e h = rank_moved r f h

-- ---- all that an instruction does

breaks_up : (bound : ℕ) (b : Bool) (rule : SRule) (pc : ℕ) → AllByRecursion (BringsUpTo frame_rank bound) (break_if b rule pc)
breaks_up bound true rule pc = (tt, tt)
breaks_up bound false rule pc = tt

handlers_up : (f : TagShape) (rows : List Row) → AllByRecursion (BringsUpTo frame_rank (frame_rank f + 13)) (map (λ (handler : Row). Bring S3 (handler.handler ∷ []) (tags_at_handler f)) rows)
handlers_up f [] = tt
handlers_up f (handler ∷ rows) = (omega arith, handlers_up f rows)

acts_up : (p : Program) (m : MethodInfo) (o : Option Insn) (q : Option Target) (f : TagShape) → AllByRecursion (BringsUpTo frame_rank (frame_rank f + 13)) (acts_at p m o q f)
acts_up p m (Some insn) (Some target) f =
    let most : ℕ = frame_rank f + 13 in
    let enters = break_if (enters_untagged insn.op f.stack) S1 insn.pc in
    let exits = break_if (exits_other insn.op f.stack f.held) S2 insn.pc in
    let brings : List (Act TagShape SRule) = Bring S3 (edges insn) (tags_after insn (row p m insn.pc target insn.op) f) ∷ map (λ (handler : Row). Bring S3 (handler.handler ∷ []) (tags_at_handler f)) (catchers m insn) in
    let P : Act TagShape SRule → Type 0 = BringsUpTo frame_rank most in
    all_append P (enters ++ exits ++ brings) (break_if (leaves_held m insn f.held) S4 insn.pc)
    (all_append P (enters ++ exits) brings
    (all_append P enters exits (breaks_up most (enters_untagged insn.op f.stack) S1 insn.pc) (breaks_up most (exits_other insn.op f.stack f.held) S2 insn.pc))
    ((rank_by_op insn.pc (row p m insn.pc target insn.op) insn.op f.stack f refl (few_given p m insn.pc target insn.op)), handlers_up f (catchers m insn)))
    (breaks_up most (leaves_held m insn f.held) S4 insn.pc)
acts_up p m o q f = tt

pub tag_ranks : (p : Program) (m : MethodInfo) → Ranks (tag_plan p m)
tag_ranks p m = record { rank = frame_rank; gain = 13; equal = one_frame; falls = frame_falls; gains = λ i f. acts_up p m (slice_get m.code i) (slice_get m.targets i) f }
