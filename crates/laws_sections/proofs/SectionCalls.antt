-- The frames of a section along calls: a section begins, a method is invoked or returns, and none is called twice.
use Rattle.std.proofs.Common.{◌≡◌, ℕ, ◌<◌, Bool, true, false, List, [], ◌∷◌, length, Some, refl, sym, ap, ◌∙◌, subst, arith, ⊎_elim, ◌↔◌, slice_get, slice_index, slice_index_or}
use Rattle.jvm_types.specs.declared.{code.{Insn.Insn, Op.Op}, program.{MethodInfo.MethodInfo, Program.Program, Target.Target}}
use Rattle.checked_program.specs.{LockTags.TagShape, SectionLaws.{Part, IsSectionPart, AreParts, IsExit, HasNone, ApartLaw}, Sections.{Section, BeginsAt}, TaggedCode.{Tagged, IsAt, onward, row_of}}
use Rattle.checked_program.specs.Marks.{Callee, callee, Calls, Invokes, CallsThrough, CallsItself, recurring, called_method, args_of, receiver_tag, is_own_object, mode_if, called_mode}
use Rattle.checked_program.specs.{Tagging.{tags_after, tags_by_op}, declared.{section.Mode.{Mode, TheVariants.{OnThis, OffThis, OnClass}}, tag.Tag.{Tag, TheVariants.{Untagged, This}}}}
use Rattle.laws_sections.{specs.FrameLaws.{BeginLaw, IsReceiver, mode_of_call, InvokeLaw, ModeLaw, ReturnLaw, ResumeLaw}, proofs.MarkedReads.{own_object, on_receiver, part_called}}
use Rattle.laws_sections.proofs.SectionMoves.{move_law}
use Rattle.jvm_types.specs.declared.code.Op.TheVariants as ops
use Rattle.jvm_types.specs.declared.program.Target.TheVariants as targets

-- ---- a block begins

pub begin_law : BeginLaw
begin_law p tags mi i j m insn other target next f g top below from to enters stack goes held =
    let begins : BeginsAt p tags mi insn.pc i f = record { m = m; insn = insn; target = target; at = from; pc_is = refl; enters = enters } in
    let more : length f.held < length (tags_after insn (row_of p m insn target) f).held =
    subst (λ op. length f.held < length (tags_by_op insn.pc (row_of p m insn target) op f.stack f).held) (sym enters)
    (subst (λ ts. length f.held < length (tags_by_op insn.pc (row_of p m insn target) ops.Monitorenter ts f).held) (sym stack) (omega arith)) in
    let deep : length f.held < length g.held = subst (λ ts. length f.held < length ts) held more in
    record {
      enter = i;
      f = f;
      begins = begins;
      first = j;
      edge = record { m = m; insn = insn; target = target; f = f; from = from; other = other; next = next; g = g; to = to; h = tags_after insn (row_of p m insn target) f; goes = onward other goes };
      over = [];
      stays = (refl, record { m = m; insn = other; target = next; f = g; at = to; deep = deep });
    }

-- ---- a method is invoked, or returns

own_mode : (t : Bool) → mode_if t ≡ OnThis → t ≡ true
own_mode true e = refl
own_mode false e = absurd (cc)

-- only a method that is called on this calls one so, on `this`
called_on_this : (mode : Mode) (t : Tag) → called_mode mode t ≡ OnThis → (mode ≡ OnThis) × (t ≡ This)
called_on_this OnThis t e = own_object OnThis t (own_mode (is_own_object OnThis t) e)
called_on_this OffThis t e = absurd (let bad : OffThis ≡ OnThis = e in cc)
called_on_this (OnClass class) t e = absurd (let bad : OnClass class ≡ OnThis = e in cc)

-- a receiver that is known to be `this` is the value below the arguments
is_receiver : (p : Program) (op : Op) (target : Target) (u receiver : ℕ) (tags : List Tag) (stack : List ℕ) → called_method op target ≡ Some u → IsReceiver p op u stack receiver → receiver_tag p op target tags ≡ This
    → (receiver ≡ slice_index stack (args_of (slice_get p.methods u))) × (slice_index_or tags (args_of (slice_get p.methods u)) Untagged ≡ This)
is_receiver p (ops.Invokevirtual i) (targets.Method v) u receiver tags stack c is e = let same : v ≡ u = cc in (is, subst (λ x. slice_index_or tags (args_of (slice_get p.methods x)) Untagged ≡ This) same e)
is_receiver p (ops.Invokespecial i) (targets.Method v) u receiver tags stack c is e = let same : v ≡ u = cc in (is, subst (λ x. slice_index_or tags (args_of (slice_get p.methods x)) Untagged ≡ This) same e)
is_receiver p op target u receiver tags stack c is e = absurd (let bad : Untagged ≡ This = e in cc)

pub invoke_law : InvokeLaw
invoke_law p tags s o a b parts mode m insn target f stack below at this call is = (mode, below, record { m = m; insn = insn; target = target; f = f; at = at; called = call; mode_is = refl }, receives)
  where
    receives : mode_of_call p mode insn.op target f.stack ≡ OnThis → a.receiver ≡ o
    receives e =
        let own = called_on_this mode (receiver_tag p insn.op target f.stack) e in
        let from = is_receiver p insn.op target a.method a.receiver f.stack stack call is own.1 in
        from.0 ∙ this (args_of (slice_get p.methods a.method)) from.1 ∙ on_receiver p tags s o b parts mode below own.0

-- how a frame is run follows from how the one below is
called_on_class : (class : ℕ) (mode : Mode) (t : Tag) → (called_mode mode t ≡ OnClass class) ↔ (mode ≡ OnClass class)
called_on_class class OnThis t =
    ((λ e. absurd (elim (is_own_object OnThis t) as (λ own. mode_if own ≡ OnClass class → ⊥) [ true ↦ λ e. cc | false ↦ λ e. cc ] e)), λ e. absurd (let bad : OnThis ≡ OnClass class = e in cc))
called_on_class class OffThis t = ((λ e. absurd (let bad : OffThis ≡ OnClass class = e in cc)), λ e. absurd (let bad : OffThis ≡ OnClass class = e in cc))
called_on_class class (OnClass c) t = ((λ e. e), λ e. e)

pub mode_law : ModeLaw
mode_law p tags s o [] mode all = absurd all
mode_law p tags s o (a ∷ []) mode all =
    let last : IsSectionPart p tags s o a mode = all in
    ((λ e. sym last.mode_is ∙ e), λ class. ((λ e. sym last.mode_is ∙ e), λ e. last.mode_is ∙ e))
mode_law p tags s o (a ∷ b ∷ parts) mode all =
    let below = mode_law p tags s o (b ∷ parts) all.0 all.1 in
    let call : Calls p tags (callee b.method all.0) b.at (callee a.method mode) = all.2 in
    let tag : Tag = receiver_tag p call.insn.op call.target call.f.stack in (
      λ e. below.0 (called_on_this all.0 tag (sym call.mode_is ∙ e)).0,
      λ class. (
        λ e. (below.1 class).0 ((called_on_class class all.0 tag).0 (sym call.mode_is ∙ e)),
        λ e. call.mode_is ∙ (called_on_class class all.0 tag).1 ((below.1 class).1 e),
      ),
    )

pub return_law : ReturnLaw
return_law p tags s o a b parts mode all = (all.0, all.1)

-- an instruction that calls a method leaves no monitor
pub no_exit : (op : Op) (target : Target) (u : ℕ) → called_method op target ≡ Some u → op ≡ ops.Monitorexit → ⊥
no_exit op target u c e = let bad : called_method ops.Monitorexit target ≡ Some u = subst (λ x. called_method x target ≡ Some u) e c in cc

one_insn : (p : Program) (tags : Tagged) (mi i : ℕ) (m n : MethodInfo) (insn other : Insn) (target next : Target) (f g : TagShape) → IsAt p tags mi i m insn target f → IsAt p tags mi i n other next g → insn ≡ other
one_insn p tags mi i m n insn other target next f g a b =
    let method : m ≡ n = (let e : Some m ≡ Some n = sym a.in_program ∙ b.in_program in cc) in
    let e : Some insn ≡ Some other = sym a.in_code ∙ ap (λ (x : MethodInfo). slice_get x.code i) method ∙ b.in_code in cc

pub resume_law : ResumeLaw
resume_law p tags s o j a b parts mode m insn other target next f g h all from to e k = (
  all.0,
  ⊎_elim (λ x. x)
      (λ (x : (parts ≡ []) × IsExit p tags s.method s.spot insn f). absurd (leaves x.1.exits))
      (move_law p tags s o j b parts all.0 m insn other target next f g h all.1 from to e k),
)
  where
    leaves : insn.op ≡ ops.Monitorexit → ⊥
    leaves x =
        let call : Calls p tags (callee b.method all.0) b.at (callee a.method mode) = all.2 in
        no_exit call.insn.op call.target a.method call.called (ap (λ (y : Insn). y.op) (one_insn p tags b.method b.at call.m m call.insn insn call.target target call.f f call.at from) ∙ x)

-- ---- no method is twice among the frames

-- a call stays one where it is forgotten how the calling method is called
loosened : (p : Program) (tags : Tagged) (t : ℕ) (mode : Mode) (i : ℕ) (b : Callee) → Calls p tags (callee t mode) i b → Calls p tags (callee t OffThis) i (callee b.method OffThis)
loosened p tags t mode i b c = record { m = c.m; insn = c.insn; target = c.target; f = c.f; at = c.at; called = c.called; mode_is = refl }

-- one call at least leads from a method to another
record Reaches (p : Program) (tags : Tagged) (t u : ℕ) : Type 0 where
  first : Callee
  calls : Invokes p tags (callee t OffThis) first
  over : List Callee
  through : CallsThrough p tags first over (callee u OffThis)

further : (p : Program) (tags : Tagged) (t : ℕ) (mode : Mode) (i v : ℕ) (was : Mode) (u : ℕ) → Calls p tags (callee t mode) i (callee v was) → Reaches p tags v u → Reaches p tags t u
further p tags t mode i v was u c r = record { first = callee v OffThis; calls = (i, loosened p tags t mode i (callee v was) c); over = r.first ∷ r.over; through = (r.calls, r.through) }

direct : (p : Program) (tags : Tagged) (t : ℕ) (mode : Mode) (i v : ℕ) (was : Mode) → Calls p tags (callee t mode) i (callee v was) → Reaches p tags t v
direct p tags t mode i v was c = record { first = callee v OffThis; calls = (i, loosened p tags t mode i (callee v was) c); over = []; through = refl }

looped : (p : Program) (tags : Tagged) (t : ℕ) → Reaches p tags t t → CallsItself p tags t
looped p tags t r = record { first = r.first; calls = r.calls; over = r.over; mode = OffThis; through = r.through }

none_below : (p : Program) (tags : Tagged) (s : Section) (o t : ℕ) → (CallsItself p tags t → ⊥) → (b : Part) (parts : List Part) (was : Mode) → AreParts p tags s o (b ∷ parts) was → Reaches p tags b.method t → HasNone t (b ∷ parts)
none_below p tags s o t no_loop b [] was h r = ((λ q. no_loop (looped p tags t (subst (λ x. Reaches p tags x t) q r))), tt)
none_below p tags s o t no_loop b (c ∷ parts) was h r =
    ((λ q. no_loop (looped p tags t (subst (λ x. Reaches p tags x t) q r))), none_below p tags s o t no_loop c parts h.0 h.1 (further p tags c.method h.0 c.at b.method was t h.2 r))

pub apart_law : ApartLaw
apart_law p tags uses s o [] mode k h = tt
apart_law p tags uses s o (a ∷ []) mode k h = (tt, tt)
apart_law p tags uses s o (a ∷ b ∷ parts) mode k h =
    let no_loop : CallsItself p tags a.method → ⊥ = λ c. k 7 (recurring refl (record { called = callee a.method mode; is_called = part_called p tags s o a b parts mode h; recurs = c })) in
    (none_below p tags s o a.method no_loop b parts h.0 h.1 (direct p tags b.method h.0 b.at a.method mode h.2), apart_law p tags uses s o (b ∷ parts) h.0 k h.1)
