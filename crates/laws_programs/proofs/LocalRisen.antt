-- In the course of the visits frames only rise, and one that has changed waits.
use Rattle.std.{proofs.Common.{◌≡◌, ℕ, zero, suc, Bool, true, false, cond, ◌&&◌, List, [], ◌∷◌, map, length, Option, Some, None, refl, ap, ◌∙◌, subst, arith, ◌==◌, slice_get}, specs.List.AllZip}
use Rattle.std.proofs.lemmas.Bool.{and_parts, Decides.nat_tests}
use Rattle.jvm_types.specs.{Types.{TypeFrame, same_type, all_pairs, same_ready, same_frame}, Verifying.{Node, frame_at, FrameFits, IsFrameBelow}, declared.{code.Insn.Insn, typing.VType.VType}}
use Rattle.jvm_types.{specs.declared.typing.VType.TheVariants.{Int, Null, Ref, This, New, Top}, proofs.FrameOrder.{types_self, types_trans}}

-- ---- frames

pub frame_self : (f : Option TypeFrame) → IsFrameBelow f f
frame_self None = tt
frame_self (Some f) = types_self f

pub frame_trans : (f g h : Option TypeFrame) → IsFrameBelow f g → IsFrameBelow g h → IsFrameBelow f h
frame_trans None g h a b = tt
frame_trans (Some f) (Some g) (Some h) a b = types_trans f g h a b
frame_trans f g h a b = absurd (assumption)

-- ---- nodes

pub record IsRisen (a b : Node) : Type 0 where
  pub frame : IsFrameBelow a.frame b.frame
  pub kept : b.waits ≡ false → (a.waits ≡ false) × (a.frame ≡ b.frame)

abbrev pub AreRisen : List Node → List Node → Type 0
AreRisen nodes mid = AllZip IsRisen nodes mid

risen_self : (a : Node) → IsRisen a a
risen_self a = record { frame = frame_self a.frame; kept = λ e. (e, refl) }

risen_trans : (a b c : Node) → IsRisen a b → IsRisen b c → IsRisen a c
risen_trans a b c h k = record {
  frame = frame_trans a.frame b.frame c.frame h.frame k.frame;
  kept = λ e. ((h.kept (k.kept e).0).0, (h.kept (k.kept e).0).1 ∙ (k.kept e).1);
}

pub all_risen_self : (nodes : List Node) → AreRisen nodes nodes
all_risen_self [] = tt
all_risen_self (a ∷ nodes) = (risen_self a, all_risen_self nodes)

pub all_risen_trans : (xs ys zs : List Node) → AreRisen xs ys → AreRisen ys zs → AreRisen xs zs
all_risen_trans [] [] zs h k = k
all_risen_trans (a ∷ xs) (b ∷ ys) (c ∷ zs) h k = (risen_trans a b c h.0 k.0, all_risen_trans xs ys zs h.1 k.1)
all_risen_trans xs ys zs h k = absurd (assumption)

pub risen_length : (xs ys : List Node) → AreRisen xs ys → length xs ≡ length ys
risen_length [] [] h = refl
risen_length (a ∷ xs) (b ∷ ys) h = ap suc (risen_length xs ys h.1)
risen_length xs ys h = absurd h

pub risen_at : (xs ys : List Node) (i : ℕ) (b : Node) → AreRisen xs ys → slice_get ys i ≡ Some b → (a : Node) × (slice_get xs i ≡ Some a) × IsRisen a b
risen_at [] [] i b h e = absurd (cc)
risen_at [] (y ∷ ys) i b h e = absurd h
risen_at (x ∷ xs) [] i b h e = absurd h
risen_at (x ∷ xs) (y ∷ ys) zero b h e = (x, refl, subst (λ (z : Node). IsRisen x z) (cc) h.0)
risen_at (x ∷ xs) (y ∷ ys) (suc i) b h e = risen_at xs ys i b h.1 e

-- ---- the frames at their pcs

abbrev pub frames_of : List Node → List (Option TypeFrame)
frames_of nodes = map (λ node. node.frame) nodes

frame_at_risen : (code : List Insn) (xs ys : List Node) (pc : ℕ) → AreRisen xs ys → IsFrameBelow (frame_at code (frames_of xs) pc) (frame_at code (frames_of ys) pc)
frame_at_risen (insn ∷ code) (a ∷ xs) [] pc h = absurd h
frame_at_risen (insn ∷ code) (a ∷ xs) (b ∷ ys) pc h =
    elim (insn.pc == pc) as (λ t. IsFrameBelow (cond t a.frame (frame_at code (frames_of xs) pc)) (cond t b.frame (frame_at code (frames_of ys) pc))) [
      | true ↦ h.0.frame
      | false ↦ frame_at_risen code xs ys pc h.1
    ]
frame_at_risen code xs ys pc h = tt

-- what fits goes on to fit
pub fits_risen : (code : List Insn) (xs ys : List Node) (f : TypeFrame) (to : ℕ) → AreRisen xs ys → FrameFits code (frames_of xs) f to → FrameFits code (frames_of ys) f to
fits_risen code xs ys f to h k = frame_trans (Some f) (frame_at code (frames_of xs) to) (frame_at code (frames_of ys) to) k (frame_at_risen code xs ys to h)

-- ---- equal frames

pub same_types : (t u : VType) → same_type t u ≡ true → t ≡ u
same_types Int Int e = refl
same_types Null Null e = refl
same_types (Ref c) (Ref d) e = let same : c ≡ d = grind (arith, nat_tests, e) in ap Ref same
same_types This This e = refl
same_types (New p) (New q) e = let same : p ≡ q = grind (arith, nat_tests, e) in ap New same
same_types Top Top e = refl
same_types t u e = absurd (cc)

pub same_lists : (ts us : List VType) → all_pairs same_type ts us ≡ true → ts ≡ us
same_lists [] [] e = refl
same_lists (t ∷ ts) (u ∷ us) e =
    let parts = and_parts (same_type t u) (all_pairs same_type ts us) e in
    let one : t ≡ u = same_types t u parts.0 in
    let more : ts ≡ us = same_lists ts us parts.1 in
    cc
same_lists ts us e = absurd (cc)

same_answers : (a b : Bool) → same_ready a b ≡ true → a ≡ b
same_answers true false e = absurd (cc)
same_answers false true e = absurd (cc)
same_answers a b e = refl

pub same_frames : (f g : TypeFrame) → same_frame f g ≡ true → f ≡ g
same_frames f g e =
    let outer = and_parts (all_pairs same_type f.stack g.stack && all_pairs same_type f.locals g.locals) (same_ready f.ready g.ready) e in
    let inner = and_parts (all_pairs same_type f.stack g.stack) (all_pairs same_type f.locals g.locals) outer.0 in
    λ i. record { stack = same_lists f.stack g.stack inner.0 i; locals = same_lists f.locals g.locals inner.1 i; ready = same_answers f.ready g.ready outer.1 i }
