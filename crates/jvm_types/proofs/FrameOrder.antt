-- The order of frames: it is one, and where two are of one depth their meet is the least that both are below.
use Rattle.std.proofs.{Common.{◌≡◌, suc, Bool, true, false, List, [], ◌∷◌, length, refl, ap, arith, ◌||◌, ◌&&◌, not}, Math.Bool.or-not_self, lemmas.Bool.and_parts}
use Rattle.lists.proofs.TestLaws.{both_true}
use Rattle.jvm_types.specs.{Types.{TypeFrame, is_below, meet, all_pairs, meets, frame_below, meet_frames}, declared.typing.VType.VType}
use Rattle.jvm_types.proofs.TypeOrder.{below_self, below_trans, meet_left, meet_right, meet_least}

-- ---- places

pub pairs_self : (ts : List VType) → all_pairs is_below ts ts ≡ true
pairs_self [] = refl
pairs_self (t ∷ ts) = both_true (is_below t t) (all_pairs is_below ts ts) (below_self t) (pairs_self ts)

pub pairs_length : (ts us : List VType) → all_pairs is_below ts us ≡ true → length ts ≡ length us
pairs_length [] [] h = refl
pairs_length [] (u ∷ us) h = absurd (cc)
pairs_length (t ∷ ts) [] h = absurd (cc)
pairs_length (t ∷ ts) (u ∷ us) h = ap suc (pairs_length ts us (and_parts (is_below t u) (all_pairs is_below ts us) h).1)

pub pairs_trans : (ts us vs : List VType) → all_pairs is_below ts us ≡ true → all_pairs is_below us vs ≡ true → all_pairs is_below ts vs ≡ true
pairs_trans [] [] [] h k = refl
pairs_trans [] [] (v ∷ vs) h k = k
pairs_trans [] (u ∷ us) vs h k = absurd (cc)
pairs_trans (t ∷ ts) [] vs h k = absurd (cc)
pairs_trans (t ∷ ts) (u ∷ us) [] h k = absurd (cc)
pairs_trans (t ∷ ts) (u ∷ us) (v ∷ vs) h k = both_true (is_below t v) (all_pairs is_below ts vs)
    (below_trans t u v (and_parts (is_below t u) (all_pairs is_below ts us) h).0 (and_parts (is_below u v) (all_pairs is_below us vs) k).0)
    (pairs_trans ts us vs (and_parts (is_below t u) (all_pairs is_below ts us) h).1 (and_parts (is_below u v) (all_pairs is_below us vs) k).1)

pub meets_left : (ts us : List VType) → length ts ≡ length us → all_pairs is_below ts (meets ts us) ≡ true
meets_left [] us e = refl
meets_left (t ∷ ts) [] e = absurd (omega (arith, e))
meets_left (t ∷ ts) (u ∷ us) e = both_true (is_below t (meet t u)) (all_pairs is_below ts (meets ts us)) (meet_left t u) (meets_left ts us (omega (arith, e)))

pub meets_right : (ts us : List VType) → length ts ≡ length us → all_pairs is_below us (meets ts us) ≡ true
meets_right [] [] e = refl
meets_right [] (u ∷ us) e = absurd (omega (arith, e))
meets_right (t ∷ ts) [] e = absurd (omega (arith, e))
meets_right (t ∷ ts) (u ∷ us) e = both_true (is_below u (meet t u)) (all_pairs is_below us (meets ts us)) (meet_right t u) (meets_right ts us (omega (arith, e)))

pub meets_least : (ts us vs : List VType) → all_pairs is_below ts vs ≡ true → all_pairs is_below us vs ≡ true → all_pairs is_below (meets ts us) vs ≡ true
meets_least [] us [] h k = refl
meets_least [] us (v ∷ vs) h k = absurd (cc)
meets_least (t ∷ ts) us [] h k = absurd (cc)
meets_least (t ∷ ts) [] (v ∷ vs) h k = absurd (cc)
meets_least (t ∷ ts) (u ∷ us) (v ∷ vs) h k = both_true (is_below (meet t u) v) (all_pairs is_below (meets ts us) vs)
    (meet_least t u v (and_parts (is_below t v) (all_pairs is_below ts vs) h).0 (and_parts (is_below u v) (all_pairs is_below us vs) k).0)
    (meets_least ts us vs (and_parts (is_below t v) (all_pairs is_below ts vs) h).1 (and_parts (is_below u v) (all_pairs is_below us vs) k).1)

-- ---- whether `this` is initialised

pub ready_trans : (a b c : Bool) → (a || not b) ≡ true → (b || not c) ≡ true → (a || not c) ≡ true
ready_trans true b c h k = refl
ready_trans false true c h k = absurd (cc)
ready_trans false false c h k = k

pub ready_left : (a b : Bool) → (a || not (a && b)) ≡ true
ready_left true b = refl
ready_left false b = refl

pub ready_right : (a b : Bool) → (b || not (a && b)) ≡ true
ready_right true b = or-not_self b
ready_right false true = refl
ready_right false false = refl

ready_least : (a b c : Bool) → (a || not c) ≡ true → (b || not c) ≡ true → ((a && b) || not c) ≡ true
ready_least true b c h k = k
ready_least false b c h k = h

-- ---- frames

-- a frame is below another by its three parts
pub parts_below : (f g : TypeFrame) → all_pairs is_below f.stack g.stack ≡ true → all_pairs is_below f.locals g.locals ≡ true → (f.ready || not g.ready) ≡ true → frame_below f g ≡ true
parts_below f g s l r = both_true (all_pairs is_below f.stack g.stack && all_pairs is_below f.locals g.locals) (f.ready || not g.ready)
    (both_true (all_pairs is_below f.stack g.stack) (all_pairs is_below f.locals g.locals) s l) r

pub stack_below : (f g : TypeFrame) → frame_below f g ≡ true → all_pairs is_below f.stack g.stack ≡ true
stack_below f g h = (and_parts (all_pairs is_below f.stack g.stack) (all_pairs is_below f.locals g.locals) (and_parts (all_pairs is_below f.stack g.stack && all_pairs is_below f.locals g.locals) (f.ready || not g.ready) h).0).0

pub locals_below : (f g : TypeFrame) → frame_below f g ≡ true → all_pairs is_below f.locals g.locals ≡ true
locals_below f g h = (and_parts (all_pairs is_below f.stack g.stack) (all_pairs is_below f.locals g.locals) (and_parts (all_pairs is_below f.stack g.stack && all_pairs is_below f.locals g.locals) (f.ready || not g.ready) h).0).1

pub ready_below : (f g : TypeFrame) → frame_below f g ≡ true → (f.ready || not g.ready) ≡ true
ready_below f g h = (and_parts (all_pairs is_below f.stack g.stack && all_pairs is_below f.locals g.locals) (f.ready || not g.ready) h).1

pub types_self : (f : TypeFrame) → frame_below f f ≡ true
types_self f = parts_below f f (pairs_self f.stack) (pairs_self f.locals) (or-not_self f.ready)

pub types_trans : (f g h : TypeFrame) → frame_below f g ≡ true → frame_below g h ≡ true → frame_below f h ≡ true
types_trans f g h a b = parts_below f h (pairs_trans f.stack g.stack h.stack (stack_below f g a) (stack_below g h b))
    (pairs_trans f.locals g.locals h.locals (locals_below f g a) (locals_below g h b)) (ready_trans f.ready g.ready h.ready (ready_below f g a) (ready_below g h b))

pub types_meet_left : (f g : TypeFrame) → length f.stack ≡ length g.stack → length f.locals ≡ length g.locals → frame_below f (meet_frames f g) ≡ true
types_meet_left f g s l = parts_below f (meet_frames f g) (meets_left f.stack g.stack s) (meets_left f.locals g.locals l) (ready_left f.ready g.ready)

pub types_meet_right : (f g : TypeFrame) → length f.stack ≡ length g.stack → length f.locals ≡ length g.locals → frame_below g (meet_frames f g) ≡ true
types_meet_right f g s l = parts_below g (meet_frames f g) (meets_right f.stack g.stack s) (meets_right f.locals g.locals l) (ready_right f.ready g.ready)

pub types_meet_least : (f g h : TypeFrame) → frame_below f h ≡ true → frame_below g h ≡ true → frame_below (meet_frames f g) h ≡ true
types_meet_least f g h a b = parts_below (meet_frames f g) h (meets_least f.stack g.stack h.stack (stack_below f h a) (stack_below g h b))
    (meets_least f.locals g.locals h.locals (locals_below f h a) (locals_below g h b)) (ready_least f.ready g.ready h.ready (ready_below f h a) (ready_below g h b))
