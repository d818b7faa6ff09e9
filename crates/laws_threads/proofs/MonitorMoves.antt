-- A `monitorenter` shows its monitor innermost, and a `monitorexit` leaves the innermost one.
use Rattle.std.{proofs.Common.{◌≡◌, ℕ, zero, suc, true, false, List, [], ◌∷◌, ◌++◌, map, drop, Some, inr, refl, sym, ap, ◌∙◌, subst, arith, ◌≢◌, slice_get}, specs.List.Contains}
use Rattle.lists.proofs.{ListLaws.same_some, TestLaws.is_true}
use Rattle.jvm_types.specs.{CodeTable.{stack_after, locals_after}, Numbers.has_number, Verifying.edges, declared.{code.Op.Op, op_row.OpRow.OpRow, program.MethodInfo.MethodInfo}}
use Rattle.checked_program.specs.{LockTags.{TagShape, same_tag, IsShapeBelow}, MarkedProgram.{MarkedProgram, IsMarked}, Tagging.{moved_tags, tags_by_op, enters_untagged, exits_other}, Visits.EdgeFits}
use Rattle.checked_program.specs.declared.tag.Tag.{Tag, TheVariants.{This, At}}
use Rattle.laws_sections.proofs.TagOrder.{one_tag}
use Rattle.machine_types.specs.{Frames.{Top, effect_at, frame_on, went_on}, Shown.{tag_value, HaveValues, own_entry, Shows, Show}, Standing.{Standing, Whole}, Structure.{IsBehindEntry, TopEnters}}
use Rattle.machine_types.{specs.{Threads.Frame, declared.effect.Effect.TheVariants.{Enters, Leaves}}, proofs.EffectCases.next_edge}
use Rattle.laws_threads.{specs.MoveLaws.{EntersShow, LeavesShow}, proofs.{EffectsOfInsns.IsOnTop, FrameMoves.{the_row, edge_fits}, FramePlaces.{sound_at, Lands}}}
use Rattle.laws_threads.proofs.{ShownFrames.{landed, whole_landed, by_top, fits_at}, TagValues.{row_stack, row_locals}}
use Rattle.jvm_types.specs.declared.code.Op.TheVariants as ops
use Rattle.laws_threads.proofs.EffectsOfInsns as effects

pub contains_got : {X : Type 0} (xs : List X) (i : ℕ) (x : X) → slice_get xs i ≡ Some x → Contains xs x
contains_got [] i x e = absurd (cc)
contains_got (y ∷ xs) zero x e = (0, omega arith, same_some e)
contains_got (y ∷ xs) (suc i) x e = let l = contains_got xs i x e in (suc l.0, (let low = l.1 in omega (arith, low)), l.2)

module _ (c : MarkedProgram) (is : IsMarked c) (f : Frame) (own : List ℕ) (top : Shows c Whole f own) where
  abbrev k : Standing c f
  k = top.stands

  abbrev r : OpRow
  r = the_row c is f top.stands

  -- the tags behind the instruction, with another held list
  abbrev behind : List Tag → TagShape
  behind held = record (moved_tags r k.tags) { held = held }

  abbrev next_frame : Frame
  next_frame = frame_on r k.insn.next 0 f

  edge : (op : Op) → k.insn.op ≡ op → edges (record { pc = k.insn.pc; next = k.insn.next; op = op }) ≡ k.insn.next ∷ [] → EdgeFits IsShapeBelow k.method.code k.at.frames (tags_by_op k.insn.pc r op k.tags.stack k.tags) k.insn.next
  edge op e h =
      subst (λ (x : Op). EdgeFits IsShapeBelow k.method.code k.at.frames (tags_by_op k.insn.pc r x k.tags.stack k.tags) k.insn.next) e
      (edge_fits c is f k k.insn.next
      (subst (λ (x : Op). has_number (edges (record { pc = k.insn.pc; next = k.insn.next; op = x })) k.insn.next ≡ true) (sym e)
      (subst (λ (tos : List ℕ). has_number tos k.insn.next ≡ true) (sym h) (next_edge k.insn.next))))

  lands_with : (held : List Tag) → EdgeFits IsShapeBelow k.method.code k.at.frames (behind held) k.insn.next → Lands c is next_frame k.method k.at.frames (behind held)
  lands_with held fits = landed c is f k (behind held) k.insn.next (locals_after 0 (λ type. 0) r.writes f.stack f.locals) (stack_after 0 (λ type. 0) r f.stack f.locals) fits

  shows_with : (held : List Tag) → Lands c is next_frame k.method k.at.frames (behind held) → Shows c Whole next_frame (map (tag_value top.choice f.receiver) held ++ own_entry c.program k.method f)
  shows_with held l = whole_landed c is next_frame k.method k.at.frames (behind held) top.choice l
      (row_locals top.choice f.receiver 0 (λ type. 0) k.tags.stack k.tags.locals f.stack f.locals top.stack top.locals r.writes)
      (row_stack top.choice f.receiver 0 (λ type. 0) k.tags.stack k.tags.locals f.stack f.locals top.stack top.locals r)

  -- the value on top has the tag on top
  top_value : (m : ℕ) (on : IsOnTop m f.stack) (t : Tag) (ts : List Tag) → k.tags.stack ≡ t ∷ ts → HaveValues top.choice f.receiver (t ∷ ts) (m ∷ on.0)
  top_value m on t ts q = subst (λ (us : List Tag). HaveValues top.choice f.receiver us (m ∷ on.0)) q (subst (λ (vs : List ℕ). HaveValues top.choice f.receiver k.tags.stack vs) on.1 top.stack)

  -- ---- an entry

  pub record Entered (m : ℕ) : Type 0 where
    pub shows : Shows c Whole next_frame (m ∷ own)
    pub stands : Standing c next_frame
    pub behind_entry : IsBehindEntry stands.method.code k.insn.next
    pub holds : stands.tags.held ≢ []

  pub entered : (m : ℕ) → k.insn.op ≡ ops.Monitorenter → IsOnTop m f.stack → Entered m
  entered m e on = cases k.tags.stack refl (subst (λ (op : Op). enters_untagged op k.tags.stack ≡ false) e (sound_at c is f k).enters)
    where
      finished : (t : Tag) (ts : List Tag) → k.tags.stack ≡ t ∷ ts → m ≡ tag_value top.choice f.receiver t → Entered m
      finished t ts q v =
          let fits : EdgeFits IsShapeBelow k.method.code k.at.frames (behind (t ∷ k.tags.held)) k.insn.next =
          subst (λ (us : List Tag). EdgeFits IsShapeBelow k.method.code k.at.frames (tags_by_op k.insn.pc r ops.Monitorenter us k.tags) k.insn.next) q (edge ops.Monitorenter e refl) in
          let l : Lands c is next_frame k.method k.at.frames (behind (t ∷ k.tags.held)) = lands_with (t ∷ k.tags.held) fits in
          let same : tag_value top.choice f.receiver t ∷ (map (tag_value top.choice f.receiver) k.tags.held ++ own_entry c.program k.method f) ≡ m ∷ own = let s = top.shown_are in cc in
          record {
            shows = subst (λ (xs : List ℕ). Shows c Whole next_frame xs) same (shows_with (t ∷ k.tags.held) l);
            stands = l.stands;
            behind_entry = (k.insn, subst (λ (x : MethodInfo). Contains x.code k.insn) (sym l.method) (contains_got k.method.code k.number k.insn k.at.in_code), e, refl);
            holds = λ none. let bad : t ∷ k.tags.held ≡ [] = l.below.held ∙ none in cc;
          }

      cases : (ts : List Tag) → k.tags.stack ≡ ts → enters_untagged ops.Monitorenter ts ≡ false → Entered m
      cases (This ∷ ts) q n = finished This ts q (top_value m on This ts q).0
      cases (At pc ∷ ts) q n = finished (At pc) ts q (top_value m on (At pc) ts q).0
      cases ts q n = absurd (cc)

  -- ---- an exit

  pub exited : (m : ℕ) → k.insn.op ≡ ops.Monitorexit → IsOnTop m f.stack → (less : List ℕ) × (own ≡ m ∷ less) × Shows c Whole next_frame less
  exited m e on = by_tags k.tags.stack k.tags.held refl refl (subst (λ (op : Op). exits_other op k.tags.stack k.tags.held ≡ false) e (sound_at c is f k).exits)
    where
      finished : (t : Tag) (ts hs : List Tag) → k.tags.stack ≡ t ∷ ts → k.tags.held ≡ t ∷ hs → m ≡ tag_value top.choice f.receiver t → (less : List ℕ) × (own ≡ m ∷ less) × Shows c Whole next_frame less
      finished t ts hs q h v =
          let fits : EdgeFits IsShapeBelow k.method.code k.at.frames (behind (drop 1 k.tags.held)) k.insn.next = edge ops.Monitorexit e refl in
          let fits : EdgeFits IsShapeBelow k.method.code k.at.frames (behind hs) k.insn.next = subst (λ (us : List Tag). EdgeFits IsShapeBelow k.method.code k.at.frames (behind (drop 1 us)) k.insn.next) h fits in
          let less : List ℕ = map (tag_value top.choice f.receiver) hs ++ own_entry c.program k.method f in
          let same : own ≡ m ∷ less = top.shown_are ∙ ap (λ (us : List Tag). map (tag_value top.choice f.receiver) us ++ own_entry c.program k.method f) h ∙ ap (λ (n : ℕ). n ∷ less) (sym v) in
          (less, same, shows_with hs (lands_with hs fits))

      by_tags : (ts hs : List Tag) → k.tags.stack ≡ ts → k.tags.held ≡ hs → exits_other ops.Monitorexit ts hs ≡ false → (less : List ℕ) × (own ≡ m ∷ less) × Shows c Whole next_frame less
      by_tags (This ∷ ts) (u ∷ hs) q h n = finished This ts hs q (h ∙ ap (λ (x : Tag). x ∷ hs) (sym (one_tag This u (is_true (same_tag This u) n)))) (top_value m on This ts q).0
      by_tags (At pc ∷ ts) (u ∷ hs) q h n = finished (At pc) ts hs q (h ∙ ap (λ (x : Tag). x ∷ hs) (sym (one_tag (At pc) u (is_true (same_tag (At pc) u) n)))) (top_value m on (At pc) ts q).0
      by_tags ts hs q h n = absurd (cc)

-- ---- the laws

pub enters_law : EntersShow
enters_law c fs shown at m is e s g =
    by_top c is Whole (λ fs shown (at : Top). effect_at c.program at ≡ Enters m → Show c Whole (went_on c.program at 0) (m ∷ shown) × TopEnters c m (went_on c.program at 0))
    (λ f below own rest top b g.
    let fits = subst (effects.Fits c.program top.stands.method top.stands.insn top.stands.target f.stack) g (fits_at c is f below top.stands) in
    let a = entered c is f own top m fits.0 fits.1 in
    ((m ∷ own, rest, refl, a.shows, b), (a.stands, inr (a.behind_entry, a.holds)))) fs shown at e s g

pub leaves_law : LeavesShow
leaves_law c fs shown at m is e s g =
    by_top c is Whole (λ fs shown (at : Top). effect_at c.program at ≡ Leaves m → (rest : List ℕ) × (shown ≡ m ∷ rest) × Show c Whole (went_on c.program at 0) rest)
    (λ f below own rest top b g.
    let fits = subst (effects.Fits c.program top.stands.method top.stands.insn top.stands.target f.stack) g (fits_at c is f below top.stands) in
    let a = exited c is f own top m fits.0 fits.1 in
    (a.0 ++ rest, ap (λ (xs : List ℕ). xs ++ rest) a.1, (a.0, rest, refl, a.2, b))) fs shown at e s g
