-- The end of a frame: by a return, or by an exception that it does not catch.
use Rattle.std.{proofs.Common.{◌≡◌, ℕ, Bool, true, false, cond, List, [], ◌∷◌, ◌++◌, map, drop, length, Option, Some, None, refl, sym, ap, ◌∙◌, subst, arith, slice_get}}
use Rattle.std.specs.Option.{option_map, option_to_list}
use Rattle.lists.proofs.{ListLaws.same_some, TestLaws.first_true}
use Rattle.jvm_types.specs.{CodeTable.{row, result_of, type_of, value_of, locals_after, can_throw, virtual_row, special_row, static_row}, Members.is_synchronized, Numbers.has_number, Types.TypeFrame}
use Rattle.jvm_types.specs.{Verifying.{edges, is_return}, declared.{code.{Insn.Insn, Op.Op}, op_row.{Given.{Given, TheVariants.{Fresh, Taken, Local}}, OpRow.OpRow}, program.Kind.Kind}}
use Rattle.jvm_types.specs.declared.{program.{MethodInfo.MethodInfo, Program.Program, Target.Target}, typing.VType.VType}
use Rattle.laws_programs.{specs.RuleLaws.ReturnsWell, proofs.RuleUses.returns_suit_all}
use Rattle.checked_program.specs.{LockTags.{TagShape, IsShapeBelow}, MarkedProgram.{MarkedProgram, IsMarked}, Marks.called_method, Tagging.{moved_tags, leaves_held, may_leave}, Visits.EdgeFits}
use Rattle.checked_program.specs.declared.tag.Tag.{Tag, TheVariants.Untagged}
use Rattle.machine_types.specs.{Frames.{Top, effect_at, given, given_back, returned, monitor_of}, Shown.{tag_value, HaveValues, Shows, ShowsAtCall, ShowBelow, Show, own_entry}}
use Rattle.machine_types.specs.{Standing.{Standing, Operands, Whole, row_at}, Structure.{IsLeaving, TopLeaves}, Threads.Frame, Typed.{Classes, Holds, FrameHolds}}
use Rattle.machine_types.{specs.declared.effect.Effect.TheVariants.Returns, proofs.EffectCases.{HasTop, HasReturned, next_edge}}
use Rattle.laws_threads.{specs.{CallLaws.{IsLeft, HasHeight, ReturnsShow, ReturnsBehindRelease}, MoveLaws.is_lock_op}, proofs.{EffectsOfInsns.is_dup, FrameMoves.{plain_after, edge_fits}}}
use Rattle.laws_threads.proofs.{FramePlaces.{one_standing, sound_at, top_by, has_top}, Landing.rules_at, Lists.zip_length, ShownFrames.{by_top, fits_at, landed, whole_landed}}
use Rattle.jvm_types.specs.declared.code.Op.TheVariants as ops
use Rattle.jvm_types.specs.declared.program.Target.TheVariants as targets
use Rattle.laws_threads.proofs.EffectsOfInsns as effects

-- ---- the row of a call

abbrev AreFresh : List Given → Type 0
AreFresh [] = Unit {0}
AreFresh (Fresh t ∷ gs) = AreFresh gs
AreFresh (g ∷ gs) = ⊥

fresh_results : (k : Option Kind) → AreFresh (option_to_list (option_map (λ kind. Fresh (type_of kind)) k))
fresh_results None = tt
fresh_results (Some k) = tt

-- what is known of an instruction that calls a method of the program
pub record IsCall (p : Program) (m : MethodInfo) (insn : Insn) (target : Target) (callee : ℕ) : Type 0 where
  pub lock : is_lock_op insn.op ≡ false
  pub no_dup : is_dup insn.op ≡ false
  pub edge : has_number (edges insn) insn.next ≡ true
  pub throws : can_throw insn.op ≡ true
  pub writes : (row p m insn.pc target insn.op).writes ≡ None
  pub gives : (called : MethodInfo) → slice_get p.methods callee ≡ Some called → (row p m insn.pc target insn.op).gives ≡ result_of called

no_writes : (rows : Option MethodInfo → OpRow) → (rows None).writes ≡ None → ((m : MethodInfo) → (rows (Some m)).writes ≡ None) → (o : Option MethodInfo) → (rows o).writes ≡ None
no_writes rows none some None = none
no_writes rows none some (Some m) = some m

-- whose row hangs on the method
call_by : (p : Program) (m : MethodInfo) (insn : Insn) (target : Target) (callee : ℕ) (rows : Option MethodInfo → OpRow) → row p m insn.pc target insn.op ≡ rows (slice_get p.methods callee) → ((x : MethodInfo) → (rows (Some x)).gives ≡ result_of x)
    → (rows None).writes ≡ None → ((x : MethodInfo) → (rows (Some x)).writes ≡ None) → is_lock_op insn.op ≡ false → is_dup insn.op ≡ false → has_number (edges insn) insn.next ≡ true → can_throw insn.op ≡ true → IsCall p m insn target callee
call_by p m insn target callee rows is gives none writes lock no_dup edge throws = record {
  lock = lock;
  no_dup = no_dup;
  edge = edge;
  throws = throws;
  writes = ap (λ (r : OpRow). r.writes) is ∙ no_writes rows none writes (slice_get p.methods callee);
  gives = λ called there. ap (λ (r : OpRow). r.gives) is ∙ ap (λ (o : Option MethodInfo). (rows o).gives) there ∙ gives called;
}

pub is_call : (p : Program) (m : MethodInfo) (pc next : ℕ) (op : Op) (target : Target) (callee : ℕ) → called_method op target ≡ Some callee → IsCall p m (record { pc = pc; next = next; op = op }) target callee
is_call p m pc next (ops.Invokevirtual i) (targets.Method u) callee e = call_by p m (record { pc = pc; next = next; op = ops.Invokevirtual i }) (targets.Method u) callee virtual_row (ap (λ n. virtual_row (slice_get p.methods n)) (same_some e)) (λ x. refl) refl (λ x. refl) refl refl (next_edge next) refl
is_call p m pc next (ops.Invokespecial i) (targets.Method u) callee e = call_by p m (record { pc = pc; next = next; op = ops.Invokespecial i }) (targets.Method u) callee special_row (ap (λ n. special_row (slice_get p.methods n)) (same_some e)) (λ x. refl) refl (λ x. refl) refl refl (next_edge next) refl
is_call p m pc next (ops.Invokestatic i) (targets.Method u) callee e = call_by p m (record { pc = pc; next = next; op = ops.Invokestatic i }) (targets.Method u) callee static_row (ap (λ n. static_row (slice_get p.methods n)) (same_some e)) (λ x. refl) refl (λ x. refl) refl refl (next_edge next) refl
is_call p m pc next op target callee e = absurd (cc)

-- ---- what a method gives back

-- fresh results are untagged
results_valued : (choice : ℕ → ℕ) (receiver : ℕ) (ts ls : List Tag) (gs : List Given) (pushed : List ℕ) (us : List Tag) (vs : List ℕ) → AreFresh gs → length pushed ≡ length gs → HaveValues choice receiver us vs
    → HaveValues choice receiver (map (value_of Untagged (λ t. Untagged) ts ls) gs ++ us) (pushed ++ vs)
results_valued choice receiver ts ls [] [] us vs a e h = h
results_valued choice receiver ts ls [] (x ∷ pushed) us vs a e h = absurd (omega (arith, e))
results_valued choice receiver ts ls (g ∷ gs) [] us vs a e h = absurd (omega (arith, e))
results_valued choice receiver ts ls (Fresh t ∷ gs) (x ∷ pushed) us vs a e h = (tt, results_valued choice receiver ts ls gs pushed us vs a (omega (arith, e)) h)
results_valued choice receiver ts ls (Taken i ∷ gs) (x ∷ pushed) us vs a e h = absurd a
results_valued choice receiver ts ls (Local i ∷ gs) (x ∷ pushed) us vs a e h = absurd a

one_result : (m : MethodInfo) (kind : Kind) → m.result ≡ Some kind → 1 ≡ length (result_of m)
one_result m kind e = sym (ap (λ (o : Option Kind). length (option_to_list (option_map (λ kind. Fresh (type_of kind)) o))) e)

given_length : (m : MethodInfo) (op : Op) (types : List VType) (s : List ℕ) → is_return op ≡ true → ReturnsWell m op types → HasReturned op s → length (given_back op s) ≡ length (result_of m)
given_length m ops.Return types s r w h = sym (ap (λ (o : Option Kind). length (option_to_list (option_map (λ kind. Fresh (type_of kind)) o))) w)
given_length m ops.Ireturn types [] r w h = absurd h
given_length m ops.Ireturn types (a ∷ s) r w h = one_result m w.kind w.described
given_length m ops.Areturn types [] r w h = absurd h
given_length m ops.Areturn types (a ∷ s) r w h = one_result m w.kind w.described
given_length m op types s r w h = absurd (cc)

-- ---- where a frame is left no tag is held

none_held : (m : MethodInfo) (insn : Insn) (held : List Tag) → leaves_held m insn held ≡ false → may_leave m insn ≡ true → held ≡ []
none_held m insn [] e h = refl
none_held m insn (t ∷ held) e h = absurd (let bad : true ≡ false = sym h ∙ e in cc)

pub one_entry : (p : Program) (m : MethodInfo) (f : Frame) (n : ℕ) → is_synchronized m.flags ≡ true → monitor_of p m f ≡ n → own_entry p m f ≡ n ∷ []
one_entry p m f n e k = ap (λ (b : Bool). cond b (monitor_of p m f ∷ []) []) e ∙ ap (λ (i : ℕ). i ∷ []) k

module _ (c : MarkedProgram) (is : IsMarked c) where
  pub leaves_none : (f : Frame) (k : Standing c f) → may_leave k.method k.insn ≡ true → k.tags.held ≡ []
  leaves_none f k h = none_held k.method k.insn k.tags.held (sound_at c is f k).leaves h

  -- a frame with no held tag shows its own entry alone
  pub shows_own : (operands : Operands) (f : Frame) (own : List ℕ) (top : Shows c operands f own) → top.stands.tags.held ≡ [] → own ≡ own_entry c.program top.stands.method f
  shows_own operands f own top none = top.shown_are ∙ ap (λ (ts : List Tag). map (tag_value top.choice f.receiver) ts ++ own_entry c.program top.stands.method f) none

  -- one that leaves a monitor shows that alone
  pub leaves_one : (operands : Operands) (m : ℕ) (f : Frame) (own : List ℕ) → Shows c operands f own → (k : Standing c f) → IsLeaving c m f k → own ≡ m ∷ []
  leaves_one operands m f own top k l =
      let same = one_standing c is f top.stands k in
      shows_own operands f own top (ap (λ (t : TagShape). t.held) same.tags ∙ l.none)
      ∙ ap (λ (x : MethodInfo). own_entry c.program x f) same.method
      ∙ one_entry c.program k.method f m l.synchronized l.monitor

  -- the top frame is left by an instruction that may leave it
  pub left : (operands now_has : Operands) (test : Op → Bool) (f : Frame) (below : List Frame) (own rest : List ℕ) (top : Shows c operands f own) (now : List Frame) → may_leave top.stands.method top.stands.insn ≡ true
      → test top.stands.insn.op ≡ true → Show c now_has now rest → IsLeft c (top_by c is f below top.stands) test now_has now (own ++ rest)
  left operands now_has test f below own rest top now may passes s =
      let none = leaves_none f top.stands may in
      record {
        none = λ k. let same = one_standing c is f k top.stands in ap (λ (t : TagShape). t.held) same.tags ∙ none;
        leaves = λ y. (top.stands, record { synchronized = y; monitor = refl; none = none }, passes);
        rest = rest;
        own = ap (λ (xs : List ℕ). xs ++ rest) (shows_own operands f own top none);
        show = s;
      }

  -- ---- a return

  -- the caller goes on behind its call, with the result
  resumed : (callee : ℕ) (g : Frame) (own : List ℕ) (w : ShowsAtCall c callee g own) (called : MethodInfo) → slice_get c.program.methods callee ≡ Some called → (pushed : List ℕ) → length pushed ≡ length (result_of called)
      → Shows c Whole (record g { pc = w.shows.stands.insn.next; stack = pushed ++ g.stack }) own
  resumed callee g own w called there pushed many =
      let k = w.shows.stands in
      let r : OpRow = row_at c g k in
      let call = is_call c.program w.shows.stands.method w.shows.stands.insn.pc w.shows.stands.insn.next w.shows.stands.insn.op w.shows.stands.target callee w.calls in
      let gives : r.gives ≡ result_of called = call.gives called there in
      let fits : EdgeFits IsShapeBelow k.method.code k.at.frames (moved_tags r k.tags) k.insn.next =
      subst (λ (t : TagShape). EdgeFits IsShapeBelow k.method.code k.at.frames t k.insn.next) (plain_after k.insn.pc r k.insn.op k.tags.stack k.tags call.lock call.no_dup) (edge_fits c is g k k.insn.next call.edge) in
      let locals : HaveValues w.shows.choice g.receiver (moved_tags r k.tags).locals g.locals =
      subst (λ (o : Option (ℕ × Given)). HaveValues w.shows.choice g.receiver (locals_after Untagged (λ t. Untagged) o k.tags.stack k.tags.locals) g.locals) (sym call.writes) w.shows.locals in
      let stack : HaveValues w.shows.choice g.receiver (drop (length r.takes) k.tags.stack) g.stack = subst (λ (n : ℕ). HaveValues w.shows.choice g.receiver (drop n k.tags.stack) g.stack) w.taken w.shows.stack in
      subst (λ (xs : List ℕ). Shows c Whole (record g { pc = k.insn.next; stack = pushed ++ g.stack }) xs) (sym w.shows.shown_are)
      (whole_landed c is (record g { pc = k.insn.next; stack = pushed ++ g.stack }) k.method k.at.frames (moved_tags r k.tags) w.shows.choice (landed c is g k (moved_tags r k.tags) k.insn.next g.locals (pushed ++ g.stack) fits) locals
      (results_valued w.shows.choice g.receiver k.tags.stack k.tags.locals r.gives pushed (drop (length r.takes) k.tags.stack) g.stack
      (subst AreFresh (sym gives) (fresh_results called.result)) (many ∙ ap (λ (gs : List Given). length gs) (sym gives)) stack))

  returned_show : (f : Frame) (below : List Frame) (rest : List ℕ) (k : Standing c f) → ShowBelow c f.method below rest → is_return k.insn.op ≡ true → HasReturned k.insn.op f.stack → Show c Whole (returned c.program (top_by c is f below k)) rest
  returned_show f [] rest k b r h = b
  returned_show f (g ∷ gs) rest k b r h =
      let w : ShowsAtCall c f.method g b.0 = b.3 in
      let holds = rules_at c is f k in
      let well : ReturnsWell k.method k.insn.op k.types.stack = returns_suit_all c.program k.method k.insn k.target k.types holds.rules holds.sound.after in
      let many : length (given_back k.insn.op f.stack) ≡ length (result_of k.method) = given_length k.method k.insn.op k.types.stack f.stack r well h in
      subst (λ (o : Option Top). Show c Whole (given (given_back k.insn.op f.stack) o) rest) (sym (has_top c is g gs w.shows.stands))
      (b.0, b.1, b.2, resumed f.method g b.0 w k.method k.at.in_program (given_back k.insn.op f.stack) many, b.4)

  -- ---- behind the release of a lock

  top_got : {A : Type 0} (types : List A) (s : List ℕ) (t : A) → length s ≡ length types → slice_get types 0 ≡ Some t → HasTop s
  top_got [] s t e g = absurd (cc)
  top_got (x ∷ types) [] t e g = absurd (omega (arith, e))
  top_got (x ∷ types) (v ∷ s) t e g = tt

  returned_there : (m : MethodInfo) (op : Op) (types : List VType) (s : List ℕ) → is_return op ≡ true → ReturnsWell m op types → length s ≡ length types → HasReturned op s
  returned_there m ops.Return types s r w e = tt
  returned_there m ops.Ireturn types s r w e = top_got types s w.type e w.top
  returned_there m ops.Areturn types s r w e = top_got types s w.type e w.top
  returned_there m op types s r w e = absurd (cc)

-- the stack of a typed frame has the height of its types
pub has_height : (c : MarkedProgram) (marked : IsMarked c) (is : Classes) (f : Frame) → FrameHolds c is 0 f → HasHeight c f
has_height c marked is f h k =
    let same = one_standing c marked f h.stands k in
    sym (zip_length (Holds h.stands.method is) h.stands.types.stack f.stack h.stack) ∙ ap (λ (t : TypeFrame). length t.stack) same.types

-- ---- the laws

pub returns_law : ReturnsShow
returns_law c fs shown at is e s g =
    by_top c is Whole (λ fs shown (at : Top). effect_at c.program at ≡ Returns → IsLeft c at is_return Whole (returned c.program at) shown)
    (λ f below own rest top b g.
    let fits = subst (effects.Fits c.program top.stands.method top.stands.insn top.stands.target f.stack) g (fits_at c is f below top.stands) in
    left c is Whole Whole is_return f below own rest top (returned c.program (top_by c is f below top.stands)) (first_true (is_return top.stands.insn.op) _ fits.0) fits.0
    (returned_show c is f below rest top.stands b fits.0 fits.1)) fs shown at e s g

pub return_behind_law : ReturnsBehindRelease
return_behind_law c fs shown at m is e s h l =
    by_top c is Whole (λ (fs : List Frame) shown (at : Top). HasHeight c at.frame → TopLeaves c m is_return fs → (rest : List ℕ) × (shown ≡ m ∷ rest) × Show c Whole (returned c.program at) rest)
    (λ f below own rest top b h l.
    let k = top.stands in
    let same = one_standing c is f l.0 k in
    let r : is_return k.insn.op ≡ true = ap (λ (x : Insn). is_return x.op) (sym same.insn) ∙ l.2 in
    let holds = rules_at c is f k in
    let well : ReturnsWell k.method k.insn.op k.types.stack = returns_suit_all c.program k.method k.insn k.target k.types holds.rules holds.sound.after in
    (rest, ap (λ (xs : List ℕ). xs ++ rest) (leaves_one c is Whole m f own top l.0 l.1), returned_show c is f below rest k b r (returned_there c is k.method k.insn.op k.types.stack f.stack r well (h k)))) fs shown at e s h l
