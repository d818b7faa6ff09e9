-- Typed frames stay typed as the top one goes on, waits at a call, is given the result of one, or catches an exception.
use Rattle.std.proofs.Common.{◌≡◌, ℕ, inr, Bool, true, false, cond, not, ◌||◌, ◌&&◌, List, [], ◌∷◌, ◌++◌, length, Option, Some, None, refl, ap, sym, subst, ◌∙◌, ◌==◌, map, drop, if◌then◌else◌}
use Rattle.std.{specs.{List.{AllZip, AllByRecursion, find}, Option.{option_to_list, option_map}}, proofs.lemmas.Bool.or_parts}
use Rattle.jvm_types.specs.{ClassTree.is_subclass, CodeTable.{type_of, can_throw, result_of, value_of, stack_after, locals_after}, Types.{TypeFrame, is_below}}
use Rattle.jvm_types.specs.Verifying.{edges, is_return, suits, some_taken, some_read, started, frame_after, frame_at_handler, caught_class, covers, covering}
use Rattle.jvm_types.specs.declared.{class_numbers.TheConstants.THROWABLE_CLASS, code.Op.Op, op_row.{Given.{Given, TheVariants.Fresh}, OpRow.OpRow}, program.{Kind.Kind, MethodInfo.MethodInfo}}
use Rattle.laws_programs.{specs.RuleLaws.{ReturnsWell, ReturnsTop}, proofs.LocalGoing.at_index}
use Rattle.checked_program.specs.{LockTags.IsShapeBelow, MarkedProgram.{MarkedProgram, IsMarked}, Marks.called_method, TaggedCode.row_of, Tagging.{tags_after, tags_at_handler, catches_all, until_all}}
use Rattle.checked_program.proofs.CheckedPlaces.{catchers_among}
use Rattle.machine_types.specs.{Frames.{frame_on, given_back, handler_of}, Threads.Frame, Typed.{Classes, Holds, FrameHolds, WaitHolds}}
use Rattle.laws_threads.{specs.Allowed.{OneOf, HasRowTypes}, proofs.{Callers.{handler_in, call_edge}, Calls.CallRow, Landing.{rules_at, tag_rules_at, land}, Standings.stands_too, Tests.either_way}}
use Rattle.laws_threads.proofs.{Typing.{all_at, start_holds, started_frame, values_after}, Values.{ValuesHold, holds_below, rest_holds}}
use Rattle.jvm_types.specs.declared.{program.Row.Row, typing.VType.{VType, TheVariants.{Ref, Top as Unknown}}}
use Rattle.jvm_types.specs.Verifying as types
use Rattle.jvm_types.specs.declared.code.Op.TheVariants as ops
use Rattle.jvm_types.specs.declared.program.Kind.TheVariants as kinds
use Rattle.checked_program.specs.Visits as visits

-- ---- results

-- a type of a kind has the same values in every method
kind_moves : (m other : MethodInfo) (is : Classes) (kind : Kind) (v : ℕ) → Holds m is (type_of kind) v → Holds other is (type_of kind) v
kind_moves m other is kinds.Int v h = h
kind_moves m other is kind v h = h

abbrev pub result_types : Option Kind → List VType
result_types None = []
result_types (Some kind) = type_of kind ∷ []

module _ (m other : MethodInfo) (is : Classes) where
  top_given : (ts : List VType) (a : ℕ) (s : List ℕ) → ReturnsTop m ts → AllZip (Holds m is) ts (a ∷ s) → AllZip (Holds other is) (result_types m.result) (a ∷ [])
  top_given [] a s w h = absurd h
  top_given (t ∷ ts) a s w h =
      let top : t ≡ w.type = let e = w.top in cc in
      let value : Holds m is (type_of w.kind) a = holds_below m is t (type_of w.kind) a (subst (λ (x : VType). is_below x (type_of w.kind) ≡ true) (sym top) w.fits) h.0 in
      subst (λ (o : Option Kind). AllZip (Holds other is) (result_types o) (a ∷ [])) (sym w.described) (kind_moves m other is w.kind a value, tt)

  -- what a return gives is of the type of the result
  pub given_holds : (op : Op) (ts : List VType) (s : List ℕ) → is_return op ≡ true → ReturnsWell m op ts → AllZip (Holds m is) ts s → AllZip (Holds other is) (result_types m.result) (given_back op s)
  given_holds ops.Ireturn [] [] r w h = absurd (let e = w.top in cc)
  given_holds ops.Ireturn (t ∷ ts) [] r w h = absurd h
  given_holds ops.Ireturn ts (a ∷ s) r w h = top_given ts a s w h
  given_holds ops.Areturn [] [] r w h = absurd (let e = w.top in cc)
  given_holds ops.Areturn (t ∷ ts) [] r w h = absurd h
  given_holds ops.Areturn ts (a ∷ s) r w h = top_given ts a s w h
  given_holds ops.Return ts s r w h = subst (λ (o : Option Kind). AllZip (Holds other is) (result_types o) []) (sym w) tt
  given_holds op ts s r w h = absurd (let bad : false ≡ true = r in cc)

module _ (m : MethodInfo) (is : Classes) where
  -- the frame behind a call, with the types that the row of the call gives
  result_stack : (result : Option Kind) (given : List ℕ) (ts ls rest : List VType) (s : List ℕ) → AllZip (Holds m is) (result_types result) given → AllZip (Holds m is) rest s
      → AllZip (Holds m is) (map (value_of Unknown (λ t. t) ts ls) (option_to_list (option_map (λ kind. Fresh (type_of kind)) result)) ++ rest) (given ++ s)
  result_stack None [] ts ls rest s g h = h
  result_stack None (v ∷ given) ts ls rest s g h = absurd g
  result_stack (Some kind) [] ts ls rest s g h = absurd g
  result_stack (Some kind) (v ∷ []) ts ls rest s g h = (g.0, h)
  result_stack (Some kind) (v ∷ w ∷ given) ts ls rest s g h = absurd g.1

  call_stack : (called : MethodInfo) (r : OpRow) (ts ls : List VType) (given s : List ℕ) → CallRow called r → AllZip (Holds m is) (result_types called.result) given → AllZip (Holds m is) (drop (length r.takes) ts) s
      → AllZip (Holds m is) (stack_after Unknown (λ t. t) r ts ls) (given ++ s)
  call_stack called r ts ls given s call g h =
      let gives : r.gives ≡ result_of called = ap (λ (x : OpRow). x.gives) call.is in
      subst (λ (gs : List Given). AllZip (Holds m is) (map (value_of Unknown (λ t. t) ts ls) gs ++ drop (length r.takes) ts) (given ++ s)) (sym gives)
      (result_stack called.result given ts ls (drop (length r.takes) ts) s g h)

  pub values_behind : (called : MethodInfo) (r : OpRow) (g : TypeFrame) (f : Frame) (to : ℕ) (given : List ℕ) → types.mistypes m r g ≡ false → CallRow called r → AllZip (Holds m is) (result_types called.result) given
      → ValuesHold m is (record g { stack = drop (length r.takes) g.stack }) f → ValuesHold m is (frame_after m r g) (record f { pc = to; stack = given ++ f.stack })
  values_behind called r g f to given mistypes call result values = started_frame m is (started m.class r.takes g.stack) _ (record f { pc = to; stack = given ++ f.stack })
      (start_holds m is r.takes g.stack (or_parts (some_taken (λ want t. not (suits m want t)) r.takes g.stack) (some_read (λ want t. not (suits m want t)) r.reads g.locals) mistypes).0)
      (record { stack = call_stack called r g.stack g.locals given f.stack call result values.stack; locals = subst (λ (x : OpRow). AllZip (Holds m is) (locals_after Unknown (λ t. t) x.writes g.stack g.locals) f.locals) (sym call.is) values.locals; receiver = values.receiver })

-- ---- exceptions

-- the row that catches is the first that passes its tests
pub handler_found : (pc class : ℕ) (rows : List Row) → handler_of pc class rows ≡ find (λ r. covers pc r && (catches_all r || is_subclass class r.catch_class)) rows
handler_found pc class [] = refl
handler_found pc class (r ∷ rows) = ap (cond (covers pc r && (catches_all r || is_subclass class r.catch_class)) (Some r)) (handler_found pc class rows)

module _ (c : MarkedProgram) (marked : IsMarked c) (is : Classes) where
  -- ---- an instruction goes on

  pub goes : (f : Frame) (h : FrameHolds c is 0 f) (to made : ℕ) → OneOf (edges h.stands.insn) to → HasRowTypes h.stands.method is (row_of c.program h.stands.method h.stands.insn h.stands.target) made
      → FrameHolds c is 0 (frame_on (row_of c.program h.stands.method h.stands.insn h.stands.target) to made f)
  goes f h to made edge gives =
      let k = h.stands in
      let r : OpRow = row_of c.program k.method k.insn k.target in
      let rules = rules_at c marked f k in
      let tags = tag_rules_at c marked f k in
      land c marked is (frame_on r to made f) k.method k.frames k.at.frames (frame_after k.method r k.types) (tags_after k.insn r k.tags) k.at.in_program k.types_of_method k.at.of_method
      (all_at (types.FrameFits k.method.code k.frames (frame_after k.method r k.types)) (edges k.insn) to rules.sound.edges_fit edge)
      (all_at (visits.EdgeFits IsShapeBelow k.method.code k.at.frames (tags_after k.insn r k.tags)) (edges k.insn) to tags.edges_fit edge)
      (values_after k.method is r k.types f to made rules.rules.types (record { stack = h.stack; locals = h.locals; receiver = h.receiver }) gives)

  -- ---- a call

  pub waits : (f : Frame) (h : FrameHolds c is 0 f) (number : ℕ) → called_method h.stands.insn.op h.stands.target ≡ Some number
      → WaitHolds c is number (record f { stack = drop (length (row_of c.program h.stands.method h.stands.insn h.stands.target).takes) f.stack })
  waits f h number e =
      let count = length (row_of c.program h.stands.method h.stands.insn h.stands.target).takes in
      record {
        count = count;
        holds = record { stands = stands_too c f (drop count f.stack) f.locals h.stands; stack = rest_holds h.stands.method is count h.stands.types.stack f.stack h.stack; locals = h.locals; receiver = h.receiver };
        calls = e;
        taken = refl;
      }

  -- ---- a return

  pub resumes : (g : Frame) (number : ℕ) (called : MethodInfo) (given : List ℕ) → (w : WaitHolds c is number g) → CallRow called (row_of c.program w.holds.stands.method w.holds.stands.insn w.holds.stands.target)
      → AllZip (Holds w.holds.stands.method is) (result_types called.result) given → FrameHolds c is 0 (record g { pc = w.holds.stands.insn.next; stack = given ++ g.stack })
  resumes g number called given w call result =
      let k = w.holds.stands in
      let r : OpRow = row_of c.program k.method k.insn k.target in
      let rules = rules_at c marked g k in
      let tags = tag_rules_at c marked g k in
      let edge = call_edge k.insn k.target number w.calls in
      let values : ValuesHold k.method is (record k.types { stack = drop (length r.takes) k.types.stack }) g =
      record { stack = subst (λ (n : ℕ). AllZip (Holds k.method is) (drop n k.types.stack) g.stack) w.taken w.holds.stack; locals = w.holds.locals; receiver = w.holds.receiver } in
      land c marked is (record g { pc = k.insn.next; stack = given ++ g.stack }) k.method k.frames k.at.frames (frame_after k.method r k.types) (tags_after k.insn r k.tags) k.at.in_program k.types_of_method k.at.of_method
      (all_at (types.FrameFits k.method.code k.frames (frame_after k.method r k.types)) (edges k.insn) k.insn.next rules.sound.edges_fit edge)
      (all_at (visits.EdgeFits IsShapeBelow k.method.code k.at.frames (tags_after k.insn r k.tags)) (edges k.insn) k.insn.next tags.edges_fit edge)
      (values_behind k.method is called r k.types g k.insn.next given rules.rules.types call result values)

  -- ---- an exception

  catches_in : (m : MethodInfo) (is : Classes) (x class : ℕ) (r : Row) → is class x → is_subclass class THROWABLE_CLASS ≡ true → (r.catch_class == 0 || is_subclass class r.catch_class) ≡ true
      → Holds m is (Ref (caught_class r)) x
  catches_in m is x class r k below e = inr (
    class,
    k,
    either_way (λ (b : Bool). (b || is_subclass class r.catch_class) ≡ true → is_subclass class (if b then THROWABLE_CLASS else r.catch_class) ≡ true) (r.catch_class == 0)
        (λ e. below)
        (λ e. e) e,
  )

  pub catches : (f : Frame) (count : ℕ) (h : FrameHolds c is count f) (x class : ℕ) (r : Row) → can_throw h.stands.insn.op ≡ true → is class x → is_subclass class THROWABLE_CLASS ≡ true
      → handler_of f.pc class h.stands.method.rows ≡ Some r → FrameHolds c is 0 (record f { pc = r.handler; stack = x ∷ [] })
  catches f count h x class r throws k below e =
      let s = h.stands in
      let rules = rules_at c marked f s in
      let tags = tag_rules_at c marked f s in
      let here : handler_of s.insn.pc class s.method.rows ≡ Some r = subst (λ (pc : ℕ). handler_of pc class s.method.rows ≡ Some r) (sym s.pc_is) e in
      let found = handler_in (λ h. types.FrameFits s.method.code s.frames (frame_at_handler h s.types) h.handler) s.insn.pc class s.method.rows r rules.sound.handlers_fit here in
      let among = catchers_among s.method s.insn.pc class r (sym (handler_found s.insn.pc class s.method.rows) ∙ here) in
      let handlers : AllByRecursion (λ handler. visits.EdgeFits IsShapeBelow s.method.code s.at.frames (tags_at_handler s.tags) handler.handler) (until_all (covering s.method s.insn.pc)) =
      subst (λ b. AllByRecursion (λ handler. visits.EdgeFits IsShapeBelow s.method.code s.at.frames (tags_at_handler s.tags) handler.handler) (if b then until_all (covering s.method s.insn.pc) else [])) throws tags.handlers_fit in
      land c marked is (record f { pc = r.handler; stack = x ∷ [] }) s.method s.frames s.at.frames (frame_at_handler r s.types) (tags_at_handler s.tags) s.at.in_program s.types_of_method s.at.of_method
      found.0
      (at_index (λ (handler : Row). visits.EdgeFits IsShapeBelow s.method.code s.at.frames (tags_at_handler s.tags) handler.handler) (until_all (covering s.method s.insn.pc)) among.0 r handlers among.1)
      (record { stack = (catches_in s.method is x class r k below found.1, tt); locals = h.locals; receiver = h.receiver })
