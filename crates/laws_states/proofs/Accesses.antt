-- Which word each event accesses, and that what it leaves there is what has to stand there.
use Rattle.std.proofs.Common.{◌≡◌, ℕ, ◌<◌, ◌≤◌, ◌^◌, Bool, true, false, List, [], ◌∷◌, length, Option, Some, None, refl, ap, sym, subst, ◌∙◌, arith, ◌==◌, nat_le, Contains, slice_index, if◌then◌else◌}
use Rattle.std.proofs.lemmas.Bool.Decides.{nat_tests}
use Rattle.jvm_types.specs.{Members.is_static, ProgramInvariant.{instances_among}, declared.class_numbers.TheConstants.{INT_ARRAY_CLASS, PRINT_STREAM_CLASS, THROWABLE_CLASS}}
use Rattle.jvm_types.specs.declared.{code.{Insn.Insn, Op.Op}, fixed_words.TheConstants.{FIRST_READY_WORD, NEXT_FREE_WORD, NEXT_TICKET_WORD, NEXT_RECORD_WORD, MONITOR_RECORDS}, op_row.OpRow.OpRow}
use Rattle.jvm_types.specs.declared.program.{FieldInfo.FieldInfo, Kind.Kind, MethodInfo.MethodInfo, Program.Program, Target.Target}
use Rattle.laws_programs.proofs.{ClassTreeLaws.{leaves_alone, files_alone}, FieldOrder.instances_inside}
use Rattle.checked_program.specs.{MarkedProgram.{MarkedProgram, IsMarked}, TaggedCode.row_of}
use Rattle.machine_types.specs.{Accesses.{accessed, left_by}, Core.Core, Effects.effect, Elision.looks, Events.element_wants}
use Rattle.machine_types.specs.FoundWords.{Content, Lock, Owner, Bits, Header, ThrowableHeader, IntPlace, ReferencePlace, Any, kind_content, field_content, variable_content, effect_content, run_content}
use Rattle.machine_types.specs.{Frames.{top_of, effect_at}, Instructions.{has_print_left, effect_wants, run_wants}, PlainMemory.{Object, start_objects}, ReadyObjects.out_object}
use Rattle.machine_types.specs.{Structure.{TopIs, is_element_op}, Threads.{Frame, Attempt, Thread}}
use Rattle.machine_types.specs.Typed.{Classes, KindHolds, FramesHold, IsElementOn, ElementStands, HasElement, HasElementOn, HasElementIn, HasClass, IsObject, AttemptHolds}
use Rattle.machine_types.specs.{Words.{owner_word, bits_word, header_word, value_word, variable_word}, declared.{access.Access.{Access, TheVariants.{Load, Store, Add, Rest}}, effect.Effect.Effect}}
use Rattle.machine_types.specs.declared.effect.Effect.TheVariants.{Goes, Throws, Reads, Writes, Indexes, Measures, Raises, Makes, Prints, Calls, Stuck}
use Rattle.machine_types.specs.declared.effect.Variable.{Variable, TheVariants.{Instance, Static}}
use Rattle.laws_threads.{specs.Allowed.{IsOf, IsNamedField, StoredHolds, Allowed}, proofs.{Landing.stand_top, MonitorMoves.contains_got, Onwards.same_op, Standings.top_here, TopEffects.allowed_here}}
use Rattle.laws_states.specs.{HeapFacts.HeapFacts, Sites.{Site, Counter, OwnerOf, BitsOf, LockOf, HeaderOf, ValueOf, NewHeaderOf, StaticAt, site_word, HasObject, IsThere, Suits}}
use Rattle.laws_states.proofs.{Lists.contained_got, Movers.HeapState, Places.{IsValue, SiteHolds, same_object, site_typed, static_stored, field_stored, element_stored}}
use Rattle.jvm_types.specs.declared.code.Op.TheVariants as ops
use Rattle.jvm_types.specs.declared.outcome.Thrown.TheVariants as thrown
use Rattle.jvm_types.specs.declared.program.Kind.TheVariants as kinds

-- ---- an access that leaves all facts on places

abbrev pub IsOldSite : Site → Type 0
IsOldSite (NewHeaderOf reference) = ⊥
IsOldSite site = Unit {0}

pub record FitsAt (p : Program) (objects : List Object) (s : Core) (content : Content) (access : Access) : Type 0 where
  pub site : Site
  pub there : IsThere p objects s site
  pub word : accessed access ≡ site_word site
  pub suits : Suits content site
  pub old : IsOldSite site
  pub left : SiteHolds p objects (slice_index s.words NEXT_FREE_WORD) site (left_by access (slice_index s.words (accessed access)))

abbrev pub FitsAccess : Program → List Object → Core → Content → Access → Type 0
FitsAccess p objects s content Rest = Unit {0}
FitsAccess p objects s content access = FitsAt p objects s content access

abbrev pub FitsIf : Program → List Object → Core → Content → Option Access → Type 0
FitsIf p objects s content None = Unit {0}
FitsIf p objects s content (Some access) = FitsAccess p objects s content access

-- ---- fields and elements suit their kinds

kind_suits : (kind : Kind) (site : Site) → Suits IntPlace site → Suits ReferencePlace site → Suits (kind_content kind) site
kind_suits (kinds.Ref class) site int reference = reference
kind_suits kind site int reference = int

-- an element that is read or to be stored is one of an array
abbrev ReadsArray : Classes → Option ℕ → List ℕ → Type 0
ReadsArray is None (i ∷ a ∷ s) = IsOf is INT_ARRAY_CLASS a
ReadsArray is (Some v) (w ∷ i ∷ a ∷ s) = IsOf is INT_ARRAY_CLASS a × (w < 2 ^ 32)
ReadsArray is stored s = Unit {0}

abbrev HasReference : Option ℕ → List ℕ → Type 0
HasReference None (i ∷ a ∷ s) = (a == 0) ≡ false
HasReference (Some v) (w ∷ i ∷ a ∷ s) = (a == 0) ≡ false
HasReference stored s = ⊥

array_read : (p : Program) (m : MethodInfo) (is : Classes) (insn : Insn) (target : Target) (r : OpRow) (op : Op) (next : ℕ) (locals : List ℕ) (stored : Option ℕ) (stack : List ℕ) → is_element_op stored op ≡ true → HasReference stored stack
    → Allowed p m is insn target r stack (effect p next target op locals stack) → ReadsArray is stored stack
array_read p m is insn target r ops.Iaload next locals None (i ∷ a ∷ s) e some al =
    (subst (λ b. Allowed p m is insn target r (i ∷ a ∷ s) (if b then Throws thrown.NullPointerException else Indexes a i None)) some al).1
array_read p m is insn target r ops.Iastore next locals (Some v) (w ∷ i ∷ a ∷ s) e some al =
    let k = subst (λ b. Allowed p m is insn target r (w ∷ i ∷ a ∷ s) (if b then Throws thrown.NullPointerException else Indexes a i (Some w))) some al in
    (k.1, k.3)
array_read p m is insn target r op next locals None (i ∷ a ∷ s) e some al = absurd (cc)
array_read p m is insn target r op next locals (Some v) (w ∷ i ∷ a ∷ s) e some al = absurd (cc)
array_read p m is insn target r op next locals stored stack e some al = absurd (assumption)

pub out_there : (c : MarkedProgram) (marked : IsMarked c) (objects : List Object) (s : Core)
    → HeapFacts c objects s → HasClass objects PRINT_STREAM_CLASS out_object
out_there c marked objects s facts =
    let out : Object = record { reference = out_object; class = PRINT_STREAM_CLASS; values = [] } in
    facts.started out (contains_got (start_objects c.program) 7 out refl)

pub content_is : (c : MarkedProgram) (marked : IsMarked c) (objects : List Object) (s : Core)
    → HeapFacts c objects s → (target : Target) (v : Variable) (f : FieldInfo)
    → IsNamedField c.program (HasClass objects) target v f
    → variable_content c.program target ≡ kind_content f.kind
content_is c marked objects s facts target v f at =
    ap (variable_content c.program) at.named ∙ ap field_content at.there

-- the array that the stack names, and the place in it
pub record ElementSite (objects : List Object) (word : ℕ) (stored : Option ℕ) : Type 0 where
  pub array : Object
  pub there : Contains objects array
  pub class : array.class ≡ INT_ARRAY_CLASS
  pub index : ℕ
  pub below : index < length array.values
  pub word_is : word ≡ value_word array.reference index
  pub value : StoredHolds stored

module _ (state : HeapState) where
  open state use {c, marked, marked.checked.program as is_program, objects, s, facts}

  -- ---- by what stands at the word

  loads : (site : Site) (content : Content) (w : ℕ) → IsThere c.program objects s site → IsOldSite site → Suits content site → w ≡ site_word site → FitsAt c.program objects s content (Load w)
  loads site content w there old suits e = record {
    site = site;
    there = there;
    word = e;
    suits = suits;
    old = old;
    left = subst (λ x. SiteHolds c.program objects (slice_index s.words NEXT_FREE_WORD) site (slice_index s.words x)) (sym e) (site_typed c.program is_program objects s.words site facts.typed.places);
  }

  pub at_lock : (m : ℕ) (access : Access) → IsObject (HasClass objects) m → accessed access ≡ m → FitsAt c.program objects s Lock access
  at_lock m access object e = record { site = LockOf m; there = (object.1.0, object.1.1, object.1.2); word = e; suits = tt; old = tt; left = tt }

  pub at_owner : (r : ℕ) (access : Access) → r < MONITOR_RECORDS → accessed access ≡ owner_word r → FitsAt c.program objects s Owner access
  at_owner r access below e = record { site = OwnerOf r; there = below; word = e; suits = tt; old = tt; left = tt }

  pub at_bits : (r : ℕ) (access : Access) → r < MONITOR_RECORDS → accessed access ≡ bits_word r → FitsAt c.program objects s Bits access
  at_bits r access below e = record { site = BitsOf r; there = below; word = e; suits = tt; old = tt; left = tt }

  pub at_record_word : FitsAt c.program objects s Any (Add NEXT_RECORD_WORD 1)
  at_record_word = record { site = Counter NEXT_RECORD_WORD; there = (omega arith, omega arith); word = refl; suits = tt; old = tt; left = λ e. absurd (omega (arith, e)) }

  pub look_fits : (fs : List Frame) (attempt : Option Attempt) → AttemptHolds c (HasClass objects) fs attempt → FitsIf c.program objects s Lock (looks attempt)
  look_fits fs None h = tt
  look_fits fs (Some a) h = at_lock a.monitor (Load a.monitor) h.0 refl

  -- ---- variables

  record VariableSite (v : Variable) (f : FieldInfo) : Type 0 where
    site : Site
    there : IsThere c.program objects s site
    old : IsOldSite site
    suits : Suits (kind_content f.kind) site
    word : variable_word v ≡ site_word site
    stored : (n : ℕ) → KindHolds (HasClass objects) f.kind n → SiteHolds c.program objects (slice_index s.words NEXT_FREE_WORD) site n
    holds : KindHolds (HasClass objects) f.kind (slice_index s.words (site_word site))

  variable_site : (target : Target) (v : Variable) (f : FieldInfo) → IsNamedField c.program (HasClass objects) target v f → VariableSite v f
  variable_site target v f at = subst (λ w. VariableSite w f) (sym at.variable) (by_flag (is_static f.flags) refl)
    where
      by_flag : (b : Bool) → is_static f.flags ≡ b → VariableSite (if b then Static f.index else Instance at.reference f.index) f
      by_flag true e =
          let k = facts.apart.there at.number f at.there e in
          record {
            site = StaticAt f.index;
            there = (k.0, k.1, k.2);
            old = tt;
            suits = kind_suits f.kind (StaticAt f.index) tt tt;
            word = refl;
            stored = λ n h. static_stored c.program is_program objects (slice_index s.words NEXT_FREE_WORD) facts.apart at.number f at.there n e h;
            holds = facts.typed.places.statics at.number f at.there e;
          }
      by_flag false e =
          let holder = at.holder e in
          let from = (is_program.fields at.number f at.there).class.0 in
          let object = holder.2.0 in
          let there : Contains objects object = holder.2.1 in
          let of_class : object.class ≡ f.class = holder.2.3 ∙ (files_alone holder.1 f.class from holder.3) in
          let sized = facts.apart.sized there.0 object (contained_got objects object there) (λ array. absurd (omega (arith, array, of_class, from))) in
          let below : f.index < length object.values = subst (λ n. f.index < n) (sym sized) (subst (λ d. f.index < instances_among d c.program.fields) (sym of_class) (instances_inside c.program at.number f is_program at.there e)) in
          record {
            site = ValueOf at.reference f.index;
            there = (object, there, holder.2.2, below);
            old = tt;
            suits = kind_suits f.kind (ValueOf at.reference f.index) tt tt;
            word = refl;
            stored = λ n h. subst (λ a. IsValue c.program objects a f.index n) holder.2.2 (field_stored c.program is_program objects (slice_index s.words NEXT_FREE_WORD) facts.apart at.number f at.there object n there of_class e h);
            holds = subst (λ a. KindHolds (HasClass objects) f.kind (slice_index s.words (value_word a f.index))) holder.2.2 (facts.typed.places.fields object at.number f there at.there e of_class);
          }

  pub read_holds : (target : Target) (v : Variable) (f : FieldInfo) → IsNamedField c.program (HasClass objects) target v f → KindHolds (HasClass objects) f.kind (slice_index s.words (variable_word v))
  read_holds target v f at = let k = variable_site target v f at in subst (λ w. KindHolds (HasClass objects) f.kind (slice_index s.words w)) (sym k.word) k.holds

  reads_fit : (target : Target) (v : Variable) (f : FieldInfo) → IsNamedField c.program (HasClass objects) target v f → FitsAt c.program objects s (variable_content c.program target) (Load (variable_word v))
  reads_fit target v f at =
      let k = variable_site target v f at in
      subst (λ content. FitsAt c.program objects s content (Load (variable_word v))) (sym (content_is c marked objects s facts target v f at)) (loads k.site (kind_content f.kind) (variable_word v) k.there k.old k.suits k.word)

  writes_fit : (target : Target) (v : Variable) (f : FieldInfo) (n : ℕ) → IsNamedField c.program (HasClass objects) target v f → KindHolds (HasClass objects) f.kind n
      → FitsAt c.program objects s (variable_content c.program target) (Store (variable_word v) n)
  writes_fit target v f n at h =
      let k = variable_site target v f at in
      subst (λ content. FitsAt c.program objects s content (Store (variable_word v) n)) (sym (content_is c marked objects s facts target v f at))
      (record { site = k.site; there = k.there; word = k.word; suits = k.suits; old = k.old; left = k.stored n h })

  -- ---- the event that begins an instruction

  header_there : (class a : ℕ) → IsOf (HasClass objects) class a → HasObject objects a
  header_there class a k = (k.2.0, k.2.1, k.2.2)

  effect_fits : (x : Thread) (m : MethodInfo) (insn : Insn) (target : Target) (r : OpRow) (stack : List ℕ) (pc : ℕ) (e : Effect) → AttemptHolds c (HasClass objects) x.frames x.attempt → Allowed c.program m (HasClass objects) insn target r stack e
      → FitsIf c.program objects s (effect_content c.program target e) (effect_wants x pc e)
  effect_fits x m insn target r stack pc (Goes to made) h al = elim (nat_le to pc) as (λ (b : Bool). FitsIf c.program objects s Lock (if b then looks x.attempt else None))
      [ true ↦ look_fits x.frames x.attempt h | false ↦ tt ]
  effect_fits x m insn target r stack pc (Calls number) h al = look_fits x.frames x.attempt h
  effect_fits x m insn target r stack pc (Reads v) h al = reads_fit target v al.1 al.2
  effect_fits x m insn target r stack pc (Writes v n) h al = writes_fit target v al.1 n al.2 al.3
  effect_fits x m insn target r stack pc (Indexes a i stored) h al = loads (HeaderOf a) Header (header_word a) (header_there INT_ARRAY_CLASS a al.1) tt tt refl
  effect_fits x m insn target r stack pc (Measures a) h al = loads (HeaderOf a) Header (header_word a) (header_there INT_ARRAY_CLASS a al.1) tt tt refl
  effect_fits x m insn target r stack pc (Raises a) h al = loads (HeaderOf a) ThrowableHeader (header_word a) (header_there THROWABLE_CLASS a al.1) tt tt refl
  effect_fits x m insn target r stack pc (Makes word size) h al = record { site = Counter NEXT_FREE_WORD; there = (omega arith, omega arith); word = refl; suits = tt; old = tt; left = λ e. omega arith }
  effect_fits x m insn target r stack pc (Prints n) h al = elim (has_print_left x) as (λ (b : Bool). FitsIf c.program objects s Any (if b then Some (Add NEXT_TICKET_WORD 1) else None))
      [ true ↦ record { site = Counter NEXT_TICKET_WORD; there = (omega arith, omega arith); word = refl; suits = tt; old = tt; left = λ e. absurd (omega (arith, e)) } | false ↦ tt ]
  effect_fits x m insn target r stack pc Stuck h al = absurd al
  effect_fits x m insn target r stack pc e h al = tt

  pub run_fits : (x : Thread) (fs : List Frame) → FramesHold c (HasClass objects) fs → AttemptHolds c (HasClass objects) x.frames x.attempt
      → FitsIf c.program objects s (run_content c.program (top_of c.program fs)) (run_wants c.program x (top_of c.program fs))
  run_fits x [] h a = tt
  run_fits x (f ∷ fs) h a =
      let k = h.0.stands in
      subst (λ o. FitsIf c.program objects s (run_content c.program o) (run_wants c.program x o)) (sym (stand_top c marked f fs k))
      (effect_fits x k.method k.insn k.target (row_of c.program k.method k.insn k.target) f.stack f.pc (effect_at c.program (top_here c f fs k)) a (allowed_here c marked (HasClass objects) (out_there c marked objects s facts) f h.0))

  -- ---- elements

  not_null : (a i : ℕ) → HasElement objects a i → (a == 0) ≡ false
  not_null a i k = some k.object.reference a k.is (facts.apart.begin k.there.0 k.object (contained_got objects k.object k.there))
    where
      some : (n a : ℕ) → n ≡ a → FIRST_READY_WORD ≤ n → (a == 0) ≡ false
      some n a e h = grind (arith, nat_tests, e, h)

  array_class : (a i : ℕ) → IsOf (HasClass objects) INT_ARRAY_CLASS a → (k : HasElement objects a i) → k.object.class ≡ INT_ARRAY_CLASS
  array_class a i array k =
      let object : Object = array.2.0 in
      let one : k.object ≡ object = same_object c.program objects (slice_index s.words NEXT_FREE_WORD) facts.apart k.object object k.there array.2.1 (k.is ∙ sym array.2.2) in
      ap (λ (o : Object). o.class) one ∙ (array.2.3 ∙ (leaves_alone array.1 INT_ARRAY_CLASS refl array.3))

  site_on : (word : ℕ) (stored : Option ℕ) (stack : List ℕ) → (HasReference stored stack → ReadsArray (HasClass objects) stored stack) → IsElementOn word stored stack → HasElementOn objects stored stack → ElementSite objects word stored
  site_on word None (i ∷ a ∷ stack) array on k = record {
    array = k.object;
    there = k.there;
    class = array_class a i (array (not_null a i k)) k;
    index = i;
    below = k.below;
    word_is = subst (λ n. word ≡ value_word n i) (sym k.is) on;
    value = tt;
  }
  site_on word (Some v) (w ∷ i ∷ a ∷ stack) array on k =
      let of = array (not_null a i k) in
      record {
        array = k.object;
        there = k.there;
        class = array_class a i of.0 k;
        index = i;
        below = k.below;
        word_is = subst (λ n. word ≡ value_word n i) (sym k.is) on.0;
        value = subst (λ n. n < 2 ^ 32) (sym on.1) of.1;
      }
  site_on word stored stack array on k = absurd (assumption)

  pub element_site : (word : ℕ) (stored : Option ℕ) (fs : List Frame) → ElementStands word stored fs → FramesHold c (HasClass objects) fs → HasElementIn objects stored fs → TopIs c (is_element_op stored) fs → ElementSite objects word stored
  element_site word stored [] e h k top = absurd e
  element_site word stored (f ∷ fs) e h k top =
      let j = h.0.stands in
      let op = ap (is_element_op stored) (same_op c marked (HasClass objects) f j top.0) ∙ top.1 in
      let al = allowed_here c marked (HasClass objects) (out_there c marked objects s facts) f h.0 in
      site_on word stored f.stack (λ some. array_read c.program j.method (HasClass objects) j.insn j.target (row_of c.program j.method j.insn j.target) j.insn.op j.insn.next f.locals stored f.stack op some al) e k

  pub element_small : (word : ℕ) (stored : Option ℕ) → ElementSite objects word stored → slice_index s.words word < 2 ^ 32
  element_small word stored k = subst (λ w. slice_index s.words w < 2 ^ 32) (sym k.word_is) (facts.typed.places.elements k.array k.index k.there k.class k.below)

  pub element_fits : (word : ℕ) (stored : Option ℕ) → ElementSite objects word stored → FitsAccess c.program objects s IntPlace (element_wants word stored)
  element_fits word None k = loads (ValueOf k.array.reference k.index) IntPlace word (k.array, k.there, refl, k.below) tt tt k.word_is
  element_fits word (Some v) k = record {
    site = ValueOf k.array.reference k.index;
    there = (k.array, k.there, refl, k.below);
    word = k.word_is;
    suits = tt;
    old = tt;
    left = element_stored c.program is_program objects (slice_index s.words NEXT_FREE_WORD) facts.apart k.array k.index v k.there k.class k.value;
  }
