-- A call: the caller waits, and the called method begins.
use Rattle.std.proofs.Common.{◌≡◌, ℕ, if◌then◌else◌, zero, suc, ◌-◌, ◌≤◌, Bool, true, false, cond, List, [], ◌∷◌, ◌++◌, drop, take, reverse, length, replicate, Some, inl, refl, sym, ap, ◌∙◌, subst, arith, slice_get}
use Rattle.std.proofs.lemmas.List.{length-append, length-replicate}
use Rattle.lists.proofs.{ListLaws.same_some, StackLaws.reverse_cons}
use Rattle.jvm_types.specs.{Members.{is_static, is_synchronized}, declared.{op_row.Want.Want, program.MethodInfo.MethodInfo}}
use Rattle.laws_programs.specs.EntryLaws.{receiver_count}
use Rattle.checked_program.specs.{LockTags.entry_tags, MarkedProgram.{MarkedProgram, IsMarked}, Marks.called_method, declared.tag.Tag.TheVariants.{Untagged, This}}
use Rattle.machine_types.specs.{Frames.{Top, effect_at, waiting, entry_frame, arguments_of, first_or_null, monitor_of}, Onward.root_arguments, Standing.{Standing, Whole, row_at}, Threads.Frame}
use Rattle.machine_types.{specs.{Shown.{HaveValues, Shows, ShowsAtCall, ShowBelow, Show, own_entry}, declared.effect.Effect.TheVariants.Calls}, proofs.EffectCases.HasTop}
use Rattle.laws_threads.{specs.CallLaws.{callee_frame, CalledStand, CallsShow, CallsEnter, RootsShow}, proofs.{Callers.row_of_call, Calls.takes_arguments, EffectsOfInsns.{Fits, IsCalling}}}
use Rattle.laws_threads.proofs.{FramePlaces.{Lands, lands, top_by}, MarkedMethods.{MethodAt, method_at}, ShownFrames.{by_top, fits_at, whole_landed}, TagValues.dropped}

-- ---- the locals that a method begins with

untagged_values : (choice : ℕ → ℕ) (receiver n : ℕ) (vs : List ℕ) → n ≤ length vs → HaveValues choice receiver (replicate n Untagged) vs
untagged_values choice receiver zero vs e = tt
untagged_values choice receiver (suc n) [] e = absurd (omega (arith, e))
untagged_values choice receiver (suc n) (v ∷ vs) e = (tt, untagged_values choice receiver n vs (omega (arith, e)))

filled : (n : ℕ) (args : List ℕ) → n ≤ length (args ++ replicate (n - length args) 0)
filled n args = let all = length-append args (replicate (n - length args) 0) in let more = length-replicate {A = ℕ} (n - length args) 0 in omega (arith, all, more)

entry_values : (choice : ℕ → ℕ) (static : Bool) (n : ℕ) (args : List ℕ) → (static ≡ false → HasTop args)
    → HaveValues choice (cond static 0 (first_or_null args)) (cond static (replicate n Untagged) (This ∷ replicate (n - 1) Untagged)) (args ++ replicate (n - length args) 0)
entry_values choice true n args some = untagged_values choice 0 n (args ++ replicate (n - length args) 0) (filled n args)
entry_values choice false n [] some = absurd (some refl)
entry_values choice false n (a ∷ args) some =
    (refl, untagged_values choice a (n - 1) (args ++ replicate (n - suc (length args)) 0) (let all = length-append args (replicate (n - suc (length args)) 0) in let more = length-replicate {A = ℕ} (n - suc (length args)) 0 in omega (arith, all, more)))

-- ---- the arguments of a call

top_behind : (xs : List ℕ) (x : ℕ) → HasTop (xs ++ x ∷ [])
top_behind [] x = tt
top_behind (y ∷ xs) x = tt

some_taken : (n : ℕ) (takes : List Want) (s : List ℕ) → length takes ≡ suc n → HasTop s → HasTop (reverse (take (length takes) s))
some_taken n takes [] e h = absurd h
some_taken n takes (v ∷ s) e h = subst (λ (m : ℕ). HasTop (reverse (take m (v ∷ s)))) (sym e) (subst HasTop (sym (reverse_cons v (take n s))) (top_behind (reverse (take n s)) v))

module _ (c : MarkedProgram) (is : IsMarked c) where
  -- ---- the frame of a method

  pub entry_lands : (number : ℕ) (m : MethodInfo) (args : List ℕ) → slice_get c.program.methods number ≡ Some m → (a : MethodAt c is number m) → Lands c is (entry_frame number m args) m a.tags (entry_tags m)
  entry_lands number m args e a = lands c is (entry_frame number m args) m a.tags (entry_tags m) e a.its_tags a.holds.sound.entry

  entry_shows : (number : ℕ) (m : MethodInfo) (args : List ℕ) → slice_get c.program.methods number ≡ Some m → (is_static m.flags ≡ false → HasTop args)
      → Shows c Whole (entry_frame number m args) (own_entry c.program m (entry_frame number m args))
  entry_shows number m args e some =
      let a = method_at c is number m e in
      whole_landed c is (entry_frame number m args) m a.tags (entry_tags m) (λ pc. 0) (entry_lands number m args e a) (entry_values (λ pc. 0) (is_static m.flags) m.max_locals args some) tt

  -- ---- the caller

  waits : (f : Frame) (own : List ℕ) (top : Shows c Whole f own) (number : ℕ) → called_method top.stands.insn.op top.stands.target ≡ Some number
      → ShowsAtCall c number (record f { stack = drop (length (row_at c f top.stands).takes) f.stack }) own
  waits f own top number calls =
      let k = top.stands in
      record {
        count = length (row_at c f k).takes;
        shows = record {
          stands = record { number = k.number; method = k.method; insn = k.insn; target = k.target; tags = k.tags; at = k.at; frames = k.frames; types_of_method = k.types_of_method; types = k.types; types_are = k.types_are; pc_is = k.pc_is };
          made = top.made;
          choice = top.choice;
          locals = top.locals;
          stack = dropped top.choice f.receiver (length (row_at c f k).takes) k.tags.stack f.stack top.stack;
          shown_are = top.shown_are;
        };
        calls = calls;
        taken = refl;
      }

  calling : (f : Frame) (below : List Frame) (k : Standing c f) (number : ℕ) → effect_at c.program (top_by c is f below k) ≡ Calls number → IsCalling c.program k.insn k.target f.stack number
  calling f below k number g = subst (Fits c.program k.method k.insn k.target f.stack) g (fits_at c is f below k)

  pub called_frames : (f : Frame) (below : List Frame) (own rest : List ℕ) (top : Shows c Whole f own) → ShowBelow c f.method below rest → (number : ℕ) (called : MethodInfo) → IsCalling c.program top.stands.insn top.stands.target f.stack number
      → slice_get c.program.methods number ≡ Some called
      → Show c Whole (callee_frame c.program (top_by c is f below top.stands) number called ∷ waiting c.program (top_by c is f below top.stands)) (own_entry c.program called (callee_frame c.program (top_by c is f below top.stands) number called) ++ (own ++ rest))
  called_frames f below own rest top b number called a d =
      let k = top.stands in
      let same : a.called ≡ called = same_some (sym a.there ∙ d) in
      let count = takes_arguments called (row_at c f k) (row_of_call c is f k number called a.names d) in
      let some : is_static called.flags ≡ false → HasTop (reverse (take (length (row_at c f k).takes) f.stack)) = λ s.
      let one : receiver_count called ≡ 1 = ap (λ b. if b then 0 else 1) s in
      some_taken (length called.args) (row_at c f k).takes f.stack (omega (arith, count, one)) (a.receiver (ap (λ (m : MethodInfo). is_static m.flags) same ∙ s)) in
      (own_entry c.program called (callee_frame c.program (top_by c is f below k) number called), own ++ rest, refl, entry_shows number called (reverse (take (length (row_at c f k).takes) f.stack)) d some, (own, rest, refl, waits f own top number a.names, b))

-- ---- the laws

pub called_law : CalledStand
called_law c fs shown at number is e s g =
    by_top c is Whole (λ fs shown (at : Top). effect_at c.program at ≡ Calls number → (called : MethodInfo) × (slice_get c.program.methods number ≡ Some called))
    (λ f below own rest top b g. let a = calling c is f below top.stands number g in (a.called, a.there)) fs shown at e s g

pub calls_law : CallsShow
calls_law c fs shown at number called is e s g d =
    by_top c is Whole (λ fs shown (at : Top). effect_at c.program at ≡ Calls number
    → Show c Whole (callee_frame c.program at number called ∷ waiting c.program at) (own_entry c.program called (callee_frame c.program at number called) ++ shown))
    (λ f below own rest top b g. called_frames c is f below own rest top b number called (calling c is f below top.stands number g) d) fs shown at e s g

pub call_enters_law : CallsEnter
call_enters_law c fs at number called is e d y =
    let a = method_at c is number called d in
    let l = entry_lands c is number called (arguments_of c.program at) d a in
    (l.stands, inl (refl, ap (λ (m : MethodInfo). is_synchronized m.flags) l.method ∙ y, ap (λ (m : MethodInfo). monitor_of c.program m (callee_frame c.program at number called)) l.method))

pub roots_law : RootsShow
roots_law c t number m is e s free =
    let own : own_entry c.program m (entry_frame number m (root_arguments t m)) ≡ [] = ap (λ (b : Bool). cond b (monitor_of c.program m (entry_frame number m (root_arguments t m)) ∷ []) []) free in
    (own_entry c.program m (entry_frame number m (root_arguments t m)), [], ap (λ (xs : List ℕ). xs ++ []) (sym own), entry_shows c is number m (root_arguments t m) e (λ q. absurd (let bad : true ≡ false = sym s ∙ q in cc)), refl)
