-- How many entries frames show hangs on where they stand alone. So the outermost exit of an attempt is known by its place.
use Rattle.std.proofs.{Common.{◌≡◌, ℕ, ◌+◌, Bool, List, [], ◌∷◌, length, map, Some, refl, sym, ap, ◌∙◌, arith, if◌then◌else◌}, lemmas.{Bool.Decides.nat_tests, List.{length-append, length-map}}}
use Rattle.jvm_types.specs.{Members.is_synchronized, declared.program.{MethodInfo.MethodInfo, Program.Program}}
use Rattle.checked_program.specs.{LockTags.TagShape, MarkedProgram.{MarkedProgram, IsMarked}}
use Rattle.machine_types.specs.{Frames.monitor_of, Shown.{tag_value, own_entry, Shows, ShowBelow, Show}, Standing.{Operands, Whole}, Structure.{count_in, once_at, held_depth, tried_depth}}
use Rattle.machine_types.specs.{Threads.{Frame, Attempt}, declared.lock.Held.Held}
use Rattle.laws_threads.proofs.{Counts.longer_by, Standings.{one_method, one_tags}, Tests.either_way}

abbrev pub own_count : MethodInfo → ℕ
own_count m = if is_synchronized m.flags then 1 else 0

own_length : (p : Program) (m : MethodInfo) (f : Frame) → length (own_entry p m f) ≡ own_count m
own_length p m f = either_way (λ (b : Bool). length (if b then monitor_of p m f ∷ [] else []) ≡ (if b then 1 else 0)) (is_synchronized m.flags) refl refl

pub shown_length : (c : MarkedProgram) (o : Operands) (f : Frame) (own : List ℕ) (s : Shows c o f own) → length own ≡ length s.stands.tags.held + own_count s.stands.method
shown_length c o f own s =
    let held = s.stands.tags.held in
    ap length s.shown_are ∙ length-append (map (tag_value s.choice f.receiver) held) (own_entry c.program s.stands.method f)
    ∙ ap (λ n. n + length (own_entry c.program s.stands.method f)) (length-map held (tag_value s.choice f.receiver)) ∙ ap (λ n. length held + n) (own_length c.program s.stands.method f)

module _ (c : MarkedProgram) (marked : IsMarked c) where
  -- two lists that one frame may show
  same_own : (o q : Operands) (f : Frame) (own other : List ℕ) → Shows c o f own → Shows c q f other → length own ≡ length other
  same_own o q f own other s t =
      let tags = one_tags c marked f s.stands t.stands in
      let method = one_method c marked f f s.stands t.stands refl in
      shown_length c o f own s ∙ ap (λ (x : TagShape). length x.held + own_count s.stands.method) tags ∙ ap (λ m. length t.stands.tags.held + own_count m) method ∙ sym (shown_length c q f other t)

  same_below : (callee again : ℕ) (fs : List Frame) (shown other : List ℕ) → ShowBelow c callee fs shown → ShowBelow c again fs other → length shown ≡ length other
  same_below callee again [] shown other s t = ap length (s ∙ sym t)
  same_below callee again (f ∷ fs) shown other s t =
      let own = same_own _ _ f s.0 t.0 s.3.shows t.3.shows in
      let rest = same_below f.method f.method fs s.1 t.1 s.4 t.4 in
      let first : length shown ≡ length s.0 + length s.1 = ap length s.2 ∙ length-append s.0 s.1 in
      let second : length other ≡ length t.0 + length t.1 = ap length t.2 ∙ length-append t.0 t.1 in
      omega (arith, own, rest, first, second)

  -- where the frame of the entry shows as many entries as it did when it entered, no other entry is left
  pub none_inner : (o : Operands) (a : Attempt) (f : Frame) (below : List Frame) (held : List Held) (shown back : List ℕ) → Show c o (f ∷ below) shown → Show c Whole (a.entry ∷ below) back
      → ((m : ℕ) → count_in m shown ≡ held_depth m held + tried_depth m (Some a)) → ((m : ℕ) → count_in m back ≡ held_depth m held + once_at a.monitor m)
      → ((own other : List ℕ) → Shows c o f own → Shows c Whole a.entry other → length own ≡ length other) → a.inner ≡ 0
  none_inner o a f below held shown back s t counts counted alike =
      let own = alike s.0 t.0 s.3 t.3 in
      let rest = same_below f.method a.entry.method below s.1 t.1 s.4 t.4 in
      let first : length shown ≡ length s.0 + length s.1 = ap length s.2 ∙ length-append s.0 s.1 in
      let second : length back ≡ length t.0 + length t.1 = ap length t.2 ∙ length-append t.0 t.1 in
      let longer : length shown ≡ a.inner + length back = longer_by shown back a.monitor a.inner (λ m. grind (arith, nat_tests, counts m, counted m)) in
      omega (arith, own, rest, first, second, longer)
