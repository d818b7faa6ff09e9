-- Where an instruction begins outside attempts, the thread holds each monitor that its top frame shows: that of its receiver where
-- a tag of `this` is held, and where the method is synchronized on it, and that of its class where it is synchronized on that.
use Rattle.std.proofs.Common.{◌≡◌, ◌⊎◌, inl, inr, ℕ, ◌+◌, ◌<◌, Bool, true, false, not, List, [], ◌∷◌, ◌++◌, map, Option, Some, None, refl, sym, subst, arith, ◌==◌, if◌then◌else◌}
use Rattle.std.{specs.List.list_any, proofs.lemmas.Bool.cases_Bool}
use Rattle.lists.proofs.TestLaws.{both_are_true}
use Rattle.jvm_types.specs.{ClassNames.file_of_class, Members.{is_static, is_synchronized}, declared.program.{MethodInfo.MethodInfo, Program.Program}}
use Rattle.checked_program.specs.{FrozenPlaces.{locks_this, locks_class}, LockTags.{TagShape, is_this}, MarkedProgram.{MarkedProgram, IsMarked}, declared.tag.Tag.Tag}
use Rattle.checked_program.specs.declared.tag.Tag.TheVariants.{Untagged, This, At}
use Rattle.machine_types.specs.{HeldMonitors.held_at, Shown.{tag_value, own_entry, shown_entries, Shows}, Standing.{Standing, Whole}, Structure.{Stands, count_in}, Threads.Frame, Words.class_object}
use Rattle.machine_types.specs.declared.{lock.Held.Held, phase.Phase.TheVariants.Run}
use Rattle.laws_threads.proofs.{Counts.once_in, FramePlaces.one_standing, HeldLists.depth_none, Tests.either_way}

-- ---- counts

later_counted : (m n : ℕ) (more : List ℕ) → 0 < count_in m more → 0 < count_in m (n ∷ more)
later_counted m n more l = omega (arith, l)

pub front_counted : (m : ℕ) (ns more : List ℕ) → 0 < count_in m ns → 0 < count_in m (ns ++ more)
front_counted m [] more l = absurd (omega (arith, l))
front_counted m (n ∷ ns) more l = either_way (λ (b : Bool). 0 < (if b then 1 else 0) + count_in m ns → 0 < (if b then 1 else 0) + count_in m (ns ++ more)) (n == m) (λ l. omega arith)
    (λ l. let less : 0 < count_in m ns = omega (arith, l) in let k = front_counted m ns more less in omega (arith, k)) l

pub back_counted : (m : ℕ) (ns more : List ℕ) → 0 < count_in m more → 0 < count_in m (ns ++ more)
back_counted m [] more l = l
back_counted m (n ∷ ns) more l = later_counted m n (ns ++ more) (back_counted m ns more l)

-- ---- what a frame shows of its receiver

tag_counted : (choice : ℕ → ℕ) (receiver : ℕ) (held : List Tag) → list_any is_this held ≡ true → 0 < count_in receiver (map (tag_value choice receiver) held)
tag_counted choice receiver [] e = absurd (cc)
tag_counted choice receiver (This ∷ held) e = once_in receiver (map (tag_value choice receiver) held)
tag_counted choice receiver (Untagged ∷ held) e = later_counted receiver 0 (map (tag_value choice receiver) held) (tag_counted choice receiver held e)
tag_counted choice receiver (At pc ∷ held) e = later_counted receiver (choice pc) (map (tag_value choice receiver) held) (tag_counted choice receiver held e)

method_counted : (p : Program) (m : MethodInfo) (f : Frame) → locks_this m ≡ true → 0 < count_in f.receiver (own_entry p m f)
method_counted p m f e =
    let parts = both_are_true (is_synchronized m.flags) (not (is_static m.flags)) e in
    elim (cases_Bool (is_static m.flags)) [ inl s ↦ absurd (let bad : false ≡ true = rw s at parts.1 in cc) | inr s ↦ rw (parts.0, s) (once_in f.receiver []) ]

pub entries_counted : (p : Program) (choice : ℕ → ℕ) (m : MethodInfo) (tags : TagShape) (f : Frame) → (list_any is_this tags.held ≡ true) ⊎ (locks_this m ≡ true) → 0 < count_in f.receiver (shown_entries p choice m tags f)
entries_counted p choice m tags f (inl e) = front_counted f.receiver (map (tag_value choice f.receiver) tags.held) (own_entry p m f) (tag_counted choice f.receiver tags.held e)
entries_counted p choice m tags f (inr e) = back_counted f.receiver (map (tag_value choice f.receiver) tags.held) (own_entry p m f) (method_counted p m f e)

-- ---- what is shown is held

module _ (c : MarkedProgram) (marked : IsMarked c) where
  shown_held : (m : ℕ) (f : Frame) (fs : List Frame) (held : List Held) (stands : Stands c Run (f ∷ fs) held None) → 0 < count_in m stands.show.0 → (h : Held) × (held_at held m ≡ Some h)
  shown_held m f fs held stands own = (elim (held_at held m) as (λ (o : Option Held). held_at held m ≡ o → (h : Held) × (held_at held m ≡ Some h)) [
    | None ↦ λ e. absurd (omega (arith, stands.depths m, (subst (λ (ns : List ℕ). 0 < count_in m ns) (sym stands.show.2) (front_counted m stands.show.0 stands.show.1 own)), depth_none m held e))
    | Some h ↦ λ e. (h, e)
  ]) refl

  pub holds_receiver : (f : Frame) (fs : List Frame) (held : List Held) (k : Standing c f) → Stands c Run (f ∷ fs) held None → (list_any is_this k.tags.held ≡ true) ⊎ (locks_this k.method ≡ true)
      → (h : Held) × (held_at held f.receiver ≡ Some h)
  holds_receiver f fs held k stands shows = shown_held f.receiver f fs held stands (subst (λ (ns : List ℕ). 0 < count_in f.receiver ns) (sym top.shown_are) (entries_counted c.program top.choice top.stands.method top.stands.tags f shows_there))
    where
      top : Shows c Whole f stands.show.0
      top = stands.show.3

      shows_there : (list_any is_this top.stands.tags.held ≡ true) ⊎ (locks_this top.stands.method ≡ true)
      shows_there =
          let one = one_standing c marked f k top.stands in
          subst (λ (m : MethodInfo). (list_any is_this top.stands.tags.held ≡ true) ⊎ (locks_this m ≡ true)) one.method
          (subst (λ (tags : TagShape). (list_any is_this tags.held ≡ true) ⊎ (locks_this k.method ≡ true)) one.tags shows)

  abbrev class_monitor : MethodInfo → ℕ
  class_monitor m = class_object c.program (file_of_class m.class)

  pub holds_class : (f : Frame) (fs : List Frame) (held : List Held) (k : Standing c f) → Stands c Run (f ∷ fs) held None → locks_class k.method ≡ true → (h : Held) × (held_at held (class_monitor k.method) ≡ Some h)
  holds_class f fs held k stands locks = shown_held (class_monitor k.method) f fs held stands
      (subst (λ (ns : List ℕ). 0 < count_in (class_monitor k.method) ns) (sym top.shown_are) (back_counted (class_monitor k.method) (map (tag_value top.choice f.receiver) top.stands.tags.held) (own_entry c.program top.stands.method f) own))
    where
      top : Shows c Whole f stands.show.0
      top = stands.show.3

      own : 0 < count_in (class_monitor k.method) (own_entry c.program top.stands.method f)
      own = subst (λ (m : MethodInfo). 0 < count_in (class_monitor k.method) (own_entry c.program m f)) (one_standing c marked f k top.stands).method
          (let parts = both_are_true (is_synchronized k.method.flags) (is_static k.method.flags) locks in rw (parts.0, parts.1) (once_in (class_monitor k.method) []))
