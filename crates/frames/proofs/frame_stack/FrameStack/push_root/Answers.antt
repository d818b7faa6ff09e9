use Rattle.std.proofs.Common.{◌≡◌, ℕ, List, ◌++◌, length, take, drop}
use Rattle.machine_types.specs.Onward.{root_arguments}
use Rattle.frames.proofs.{LayLaws.lent, CallLaws.{room_left, Pushed, pushed_root}}
use Rattle.frames.proofs.frame_stack.FrameStack.push_root.Goals as goal

pub overflow_sub-at : goal.overflow_sub-at
overflow_sub-at c = (room_left c.self.inside c.self.invariant c.args.m.now (rw (← c.self.view_is) at c.requires.room)).1

pub overflow_sub-self : goal.overflow_sub-self
overflow_sub-self c = (room_left c.self.inside c.self.invariant c.args.m.now (rw (← c.self.view_is) at c.requires.room)).0

-- the slots when they have been laid
abbrev after : goal.After-self-4-1 → List ℕ
after c = take c.self.inside.slots.len (c.lay_root.new.slots ++ drop (length c.lay_root.new.slots) c.self.inside.slots.items)

made : (c : goal.After-self-4-1) → Pushed c.self.inside c.args.number c.args.m.now (root_arguments c.args.t c.args.m.now) c.receiver_at-receiver.result (after c)
made c =
    let same : length c.lay_root.new.slots ≡ length c.self.inside.slots.items = rw c.deref_mut.ensures.value at c.lay_root.ensures.length in
    let whole = lent c.self.inside.slots.len c.self.inside.slots.items c.lay_root.new.slots (rw c.deref_mut.ensures.value at c.deref_mut.ensures.len) same in
    rw whole record {
      laid = c.self.invariant;
      method_is = rw (← c.self.view_is) at c.requires.method;
      fits = c.requires.fits;
      left = rw (← c.self.view_is) at c.requires.room;
      same = same;
      above = rw c.deref_mut.ensures.value at c.lay_root.ensures.above;
      put = rw c.len.ensures at c.lay_root.ensures.laid;
      object = rw (c.is_static.ensures, c.as_slice.ensures.value, whole) at c.receiver_at-receiver.ensures;
    }

pub invariant_of-self : goal.invariant_of-self
invariant_of-self c = (pushed_root _ _ _ _ _ _ (made c) (rw (← c.self.view_is) at c.requires.none)).laid

pub returns : goal.returns
returns c = rw (← c.self.view_is) (pushed_root _ _ _ _ _ _ (made c) (rw (← c.self.view_is) at c.requires.none)).frames
