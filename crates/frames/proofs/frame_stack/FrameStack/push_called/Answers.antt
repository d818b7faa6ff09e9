use Rattle.std.proofs.Common.{◌≡◌, ℕ, List, ◌++◌, length, take, drop, ◌∙◌, arith}
use Rattle.frames.proofs.{LayLaws.lent, CallLaws.{room_left, Pushed, arguments, arguments_are, pushed_call}}
use Rattle.frames.proofs.frame_stack.FrameStack.push_called.Goals as goal

pub overflow_sub-at : goal.overflow_sub-at
overflow_sub-at c = (room_left c.self.inside c.self.invariant c.args.m.now (rw (← c.self.view_is) at c.requires.room)).1

pub lay-requires-clause-below : goal.lay-requires-clause-below
lay-requires-clause-below c = omega (arith, (room_left c.self.inside c.self.invariant c.args.m.now (rw (← c.self.view_is) at c.requires.room)).1)

pub overflow_sub-self : goal.overflow_sub-self
overflow_sub-self c = (room_left c.self.inside c.self.invariant c.args.m.now (rw (← c.self.view_is) at c.requires.room)).0

-- the slots when they have been laid
abbrev after : goal.After-self-6-1 → List ℕ
after c = take c.self.inside.slots.len (c.lay.new.slots ++ drop (length c.lay.new.slots) c.self.inside.slots.items)

made : (c : goal.After-self-6-1) → Pushed c.self.inside c.args.number c.args.m.now (arguments c.self.inside c.args.m.now) c.receiver_at-receiver.result (after c)
made c =
    let same : length c.lay.new.slots ≡ length c.self.inside.slots.items = rw c.deref_mut.ensures.value at c.lay.ensures.length in
    let whole = lent c.self.inside.slots.len c.self.inside.slots.items c.lay.new.slots (rw c.deref_mut.ensures.value at c.deref_mut.ensures.len) same in
    rw whole record {
      laid = c.self.invariant;
      method_is = rw (← c.self.view_is) at c.requires.method;
      fits = c.requires.fits;
      left = rw (← c.self.view_is) at c.requires.room;
      same = same;
      above = rw c.deref_mut.ensures.value at c.lay.ensures.above;
      put = (rw (c.argument_count-count.ensures, c.deref_mut.ensures.value) at c.lay.ensures.laid) ∙ arguments_are c.self.inside c.self.invariant (rw (← c.self.view_is) at c.requires.frame) c.args.m.now (rw (← c.self.view_is) at c.requires.given);
      object = rw (c.is_static.ensures, c.as_slice.ensures.value, whole) at c.receiver_at-receiver.ensures;
    }

pub invariant_of-self : goal.invariant_of-self
invariant_of-self c =
    let some = rw (← c.self.view_is) at c.requires.frame in
    let had = rw (← c.self.view_is) at c.requires.given in
    rw c.argument_count-count.ensures (pushed_call c.self.inside c.self.invariant some c.args.m.now had _ _ _ (made c)).laid

pub returns : goal.returns
returns c =
    let some = rw (← c.self.view_is) at c.requires.frame in
    let had = rw (← c.self.view_is) at c.requires.given in
    rw (← c.self.view_is, c.argument_count-count.ensures) (pushed_call c.self.inside c.self.invariant some c.args.m.now had _ _ _ (made c)).frames
