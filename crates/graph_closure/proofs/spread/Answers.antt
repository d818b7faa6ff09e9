use Rattle.std.proofs.Common.{◌≡◌, ◌<◌, ◌++◌, ◌∷◌, [], Bool, true, false, length, replicate, sym, subst, refl, arith, ℕ, List, get_or-set_same, slice_index_or, slice_set}
use Rattle.std.proofs.lemmas.List.{length-replicate}
use Rattle.graph_closure.{specs.{Chains.{Going, latest, zeros}, LeastSet.IsGraph}, proofs.SpreadLaws.{begun, off_at, zeros_all, zeros_only, first_in, taken, seen, ended}}
use Rattle.graph_closure.proofs.spread.Goals as goal

pub loop-b-init : goal.loop-b-init
loop-b-init c =
    let is : c.in_ok-done.done.items ≡ replicate (length c.args.need.now) false = c.in_ok-done.ensures.items_if_clones_equal (λ y e. e) in
    record {
      long = refl;
      goes = (
        0,
        rw (is, c.in_ok-work.ensures) (begun c.args.from.now c.args.to.now c.args.need.now (zeros c.args.need.now (length c.args.need.now)) (replicate (length c.args.need.now) false) 0
            (length-replicate _ _) (off_at (length c.args.need.now)) (λ a. zeros_all c.args.need.now (length c.args.need.now) a) (λ a. zeros_only c.args.need.now (length c.args.need.now) a)),
      );
    }

-- a turn: b is taken from the nodes that wait
record Turn (from to start need : List ℕ) : Type 0 where
  old : List ℕ
  work : List ℕ
  done : List Bool
  c : ℕ
  b : ℕ
  q : old ≡ work ++ b ∷ []
  s : Going from to start need old done c 0

module _ {from to start need : List ℕ} (turn : Turn from to start need) where
  open turn use {old, work, done, c, b, q, s}

  in_done : b < length done
  in_done = omega (arith, (first_in from to start need old work done c b q s).0, s.all)

  in_need : b < length need
  in_need = omega (arith, (first_in from to start need old work done c b q s).0, s.long)

  -- what the taking of b leaves, where it is not done yet
  begun_at : (now : List Bool) → IsGraph (length start) from to → (slice_index_or done b false ≡ false) × (now ≡ slice_set done b true) → Going from to start need work now b (latest to b (length to))
  begun_at now g h = subst (λ d. Going from to start need work d b (latest to b (length to))) (sym h.1) (taken from to start need work done c b g (subst (λ w. Going from to start need w done c 0) q s) h.0)

  noted : (now : List Bool) → (slice_index_or done b false ≡ false) × (now ≡ slice_set done b true) → slice_index_or now b false ≡ true
  noted now h = let inside : b < length done = in_done in rw h.1 (rw get_or-set_same refl)

  -- and where it is
  seen_at : (now : List Bool) → (slice_index_or done b false ≡ true) × (now ≡ done) → Going from to start need work now c 0
  seen_at now h = subst (λ d. Going from to start need work d c 0) (sym h.1) (seen from to start need work done c b (subst (λ w. Going from to start need w done c 0) q s) h.0)

pub begin-requires : goal.begin-requires
begin-requires c = in_done (record { old = c.loop-b.work.items; work = c.next.new.work.items; done = c.loop-b.done.items; c = c.loop-b.invariant.goes.0; b = c.in-Some.b; q = c.in-Some.ensures; s = c.loop-b.invariant.goes.1 })

pub release-requires-clause-inside : goal.release-requires-clause-inside
release-requires-clause-inside c = in_need (record { old = c.loop-b.work.items; work = c.next.new.work.items; done = c.loop-b.done.items; c = c.loop-b.invariant.goes.0; b = c.in-Some.b; q = c.in-Some.ensures; s = c.loop-b.invariant.goes.1 })

pub release-requires-clause-done : goal.release-requires-clause-done
release-requires-clause-done c = rw c.as_slice-then-begin-2.ensures.value (noted (record { old = c.loop-b.work.items; work = c.next.new.work.items; done = c.loop-b.done.items; c = c.loop-b.invariant.goes.0; b = c.in-Some.b; q = c.in-Some.ensures; s = c.loop-b.invariant.goes.1 }) c.begin.new.done.items (c.if-begin.ensures.yes refl))

pub loop-b-preserved-in-Continue-branch-4 : goal.loop-b-preserved-in-Continue-branch-4
loop-b-preserved-in-Continue-branch-4 c =
    let d : c.as_slice-then-begin-2.result.now ≡ c.begin.new.done.items = c.as_slice-then-begin-2.ensures.value in
    record {
      long = omega (arith, c.release.auto.need, c.loop-b.invariant.long);
      goes = (
        c.in-Some.b,
        subst (λ x. Going c.args.from.now c.args.to.now c.args.need.now c.release.new.need c.release.new.work.items x c.in-Some.b 0) d
            (c.in_ok-release.ensures.goes c.args.need.now (sym c.loop-b.invariant.long)
            (rw d (begun_at (record { old = c.loop-b.work.items; work = c.next.new.work.items; done = c.loop-b.done.items; c = c.loop-b.invariant.goes.0; b = c.in-Some.b; q = c.in-Some.ensures; s = c.loop-b.invariant.goes.1 }) c.begin.new.done.items c.requires.graph (c.if-begin.ensures.yes refl)))),
      );
    }

pub loop-b-preserved : goal.loop-b-preserved
loop-b-preserved c = record {
  long = c.loop-b.invariant.long;
  goes = (c.loop-b.invariant.goes.0, seen_at (record { old = c.loop-b.work.items; work = c.next.new.work.items; done = c.loop-b.done.items; c = c.loop-b.invariant.goes.0; b = c.in-Some.b; q = c.in-Some.ensures; s = c.loop-b.invariant.goes.1 }) c.begin.new.done.items (c.if-begin.ensures.not refl));
}

pub returns : goal.returns
returns c = ended c.args.from.now c.args.to.now c.args.need.now c.loop-b.need c.loop-b.done.items c.requires.graph c.loop-b.invariant.goes.0 (subst (λ w. Going c.args.from.now c.args.to.now c.args.need.now c.loop-b.need w c.loop-b.done.items c.loop-b.invariant.goes.0 0) c.in_default.ensures c.loop-b.invariant.goes.1)
