-- An attempt stands as its top frame goes along an edge, calls, returns to the frame below, or ends by an exception.
use Rattle.std.proofs.Common.{false, ◌≡◌, ◌≢◌, inr, ⊎_elim, ℕ, ◌-◌, ◌≤◌, true, List, [], ◌∷◌, ◌++◌, length, take, Some, refl, sym, ap, ◌∙◌, subst, arith, ◌==◌, slice_get, if◌then◌else◌}
use Rattle.std.proofs.lemmas.Bool.{cases_eq, Decides.nat_tests}
use Rattle.lists.proofs.{ListLaws.same_some, TestLaws.second_true}
use Rattle.jvm_types.specs.{CodeTable.{branches_to, falls_through}, Members.is_synchronized, Numbers.has_number, Verifying.edges, declared.{code.Insn.Insn, outcome.Thrown.Thrown, program.MethodInfo.MethodInfo}}
use Rattle.checked_program.specs.{LockTags.TagShape, MarkedProgram.{MarkedProgram, IsMarked}, Marks.called_method, TaggedCode.{Goes, onward, row_of}, Tagging.tags_after}
use Rattle.laws_sections.proofs.SectionCalls.{no_exit}
use Rattle.machine_types.specs.{Elision.put_back, Frames.{top_of, given}, Onward.{back, unwound}, Standing.Standing, Structure.{IsPhaseInside, AttemptStands, RunsSection, frames_inside}}
use Rattle.machine_types.specs.{Threads.{Frame, Attempt}, declared.{lock.Held.Held, phase.Phase.Phase}}
use Rattle.laws_threads.{specs.InsideMoves.{GoesOnInside, OnwardStands}, proofs.{Base.{entry_of, of_synchronized}, EffectOps.call_falls, FramePlaces.has_top, FramesInside.{one_more, put_back_over}}}
use Rattle.laws_threads.proofs.{Inside.{base_below, stands_on}, SectionFrames.{Runs, Caller, IsExitOf, section_of_runs, moved, caller}}
use Rattle.jvm_types.specs.declared.code.Op.TheVariants as ops
use Rattle.machine_types.specs.declared.phase.Phase.TheVariants as phases

-- ---- edges

last_number : (xs : List ℕ) (n : ℕ) → has_number (xs ++ n ∷ []) n ≡ true
last_number [] n = let e : (n == n) ≡ true = grind (arith, nat_tests) in rw e refl
last_number (x ∷ xs) n = second_true (x == n) (has_number (xs ++ n ∷ []) n) (last_number xs n)

-- an instruction that falls through has an edge to the next
pub next_edge : (insn : Insn) → falls_through insn.op ≡ true → has_number (edges insn) insn.next ≡ true
next_edge insn e = subst (λ b. has_number (branches_to insn.op ++ (if b then insn.next ∷ [] else [])) insn.next ≡ true) (sym e) (last_number (branches_to insn.op) insn.next)

-- ---- frames come and go

-- another top frame in place of one
pub put_back_top : (a : Attempt) (f g : Frame) (below : List Frame) → a.base ≤ length below → put_back a (g ∷ below) ≡ put_back a (f ∷ below)
put_back_top a f g below l = put_back_over a g below l ∙ sym (put_back_over a f below l)

-- where the frame of the entry is the top one there is none but it
pub only_entry : (a : Attempt) (below : List Frame) → a.base ≡ length below → frames_inside a below ≡ []
only_entry a below e = let zero_more : length below - a.base ≡ 0 = omega (arith, e) in ap (λ i. take i below) zero_more

module _ (c : MarkedProgram) (marked : IsMarked c) (phase : Phase) (f : Frame) (held : List Held) (a : Attempt) where
  -- ---- along an edge

  pub along : (below : List Frame) (other : Phase) (k : AttemptStands c phase (f ∷ below) held a) (r : Runs c a f (frames_inside a below)) (g : Frame) (l : Standing c g) (h : TagShape) → g.method ≡ f.method → g.receiver ≡ f.receiver
      → Goes c.program r.stands.method r.stands.insn r.stands.target r.stands.tags l.insn h → IsPhaseInside a.monitor other → (r.stands.insn.op ≡ ops.Monitorexit → ⊥) → AttemptStands c other (g ∷ below) held a
  along below other k r g l h same_method same_receiver goes inside never = ⊎_elim
      (λ (runs : RunsSection c a (g ∷ frames_inside a below)). stands_on c phase other (f ∷ below) (g ∷ below) held a a.inner k inside k.based (put_back_top a f g below (base_below a f below k.based)) (inr (subst (RunsSection c a) (sym (one_more a g below (base_below a f below k.based))) runs)))
      (λ (x : (frames_inside a below ≡ []) × IsExitOf c marked a f r.stands). absurd (never x.1.exits))
      (moved c marked a f g (frames_inside a below) r l h same_method same_receiver goes)

  -- ---- to the frame below

  -- the calling frame, at its call
  below_is : (b : Frame) (more : List Frame) → a.base ≤ length more → Runs c a f (frames_inside a (b ∷ more)) → (upper : Runs c a f (b ∷ frames_inside a more)) × Caller c marked a f b (frames_inside a more) upper
  below_is b more l r = let upper = subst (Runs c a f) (one_more a b more l) r in (upper, caller c marked a f b (frames_inside a more) upper)

  not_base : (b : Frame) (more : List Frame) → a.base ≤ length (b ∷ more) → (a.base ≡ length (b ∷ more) → ⊥) → a.base ≤ length more
  not_base b more l never = ⊎_elim (λ (e : a.base ≡ length (b ∷ more)). absurd (never e)) (λ (e : a.base ≢ length (b ∷ more)). omega (arith, l, e)) (cases_eq a.base (length (b ∷ more)))

  -- only a synchronized method's frame is that of an entry
  pub not_alone : (below : List Frame) (k : AttemptStands c phase (f ∷ below) held a) (r : Runs c a f (frames_inside a below)) → r.stands.tags.held ≡ [] → is_synchronized r.stands.method.flags ≡ false → a.base ≡ length below → ⊥
  not_alone below k r none plain base = let bad : true ≡ false = sym (alone (frames_inside a below) r (only_entry a below base) none) ∙ plain in cc
    where
      alone : (rest : List Frame) (q : Runs c a f rest) → rest ≡ [] → q.stands.tags.held ≡ [] → is_synchronized q.stands.method.flags ≡ true
      alone [] q e h = of_synchronized c marked a f q (entry_of c marked a phase (f ∷ below) held k) h
      alone (b ∷ rest) q e h = absurd (cc)

  pub returned_on : (below : List Frame) (n : ℕ) (result : List ℕ) (k : AttemptStands c phase (f ∷ below) held a) → Runs c a f (frames_inside a below) → (a.base ≡ length below → ⊥) → OnwardStands c (back (given result (top_of c.program below)))
      → GoesOnInside c (back (given result (top_of c.program below))) held (record a { inner = n })
  returned_on [] n result k r never st = absurd (never (let l = k.based in omega (arith, l)))
  returned_on (b ∷ more) n result k r never st =
      let low = not_base b more (base_below a f (b ∷ more) k.based) never in
      let x = below_is b more low r in
      let kb : Standing c b = x.1.runs.stands in
      let z = x.1.call in
      let method : z.m ≡ kb.method = same_some (sym z.at.in_program ∙ kb.at.in_program) in
      let same : z.insn ≡ kb.insn = same_some (sym z.at.in_code ∙ ap (λ (m : MethodInfo). slice_get m.code kb.number) method ∙ kb.at.in_code) in
      let call : called_method kb.insn.op z.target ≡ Some f.method = subst (λ (i : Insn). called_method i.op z.target ≡ Some f.method) same z.called in
      let g : Frame = record b { pc = kb.insn.next; stack = result ++ b.stack } in
      let l : Standing c g = subst (λ o. OnwardStands c (back (given result o))) (has_top c marked b more kb) st in
      let edge : has_number (edges kb.insn) l.insn.pc ≡ true = subst (λ pc. has_number (edges kb.insn) pc ≡ true) (sym l.pc_is) (next_edge kb.insn (call_falls kb.insn.op z.target f.method call)) in
      subst (λ o. GoesOnInside c (back (given result o)) held (record a { inner = n })) (sym (has_top c marked b more kb)) (⊎_elim
      (λ (runs : RunsSection c a (g ∷ frames_inside a more)). stands_on c phase phases.Run (f ∷ b ∷ more) (g ∷ more) held a n k tt (omega (arith, low))
      (put_back_over a g more low ∙ sym (put_back_over a f (b ∷ more) (omega (arith, low)) ∙ put_back_over a b more low)) (inr (subst (RunsSection c a) (sym (one_more a g more low)) runs)))
      (λ (y : (frames_inside a more ≡ []) × IsExitOf c marked a b kb). absurd (no_exit kb.insn.op z.target f.method call y.1.exits))
      (moved c marked a b g (frames_inside a more) x.1.runs l (tags_after kb.insn (row_of c.program kb.method kb.insn kb.target) kb.tags) refl refl (onward l.insn edge)))

  pub unwound_on : (below : List Frame) (n r : ℕ) (class : Thrown) (k : AttemptStands c phase (f ∷ below) held a) → Runs c a f (frames_inside a below) → (a.base ≡ length below → ⊥) → GoesOnInside c (unwound r class below) held (record a { inner = n })
  unwound_on [] n o class k r never = absurd (never (let l = k.based in omega (arith, l)))
  unwound_on (b ∷ more) n o class k r never =
      let low = not_base b more (base_below a f (b ∷ more) k.based) never in
      let x = below_is b more low r in
      stands_on c phase (phases.Throw o class) (f ∷ b ∷ more) (b ∷ more) held a n k tt (omega (arith, low)) (sym (put_back_over a f (b ∷ more) (omega (arith, low)))) (inr (subst (RunsSection c a) (sym (one_more a b more low)) (section_of_runs c a b (frames_inside a more) x.1.runs)))
