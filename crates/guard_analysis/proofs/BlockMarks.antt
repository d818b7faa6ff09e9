-- What a walk finds are the own instructions of a block, and so its mark is the one that a block has.
use Rattle.std.proofs.Common.{◌≡◌, ℕ, ◌<◌, Bool, true, false, cond, List, [], ◌∷◌, ◌++◌, length, map, Option, Some, None, refl, sym, ap, subst, ◌∙◌, arith, ⊎_elim, inl, inr, ◌⊎◌, ◌==◌, if◌then◌else◌, slice_get, slice_index, slice_index_or, IsSomeAnd}
use Rattle.std.{specs.List.{list_any, filter, filter_map, cons_option}, proofs.lemmas.{Bool.{eq-eqb, lt-ltb, eqb-true, or_right, or_cases, Decides.nat_tests}, Option.{slice_get_within, same_Some}}}
use Rattle.jvm_types.specs.{CodeTable.can_throw, Numbers.has_number, ProgramInvariant.IsProgram, Verifying.{edges, covers, covering, IsLaidOut}, declared.code.Insn.Insn}
use Rattle.jvm_types.specs.declared.program.{MethodInfo.MethodInfo, Program.Program, Row.Row, Target.Target}
use Rattle.laws_programs.proofs.CodeOrder.{methods_laid_out, one_number}
use Rattle.code_table.{specs.PcTables.number_at, proofs.NumbersExact.exact}
use Rattle.graph_closure.specs.Chains.{IsIn}
use Rattle.checked_program.specs.{LockTags.{TagShape, is_this}, Marks.{IsOnOwn, HasMark, IsMarkOf}, Sections.{IsDeep, StaysDeep, BeginsAt, IsOwn}}
use Rattle.checked_program.specs.{TaggedCode.{tagged_by, IsAt, IsReachedEdge, Goes, onward, caught, row_of}, Tagging.{catches_all, until_all, catchers, tags_after, tags_at_handler}}
use Rattle.checked_program.specs.declared.{section.{Mode.TheVariants.OnThis, Spot.TheVariants.Block, Uses.Uses}, tag.{Tag.{Tag, TheVariants.{Untagged, This}}, Tags.Tags}}
use Rattle.frozen_classes.proofs.KeptInside.{stands_to}
use Rattle.guard_analysis.specs.BlockWalks.{handler_pcs, catch_pcs, way_pcs, ways_from, ways_at, deep_at, is_deep, IsPathInBlock, IsInside}
use Rattle.guard_analysis.{specs.SectionGrades.{depth_on_this, entry_depth_at, AreGrades, IsBlockMark, section_in}, proofs.CallEdges.{with_tags, frames_there}}
use Rattle.guard_analysis.proofs.SectionMarks.{has_first, has_elsewhere}
use Rattle.jvm_types.specs.declared.code.Op.TheVariants as ops

-- ---- lists

pub in_append : (x : ℕ) (xs ys : List ℕ) → IsIn x (xs ++ ys) → IsIn x xs ⊎ IsIn x ys
in_append x [] ys i = inr i
in_append x (y ∷ xs) ys (inl e) = inl (inl e)
in_append x (y ∷ xs) ys (inr i) = ⊎_elim (λ k. inl (inr k)) (λ k. inr k) (in_append x xs ys i)

pub in_left : (x : ℕ) (xs ys : List ℕ) → IsIn x xs → IsIn x (xs ++ ys)
in_left x [] ys i = absurd i
in_left x (y ∷ xs) ys (inl e) = inl e
in_left x (y ∷ xs) ys (inr i) = inr (in_left x xs ys i)

pub in_right : (x : ℕ) (xs ys : List ℕ) → IsIn x ys → IsIn x (xs ++ ys)
in_right x [] ys i = i
in_right x (y ∷ xs) ys i = inr (in_right x xs ys i)

mapped_first : (f : ℕ → Option ℕ) (x : ℕ) (xs : List ℕ) (j : ℕ) (o : Option ℕ) → f x ≡ o → IsIn j (cons_option o (filter_map f xs)) → (IsIn j (filter_map f xs) → (y : ℕ) × (IsIn y xs) × (f y ≡ Some j)) → (y : ℕ) × (IsIn y (x ∷ xs)) × (f y ≡ Some j)
mapped_first f x xs j None e k more = let r = more k in (r.0, inr r.1, r.2)
mapped_first f x xs j (Some n) e (inl q) more = (x, inl refl, e ∙ ap Some q)
mapped_first f x xs j (Some n) e (inr k) more = let r = more k in (r.0, inr r.1, r.2)

pub in_mapped : (f : ℕ → Option ℕ) (xs : List ℕ) (j : ℕ) → IsIn j (filter_map f xs) → (x : ℕ) × (IsIn x xs) × (f x ≡ Some j)
in_mapped f [] j i = absurd i
in_mapped f (x ∷ xs) j i = mapped_first f x xs j (f x) refl i (λ k. in_mapped f xs j k)

cons_in : (o : Option ℕ) (ys : List ℕ) (j : ℕ) → IsIn j ys → IsIn j (cons_option o ys)
cons_in None ys j i = i
cons_in (Some n) ys j i = inr i

pub mapped_in : (f : ℕ → Option ℕ) (xs : List ℕ) (x j : ℕ) → IsIn x xs → f x ≡ Some j → IsIn j (filter_map f xs)
mapped_in f [] x j i e = absurd i
mapped_in f (y ∷ xs) x j (inl q) e = let here : f y ≡ Some j = ap f q ∙ e in subst (λ o. IsIn j (cons_option o (filter_map f xs))) (sym here) (inl refl)
mapped_in f (y ∷ xs) x j (inr i) e = cons_in (f y) (filter_map f xs) j (mapped_in f xs x j i e)

number_in : (xs : List ℕ) (x : ℕ) → has_number xs x ≡ true → IsIn x xs
number_in [] x e = absurd (let bad : false ≡ true = e in cc)
number_in (y ∷ xs) x e = ⊎_elim (λ k. inl (eqb-true y x k)) (λ k. inr (number_in xs x k)) (or_cases (y == x) (has_number xs x) e)

in_number : (xs : List ℕ) (x : ℕ) → IsIn x xs → has_number xs x ≡ true
in_number [] x i = absurd i
in_number (y ∷ xs) x (inl e) = rw (eq-eqb y x e) refl
in_number (y ∷ xs) x (inr i) = or_right (y == x) (has_number xs x) (in_number xs x i)

-- ---- handlers

abbrev leads_to : ℕ → List Row → Bool
leads_to pc rows = list_any (λ (handler : Row). handler.handler == pc) rows

abbrev pcs_of : List Row → List ℕ
pcs_of rows = map (λ (handler : Row). handler.handler) rows

same_pcs : (at : ℕ) (rows : List Row) → handler_pcs at rows ≡ pcs_of (until_all (filter (covers at) rows))
same_pcs at [] = refl
same_pcs at (h ∷ rows) = by_test (covers at h) (catches_all h) refl (same_pcs at rows)
  where
    by_test : (b c : Bool) → catches_all h ≡ c → handler_pcs at rows ≡ pcs_of (until_all (filter (covers at) rows))
        → (if b then (if c then h.handler ∷ [] else h.handler ∷ handler_pcs at rows) else handler_pcs at rows) ≡ pcs_of (until_all (cond b (h ∷ filter (covers at) rows) (filter (covers at) rows)))
    by_test true true f r = rw f refl
    by_test true false f r = rw f (ap (λ l. h.handler ∷ l) r)
    by_test false c f r = r

row_in : (rows : List Row) (pc : ℕ) → leads_to pc rows ≡ true → IsIn pc (pcs_of rows)
row_in [] pc e = absurd (let bad : false ≡ true = e in cc)
row_in (h ∷ rows) pc e = ⊎_elim (λ k. inl (eqb-true h.handler pc k)) (λ k. inr (row_in rows pc k)) (or_cases (h.handler == pc) (leads_to pc rows) e)

in_row : (rows : List Row) (pc : ℕ) → IsIn pc (pcs_of rows) → leads_to pc rows ≡ true
in_row [] pc i = absurd i
in_row (h ∷ rows) pc (inl e) = rw (eq-eqb h.handler pc e) refl
in_row (h ∷ rows) pc (inr i) = or_right (h.handler == pc) (leads_to pc rows) (in_row rows pc i)

catch_same : (m : MethodInfo) (insn : Insn) → catch_pcs m insn ≡ pcs_of (catchers m insn)
catch_same m insn = by_test (can_throw insn.op)
  where
    by_test : (b : Bool) → (if b then handler_pcs insn.pc m.rows else []) ≡ pcs_of (if b then until_all (covering m insn.pc) else [])
    by_test true = same_pcs insn.pc m.rows
    by_test false = refl

-- ---- edges

goes_in : (p : Program) (m : MethodInfo) (insn : Insn) (target : Target) (f : TagShape) (other : Insn) (h : TagShape) → Goes p m insn target f other h → IsIn other.pc (way_pcs m insn)
goes_in p m insn target f other h (onward o e) = in_left o.pc (edges insn) (catch_pcs m insn) (number_in (edges insn) o.pc e)
goes_in p m insn target f other h (caught o e) = in_right o.pc (edges insn) (catch_pcs m insn) (subst (λ l. IsIn o.pc l) (sym (catch_same m insn)) (row_in (catchers m insn) o.pc e))

in_goes : (p : Program) (m : MethodInfo) (insn : Insn) (target : Target) (f : TagShape) (other : Insn) → IsIn other.pc (way_pcs m insn) → (h : TagShape) × Goes p m insn target f other h
in_goes p m insn target f other i = ⊎_elim
    (λ (k : IsIn other.pc (edges insn)). (tags_after insn (row_of p m insn target) f, onward other (in_number (edges insn) other.pc k)))
    (λ (k : IsIn other.pc (catch_pcs m insn)). (tags_at_handler f, caught other (in_row (catchers m insn) other.pc (subst (λ l. IsIn other.pc l) (catch_same m insn) k))))
    (in_append other.pc (edges insn) (catch_pcs m insn) i)

some_at : (o : Option Insn) (pc : ℕ) → IsSomeAnd o (λ insn. insn.pc ≡ pc) → (insn : Insn) × (o ≡ Some insn) × (insn.pc ≡ pc)
some_at (Some insn) pc h = (insn, refl, h)
some_at None pc h = absurd h

-- ---- a reached instruction

is_reached_at : (depth : ℕ) (oi : Option Insn) (ot : Option Target) (of : Option (Option TagShape)) → deep_at depth oi ot of ≡ true → (insn : Insn) × (target : Target) × (f : TagShape) × (oi ≡ Some insn) × (ot ≡ Some target) × (of ≡ Some (Some f)) × (depth < length f.held)
is_reached_at depth (Some insn) (Some target) (Some (Some f)) e = (insn, target, f, refl, refl, refl, grind (arith, nat_tests))
is_reached_at depth oi ot of e = absurd (let bad : false ≡ true = e in cc)

pub entry_parts : (oi : Option Insn) (ot : Option Target) (of : Option (Option TagShape)) (depth : ℕ) → depth_on_this oi ot of ≡ Some depth
    → (insn : Insn) × (target : Target) × (f : TagShape) × (oi ≡ Some insn) × (ot ≡ Some target) × (of ≡ Some (Some f)) × (slice_index_or f.stack 0 Untagged ≡ This) × (length f.held ≡ depth)
entry_parts (Some insn) (Some target) (Some (Some f)) depth e = by_tag (slice_index_or f.stack 0 Untagged) refl e
  where
    by_tag : (t : Tag) → slice_index_or f.stack 0 Untagged ≡ t → (if is_this t then Some (length f.held) else None) ≡ Some depth
        → (i : Insn) × (k : Target) × (g : TagShape) × (Some insn ≡ Some i) × (Some target ≡ Some k) × (◌≡◌ {A = Option (Option TagShape)} (Some (Some f)) (Some (Some g))) × (slice_index_or g.stack 0 Untagged ≡ This) × (length g.held ≡ depth)
    by_tag This q k = (insn, target, f, refl, refl, refl, q, same_Some (length f.held) depth k)
    by_tag t q k = absurd (let bad : None ≡ Some depth = k in cc)
entry_parts oi ot of depth e = absurd (let bad : None ≡ Some depth = e in cc)

module _ (p : Program) (tags : List Tags) (is : IsProgram p) (mi : ℕ) (m : MethodInfo) (t : Tags) (at_m : slice_get p.methods mi ≡ Some m) (at_t : slice_get tags mi ≡ Some t) where
  laid : IsLaidOut m
  laid = methods_laid_out p mi m is at_m

  method_is : (n : MethodInfo) → slice_get p.methods mi ≡ Some n → n ≡ m
  method_is n e = same_Some n m (sym e ∙ at_m)

  -- what stands at an instruction, in the words of the method
  code_is : (i : ℕ) (n : MethodInfo) (insn : Insn) (target : Target) (f : TagShape) → IsAt p (tagged_by tags) mi i n insn target f → slice_get m.code i ≡ Some insn
  code_is i n insn target f a = subst (λ (x : MethodInfo). slice_get x.code i ≡ Some insn) (method_is n a.in_program) a.in_code

  target_is : (i : ℕ) (n : MethodInfo) (insn : Insn) (target : Target) (f : TagShape) → IsAt p (tagged_by tags) mi i n insn target f → slice_get m.targets i ≡ Some target
  target_is i n insn target f a = subst (λ (x : MethodInfo). slice_get x.targets i ≡ Some target) (method_is n a.in_program) a.names

  frame_is : (i : ℕ) (n : MethodInfo) (insn : Insn) (target : Target) (f : TagShape) → IsAt p (tagged_by tags) mi i n insn target f → slice_get t.frames i ≡ Some (Some f)
  frame_is i n insn target f a =
      let has = with_tags p tags is mi a.frames a.of_method in
      let same : t ≡ has.0 = same_Some t has.0 (sym at_t ∙ has.1) in
      subst (λ l. slice_get l i ≡ Some (Some f)) (sym (ap (λ (x : Tags). x.frames) same ∙ has.2)) a.frame

  pub stands : (i : ℕ) (insn : Insn) (target : Target) (f : TagShape) → slice_get m.code i ≡ Some insn → slice_get m.targets i ≡ Some target → slice_get t.frames i ≡ Some (Some f) → IsAt p (tagged_by tags) mi i m insn target f
  stands i insn target f a b c = record { in_program = at_m; in_code = a; names = b; frames = t.frames; of_method = frames_there p tags is mi t at_t; frame = c }

  deep_of : (depth i : ℕ) → IsDeep p (tagged_by tags) mi depth i → is_deep m t.frames depth i ≡ true
  deep_of depth i d = rw (code_is i d.m d.insn d.target d.f d.at, target_is i d.m d.insn d.target d.f d.at, frame_is i d.m d.insn d.target d.f d.at) (lt-ltb depth (length d.f.held) d.deep)

  of_deep : (depth i : ℕ) → is_deep m t.frames depth i ≡ true → IsDeep p (tagged_by tags) mi depth i
  of_deep depth i e =
      let r = is_reached_at depth (slice_get m.code i) (slice_get m.targets i) (slice_get t.frames i) e in
      record { m = m; insn = r.0; target = r.1; f = r.2; at = stands i r.0 r.1 r.2 r.3 r.4 r.5; deep = r.6 }

  edge_way : (i j : ℕ) → IsReachedEdge p (tagged_by tags) mi i j → IsIn j (ways_from m i)
  edge_way i j e =
      let from : slice_get m.code i ≡ Some e.insn = code_is i e.m e.insn e.target e.f e.from in
      let to : slice_get m.code j ≡ Some e.other = code_is j e.m e.other e.next e.g e.to in
      let found : number_at m.code e.other.pc ≡ Some j = (exact m e.other.pc j laid).1 (stands_to (slice_get m.code j) e.other to) in
      let pcs : IsIn e.other.pc (way_pcs m e.insn) = goes_in p m e.insn e.target e.f e.other e.h (subst (λ (x : MethodInfo). Goes p x e.insn e.target e.f e.other e.h) (method_is e.m e.from.in_program) e.goes) in
      subst (λ o. IsIn j (ways_at m o)) (sym from) (mapped_in (λ pc. number_at m.code pc) (way_pcs m e.insn) e.other.pc j pcs found)

  way_edge : (i j : ℕ) (insn other : Insn) (target next : Target) (f g : TagShape) → IsAt p (tagged_by tags) mi i m insn target f → IsAt p (tagged_by tags) mi j m other next g → IsIn j (ways_from m i) → IsReachedEdge p (tagged_by tags) mi i j
  way_edge i j insn other target next f g a b w =
      let from : IsIn j (ways_at m (Some insn)) = subst (λ o. IsIn j (ways_at m o)) a.in_code w in
      let x = in_mapped (λ pc. number_at m.code pc) (way_pcs m insn) j from in
      let y = some_at (slice_get m.code j) x.0 ((exact m x.0 j laid).0 x.2) in
      let same : y.0 ≡ other = same_Some y.0 other (sym y.1 ∙ b.in_code) in
      let pc : x.0 ≡ other.pc = sym y.2 ∙ ap (λ (z : Insn). z.pc) same in
      let goes = in_goes p m insn target f other (subst (λ z. IsIn z (way_pcs m insn)) pc x.1) in
      record { m = m; insn = insn; target = target; f = f; from = a; other = other; next = next; g = g; to = b; h = goes.0; goes = goes.1 }

  stays_of : (depth i : ℕ) (ks : List ℕ) (j : ℕ) → StaysDeep p (tagged_by tags) mi depth i ks j → IsPathInBlock m t.frames depth i ks j
  stays_of depth i [] j s = (s.0, deep_of depth i s.1)
  stays_of depth i (k ∷ ks) j s = (deep_of depth i s.0, edge_way i k s.1, stays_of depth k ks j s.2)

  first_deep : (depth i : ℕ) (ks : List ℕ) (j : ℕ) → IsPathInBlock m t.frames depth i ks j → is_deep m t.frames depth i ≡ true
  first_deep depth i [] j s = s.1
  first_deep depth i (k ∷ ks) j s = s.0

  of_stays : (depth i : ℕ) (ks : List ℕ) (j : ℕ) → IsPathInBlock m t.frames depth i ks j → StaysDeep p (tagged_by tags) mi depth i ks j
  of_stays depth i [] j s = (s.0, of_deep depth i s.1)
  of_stays depth i (k ∷ ks) j s =
      let a = is_reached_at depth (slice_get m.code i) (slice_get m.targets i) (slice_get t.frames i) s.0 in
      let b = is_reached_at depth (slice_get m.code k) (slice_get m.targets k) (slice_get t.frames k) (first_deep depth k ks j s.2) in
      (of_deep depth i s.0, way_edge i k a.0 b.0 a.1 b.1 a.2 b.2 (stands i a.0 a.1 a.2 a.3 a.4 a.5) (stands k b.0 b.1 b.2 b.3 b.4 b.5) s.1, of_stays depth k ks j s.2)

  -- ---- the block of a `monitorenter`

  module _ (enter : ℕ) (insn : Insn) (at_insn : slice_get m.code enter ≡ Some insn) (enters : insn.op ≡ ops.Monitorenter) where
    -- it is the only one at its pc
    only : (other : ℕ) (f : TagShape) → BeginsAt p (tagged_by tags) mi insn.pc other f → other ≡ enter
    only other f b = one_number m other enter b.insn insn laid (code_is other b.m b.insn b.target f b.at) at_insn b.pc_is

    module _ (depth : ℕ) (target : Target) (f : TagShape) (at : IsAt p (tagged_by tags) mi enter m insn target f) (tag : slice_index_or f.stack 0 Untagged ≡ This) (deep : length f.held ≡ depth) where
      begins : BeginsAt p (tagged_by tags) mi insn.pc enter f
      begins = record { m = m; insn = insn; target = target; at = at; pc_is = refl; enters = enters }

      pub inside_own : (i : ℕ) → IsInside m t.frames depth enter i → IsOwn p (tagged_by tags) mi (Block insn.pc) i
      inside_own i s =
          let d = first_deep depth s.first s.over i s.stays in
          let b = is_reached_at depth (slice_get m.code s.first) (slice_get m.targets s.first) (slice_get t.frames s.first) d in
          record {
            enter = enter;
            f = f;
            begins = begins;
            first = s.first;
            edge = way_edge enter s.first insn b.0 target b.1 f b.2 at (stands s.first b.0 b.1 b.2 b.3 b.4 b.5) s.begins;
            over = s.over;
            stays = subst (λ n. StaysDeep p (tagged_by tags) mi n s.first s.over i) (sym deep) (of_stays depth s.first s.over i s.stays);
          }

      pub own_inside : (i : ℕ) → IsOwn p (tagged_by tags) mi (Block insn.pc) i → IsInside m t.frames depth enter i
      own_inside i o =
          let here : o.enter ≡ enter = only o.enter o.f o.begins in
          let frame : slice_get t.frames enter ≡ Some (Some o.f) = subst (λ e. slice_get t.frames e ≡ Some (Some o.f)) here (frame_is o.enter o.begins.m o.begins.insn o.begins.target o.f o.begins.at) in
          let same : o.f ≡ f = same_Some o.f f (same_Some (Some o.f) (Some f) (sym frame ∙ frame_is enter m insn target f at)) in
          let held : length o.f.held ≡ depth = ap (λ (x : TagShape). length x.held) same ∙ deep in
          record {
            first = o.first;
            begins = subst (λ e. IsIn o.first (ways_from m e)) here (edge_way o.enter o.first o.edge);
            over = o.over;
            stays = stays_of depth o.first o.over i (subst (λ n. StaysDeep p (tagged_by tags) mi n o.first o.over i) held o.stays);
          }

      on_this : IsOnOwn p (tagged_by tags) mi (Block insn.pc)
      on_this = (enter, f, begins, tag)

    pub off_this : entry_depth_at m t.frames enter ≡ None → IsOnOwn p (tagged_by tags) mi (Block insn.pc) → ⊥
    off_this none o =
        let here : o.0 ≡ enter = only o.0 o.1 o.2 in
        let frame : slice_get t.frames enter ≡ Some (Some o.1) = subst (λ e. slice_get t.frames e ≡ Some (Some o.1)) here (frame_is o.0 o.2.m o.2.insn o.2.target o.1 o.2.at) in
        let target : slice_get m.targets enter ≡ Some o.2.target = subst (λ e. slice_get m.targets e ≡ Some o.2.target) here (target_is o.0 o.2.m o.2.insn o.2.target o.1 o.2.at) in
        let is_some : entry_depth_at m t.frames enter ≡ Some (length o.1.held) = rw (at_insn, target, frame, o.3) refl in
        let bad : None ≡ Some (length o.1.held) = sym none ∙ is_some in
        cc

    module _ (uses : Uses) (grades : List ℕ) (are : AreGrades p (tagged_by tags) uses OnThis mi m grades) where
      block_has : (o : Option ℕ) (n : ℕ) → entry_depth_at m t.frames enter ≡ o → IsBlockMark m t.frames grades enter o n → HasMark p (tagged_by tags) uses (section_in mi (Block insn.pc)) n
      block_has None n e b = subst (λ k. HasMark p (tagged_by tags) uses (section_in mi (Block insn.pc)) k) (sym b) (has_elsewhere p (tagged_by tags) uses (section_in mi (Block insn.pc)) (off_this e))
      block_has (Some depth) n e b =
          let x = entry_parts (slice_get m.code enter) (slice_get m.targets enter) (slice_get t.frames enter) depth e in
          let same : x.0 ≡ insn = same_Some x.0 insn (sym x.3 ∙ at_insn) in
          let at : IsAt p (tagged_by tags) mi enter m insn x.1 x.2 = stands enter insn x.1 x.2 at_insn x.4 x.5 in
          has_first p (tagged_by tags) uses (section_in mi (Block insn.pc)) (on_this depth x.1 x.2 at x.6 x.7) (λ i. IsInside m t.frames depth enter i) (λ i. slice_index grades i)
          (λ i s. are.each i (in_code depth x.1 x.2 at x.6 x.7 i s))
          (λ i s h. inside_own depth x.1 x.2 at x.6 x.7 i s)
          (λ i o. own_inside depth x.1 x.2 at x.6 x.7 i o)
          n b
        where
          last_deep : (depth i : ℕ) (ks : List ℕ) (j : ℕ) → IsPathInBlock m t.frames depth i ks j → is_deep m t.frames depth j ≡ true
          last_deep depth i [] j s = subst (λ k. is_deep m t.frames depth k ≡ true) s.0 s.1
          last_deep depth i (k ∷ ks) j s = last_deep depth k ks j s.2

          in_code : (depth : ℕ) (target : Target) (f : TagShape) → IsAt p (tagged_by tags) mi enter m insn target f → slice_index_or f.stack 0 Untagged ≡ This → length f.held ≡ depth → (i : ℕ) → IsInside m t.frames depth enter i → i < length m.code
          in_code depth target f at tag deep i s = let r = is_reached_at depth (slice_get m.code i) (slice_get m.targets i) (slice_get t.frames i) (last_deep depth s.first s.over i s.stays) in slice_get_within m.code i r.0 r.3

      pub block_marked : (n : ℕ) → IsBlockMark m t.frames grades enter (entry_depth_at m t.frames enter) n → IsMarkOf p (tagged_by tags) uses (section_in mi (Block insn.pc)) (record { method = mi; spot = Block insn.pc; mark = n })
      block_marked n b = record { method = refl; spot = refl; mark_is = block_has (entry_depth_at m t.frames enter) n refl b }
