-- Handlers to which a frame need not go: an exception of another instruction, which rests, brought what it is below there.
use Rattle.std.proofs.Common.{◌≡◌, ◌<◌, ◌+◌, ℕ, Bool, true, false, not, ◌&&◌, List, [], ◌∷◌, drop, length, Option, Some, None, Ok, Result, refl, sym, ap, ◌∙◌, subst, if◌then◌else◌, slice_get, slice_index_or}
use Rattle.std.{specs.{List.{AllByRecursion, filter}, Option.IfSome}, proofs.lemmas.List.drop_more}
use Rattle.jvm_types.specs.{CodeTable.{row, can_throw}, Verifying.{covers, covering}, declared.{code.Insn.Insn, program.{MethodInfo.MethodInfo, Program.Program, Row.Row, Target.Target}, refusal.SRule.SRule}}
use Rattle.jvm_types.proofs.EachAfter.{all_weaker}
use Rattle.code_table.specs.PcTables.{Ascend}
use Rattle.checked_program.specs.{LockTags.{TagShape, IsShapeBelow, IsTagBelow, AreTagsBelow, same_tag, same_tags, meet_tags}, Tagging.{tag_meeting, tag_plan, tag_acts, acts_at, catches_all, until_all, catchers, tags_at_handler}, Visits.Act}
use Rattle.checked_program.specs.declared.tag.Tag.{Tag, TheVariants.{Untagged, This, At}}
use Rattle.laws_sections.proofs.{TagActs.{to_handler, acts_kept}, TagOrder.{tag_order, one_list, own_tag, own_tags}, VisitedNodes.{IsBelow, LandsOn, IsActFine, Sound}}
use Rattle.code_visits.{specs.{Analyses.AreUnderVisit, Waiting.plan_node_at}, proofs.{ActLaws.then_acted, RestLaws.{Absorbs, rest_first, sound_on, taken_sound}}}
use Rattle.monitor_tags.specs.{TagVisits.{TagsKept, tags_meet}, Visiting.{Nodes, AreLong, DoRest, DoCatchersRest, does, goes_along, to_handlers, turn_acts}}

-- ---- a frame that another is below stays where they meet

meet_of_below : (ts us : List Tag) → AreTagsBelow ts us → meet_tags us ts ≡ us
meet_of_below ts [] a = refl
meet_of_below [] (u ∷ us) a = absurd a
meet_of_below (t ∷ ts) (u ∷ us) a = ap (λ x. x ∷ meet_tags us ts) (one t u a.0) ∙ ap (λ l. u ∷ l) (meet_of_below ts us a.1)
  where
    one : (t u : Tag) → IsTagBelow t u → (if same_tag u t then u else Untagged) ≡ u
    one t Untagged h = both (same_tag Untagged t)
      where
        both : (b : Bool) → (if b then Untagged else Untagged) ≡ Untagged
        both true = refl
        both false = refl
    one t This h = rw h refl
    one t (At pc) h = rw (h, own_tag (At pc)) refl

met_frame : (f g : TagShape) → IsShapeBelow f g → tag_meeting.meet g f ≡ g
met_frame f g b = λ i. record { stack = meet_of_below f.stack g.stack b.stack i; locals = meet_of_below f.locals g.locals b.locals i; held = g.held }

pub tags_absorb : Absorbs tag_meeting IsShapeBelow
tags_absorb = record { apart = λ f g b. ap (λ l. not (same_tags l f.held)) (sym b.held) ∙ ap not (own_tags f.held); met = met_frame }

below_of_meet : (ts us : List Tag) → same_tags us (meet_tags us ts) ≡ true → AreTagsBelow ts us
below_of_meet ts us e = subst (λ (l : List Tag). AreTagsBelow ts l) (sym (one_list us (meet_tags us ts) e)) (right us ts)
  where
    right : (ts us : List Tag) → AreTagsBelow us (meet_tags ts us)
    right ts us = (tag_order.right (record { stack = ts; locals = []; held = [] }) (record { stack = us; locals = []; held = [] }) refl).stack

-- a frame with something on its stack is below what one with the same monitors leaves at handlers, where the locals of that stay
pub below_handler : (f g : TagShape) → (length f.stack ≡ 0 → ⊥) → same_tags f.held g.held ≡ true → same_tags g.locals (meet_tags g.locals f.locals) ≡ true → IsShapeBelow f (tags_at_handler g)
below_handler f g some held locals = record { stack = one f.stack some; locals = below_of_meet f.locals g.locals locals; held = one_list f.held g.held held }
  where
    one : (ts : List Tag) → (length ts ≡ 0 → ⊥) → AreTagsBelow ts (Untagged ∷ [])
    one [] n = absurd (n refl)
    one (t ∷ ts) n = (tt, tt)

-- ---- the instruction that rests

lower : (f g : TagShape) (o : Option TagShape) → IsShapeBelow f g → IsBelow tag_meeting IsShapeBelow tag_order (Some g) o → IsBelow tag_meeting IsShapeBelow tag_order (Some f) o
lower f g None b h = absurd h
lower f g (Some x) b h = tag_order.trans f g x b h

pub catchers_rest : (p : Program) (m : MethodInfo) (nodes : Nodes) (i j : ℕ) (f g : TagShape) (other : Insn) (target : Target) → AreUnderVisit (TagsKept p m) i nodes → (j ≡ i → ⊥) → (plan_node_at nodes j).waits ≡ false → Some g ≡ (plan_node_at nodes j).frame
    → slice_get m.code j ≡ Some other → slice_get m.targets j ≡ Some target → can_throw other.op ≡ true → IsShapeBelow f (tags_at_handler g) → DoCatchersRest m other.pc f nodes
catchers_rest p m nodes i j f g other target t n w e c k throws b =
    let sound : Sound tag_meeting IsShapeBelow tag_order m.code nodes (acts_at p m (slice_get m.code j) (slice_get m.targets j) g) = taken_sound (tag_plan p m) IsShapeBelow tag_order _ nodes i j g t n w e in
    let here : Sound tag_meeting IsShapeBelow tag_order m.code nodes (tag_acts m other (row p m other.pc target other.op) g) =
    subst (λ (o : Option Target). Sound tag_meeting IsShapeBelow tag_order m.code nodes (acts_at p m (Some other) o g)) k
    (subst (λ (o : Option Insn). Sound tag_meeting IsShapeBelow tag_order m.code nodes (acts_at p m o (slice_get m.targets j) g)) c sound) in
    let kept = acts_kept (IsActFine tag_meeting IsShapeBelow tag_order m.code nodes) m other (row p m other.pc target other.op) g (λ rule pc none. none) here in
    let all : catchers m other ≡ until_all (covering m other.pc) = ap (λ (x : Bool). if x then until_all (covering m other.pc) else []) throws in
    all_weaker (λ handler. IsActFine tag_meeting IsShapeBelow tag_order m.code nodes (to_handler g handler)) (λ (handler : Row). LandsOn tag_meeting IsShapeBelow tag_order m.code nodes f handler.handler)
    (λ handler h x y first at. lower f (tags_at_handler g) y.frame b (h.0 x y first at)) (until_all (covering m other.pc))
    (subst (λ (rows : List Row). AllByRecursion (λ handler. IsActFine tag_meeting IsShapeBelow tag_order m.code nodes (to_handler g handler)) rows) all kept.caught)

-- ---- row by row

-- where the handlers rest as long as this holds
abbrev pub RestWhile : Bool → MethodInfo → ℕ → TagShape → Nodes → List Row → Type 0
RestWhile false m at f nodes rows = Unit {0}
RestWhile true m at f nodes rows = DoRest m f nodes (until_all (filter (covers at) rows))

rest_done : (m : MethodInfo) (f : TagShape) (rows : List Row) (acts : List (Act TagShape SRule)) (nodes mid : Nodes) → does m acts nodes ≡ Ok mid → DoRest m f nodes rows → DoRest m f mid rows
rest_done m f [] acts nodes mid e h = tt
rest_done m f (row ∷ rows) acts nodes mid e h = ((sound_on tag_meeting IsShapeBelow tag_order m.code acts (goes_along (row.handler ∷ []) f ∷ []) nodes mid e ((h.0, tt), tt)).0.0, rest_done m f rows acts nodes mid e h.1)

pub catchers_rest_on : (m : MethodInfo) (kept : Option TagShape) (resting : Option ℕ) (acts : List (Act TagShape SRule)) (nodes mid : Nodes) → does m acts nodes ≡ Ok mid
    → IfSome kept (λ f. IfSome resting (λ at. DoCatchersRest m at f nodes)) → IfSome kept (λ f. IfSome resting (λ at. DoCatchersRest m at f mid))
catchers_rest_on m (Some f) (Some at) acts nodes mid e h = rest_done m f (until_all (covering m at)) acts nodes mid e h
catchers_rest_on m kept resting acts nodes mid e h = tt

while_done : (rests : Bool) (m : MethodInfo) (at : ℕ) (f : TagShape) (rows : List Row) (acts : List (Act TagShape SRule)) (nodes mid : Nodes) → does m acts nodes ≡ Ok mid → RestWhile rests m at f nodes rows → RestWhile rests m at f mid rows
while_done false m at f rows acts nodes mid e h = tt
while_done true m at f rows acts nodes mid e h = rest_done m f (until_all (filter (covers at) rows)) acts nodes mid e h

-- behind one row
while_behind : (rests : Bool) (m : MethodInfo) (at : ℕ) (f : TagShape) (nodes : Nodes) (row : Row) (rows : List Row) → RestWhile rests m at f nodes (row ∷ rows) → RestWhile (rests && not ((rests && covers at row) && catches_all row)) m at f nodes rows
while_behind false m at f nodes row rows h = tt
while_behind true m at f nodes row rows h = by_cover (covers at row) h
  where
    by_catch : (u : Bool) → DoRest m f nodes (if u then row ∷ [] else row ∷ until_all (filter (covers at) rows)) → RestWhile (not u) m at f nodes rows
    by_catch true h = tt
    by_catch false h = h.1

    by_cover : (t : Bool) → DoRest m f nodes (until_all (if t then row ∷ filter (covers at) rows else filter (covers at) rows)) → RestWhile (not (t && catches_all row)) m at f nodes rows
    by_cover false h = h
    by_cover true h = by_catch (catches_all row) h

-- a handler that rests
pub rests_here : (m : MethodInfo) (f : TagShape) (to : ℕ) (nodes : Nodes) → Ascend 0 m.code → length nodes ≡ length m.code → LandsOn tag_meeting IsShapeBelow tag_order m.code nodes f to → does m (goes_along (to ∷ []) f ∷ []) nodes ≡ Ok nodes
rests_here m f to nodes ascend long h = rest_first tag_meeting IsShapeBelow tag_order tags_absorb (λ f. 0) tags_meet m.code ascend nodes (goes_along (to ∷ []) f ∷ []) [] long ((h, tt), tt)

one_turn : (m : MethodInfo) (pc : ℕ) (f : TagShape) (row : Row) (rows : List Row) (nodes mid : Nodes) → does m (turn_acts pc f row) nodes ≡ Ok mid → (covers pc row && catches_all row) ≡ false
    → does m (to_handlers f (until_all (filter (covers pc) rows))) mid ≡ does m (to_handlers f (until_all (filter (covers pc) (row ∷ rows)))) nodes
one_turn m pc f row rows nodes mid e n = by_cover (covers pc row) e n
  where
    act : List (Act TagShape SRule)
    act = goes_along (row.handler ∷ []) f ∷ []

    more : List Row
    more = until_all (filter (covers pc) rows)

    by_catch : (u : Bool) → does m act nodes ≡ Ok mid → u ≡ false → does m (to_handlers f more) mid ≡ does m (to_handlers f (if u then row ∷ [] else row ∷ more)) nodes
    by_catch true e n = absurd (cc)
    by_catch false e n = sym (then_acted tag_meeting m.code act (to_handlers f more) nodes mid e)

    by_cover : (t : Bool) → does m (if t then act else []) nodes ≡ Ok mid → (t && catches_all row) ≡ false → does m (to_handlers f more) mid ≡ does m (to_handlers f (until_all (if t then row ∷ filter (covers pc) rows else filter (covers pc) rows))) nodes
    by_cover false e n = let same : nodes ≡ mid = cc in ap (λ (ns : Nodes). does m (to_handlers f more) ns) (sym same)
    by_cover true e n = by_catch (catches_all row) e n

-- ---- the loop over the rows: what is left of them, from a number on

pub record IsTurn (m : MethodInfo) (pc at : ℕ) (f : TagShape) (rests : Bool) (nodes : Nodes) (rows : List Row) (whole : Result Nodes (SRule × ℕ)) : Type 0 where
  pub rest : RestWhile rests m at f nodes rows
  pub left : does m (to_handlers f (until_all (filter (covers pc) rows))) nodes ≡ whole
  pub level : AreLong m nodes

-- one row of them
pub record RowTurn : Type 0 where
  pub m : MethodInfo
  pub pc : ℕ
  pub at : ℕ
  pub f : TagShape
  pub rests : Bool
  pub nodes : Nodes
  pub rows : List Row
  pub i : ℕ
  pub d : Row
  pub whole : Result Nodes (SRule × ℕ)
  pub inside : i < length rows
  pub left : IsTurn m pc at f rests nodes (drop i rows) whole

module _ (turn : RowTurn) (mid : Nodes) where
  open turn use {m, pc, at, f, rests, nodes, rows, i, d, whole, inside, left}

  abbrev pub item : Row
  item = slice_index_or rows i d

  here : IsTurn m pc at f rests nodes (item ∷ drop (i + 1) rows) whole
  here = subst (λ (l : List Row). IsTurn m pc at f rests nodes l whole) (drop_more rows i d inside) left

  pub turn_on : (b : Bool) → b ≡ (rests && not ((rests && covers at item) && catches_all item)) → does m (turn_acts pc f item) nodes ≡ Ok mid → (covers pc item && catches_all item) ≡ false → AreLong m mid → IsTurn m pc at f b mid (drop (i + 1) rows) whole
  turn_on b q e n level = record {
    rest = subst (λ (x : Bool). RestWhile x m at f mid (drop (i + 1) rows)) (sym q)
        (while_done (rests && not ((rests && covers at item) && catches_all item)) m at f (drop (i + 1) rows) (turn_acts pc f item) nodes mid e (while_behind rests m at f nodes item (drop (i + 1) rows) here.rest));
    left = one_turn m pc f item (drop (i + 1) rows) nodes mid e n ∙ here.left;
    level = level;
  }
