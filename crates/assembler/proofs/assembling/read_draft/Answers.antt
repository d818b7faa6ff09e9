use Rattle.std.{proofs.Common.{◌≡◌, ℕ, List, None, sym, subst, ◌∙◌, rules, ◌==◌}, specs.List.position}
use Rattle.assembler.{specs.Drafted.{IsNextPlace, IsLine}, proofs.{CutLaws.{cut_some, cut_none, whole_cut}, TextLaws.{next_drafted, none_drafted, unformed_line, unformed_end}}}
use Rattle.assembler.proofs.assembling.read_draft.Goals as goal

pub loop-end-init : goal.loop-end-init
loop-end-init c = none_drafted c.args.text.now c.in_ok-draft.draft c.in_ok-draft.ensures

pub read_next-requires : goal.read_next-requires
read_next-requires c = rw (c.front-whole.ensures, c.front.ensures) (whole_cut c.loop-end.rest.now c.in-Some.end (sym c.in-Some.ensures))

pub returns-in-None : goal.returns-in-None
returns-in-None c =
    let e = c.front-whole.ensures ∙ whole_cut c.loop-end.rest.now c.in-Some.end (sym c.in-Some.ensures) in
    let n = rw c.in-None.is at c.in_ok-next.ensures in
    unformed_line c.args.text.now c.loop-end.place c.loop-end.draft c.read_next.new.draft c.loop-end.number c.loop-end.rest.now _ _ c.loop-end.invariant (cut_some c.loop-end.rest.now c.in-Some.end (sym c.in-Some.ensures))
    (subst (λ (w : List ℕ). IsNextPlace c.loop-end.place w c.loop-end.draft c.read_next.new.draft None) e n)

pub loop-end-preserved : goal.loop-end-preserved
loop-end-preserved c =
    let e = c.front-whole.ensures ∙ whole_cut c.loop-end.rest.now c.in-Some.end (sym c.in-Some.ensures) in
    let n = rw c.in-Some-2.is at c.in_ok-next.ensures in
    rw c.behind-rest.ensures (next_drafted c.args.text.now c.loop-end.place c.in-Some-2.next c.loop-end.draft c.read_next.new.draft c.loop-end.number c.loop-end.rest.now _ _ c.loop-end.invariant (cut_some c.loop-end.rest.now c.in-Some.end (sym c.in-Some.ensures))
    (subst (λ (w : List ℕ). IsLine c.loop-end.place w c.loop-end.draft c.read_next.new.draft c.in-Some-2.next) e n))

pub returns-else-is_whole : goal.returns-else-is_whole
returns-else-is_whole c =
    let e : position (λ b. b == 10) c.loop-end.rest.now ≡ None = first_of (cc, search rules) in
    unformed_end c.args.text.now c.loop-end.place c.loop-end.draft c.loop-end.number c.loop-end.rest.now c.loop-end.invariant (cut_none c.loop-end.rest.now e) (sym c.is_whole.ensures ∙ c.if-is_whole.false)
