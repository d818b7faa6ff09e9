use Rattle.std.proofs.{Common.{◌≡◌, ℕ, ◌+◌, ◌<◌, ◌≤◌, List, [], ◌∷◌, length, drop, Option, sym, ap, ◌∙◌, slice_index_or}, lemmas.List.{drop_more, drop_all}}
use Rattle.jvm_types.specs.declared.code.Insn.{Insn}
use Rattle.code_table.specs.PcTables.{Ascend}
use Rattle.checked_program.specs.Visits.{Meeting, PlanNode, meeting_clash}
use Rattle.code_visits.{specs.Analyses.lesser, proofs.ClashLaws.{clash_none, clash_more, lesser_assoc, lesser_none}}
use Rattle.code_visits.proofs.edges.clash.Goals as goal

least_more : {A : Type 0} (d : Meeting A) (code : List Insn) (tos : List ℕ) (k : ℕ) (f : A) (nodes : List (PlanNode A)) (least one next whole : Option ℕ) → Ascend 0 code → k < length tos
    → one ≡ meeting_clash d code (slice_index_or tos k 0 ∷ []) f nodes → next ≡ lesser least one → lesser least (meeting_clash d code (drop k tos) f nodes) ≡ whole → lesser next (meeting_clash d code (drop (k + 1) tos) f nodes) ≡ whole
least_more d code tos k f nodes least one next whole a h o n inv =
    ap (λ x. lesser x (meeting_clash d code (drop (k + 1) tos) f nodes)) (n ∙ ap (λ x. lesser least x) o)
    ∙ lesser_assoc least (meeting_clash d code (slice_index_or tos k 0 ∷ []) f nodes) (meeting_clash d code (drop (k + 1) tos) f nodes)
    ∙ ap (λ x. lesser least x) (sym (ap (λ l. meeting_clash d code l f nodes) (drop_more tos k 0 h) ∙ clash_more d 0 code (slice_index_or tos k 0) (drop (k + 1) tos) f nodes a))
    ∙ inv

least_all : {A : Type 0} (d : Meeting A) (code : List Insn) (tos : List ℕ) (k : ℕ) (f : A) (nodes : List (PlanNode A)) (least whole : Option ℕ) → length tos ≤ k → lesser least (meeting_clash d code (drop k tos) f nodes) ≡ whole → least ≡ whole
least_all d code tos k f nodes least whole h inv =
    sym (ap (λ l. lesser least (meeting_clash d code l f nodes)) (drop_all k tos h) ∙ ap (λ x. lesser least x) (clash_none d code f nodes) ∙ lesser_none least) ∙ inv

pub loop-to-preserved : goal.loop-to-preserved
loop-to-preserved g c = least_more g.D.Frames.meeting c.args.m.now.code c.args.tos.now c.loop-to.to-index c.args.f.now c.args.nodes.now c.loop-to.least c.clash_at.result c.lesser-least.result _
    c.laid_out.ensures.ascend c.loop-to-test.true c.clash_at.ensures c.lesser-least.ensures c.loop-to.invariant

pub returns : goal.returns
returns g c = least_all g.D.Frames.meeting c.args.m.now.code c.args.tos.now c.loop-to.to-index c.args.f.now c.args.nodes.now c.loop-to.least _ c.loop-to-test.false c.loop-to.invariant
