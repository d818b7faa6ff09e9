use Rattle.std.proofs.{Common.{◌≡◌, ℕ, ◌+◌, ◌<◌, List, [], ◌∷◌, length, drop, Option, None, refl, sym, ap, ◌∙◌, slice_index_or}, lemmas.List.drop_more}
use Rattle.jvm_types.specs.declared.code.Insn.{Insn}
use Rattle.code_table.specs.PcTables.{Ascend}
use Rattle.checked_program.specs.Visits.{Meeting, PlanNode, edge_brought, edges_brought, meeting_clash}
use Rattle.code_visits.proofs.{BroughtLaws.level_brought, ClashLaws.{first_none, others_none, still_none}}
use Rattle.code_visits.proofs.edges.bring_each.Goals as goal

-- the edges that are left: the first clashes with none, and neither do the others
first_fits : {A : Type 0} (d : Meeting A) (code : List Insn) (tos : List ℕ) (k : ℕ) (f : A) (nodes : List (PlanNode A)) → Ascend 0 code → k < length tos → meeting_clash d code (drop k tos) f nodes ≡ None → meeting_clash d code (slice_index_or tos k 0 ∷ []) f nodes ≡ None
first_fits d code tos k f nodes a h e = first_none d code (slice_index_or tos k 0) (drop (k + 1) tos) f nodes a (sym (ap (λ l. meeting_clash d code l f nodes) (drop_more tos k 0 h)) ∙ e)

others_fit : {A : Type 0} (d : Meeting A) (code : List Insn) (tos : List ℕ) (k : ℕ) (f : A) (nodes : List (PlanNode A)) → Ascend 0 code → k < length tos → meeting_clash d code (drop k tos) f nodes ≡ None → meeting_clash d code (drop (k + 1) tos) f nodes ≡ None
others_fit d code tos k f nodes a h e = others_none d code (slice_index_or tos k 0) (drop (k + 1) tos) f nodes a (sym (ap (λ l. meeting_clash d code l f nodes) (drop_more tos k 0 h)) ∙ e)

brought_more : {A : Type 0} (d : Meeting A) (code : List Insn) (tos : List ℕ) (k : ℕ) (f : A) (nodes mid whole : List (PlanNode A)) → k < length tos → mid ≡ edge_brought d code (slice_index_or tos k 0) f nodes → edges_brought d code (drop k tos) f nodes ≡ whole
    → edges_brought d code (drop (k + 1) tos) f mid ≡ whole
brought_more d code tos k f nodes mid whole h e inv = ap (λ l. edges_brought d code (drop (k + 1) tos) f l) e ∙ ap (λ l. edges_brought d code l f nodes) (sym (drop_more tos k 0 h)) ∙ inv

pub bring-requires-clause-apart : goal.bring-requires-clause-apart
bring-requires-clause-apart g c = first_fits g.D.Frames.meeting c.args.m.now.code c.args.tos.now c.loop-to.to-index c.args.f.now c.loop-to.nodes c.laid_out.ensures.ascend c.loop-to-test.true c.loop-to.invariant.apart

pub loop-to-preserved : goal.loop-to-preserved
loop-to-preserved g c =
    let d = g.D.Frames.meeting in
    let width = g.D.Frames.width in
    let law = g.met.D.Frames.lawful in
    let code = c.args.m.now.code in
    let tos = c.args.tos.now in
    let k = c.loop-to.to-index in
    record {
      brought = brought_more d code tos k c.args.f.now c.loop-to.nodes c.bring.new.nodes _ c.loop-to-test.true c.in_ok-bring.ensures c.loop-to.invariant.brought;
      level = rw c.in_ok-bring.ensures (level_brought d width (width c.args.f.now) code (slice_index_or tos k 0) c.args.f.now c.loop-to.nodes law refl c.loop-to.invariant.level);
      apart = rw c.in_ok-bring.ensures (still_none d width code (drop (k + 1) tos) (slice_index_or tos k 0) c.args.f.now c.loop-to.nodes law
          (others_fit d code tos k c.args.f.now c.loop-to.nodes c.laid_out.ensures.ascend c.loop-to-test.true c.loop-to.invariant.apart));
      others = λ others e. rw c.in_ok-bring.ensures (still_none d width code others (slice_index_or tos k 0) c.args.f.now c.loop-to.nodes law (c.loop-to.invariant.others others e));
    }
