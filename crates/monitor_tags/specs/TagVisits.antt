-- What an analysis owes, of tagging: its frames meet as they have to, and its visits end.
use Rattle.std.proofs.Common.{◌≡◌, ℕ, Bool, true, not, refl, ap, ◌∙◌}
use Rattle.std.specs.Prelude.{◌&&◌, List}
use Rattle.jvm_types.specs.declared.program.MethodInfo.{MethodInfo}
use Rattle.jvm_types.specs.declared.program.Program.{Program}
use Rattle.checked_program.specs.LockTags.{TagShape, same_tags, IsShapeBelow}
use Rattle.checked_program.specs.Tagging.{tag_meeting, tag_plan}
use Rattle.checked_program.specs.Visits.{PlanNode}
use Rattle.laws_sections.proofs.TagOrder.{own_tags, tag_order}
use Rattle.laws_sections.proofs.TagRanks.{tag_ranks}
use Rattle.laws_sections.proofs.VisitsEnd.{IsKept, work, first_kept, visit_keeps, visit_works}
use Rattle.laws_sections.proofs.VisitPaths.{IsGoing}
use Rattle.code_visits.specs.Level.{IsLawfulMeeting}
use Rattle.code_visits.specs.Analyses.{Ends}
use Rattle.code_visits.proofs.RestLaws.{ends_going}

own_frame : (f : TagShape) → tag_meeting.same f f ≡ true
own_frame f =
    ap (λ (b : Bool). b && (same_tags f.locals f.locals && same_tags f.held f.held))
    (own_tags f.stack)
    ∙ ap (λ (b : Bool). b && same_tags f.held f.held) (own_tags f.locals) ∙ own_tags f.held

pub tags_meet : IsLawfulMeeting tag_meeting (λ f. 0)
tags_meet = record {
  same = own_frame;
  apart = λ f. ap not (own_tags f.held);
  met_apart = λ g f e. e;
  met_wide = λ g f e. refl;
}

-- what is kept of the nodes; and those that do not wait are sound
abbrev pub TagsKept : Program → MethodInfo → List (PlanNode TagShape) → Type 0
TagsKept p m nodes =
    IsKept (tag_plan p m) (tag_ranks p m) nodes
    × IsGoing (tag_plan p m) IsShapeBelow tag_order nodes

pub tags_end : (p : Program) (m : MethodInfo)
    → Ends (tag_plan p m) (λ nodes. TagsKept p m nodes)
    (λ nodes. work (tag_plan p m) (tag_ranks p m) nodes)
tags_end p m = ends_going (tag_plan p m) IsShapeBelow tag_order
    (λ nodes. IsKept (tag_plan p m) (tag_ranks p m) nodes)
    (λ nodes. work (tag_plan p m) (tag_ranks p m) nodes)
    (record {
      first = first_kept (tag_plan p m) (tag_ranks p m);
      keeps = visit_keeps (tag_plan p m) (tag_ranks p m);
      lessens = visit_works (tag_plan p m) (tag_ranks p m);
    })
