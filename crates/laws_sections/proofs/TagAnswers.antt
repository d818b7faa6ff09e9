-- A method has one answer of tagging, and it has one.
use Rattle.checked_program.specs.{TagLaws.{OneTagging, OneTagRefusal, TaggedNotRefused, TaggedOrRefused}, Tagging.tag_plan}
use Rattle.laws_sections.proofs.{TagRanks.tag_ranks, VisitAnswers.{one_frames, framed_not_broken, one_breach}, VisitsEnd.framed_or_broken}

pub one_tagging_all : OneTagging
one_tagging_all p m frames others v w = one_frames (tag_plan p m) frames others v w

pub no_refusal : TaggedNotRefused
no_refusal p m frames rule pc v b = framed_not_broken (tag_plan p m) frames rule pc v b

pub one_refusal_all : OneTagRefusal
one_refusal_all p m rule other pc at a b = one_breach (tag_plan p m) rule other pc at a b

pub tagged_or_refused_all : TaggedOrRefused
tagged_or_refused_all p m laid = framed_or_broken (tag_plan p m) (tag_ranks p m)
