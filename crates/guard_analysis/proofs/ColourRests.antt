-- Colours that an edge brings where a frame is: nothing changes.
use Rattle.std.proofs.Common.{◌≡◌, ℕ, List, [], ◌∷◌, length, Option, Some, Ok, refl, ap, ◌∙◌}
use Rattle.jvm_types.specs.declared.program.MethodInfo.{MethodInfo}
use Rattle.code_table.specs.PcTables.{number_at}
use Rattle.checked_program.specs.Visits.{PlanNode, edge_brought, unless_meeting_clash}
use Rattle.code_visits.{specs.Waiting.plan_node_at, proofs.{BroughtLaws.{at_place, brought_at}, StayLaws.stays_there}}
use Rattle.guard_analysis.{specs.{ColourVisits.{colour_meeting, colours_done, goes_coloured}, ColourWork.colours_meet}, proofs.ColourRuns.never_clash}
use Rattle.guard_analysis.specs.declared.{colouring.Colour.Colour, colouring.NoRule.TheVariants.Nothing}

pub rests_there : (m : MethodInfo) (to i : ℕ) (g f : List Colour) (nodes : List (PlanNode (List Colour))) → length nodes ≡ length m.code → number_at m.code to ≡ Some i
    → Some g ≡ (plan_node_at nodes i).frame → colours_done m (goes_coloured (to ∷ []) f ∷ []) nodes ≡ Ok nodes
rests_there m to i g f nodes long place there =
    let stays : edge_brought colour_meeting m.code to f nodes ≡ nodes =
    brought_at colour_meeting m.code to f nodes long ∙ ap (λ o. at_place colour_meeting o f nodes) place ∙ stays_there colour_meeting (λ (c : List Colour). 0) nodes i g f colours_meet there refl in
    ap (λ (o : Option ℕ). unless_meeting_clash Nothing o (Ok (edge_brought colour_meeting m.code to f nodes))) (never_clash m.code (to ∷ []) f nodes) ∙ ap Ok stays
