-- What the visits of a colouring owe: their frames meet as they have to, and the visits end, since
-- no frame ever changes.
use Rattle.std.proofs.Common.{◌≡◌, ◌<◌, ◌≤◌, ℕ, Bool, true, false, ◌&&◌, List, [], ◌∷◌, map, Option}
use Rattle.std.proofs.Common.{Some, None, refl, sym, ap, ◌∙◌, arith}
use Rattle.std.specs.Prelude.{◌==◌, slice_get}
use Rattle.std.specs.List.{AllByRecursion}
use Rattle.std.proofs.lemmas.Bool.{and_parts, eqb-true}
use Rattle.std.proofs.lemmas.Bool.Decides.{nat_tests}
use Rattle.jvm_types.specs.declared.code.Insn.{Insn}
use Rattle.jvm_types.specs.declared.program.Row.{Row}
use Rattle.jvm_types.specs.declared.program.Target.{Target}
use Rattle.jvm_types.specs.declared.program.MethodInfo.{MethodInfo}
use Rattle.jvm_types.specs.declared.program.Program.{Program}
use Rattle.checked_program.specs.Visits.{Act}
use Rattle.laws_sections.proofs.VisitsEnd.{Ranks, BringsUpTo, IsKept, work, first_kept, visit_keeps}
use Rattle.laws_sections.proofs.VisitsEnd.{visit_works}
use Rattle.code_visits.specs.Level.{IsLawfulMeeting}
use Rattle.code_visits.specs.Analyses.{Ends}
use Rattle.guard_analysis.specs.ColourVisits.{same_colour, same_colours, colour_meeting}
use Rattle.guard_analysis.specs.ColourVisits.{colours_at_handlers, colour_acts_at, colour_plan}
use Rattle.guard_analysis.specs.declared.colouring.Colour.{Colour}
use Rattle.guard_analysis.specs.declared.colouring.Colour.TheVariants.{Plain, Of}

own_colour : (c : Colour) → same_colour c c ≡ true
own_colour Plain = refl
own_colour (Of fi) = grind (arith, nat_tests)

pub own_colours : (cs : List Colour) → same_colours cs cs ≡ true
own_colours [] = refl
own_colours (c ∷ cs) = ap (λ (b : Bool). b && same_colours cs cs) (own_colour c) ∙ own_colours cs

pub one_colour : (c d : Colour) → same_colour c d ≡ true → c ≡ d
one_colour Plain Plain e = refl
one_colour (Of fi) (Of other) e = ap (λ n. Of n) (eqb-true fi other e)
one_colour Plain (Of other) e = absurd (cc)
one_colour (Of fi) Plain e = absurd (cc)

pub same_stacks : (cs ds : List Colour) → same_colours cs ds ≡ true → cs ≡ ds
same_stacks [] [] e = refl
same_stacks [] (d ∷ ds) e = absurd (cc)
same_stacks (c ∷ cs) [] e = absurd (cc)
same_stacks (c ∷ cs) (d ∷ ds) e =
    let h : (same_colour c d ≡ true) × (same_colours cs ds ≡ true) =
    and_parts (same_colour c d) (same_colours cs ds) e in
    let first : c ≡ d = one_colour c d h.0 in
    let more : cs ≡ ds = same_stacks cs ds h.1 in
    cc

pub colours_meet : IsLawfulMeeting colour_meeting (λ f. 0)
colours_meet =
    record
    { same = own_colours; apart = λ f. refl; met_apart = λ g f e. refl; met_wide = λ g f e. refl }

never_falls : (g : List Colour) → same_colours g g ≡ false → 0 < 0
never_falls g e = absurd (let bad : true ≡ false = sym (own_colours g) ∙ e in cc)

handlers_low : (rows : List Row)
    → AllByRecursion (BringsUpTo (λ (f : List Colour). 0) 1) (colours_at_handlers (Plain ∷ []) rows)
handlers_low [] = tt
handlers_low (handler ∷ rows) = (omega arith, handlers_low rows)

acts_low : (p : Program) (m : MethodInfo) (o : Option Insn) (q : Option Target) (f : List Colour)
    → AllByRecursion (BringsUpTo (λ (f : List Colour). 0) 1) (colour_acts_at p m o q f)
acts_low p m (Some insn) (Some target) f = (omega arith, handlers_low _)
acts_low p m o q f = tt

pub colour_ranks : (p : Program) (m : MethodInfo) → Ranks (colour_plan p m)
colour_ranks p m =
    record {
      rank = λ f. 0;
      gain = 1;
      equal = same_stacks;
      falls = λ g f e. never_falls g e;
      gains = λ i f. acts_low p m (slice_get m.code i) (slice_get m.targets i) f;
    }

pub colours_end : (p : Program) (m : MethodInfo)
    → Ends (colour_plan p m) (λ nodes. IsKept (colour_plan p m) (colour_ranks p m) nodes)
    (λ nodes. work (colour_plan p m) (colour_ranks p m) nodes)
colours_end p m = record {
  first = first_kept (colour_plan p m) (colour_ranks p m);
  keeps = visit_keeps (colour_plan p m) (colour_ranks p m);
  lessens = visit_works (colour_plan p m) (colour_ranks p m);
}
