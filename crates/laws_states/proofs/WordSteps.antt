-- What an access leaves of all words: places keep their types, unused words and those of new objects stay as they are.
use Rattle.std.proofs.{Common.{◌≡◌, inl, inr, ℕ, ◌<◌, ◌≤◌, List, length, Option, Some, None, refl, ap, sym, subst, ◌∙◌, arith, slice_index, slice_set}, lemmas.List.length-set}
use Rattle.jvm_types.specs.{declared.{fixed_words.TheConstants.NEXT_FREE_WORD, program.Program.Program}}
use Rattle.checked_program.specs.MarkedProgram.{MarkedProgram}
use Rattle.machine_types.specs.{Accesses.{accessed, left_by, words_after}, Core.Core, FoundWords.Content, ObjectsApart.LieApart, PlainMemory.{Object, StaticValue}, StartLaws.StartLiesApart}
use Rattle.machine_types.specs.{Typed.PlacesHold, declared.access.Access.{Access, TheVariants.Rest}}
use Rattle.laws_states.{specs.Sites.{Site, Counter, NewHeaderOf, site_word, IsThere}, proofs.{Accesses.{IsOldSite, FitsAt, FitsAccess, FitsIf}, Lists.{same_or_not, set_here, set_there}}}
use Rattle.laws_states.proofs.{Movers.HeapState, Places.{SiteHolds, site_typed, places_typed}, Sites.{New, block, InNew, Inside, in_block, same_block, block_low, sites_apart}}

-- ---- the next free word does not fall

pub apart_on : (p : Program) (objects : List Object) (statics : List StaticValue) (next more : ℕ) → next ≤ more → LieApart p objects statics next → LieApart p objects statics more
apart_on p objects statics next more le apart = record {
  beside = apart.beside;
  differ = apart.differ;
  mixed = apart.mixed;
  begin = apart.begin;
  below = λ i o g. omega (arith, apart.below i o g, le);
  inside = apart.inside;
  sized = apart.sized;
  statics_begin = apart.statics_begin;
  statics_below = λ j v g. let k = apart.statics_below j v g in (omega (arith, k.0, le), k.1);
  there = apart.there;
}

-- ---- words that are kept

pub record WordsGoOn (c : MarkedProgram) (objects : List Object) (s : Core) (after : List ℕ) : Type 0 where
  pub long : length after ≡ length s.words
  pub free : slice_index s.words NEXT_FREE_WORD ≤ slice_index after NEXT_FREE_WORD
  pub unused : (n : ℕ) → slice_index s.words NEXT_FREE_WORD ≤ n → slice_index after n ≡ slice_index s.words n
  pub places : PlacesHold c.program objects after
  pub new : (a n : ℕ) → InNew c.program s a n → slice_index after n ≡ slice_index s.words n

no_new_block : (site : Site) (a : ℕ) → IsOldSite site → New a ≡ block site → ⊥
no_new_block (NewHeaderOf b) a old e = old
no_new_block site a old e = cc

module _ (lies : StartLiesApart) (state : HeapState) where
  open state use {c, marked, marked.checked.program as is_program, objects, s, facts}

  pub as_they_are : WordsGoOn c objects s s.words
  as_they_are = record { long = refl; free = omega arith; unused = λ n le. refl; places = facts.typed.places; new = λ a n k. refl }

  module _ (content : Content) (access : Access) (fits : FitsAt c.program objects s content access) where
    abbrev value : ℕ
    value = left_by access (slice_index s.words (accessed access))

    abbrev set : List ℕ
    set = slice_set s.words (accessed access) (left_by access (slice_index s.words (accessed access)))

    site_in : Inside c.program objects s (block fits.site) (accessed access)
    site_in = subst (Inside c.program objects s (block fits.site)) (sym fits.word) (in_block c.program objects s fits.site fits.there)

    low : (0 < accessed access) × (accessed access < slice_index s.words NEXT_FREE_WORD) × (accessed access < c.program.heap)
    low = block_low lies c objects s marked facts (block fits.site) (accessed access) site_in

    each_site : (site : Site) → IsThere c.program objects s site → SiteHolds c.program objects (slice_index s.words NEXT_FREE_WORD) site (slice_index set (site_word site))
    each_site site k = elim (same_or_not (site_word site) (accessed access)) [
      | inl e ↦
          let one : site ≡ fits.site = sites_apart lies c objects s site fits.site marked facts k fits.there (e ∙ fits.word) in
          let is : slice_index set (site_word site) ≡ value = ap (slice_index set) e ∙ set_here s.words (accessed access) value (omega (arith, low.2, facts.unused.many)) in
          subst (SiteHolds c.program objects (slice_index s.words NEXT_FREE_WORD) site) (sym is) (subst (λ x. SiteHolds c.program objects (slice_index s.words NEXT_FREE_WORD) x value) (sym one) fits.left)
      | inr n ↦
          subst (SiteHolds c.program objects (slice_index s.words NEXT_FREE_WORD) site) (sym (set_there s.words (accessed access) (site_word site) value n)) (site_typed c.program is_program objects s.words site facts.typed.places)
    ]

    words_set : WordsGoOn c objects s set
    words_set = record {
      long = length-set s.words (accessed access) value;
      free = each_site (Counter NEXT_FREE_WORD) (omega arith, omega arith) refl;
      unused = λ n le. set_there s.words (accessed access) n value (λ e. omega (arith, e, le, low.1));
      places = places_typed c.program is_program objects set s (slice_index s.words NEXT_FREE_WORD) (slice_index s.words NEXT_FREE_WORD) facts.apart each_site;
      new = λ a n k. set_there s.words (accessed access) n value (λ e. no_new_block fits.site a fits.old (same_block lies c objects s marked facts (New a) (block fits.site) n k (subst (Inside c.program objects s (block fits.site)) (sym e) site_in)));
    }

  access_set : (content : Content) (access : Access) → FitsAccess c.program objects s content access → WordsGoOn c objects s (words_after s.words (Some access))
  access_set content Rest f = as_they_are
  access_set content access f = words_set content access f

  pub words_go_on : (content : Content) (access : Option Access) → FitsIf c.program objects s content access → WordsGoOn c objects s (words_after s.words access)
  words_go_on content None f = as_they_are
  words_go_on content (Some access) f = access_set content access f
