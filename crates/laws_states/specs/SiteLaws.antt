-- Which word an event accesses, and that no word stands for two things.
use Rattle.std.specs.Prelude.{◌≡◌, ℕ, ◌<◌, List, length, Some, slice_get}
use Rattle.checked_program.specs.MarkedProgram.{MarkedProgram, IsMarked}
use Rattle.machine_types.specs.Core.{Core}
use Rattle.machine_types.specs.Events.{wanted}
use Rattle.machine_types.specs.FoundWords.{content_at}
use Rattle.machine_types.specs.Lawful.{IsLawful}
use Rattle.machine_types.specs.PlainMemory.{Object}
use Rattle.machine_types.specs.Threads.{Thread}
use Rattle.laws_states.specs.HeapFacts.{HeapFacts}
use Rattle.laws_states.specs.Sites.{Site, site_word, IsThere, ReachesIf}

-- a site of the kind that the thread's phase says
abbrev pub EventsReachSites : Type 0
EventsReachSites = (c : MarkedProgram) (objects : List Object) (s : Core) (t : ℕ) (x : Thread)
    → IsMarked c → HeapFacts c objects s → slice_get s.threads t ≡ Some x → IsLawful c x
    → ReachesIf c.program objects s (content_at c x x.phase) (wanted c x x.phase)

abbrev pub SitesDiffer : Type 0
SitesDiffer = (c : MarkedProgram) (objects : List Object) (s : Core) (site other : Site)
    → IsMarked c → HeapFacts c objects s → IsThere c.program objects s site
    → IsThere c.program objects s other → site_word site ≡ site_word other → site ≡ other

abbrev pub SitesLieInside : Type 0
SitesLieInside = (c : MarkedProgram) (objects : List Object) (s : Core) (site : Site) → IsMarked c
    → HeapFacts c objects s → IsThere c.program objects s site → site_word site < length s.words
