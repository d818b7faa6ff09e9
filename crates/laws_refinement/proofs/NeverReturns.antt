-- Where the lock word of an attempt's monitor is as it was noted behind an event or the begin of a part, it was so before; so once it
-- is other, it stays so.
use Rattle.std.proofs.Common.{◌≡◌, ℕ, List, Option, Some, None, refl, slice_get}
use Rattle.checked_program.specs.MarkedProgram.{MarkedProgram}
use Rattle.machine_types.specs.{Attempts.IsAsNoted, Core.{Happening, Of, NextPart, core, event_of, happened}, Threads.{Attempt, Thread}, declared.config.Config.Config}
use Rattle.laws_states.{specs.{SiteLaws.{EventsReachSites, SitesDiffer, SitesLieInside}, StateLaws.{IsInState, ProgramsKeepThreads, RunsHaveState}}, proofs.Movers.{KnownSites, known_sites}}
use Rattle.laws_refinement.{specs.TornRuns.{IsTrying, NotedNeverReturns}, proofs.LockNoted.noted_before}

module _ (sites : KnownSites) (c : MarkedProgram) (cfg : Config) (hs : List Happening) (t : ℕ) (a : Attempt) (k : IsTrying c cfg hs t a) (state : IsInState c cfg (core c cfg hs)) where
  by_event : (u : ℕ) (o : Option Thread) → slice_get (core c cfg hs).threads u ≡ o → IsAsNoted (event_of c (core c cfg hs) u o).words a → IsAsNoted (core c cfg hs).words a
  by_event u None e now = now
  by_event u (Some y) e now = noted_before c cfg state.objects state.was (core c cfg hs) u y state.facts e t k.thread k.there a k.tries sites k.marked now

  stood : (h : Happening) → IsAsNoted (happened c (core c cfg hs) h).words a → IsAsNoted (core c cfg hs).words a
  stood (Of u) now = by_event u (slice_get (core c cfg hs).threads u) refl now
  stood NextPart now = now

pub noted_never_returns : ProgramsKeepThreads → RunsHaveState → SitesDiffer → SitesLieInside → EventsReachSites → NotedNeverReturns
noted_never_returns parts runs differ inside reach c cfg hs h t a k torn now =
    torn (stood (known_sites differ inside reach) c cfg hs t a k (runs c cfg hs k.marked k.width (parts c cfg k.marked k.settings)) h now)
