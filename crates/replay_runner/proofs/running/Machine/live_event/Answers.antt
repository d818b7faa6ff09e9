use Rattle.std.proofs.{Common.{◌≡◌, true, refl, sym, ap, subst, ◌∙◌, arith}, lemmas.List.length-set}
use Rattle.machine_types.specs.Core.{event, lives}
use Rattle.replay_runner.{specs.{Running.Running, RunningStates.{AreRunning, IsThreadOf}}, proofs.{LessWork.event_lessens, MachineEvents.{live_there, live_thread}, ManyEvents.put_back}}
use Rattle.replay_runner.proofs.running.Machine.live_event.Goals as goal

pub index_mut-requires : goal.index_mut-requires
index_mut-requires c =
    let m : Running = record { program = c.self.inside.program.told; cfg = c.self.inside.cfg; core = record { words = c.self.inside.words; threads = c.self.inside.threads.items } } in
    let live : lives m.core c.args.t ≡ true = ap (λ (r : Running). lives r.core c.args.t) c.self.view_is ∙ c.requires.live in
    omega (arith, live_there m.core c.args.t live, c.self.inside.threads.ok)

pub go-requires : goal.go-requires
go-requires c =
    let m : Running = record { program = c.self.inside.program.told; cfg = c.self.inside.cfg; core = record { words = c.self.inside.words; threads = c.self.inside.threads.items } } in
    let live : lives m.core c.args.t ≡ true = ap (λ (r : Running). lives r.core c.args.t) c.self.view_is ∙ c.requires.live in
    (m, c.args.t, record { runs = c.self.invariant.0; program = c.requires.program ∙ sym (ap (λ (r : Running). r.program) c.self.view_is); at = live_thread m.core c.args.t c.index_mut.result.now live c.index_mut.ensures.value; words_are = refl })

pub returns-clause-event : goal.returns-clause-event
returns-clause-event c =
    let m : Running = record { program = c.self.inside.program.told; cfg = c.self.inside.cfg; core = record { words = c.self.inside.words; threads = c.self.inside.threads.items } } in
    let live : lives m.core c.args.t ≡ true = ap (λ (r : Running). lives r.core c.args.t) c.self.view_is ∙ c.requires.live in
    let was : IsThreadOf m c.args.p.now c.args.t c.index_mut.result.now c.self.inside.words = record { runs = c.self.invariant.0; program = c.requires.program ∙ sym (ap (λ (r : Running). r.program) c.self.view_is); at = live_thread m.core c.args.t c.index_mut.result.now live c.index_mut.ensures.value; words_are = refl } in
    let now = c.go.ensures m c.args.t was in
    let back = put_back m c.args.p.now c.args.t 1 c.go.new.s c.go.new.words now in
    back ∙ ap (λ (r : Running). record r { core = event r.program r.core c.args.t }) c.self.view_is

pub invariant_of-self : goal.invariant_of-self
invariant_of-self c =
    let m : Running = record { program = c.self.inside.program.told; cfg = c.self.inside.cfg; core = record { words = c.self.inside.words; threads = c.self.inside.threads.items } } in
    let live : lives m.core c.args.t ≡ true = ap (λ (r : Running). lives r.core c.args.t) c.self.view_is ∙ c.requires.live in
    let was : IsThreadOf m c.args.p.now c.args.t c.index_mut.result.now c.self.inside.words = record { runs = c.self.invariant.0; program = c.requires.program ∙ sym (ap (λ (r : Running). r.program) c.self.view_is); at = live_thread m.core c.args.t c.index_mut.result.now live c.index_mut.ensures.value; words_are = refl } in
    let now = c.go.ensures m c.args.t was in
    let back = put_back m c.args.p.now c.args.t 1 c.go.new.s c.go.new.words now in (
      subst AreRunning (sym back) now.runs,
      c.self.invariant.1,
      omega (arith, c.self.invariant.2, length-set c.self.inside.threads.items c.args.t c.go.new.s),
      c.self.invariant.3,
    )

pub returns-clause-less : goal.returns-clause-less
returns-clause-less c =
    event_lessens c.events_lessen_all_work.ensures (record { program = c.self.inside.program.told; cfg = c.self.inside.cfg; core = record { words = c.self.inside.words; threads = c.self.inside.threads.items } }) c.args.self.now _ c.args.t
    c.self.invariant.0 c.self.view_is (returns-clause-event c) c.requires.live
