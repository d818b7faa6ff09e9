-- An instruction that writes a field.
use Rattle.std.proofs.Common.{◌≡◌, ℕ, [], ◌∷◌, Option, Some, refl, sym, ap, subst, ◌∙◌, slice_index, slice_set, option_map}
use Rattle.jvm_types.specs.declared.program.Kind.{Kind}
use Rattle.machine_types.specs.{Events.wanted, FoundWords.{Content, kind_content, variable_content, run_content, content_at, effect_content}, Frames.went_on, Going.goes_on, Instructions.begun, Onward.Running}
use Rattle.machine_types.specs.{PlainState.{Plain, PlainThread, value_at, written, with_thread}, Threads.Thread, Words.variable_word, declared.access.Access.{Access, TheVariants.Store}}
use Rattle.machine_types.specs.declared.{effect.{Effect.TheVariants.Writes, Variable.Variable}}
use Rattle.laws_states.{specs.{Sites.{Site, ValueOf, StaticAt, site_word, Suits, IsAccessOf, ReachesIf}}, proofs.{Accesses.content_is, Phases.events_reach}}
use Rattle.laws_simulation.{specs.StepsBeside.StepsBeside, proofs.{EventSteps.gone_on, MemoryParts.{IsValueSite, writes}, OwnThread.own, PlainValues.{IsPlace, value_found}}}
use Rattle.laws_simulation.proofs.{RunScene.{Instruction, makes_none, goes, may, wants, acts_are, moves, does}, Scene.{Scene, Memory, steps_in}}
use Rattle.jvm_types.specs.declared.program.Kind.TheVariants as kinds
use Rattle.machine_types.specs.PlainState as plain
use Rattle.machine_types.specs.declared.phase.Phase.TheVariants as phases
use Rattle.machine_types.specs.declared.plain.Act.TheVariants as acts

-- ---- a variable is a field or a static field

value_site : (kind : Kind) (site : Site) → Suits (kind_content kind) site → IsValueSite site
value_site kind (ValueOf reference index) k = tt
value_site kind (StaticAt word) k = tt
value_site kinds.Int site k = absurd k
value_site kinds.Bool site k = absurd k
value_site (kinds.Ref class) site k = absurd k

pub is_place : (site : Site) → IsValueSite site → IsPlace site
is_place (ValueOf reference index) k = tt
is_place (StaticAt word) k = tt
is_place site k = absurd k

module _ (scene : Scene) where
  open scene use {turn, c, objects, s, t, x, q}
  open own turn use {plain as y}

  -- ---- a place is written

  module _ (v : Variable) (word : ℕ) (i : Instruction turn (Writes v word)) where
    open i use {runs, at, found, effect}

    reach : IsAccessOf c.program objects s (variable_content c.program at.target) (Store (variable_word v) word)
    reach =
        let k = events_reach c objects s t x scene.marked scene.facts.heap scene.here (scene.facts.threads.lawful t x scene.here) in
        let content : content_at c x x.phase ≡ variable_content c.program at.target =
        ap (content_at c x) runs ∙ (ap (run_content c.program) found ∙ ap (effect_content c.program at.target) effect) in
        subst (λ (k : Content). ReachesIf c.program objects s k (Some (Store (variable_word v) word))) content
        (subst (λ (a : Option Access). ReachesIf c.program objects s (content_at c x x.phase) a) (ap (wanted c x) runs ∙ wants i) k)

    value : IsValueSite reach.site
    value =
        let k = may i in
        let f = k.1 in
        let same : variable_content c.program at.target ≡ kind_content f.kind = content_is c scene.marked objects s scene.facts.heap at.target v f k.2 in
        value_site f.kind reach.site (subst (λ (z : Content). Suits z reach.site) same reach.suits)

    stands : value_at q (site_word reach.site) ≡ Some (slice_index s.words (site_word reach.site))
    stands = value_found scene.differ c objects s q scene.marked scene.facts.heap scene.beside reach.site (is_place reach.site value) reach.there

    abbrev now : Thread
    now = goes_on (begun x) (Running (went_on c.program at 0))

    abbrev shown : PlainThread
    shown = plain.plain_goes_on y (Running (went_on c.program at 0))

    memory : Memory turn objects (slice_set s.words (variable_word v) word) (written q (variable_word v) word) now
    memory = subst (λ (n : ℕ). Memory turn objects (slice_set s.words n word) (written q n word) now) (sym reach.word)
        (writes scene reach.site value reach.there word (slice_index s.words (site_word reach.site)) stands now
        (makes_none i) (gone_on (begun x) (Running (went_on c.program at 0))).makes)

    pub write_steps : StepsBeside c objects s t x q
    write_steps = steps_in turn phases.Run runs objects (Some (Store (variable_word v) word)) (acts.Do ∷ []) (written q (variable_word v) word) now shown
        refl (wants i) (acts_are i (slice_index s.words (variable_word v))) (moves i (slice_index s.words (variable_word v))) (λ h. cc)
        (does i (with_thread (written q (variable_word v) word) t shown) (ap (option_map (λ (w : ℕ). with_thread (written q (variable_word v) word) t shown)) (ap (value_at q) reach.word ∙ stands)))
        (goes i (Running (went_on c.program at 0))) memory
