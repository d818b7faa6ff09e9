-- An instruction inside an attempt, whatever it is to show: by its check, which may fail, and by what it does.
use Rattle.std.proofs.Common.{◌≡◌, ℕ, nat_lt, Bool, true, false, cond, Option, Some, None, sym, subst}
use Rattle.jvm_types.specs.declared.{outcome.Thrown.TheVariants.ArrayIndexOutOfBoundsException, program.Program.Program}
use Rattle.checked_program.specs.MarkedProgram.{MarkedProgram}
use Rattle.machine_types.specs.{Elision.{fails, if_same, is_checked, is_same}, Frames.Top, Going.{goes_on, goes_on_if, with_phase}, History.{Fate, GoesOn, Fails, fate_by}, Instructions.{did, instructed}}
use Rattle.machine_types.specs.{Ints.low, Onward.{done, threw}, Threads.{Attempt, Thread}, Words.{header_length, value_word}, declared.effect.Effect.{Effect, TheVariants.{Throws, Indexes}}}
use Rattle.laws_threads.specs.InsideEffects.{MayDo}
use Rattle.machine_types.specs.declared.phase.Phase.TheVariants as phases

-- behind a check the thread z is y, or its attempt fails
pub checked : (P : Thread → Fate → Type 0) (a : Attempt) (z y : Thread) (got : ℕ) (o : Option Attempt) → o ≡ Some a → P y GoesOn → P (fails z a) Fails → P (if_same z o got y) (fate_by (is_same a got) GoesOn)
checked P a z y got o e goes back = subst (λ (o : Option Attempt). P (if_same z o got y) (fate_by (is_same a got) GoesOn)) (sym e)
    (elim (is_same a got) as (λ (b : Bool). P (cond b y (fails z a)) (fate_by b GoesOn)) [ true ↦ goes | false ↦ back ])

pub instructed_by : (P : Thread → Fate → Type 0) (p : Program) (a : Attempt) (z : Thread) (at : Top) (e : Effect) (got : ℕ) → z.attempt ≡ Some a → P (did p z at e got) GoesOn → P (fails z a) Fails
    → P (instructed p z at e got) (cond (is_checked at.frame.pc e) (fate_by (is_same a got) GoesOn) GoesOn)
instructed_by P p a z at e got tries goes back =
    elim (is_checked at.frame.pc e) as (λ (b : Bool). P (cond b (if_same z z.attempt got (did p z at e got)) (did p z at e got)) (cond b (fate_by (is_same a got) GoesOn) GoesOn))
    [ true ↦ checked P a z (did p z at e got) got z.attempt tries goes back | false ↦ goes ]

-- it comes to an element, or goes on as some effect does
pub did_by : (P : Thread → Type 0) (c : MarkedProgram) (m : ℕ) (z : Thread) (at : Top) (got : ℕ) → ((word : ℕ) → P (with_phase z (phases.Element word None))) → ((e : Effect) (n : ℕ) → P (goes_on_if z (done c.program at e n)))
    → (e : Effect) → MayDo c m at e → P (did c.program z at e got)
did_by P c m z at got comes goes (Indexes array index None) may =
    elim (nat_lt (low index) (header_length got)) as (λ (b : Bool). P (cond b (with_phase z (phases.Element (value_word array (low index)) None)) (goes_on z (threw ArrayIndexOutOfBoundsException at))))
    [ true ↦ comes (value_word array (low index)) | false ↦ goes (Throws ArrayIndexOutOfBoundsException) 0 ]
did_by P c m z at got comes goes e may = first_of (assumption, search)
