-- A plain thread that waits on a monitor has its bit set in the record of the monitor's lock; so where the lock is not fat nobody
-- waits on the monitor.
use Rattle.std.proofs.Common.{◌≡◌, ◌≢◌, ◌⊎◌, inl, inr, ℕ, zero, suc, Bool, true, false, cond, List, [], ◌∷◌, Option, Some, None, refl, sym, ap, ◌∙◌, arith, ⊎_elim, slice_get, map, ◌==◌, ◌||◌}
use Rattle.std.{specs.List.list_any, proofs.lemmas.{Bool.{cases_Bool, Decides.Decides-eqb}, Option.slice_get_cases}}
use Rattle.jvm_types.specs.{declared.{outcome.End.End, program.Program.Program}}
use Rattle.machine_types.specs.{Agreement.{has_wait_bit, toward_status, waiting_status, start_status, LimitFits, EndingFits, StatusFits, ThreadFits, Agrees}, Core.Core}
use Rattle.machine_types.specs.{Owners.{lock_at, references_of}, PlainState.{Status, PlainThread, Plain, with_status}, PlainSteps.{waits_on, woken, wakes}, Threads.{Attempt, Thread}}
use Rattle.machine_types.{specs.{Waiting.is_bit_set, declared.{lock.{Held.Held, LockWord.LockWord}, phase.{Phase.Phase, Toward.Toward}}}, proofs.Lists.got_below}
use Rattle.laws_simulation.proofs.WaitBits.{bit_by}
use Rattle.jvm_types.specs.declared.outcome.End.TheVariants as ends
use Rattle.machine_types.specs.declared.lock.LockWord.TheVariants as locks
use Rattle.machine_types.specs.PlainState as plain
use Rattle.machine_types.specs.declared.phase.Phase.TheVariants as phases
use Rattle.machine_types.specs.declared.phase.Toward.TheVariants as towards

-- ---- what a bit means

-- it is set in the record of a fat lock
pub record IsBitIn (references words : List ℕ) (t m : ℕ) : Type 0 where
  pub r : ℕ
  pub fat : lock_at references words m ≡ locks.Fat r
  pub set : is_bit_set words r t ≡ true

pub bit_of_fat : (references words : List ℕ) (t m r : ℕ) → lock_at references words m ≡ locks.Fat r → has_wait_bit references words t m ≡ is_bit_set words r t
bit_of_fat references words t m r e = ap (λ (l : LockWord). bit_by l words t) e

pub bit_in : (references words : List ℕ) (t m : ℕ) → has_wait_bit references words t m ≡ true → IsBitIn references words t m
bit_in references words t m e = (elim (lock_at references words m) as (λ (l : LockWord). lock_at references words m ≡ l → bit_by l words t ≡ true → IsBitIn references words t m)
    [ locks.Fat r ↦ λ f g. record { r = r; fat = f; set = g } | lock ↦ λ f g. absurd (cc) ]) refl e

-- ---- a thread whose plain status is that it waits

limit_waits : (bit : ℕ → Bool) (status : Status) (Awake : Type 0) (m depth : ℕ) → LimitFits bit status Awake → (Awake → status ≡ plain.Waiting m depth → ⊥) → status ≡ plain.Waiting m depth → bit m ≡ true
limit_waits bit status Awake m depth f never w = elim (cases_Bool (bit m)) [ inl e ↦ e | inr e ↦ absurd (never (f.awake (λ n. off e n (bit n) refl)) w) ]
  where
    off : bit m ≡ false → (n : ℕ) (b : Bool) → bit n ≡ b → bit n ≡ false
    off e n true g =
        let k = f.waits n g in
        let same : plain.Waiting m depth ≡ plain.Waiting n k.0 = sym w ∙ k.1 in
        let one : m ≡ n = cc in
        let clash : true ≡ false = sym g ∙ ap bit (sym one) ∙ e in cc
    off e n false g = g

toward_waits : (n : ℕ) (toward : Toward) (status : Status) (m depth : ℕ) → status ≡ toward_status n toward → status ≡ plain.Waiting m depth → ⊥
toward_waits n (towards.Leave a) status m depth f w = cc
toward_waits n towards.Wait status m depth f w = cc

start_waits : (part : ℕ) (status : Status) (m depth : ℕ) → status ≡ start_status part → status ≡ plain.Waiting m depth → ⊥
start_waits zero status m depth f w = cc
start_waits (suc part) status m depth f w = cc

pub ending_waits : (bit : ℕ → Bool) (held : List Held) (e : End) (status : Status) (m depth : ℕ) → EndingFits bit held e status → status ≡ plain.Waiting m depth → bit m ≡ true
ending_waits bit held ends.Steps status m depth f w = limit_waits bit status _ m depth f (λ awake g. cc) w
ending_waits bit held ends.Prints status m depth f w = limit_waits bit status _ m depth f (λ awake g. cc) w
ending_waits bit held ends.Records status m depth f w = limit_waits bit status _ m depth f (λ awake g. let k : status ≡ plain.Wait awake.0 = awake.1 in cc) w
ending_waits bit held ends.Turns status m depth f w = limit_waits bit status _ m depth f turning w
  where
    turning : ((m : ℕ) × (status ≡ plain.Enter m)) ⊎ ((m : ℕ) × (depth : ℕ) × (status ≡ plain.Woken m depth)) → status ≡ plain.Waiting m depth → ⊥
    turning (inl k) g = let e : status ≡ plain.Enter k.0 = k.1 in cc
    turning (inr k) g = let e : status ≡ plain.Woken k.0 k.1 = k.2 in cc
ending_waits bit held e status m depth f w = cc

pub status_waits : (bit : ℕ → Bool) (x : Thread) (phase : Phase) (status : Status) (m depth : ℕ) → StatusFits bit x phase status → status ≡ plain.Waiting m depth → bit m ≡ true
status_waits bit x (phases.WaitLook n r k) status m depth f w = (elim (bit n) as (λ (b : Bool). bit n ≡ b → status ≡ waiting_status b n k → bit m ≡ true) [
  | true ↦ λ e g.
      let same : plain.Waiting n k ≡ plain.Waiting m depth = sym g ∙ w in
      let one : n ≡ m = cc in ap bit (sym one) ∙ e
  | false ↦ λ e g. cc
]) refl f
status_waits bit x (phases.Ending e) status m depth f w = ending_waits bit x.held e status m depth f w
status_waits bit x (phases.Ended e) status m depth f w = ending_waits bit x.held e status m depth f w
status_waits bit x phases.Start status m depth f w = absurd (start_waits x.part status m depth f w)
status_waits bit x (phases.Grow n toward) status m depth f w = absurd (toward_waits n toward status m depth f w)
status_waits bit x (phases.Own n r toward) status m depth f w = absurd (toward_waits n toward status m depth f w)
status_waits bit x (phases.FatIn n r toward) status m depth f w = absurd (toward_waits n toward status m depth f w)
status_waits bit x phase status m depth f w = cc

pub thread_waits : (p : Program) (bit : ℕ → Bool) (x : Thread) (a : Option Attempt) (y : PlainThread) (m depth : ℕ) → ThreadFits p bit x a y → y.status ≡ plain.Waiting m depth → bit m ≡ true
thread_waits p bit x None y m depth f w = status_waits bit x x.phase y.status m depth f.status w
thread_waits p bit x (Some a) y m depth f w = let e : y.status ≡ plain.Enter a.monitor = f.status in cc

-- ---- all threads

-- the thread of the running machine that a plain thread stands for
pub twin : (p : Program) (s : Core) (q : Plain) (u : ℕ) (y : PlainThread) → Agrees p s q → slice_get q.threads u ≡ Some y → (x : Thread) × (slice_get s.threads u ≡ Some x)
twin p s q u y a e = ⊎_elim (λ k. (k.0, k.2)) (λ k. absurd (let far = k.0 in let below = got_below q.threads u y e in let many = a.many in omega (arith, far, below, many))) (slice_get_cases s.threads u).1

pub waiter_has_bit : (p : Program) (s : Core) (q : Plain) (u m depth : ℕ) (y : PlainThread) → Agrees p s q → slice_get q.threads u ≡ Some y → y.status ≡ plain.Waiting m depth
    → has_wait_bit (references_of q.objects) s.words u m ≡ true
waiter_has_bit p s q u m depth y a e w =
    let x = twin p s q u y a e in
    thread_waits p (has_wait_bit (references_of q.objects) s.words u) x.0 x.0.attempt y m depth (a.threads u x.0 y x.1 e) w

-- ---- where nobody waits on a monitor

abbrev pub NobodyWaits : List PlainThread → (m : ℕ) → Type 0
NobodyWaits threads m = (u : ℕ) (y : PlainThread) (depth : ℕ) → slice_get threads u ≡ Some y → y.status ≡ plain.Waiting m depth → ⊥

-- where no thread has its bit set
pub nobody_by_bits : (p : Program) (s : Core) (q : Plain) (m : ℕ) → Agrees p s q → ((u : ℕ) → has_wait_bit (references_of q.objects) s.words u m ≡ false) → NobodyWaits q.threads m
nobody_by_bits p s q m a off u y depth e w = let clash : true ≡ false = sym (waiter_has_bit p s q u m depth y a e w) ∙ off u in cc

-- where the lock is not fat
pub nobody_on_thin : (p : Program) (s : Core) (q : Plain) (m : ℕ) → Agrees p s q → ((r : ℕ) → lock_at (references_of q.objects) s.words m ≢ locks.Fat r) → NobodyWaits q.threads m
nobody_on_thin p s q m a thin u y depth e w = let k = bit_in (references_of q.objects) s.words u m (waiter_has_bit p s q u m depth y a e w) in thin k.r k.fat

waits_by_status : (m : ℕ) (status : Status) → ((depth : ℕ) → status ≡ plain.Waiting m depth → ⊥) → waits_on m status ≡ false
waits_by_status m (plain.Waiting n depth) never = (elim (n == m) as (λ (b : Bool). (n == m) ≡ b → b ≡ false)
    [ true ↦ λ e. absurd (never depth (ap (λ (k : ℕ). plain.Waiting k depth) ((Decides-eqb n m).0 e))) | false ↦ λ e. refl ]) refl
waits_by_status m status never = refl

-- so a notification wakes none
pub none_waits : (m : ℕ) (threads : List PlainThread) → NobodyWaits threads m → list_any (λ w. waits_on m w.status) threads ≡ false
none_waits m [] never = refl
none_waits m (y ∷ ys) never =
    let first : waits_on m y.status ≡ false = waits_by_status m y.status (λ depth w. never 0 y depth refl w) in
    ap (λ (b : Bool). b || list_any (λ w. waits_on m w.status) ys) first ∙ none_waits m ys (λ u z depth e w. never (suc u) z depth e w)

woken_by_status : (m : ℕ) (status : Status) → ((depth : ℕ) → status ≡ plain.Waiting m depth → ⊥) → woken m status ≡ status
woken_by_status m (plain.Waiting n depth) never = (elim (n == m) as (λ (b : Bool). (n == m) ≡ b → cond b (plain.Woken n depth) (plain.Waiting n depth) ≡ plain.Waiting n depth)
    [ true ↦ λ e. absurd (never depth (ap (λ (k : ℕ). plain.Waiting k depth) ((Decides-eqb n m).0 e))) | false ↦ λ e. refl ]) refl
woken_by_status m status never = refl

pub stays_asleep : (m : ℕ) (y : PlainThread) → ((depth : ℕ) → y.status ≡ plain.Waiting m depth → ⊥) → wakes m y ≡ y
stays_asleep m y never = ap (with_status y) (woken_by_status m y.status never)

pub none_woken : (m : ℕ) (threads : List PlainThread) → NobodyWaits threads m → map (wakes m) threads ≡ threads
none_woken m [] never = refl
none_woken m (y ∷ ys) never =
    let first : wakes m y ≡ y = stays_asleep m y (λ depth w. never 0 y depth refl w) in
    ap (λ (z : PlainThread). z ∷ map (wakes m) ys) first ∙ ap (λ (zs : List PlainThread). y ∷ zs) (none_woken m ys (λ u z depth e w. never (suc u) z depth e w))
