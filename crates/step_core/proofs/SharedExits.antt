-- The exit of a monitor over words that others may change.
use Rattle.std.proofs.Common.{◌≡◌, ◌≢◌, ℕ, zero, suc, Bool, true, false, cond, Some, None, refl, sym, nat_lt}
use Rattle.std.proofs.lemmas.Bool.{eq-eqb}
use Rattle.lists.proofs.ListLaws.{same_some}
use Rattle.checked_program.specs.MarkedProgram.{MarkedProgram}
use Rattle.machine_types.specs.{Going.goes_after, HeldMonitors.without_held, LockWords.word_of_lock, Monitors.{Claim, Has, HasNot, Tries, claim, finish_wants, leave_wants, release, released}, Threads.Thread}
use Rattle.machine_types.specs.declared.{access.Access.{Access, TheVariants.Load}, lock.{Held.{Held as Entry}, Kept.Kept, LockWord.TheVariants.Held}, phase.After.After}
use Rattle.frames.specs.FrameLists.{Frames}
use Rattle.step_core.specs.{Sections.leaving, Sharing.IsLeftBy}
use Rattle.machine_types.specs.declared.lock.Kept.TheVariants as keeps

-- the thread without the monitor
abbrev let_go : Thread → (m : ℕ) → Thread
let_go s m = record s { held = without_held m s.held }

by_kept : (c : MarkedProgram) (m got : ℕ) (s : Thread) (kept : Kept) → got ≡ word_of_lock (Held s.number)
    → (f : Frames) (count : ℕ) (a : After)
    → goes_after c.program (leaving (let_go s m) f count m a) a ≡ released c.program (leaving s f count m a) m a kept got
by_kept c m got s (keeps.Flat n) is f count a = rw (eq-eqb got (word_of_lock (Held s.number)) is) refl
by_kept c m got s (keeps.Fat r) is f count a = refl

by_depth : (c : MarkedProgram) (m got : ℕ) (s t : Thread) (access : Access) (h : Entry) (deep : Bool) → nat_lt 1 h.depth ≡ deep
    → cond deep None (Some (release t m h.kept)) ≡ Some access → claim s m ≡ Has h → got ≡ word_of_lock (Held s.number)
    → IsLeftBy c m s (let_go s m) got
by_depth c m got s t access h true e wants has is = absurd (cc)
by_depth c m got s t access h false e wants has is = λ f count a. rw (has, e) (by_kept c m got s h.kept is f count a)

no_load : (m inner : ℕ) (access : Access) → finish_wants m inner ≡ Some access → ((w : ℕ) → access ≢ Load w) → ⊥
no_load m zero access wants other = other m (sym (same_some wants))
no_load m (suc n) access wants other = absurd (cc)

by_claim : (c : MarkedProgram) (m got : ℕ) (s t : Thread) (access : Access) (o : Claim) → claim s m ≡ o → leave_wants t m o ≡ Some access
    → ((w : ℕ) → access ≢ Load w) → got ≡ word_of_lock (Held s.number) → IsLeftBy c m s (let_go s m) got
by_claim c m got s t access (Has h) e wants other is = by_depth c m got s t access h (nat_lt 1 h.depth) refl wants e is
by_claim c m got s t access (Tries a) e wants other is = absurd (no_load m a.inner access wants other)
by_claim c m got s t access HasNot e wants other is = absurd (cc)

-- a lock that the thread holds, and whose word is as it was left
pub lets_it_go : (c : MarkedProgram) (m got : ℕ) (s t now : Thread) (access : Access) → leave_wants t m (claim s m) ≡ Some access
    → ((w : ℕ) → access ≢ Load w) → got ≡ word_of_lock (Held s.number) → now ≡ let_go s m → IsLeftBy c m s now got
lets_it_go c m got s t now access wants other is made =
    rw made (by_claim c m got s t access (claim s m) refl wants other is)
