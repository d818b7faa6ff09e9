-- The events of a monitor that a thread alone enters or leaves.
use Rattle.std.proofs.Common.{◌≡◌, ◌<◌, ◌≤◌, ◌+◌, ◌-◌, ◌*◌, ℕ, suc, List, [], ◌∷◌, true, false, length, Option, Some, None, refl, sym, ap, ◌∙◌, subst, arith, ◌/◌, ◌%◌, IfSome, IsSome, slice_index, slice_set}
use Rattle.std.proofs.lemmas.Bool.{eq-eqb, lt-ltb, le-ltb}
use Rattle.jvm_types.specs.declared.limits.TheConstants.{MOST_FRAMES, MOST_LIMIT}
use Rattle.checked_program.specs.MarkedProgram.{MarkedProgram}
use Rattle.machine_types.specs.{Bounds.under_way, Elision.{elided, is_same, may_try}, Going.runs, HeldMonitors.{deeper, held_at, places_of, shallower, with_held, without_held}, Lawful.IsLawful}
use Rattle.machine_types.specs.{LockWords.{word_of_lock, lock_of}, Monitors.{freed, takes}, Threads.{Attempt, Frame, Thread}, declared.lock.{Held.{Held as Entry}, LockWord.TheVariants.{Free, Held}}}
use Rattle.machine_types.specs.declared.phase.Phase.TheVariants.{Take}
use Rattle.laws_threads.specs.HeldLaws.{HeldHasRoom}
use Rattle.frames.specs.{FrameLists.{Frames, below, top}, KeptAttempts.with_inner}
use Rattle.step_core.{specs.{Alone.{ThreadWithWords, IsFine, alone, stepped}, Running.running_at, Sections.{IsExitMade, entering}, Sharing.taking}, proofs.WordsKept.load_keeps}
use Rattle.machine_types.specs.declared.lock.Kept.TheVariants as keeps

lock_of_free : (n : ℕ) → lock_of (word_of_lock (Free n)) ≡ Free n
lock_of_free n =
    let kind : (4 * n) % 4 ≡ 0 = omega arith in
    let upper : (4 * n) / 4 ≡ n = omega arith in
    rw (kind, upper) refl

-- ---- entries

pub enters_again : (c : MarkedProgram) (s : Thread) (f : Frames) (count m : ℕ) (words : List ℕ) (h : Entry)
    → held_at s.held m ≡ Some h
    → stepped c (alone (entering s f count m) words)
    ≡ alone (runs (running_at (record s { turns = 0; held = with_held (deeper h) s.held }) f count)) words
enters_again c s f count m words h held = rw held refl

pub enters_inside : (c : MarkedProgram) (s : Thread) (f : Frames) (count m : ℕ) (words : List ℕ) (a : Attempt)
    → s.attempt ≡ Some a → held_at s.held m ≡ None → a.monitor ≡ m
    → stepped c (alone (entering s f count m) words)
    ≡ alone (runs (running_at (record s { turns = 0; attempt = Some (record a { inner = a.inner + 1 }) }) f count)) words
enters_inside c s f count m words a some held own = rw (held, some, eq-eqb a.monitor m own) refl

-- with the first attempt of an entry by the top one of these frames
abbrev pub attempt_begun : Thread → Frames → (m noted : ℕ) → Thread
attempt_begun s f m noted = record s {
  attempt = Some (record { monitor = m; noted = noted; base = length (below f.frames); number = 1; inner = 0; entry = top f.frames });
  turns = 0;
}

begins_by : (c : MarkedProgram) (s : Thread) (f : Frames) (count m noted : ℕ) (words : List ℕ) (fs : List Frame)
    → f.frames ≡ fs → 0 < length fs → held_at s.held m ≡ None → s.attempt ≡ None
    → may_try c (entering s f count m) 0 ≡ true → slice_index words m ≡ word_of_lock (Free noted) → noted < s.cfg.range
    → stepped c (alone (entering s f count m) words) ≡ alone (runs (running_at (attempt_begun s f m noted) f count)) words
begins_by c s f count m noted words [] is some held none may word few = absurd (omega (arith, some))
begins_by c s f count m noted words (frame ∷ rest) is some held none may word few =
    rw (held, none, may, load_keeps words m, word, lock_of_free noted, lt-ltb noted s.cfg.range few, is) refl

pub begins_attempt : (c : MarkedProgram) (s : Thread) (f : Frames) (count m noted : ℕ) (words : List ℕ)
    → 0 < length f.frames → held_at s.held m ≡ None → s.attempt ≡ None
    → may_try c (entering s f count m) 0 ≡ true → slice_index words m ≡ word_of_lock (Free noted) → noted < s.cfg.range
    → stepped c (alone (entering s f count m) words) ≡ alone (runs (running_at (attempt_begun s f m noted) f count)) words
begins_attempt c s f count m noted words some held none may word few =
    begins_by c s f count m noted words f.frames refl some held none may word few

-- its event that looks at the lock has been made
pub looks_to_take : (c : MarkedProgram) (s : Thread) (f : Frames) (count m noted : ℕ) (words : List ℕ)
    → held_at s.held m ≡ None → s.attempt ≡ None → may_try c (entering s f count m) 0 ≡ false
    → slice_index words m ≡ word_of_lock (Free noted)
    → stepped c (alone (entering s f count m) words) ≡ alone (taking s f count m noted) words
looks_to_take c s f count m noted words held none locks word =
    rw (held, none, locks, load_keeps words m, word, lock_of_free noted) refl

-- with the flat lock taken
abbrev pub taken : Thread → (m noted : ℕ) → Thread
taken s m noted = record s {
  turns = 0;
  held = with_held (record { monitor = m; kept = keeps.Flat noted; depth = 1 }) s.held;
  counts = record s.counts { locked = s.counts.locked + 1 };
}

pub takes_lock : (c : MarkedProgram) (s : Thread) (f : Frames) (count m noted : ℕ) (words : List ℕ)
    → slice_index words m ≡ word_of_lock (Free noted)
    → stepped c (alone (taking s f count m noted) words)
    ≡ alone (runs (running_at (taken s m noted) f count)) (slice_set words m (word_of_lock (Held s.number)))
takes_lock c s f count m noted words word =
    rw (word, eq-eqb (word_of_lock (Free noted)) (word_of_lock (Free noted)) refl) refl

-- ---- exits

pub exits_once : (c : MarkedProgram) (m : ℕ) (s : Thread) (words : List ℕ) (h : Entry)
    → held_at s.held m ≡ Some h → 1 < h.depth
    → IsExitMade c m s (record s { held = with_held (shallower h) s.held }) words words
exits_once c m s words h held deep = λ f count a. rw (held, lt-ltb 1 h.depth deep) refl

pub exits_last : (c : MarkedProgram) (m : ℕ) (s : Thread) (words : List ℕ) (h : Entry) (noted : ℕ)
    → held_at s.held m ≡ Some h → h.depth ≤ 1 → h.kept ≡ keeps.Flat noted
    → slice_index words m ≡ word_of_lock (Held s.number)
    → IsExitMade c m s (record s { held = without_held m s.held }) words (slice_set words m (freed s noted))
exits_last c m s words h noted held last kept is = λ f count a.
    rw (held, le-ltb 1 h.depth last, kept, is, eq-eqb (word_of_lock (Held s.number)) (word_of_lock (Held s.number)) refl) refl

pub ends_attempt : (c : MarkedProgram) (m : ℕ) (s : Thread) (words : List ℕ) (t : Attempt)
    → s.attempt ≡ Some t → held_at s.held m ≡ None → t.monitor ≡ m → t.inner ≡ 0
    → is_same t (slice_index words m) ≡ true
    → IsExitMade c m s (elided s) words words
ends_attempt c m s words t some held own last same = λ f count a.
    rw (held, some, eq-eqb t.monitor m own, last, same, load_keeps words m) refl

pub leaves_inside : (c : MarkedProgram) (m : ℕ) (s : Thread) (words : List ℕ) (t : Attempt) (n : ℕ)
    → s.attempt ≡ Some t → held_at s.held m ≡ None → t.monitor ≡ m → t.inner ≡ suc n
    → IsExitMade c m s (record s { attempt = Some (record t { inner = n }) }) words words
leaves_inside c m s words t n some held own deep = λ f count a.
    rw (held, some, eq-eqb t.monitor m own, deep) refl

-- ---- what the calls leave that make those events

turns_none : (s first : Thread) → first ≡ record s { turns = 0 } → first.attempt ≡ s.attempt
turns_none s first e = ap (λ (t : Thread). t.attempt) e

pub again_made : (c : MarkedProgram) (s first now : Thread) (f : Frames) (count m : ℕ) (words : List ℕ) (h : Entry)
    → first ≡ record s { turns = 0 } → now ≡ runs (record first { held = with_held (deeper h) first.held })
    → held_at s.held m ≡ Some h
    → alone (runs (running_at now f count)) words ≡ stepped c (alone (entering s f count m) words)
again_made c s first now f count m words h begun made held =
    ap (λ (t : Thread). alone (runs (running_at t f count)) words)
    (made ∙ ap (λ (u : Thread). runs (record u { held = with_held (deeper h) u.held })) begun)
    ∙ sym (enters_again c s f count m words h held)

pub inside_made : (c : MarkedProgram) (s first now : Thread) (f : Frames) (count m : ℕ) (words : List ℕ) (o : Option Attempt)
    → s.attempt ≡ o → IsSome o → IfSome o (λ a. a.monitor ≡ m) → first ≡ record s { turns = 0 }
    → IfSome first.attempt (λ a. now ≡ runs (record first { attempt = Some (record a { inner = a.inner + 1 }) }))
    → held_at s.held m ≡ None
    → alone (runs (running_at now f count)) words ≡ stepped c (alone (entering s f count m) words)
inside_made c s first now f count m words None is some own begun made held = absurd (cc)
inside_made c s first now f count m words (Some a) is some own begun made held =
    let here : now ≡ runs (record first { attempt = Some (record a { inner = a.inner + 1 }) }) =
    subst (λ (o : Option Attempt). IfSome o (λ b. now ≡ runs (record first { attempt = Some (record b { inner = b.inner + 1 }) })))
    (turns_none s first begun ∙ is) made in
    ap (λ (t : Thread). alone (runs (running_at t f count)) words)
    (here ∙ ap (λ (u : Thread). runs (record u { attempt = Some (record a { inner = a.inner + 1 }) })) begun)
    ∙ sym (enters_inside c s f count m words a is held own)

pub begin_made : (c : MarkedProgram) (s first now : Thread) (f : Frames) (count m noted : ℕ) (words : List ℕ)
    → first ≡ record s { turns = 0 }
    → now ≡ record first { attempt = Some (record { monitor = m; noted = noted; base = length (below f.frames); number = 1; inner = 0; entry = top f.frames }) }
    → 0 < length f.frames → held_at s.held m ≡ None → s.attempt ≡ None
    → may_try c (entering s f count m) 0 ≡ true → slice_index words m ≡ word_of_lock (Free noted) → noted < s.cfg.range
    → alone (runs (running_at now f count)) words ≡ stepped c (alone (entering s f count m) words)
begin_made c s first now f count m noted words begun made some held none may word few =
    ap (λ (t : Thread). alone (runs (running_at t f count)) words)
    (made ∙ ap (λ (u : Thread). record u { attempt = Some (record { monitor = m; noted = noted; base = length (below f.frames); number = 1; inner = 0; entry = top f.frames }) }) begun)
    ∙ sym (begins_attempt c s f count m noted words some held none may word few)

pub take_made : (c : MarkedProgram) (s first now : Thread) (f : Frames) (count m noted left_word : ℕ) (words left : List ℕ)
    → first ≡ record s { turns = 0 } → now ≡ takes first m (keeps.Flat noted)
    → left ≡ slice_set words m left_word → left_word ≡ word_of_lock (Held now.number)
    → held_at s.held m ≡ None → s.attempt ≡ None → may_try c (entering s f count m) 0 ≡ false
    → slice_index words m ≡ word_of_lock (Free noted)
    → alone (runs (running_at now f count)) left ≡ stepped c (stepped c (alone (entering s f count m) words))
take_made c s first now f count m noted left_word words left begun made set is held none locks word =
    let whole : now ≡ takes (record s { turns = 0 }) m (keeps.Flat noted) = made ∙ ap (λ (u : Thread). takes u m (keeps.Flat noted)) begun in
    let own : now.number ≡ s.number = ap (λ (t : Thread). t.number) whole in
    let stored : left ≡ slice_set words m (word_of_lock (Held s.number)) =
    set ∙ ap (slice_set words m) (is ∙ ap (λ (n : ℕ). word_of_lock (Held n)) own) in
    (λ i. alone (runs (running_at (whole i) f count)) (stored i))
    ∙ sym (takes_lock c s f count m noted words word)
    ∙ ap (stepped c) (sym (looks_to_take c s f count m noted words held none locks word))

-- ---- what a lock that is to be taken needs

take_is_under_way : (a : Option Attempt) (m noted : ℕ) → 1 ≤ under_way a (Take m noted)
take_is_under_way None m noted = omega arith
take_is_under_way (Some a) m noted = omega arith

lawful_taking : (c : MarkedProgram) (s : Thread) (f : Frames) (count m noted : ℕ) (words : List ℕ)
    → held_at s.held m ≡ None → s.attempt ≡ None → may_try c (entering s f count m) 0 ≡ false
    → slice_index words m ≡ word_of_lock (Free noted)
    → IsFine c (stepped c (alone (entering s f count m) words)) → IsLawful c (taking s f count m noted)
lawful_taking c s f count m noted words held none locks word fine =
    (subst (λ (b : ThreadWithWords). IsFine c b) (looks_to_take c s f count m noted words held none locks word) fine).lawful

pub room_to_take : (c : MarkedProgram) (s first : Thread) (f : Frames) (count m noted : ℕ)
    → HeldHasRoom → s.program ≡ c → length f.frames ≤ MOST_FRAMES → first ≡ record s { turns = 0 }
    → IsLawful c (taking s f count m noted) → length first.held < places_of first.program
room_to_take c s first f count m noted law same few begun lawful =
    subst (λ (t : Thread). length t.held < places_of t.program) (sym begun)
    (subst (λ (d : MarkedProgram). length s.held < places_of d) (sym same)
    (law c lawful.was (taking s f count m noted) lawful.structured few tt))

pub place_to_take : (c : MarkedProgram) (s first : Thread) (f : Frames) (count m noted : ℕ) (words : List ℕ)
    → HeldHasRoom → s.program ≡ c → length f.frames ≤ MOST_FRAMES → first ≡ record s { turns = 0 }
    → held_at s.held m ≡ None → s.attempt ≡ None → may_try c (entering s f count m) 0 ≡ false
    → slice_index words m ≡ word_of_lock (Free noted)
    → IsFine c (stepped c (alone (entering s f count m) words)) → length first.held < places_of first.program
place_to_take c s first f count m noted words law same few begun held none locks word fine =
    room_to_take c s first f count m noted law same few begun (lawful_taking c s f count m noted words held none locks word fine)

pub few_taken : (c : MarkedProgram) (s first : Thread) (f : Frames) (count m noted : ℕ) (words : List ℕ)
    → s.cfg.steps ≤ 4294967295 → first ≡ record s { turns = 0 }
    → held_at s.held m ≡ None → s.attempt ≡ None → may_try c (entering s f count m) 0 ≡ false
    → slice_index words m ≡ word_of_lock (Free noted)
    → IsFine c (stepped c (alone (entering s f count m) words)) → first.counts.locked < MOST_LIMIT
few_taken c s first f count m noted words most begun held none locks word fine =
    let lawful = lawful_taking c s f count m noted words held none locks word fine in
    subst (λ (t : Thread). t.counts.locked < MOST_LIMIT) (sym begun)
    (omega (arith, take_is_under_way s.attempt m noted, lawful.bounded.sections, lawful.bounded.steps, most))

-- ---- what the calls leave that make an exit

pub once_made : (c : MarkedProgram) (m : ℕ) (s now : Thread) (words : List ℕ) (h : Entry)
    → held_at s.held m ≡ Some h → 1 < h.depth
    → now ≡ record s { held = with_held (record h { depth = h.depth - 1 }) s.held }
    → IsExitMade c m s now words words
once_made c m s now words h held deep made =
    subst (λ (t : Thread). IsExitMade c m s t words words) (sym made) (exits_once c m s words h held deep)

pub last_made : (c : MarkedProgram) (m noted : ℕ) (s now : Thread) (words left : List ℕ) (h : Entry)
    → held_at s.held m ≡ Some h → h.depth ≤ 1 → h.kept ≡ keeps.Flat noted
    → slice_index words m ≡ word_of_lock (Held s.number)
    → now ≡ record s { held = without_held m s.held } → left ≡ slice_set words m (freed s noted)
    → IsExitMade c m s now words left
last_made c m noted s now words left h held last kept is made set =
    subst (λ (t : Thread). IsExitMade c m s t words left) (sym made)
    (subst (λ (ws : List ℕ). IsExitMade c m s (record s { held = without_held m s.held }) words ws) (sym set)
    (exits_last c m s words h noted held last kept is))

pub end_made : (c : MarkedProgram) (m : ℕ) (s now : Thread) (words : List ℕ) (o : Option Attempt)
    → s.attempt ≡ o → IsSome o → IfSome o (λ a. a.monitor ≡ m) → IfSome o (λ a. a.inner ≡ 0)
    → IfSome o (λ a. is_same a (slice_index words a.monitor) ≡ true) → held_at s.held m ≡ None → now ≡ elided s
    → IsExitMade c m s now words words
end_made c m s now words None is some own last passes held made = absurd (cc)
end_made c m s now words (Some t) is some own last passes held made =
    let same : is_same t (slice_index words m) ≡ true =
    subst (λ (n : ℕ). is_same t (slice_index words n) ≡ true) own passes in
    subst (λ (u : Thread). IsExitMade c m s u words words) (sym made)
    (ends_attempt c m s words t is held own last same)

pub inside_left : (c : MarkedProgram) (m inner : ℕ) (s now : Thread) (words : List ℕ) (o : Option Attempt)
    → s.attempt ≡ o → IsSome o → IfSome o (λ a. a.monitor ≡ m) → IfSome o (λ a. a.inner ≡ inner) → 0 < inner
    → held_at s.held m ≡ None → now ≡ record s { attempt = with_inner (inner - 1) s.attempt }
    → IsExitMade c m s now words words
inside_left c m inner s now words None is some own deep more held made = absurd (cc)
inside_left c m inner s now words (Some t) is some own deep more held made =
    let next : t.inner ≡ suc (inner - 1) = omega (arith, deep, more) in
    let made_so : now ≡ record s { attempt = Some (record t { inner = inner - 1 }) } =
    made ∙ ap (λ (o : Option Attempt). record s { attempt = with_inner (inner - 1) o }) is in
    subst (λ (u : Thread). IsExitMade c m s u words words) (sym made_so)
    (leaves_inside c m s words t (inner - 1) is held own next)
