-- The threads that a view has, by their numbers, and the views of a table.
use Rattle.std.proofs.Common.{◌≡◌, ◌≢◌, ℕ, zero, suc, ◌<◌, List, [], ◌∷◌, map, length, replicate, Option, Some, None, refl, sym, ap, ◌∙◌, arith, slice_get, slice_set}
use Rattle.std.proofs.lemmas.{List.{get_or-set_same, get_or-set_other, set-get_or}, Option.slice_get_within}
use Rattle.atomic_table.proofs.Lists.{set_here}
use Rattle.checked_program.specs.MarkedProgram.{MarkedProgram}
use Rattle.machine_types.specs.{Core.core, Threads.Thread, declared.config.Config.Config}
use Rattle.table_rule.specs.Views.{View, held_in, IsHeld, AreShown, ShowsRun}
use lib.ListN.{get_elem?}
use mathlib.Core.Option.{some, some-ne-none}

-- ---- a list of threads

module _ {A : Type 0} where
  pub got_within : (xs : List A) (i : ℕ) (x : A) → slice_get xs i ≡ Some x → i < length xs
  got_within = slice_get_within

  pub got_there : (xs : List A) (i : ℕ) → i < length xs → (x : A) × (slice_get xs i ≡ Some x)
  got_there [] i lt = absurd (omega arith)
  got_there (y ∷ ys) zero lt = (y, refl)
  got_there (y ∷ ys) (suc i) lt = got_there ys i (omega arith)

  pub view_within : (l : List A) (i : ℕ) (a : A) → get_elem? l i ≡ some a → i < length l
  view_within [] i a e = absurd (some-ne-none a (sym e))
  view_within (x ∷ xs) zero a e = omega arith
  view_within (x ∷ xs) (suc i) a e = let r = view_within xs i a e in omega arith

-- ---- a view

pub held_within : (v : View) (t : ℕ) (x : Thread) → held_in v t ≡ Some x → t < length v
held_within [] t x e = cc
held_within (o ∷ v) zero x e = omega arith
held_within (o ∷ v) (suc t) x e = let r = held_within v t x e in omega arith

-- an entry that is set
pub held_set : (v : View) (t : ℕ) (o : Option Thread) → t < length v → held_in (slice_set v t o) t ≡ o
held_set v t o lt = get_or-set_same v t o None lt

pub held_here : (v : View) (t : ℕ) (x y : Thread) → held_in v t ≡ Some x
    → held_in (slice_set v t (Some y)) t ≡ Some y
held_here v t x y e = held_set v t (Some y) (held_within v t x e)

pub held_else : (v : View) (t u : ℕ) (o : Option Thread) → u ≢ t → held_in (slice_set v t o) u ≡ held_in v u
held_else v t u o n = get_or-set_other v t u o None n

-- to what it is
pub set_held : (v : View) (t : ℕ) (o : Option Thread) → held_in v t ≡ o → slice_set v t o ≡ v
set_held v t o e = ap (slice_set v t) (sym e) ∙ set-get_or v t None

-- a view of just these threads
pub some_held : (ts : List Thread) (t : ℕ) → held_in (map Some ts) t ≡ slice_get ts t
some_held [] t = refl
some_held (x ∷ xs) zero = refl
some_held (x ∷ xs) (suc t) = some_held xs t

-- and of none
pub none_held : (n t : ℕ) → held_in (replicate n None) t ≡ None
none_held zero t = refl
none_held (suc n) zero = refl
none_held (suc n) (suc t) = none_held n t

pub no_two : (o : Option Thread) (x : Thread) → o ≡ None → o ≡ Some x → ⊥
no_two None x e f = let bad : None ≡ Some x = f in absurd (cc)
no_two (Some y) x e f = let bad : Some y ≡ None = e in absurd (cc)

-- ---- one of the views of a table

-- which show these threads
pub record Seen : Type 0 where
  pub threads : List Thread
  pub views : List View
  pub id : ℕ
  pub v : View
  pub shown : AreShown threads views
  pub at : get_elem? views id ≡ some v

-- an entry was there before, at the place from which it has gone to i
abbrev pub Was : (seen : Seen) (to : (i t : ℕ) → ℕ) (i t : ℕ) → Thread → Type 0
Was seen to i t x = (j : ℕ) × (i ≡ to j t) × (v : View) × (get_elem? seen.views j ≡ some v) × (held_in v t ≡ Some x)

-- other views show the same threads, where each entry of theirs was there before
pub still_shown : (seen : Seen) (views : List View) (to : (i t : ℕ) → ℕ)
    → ((i t : ℕ) (v : View) (x : Thread) → get_elem? views i ≡ some v → held_in v t ≡ Some x → Was seen to i t x)
    → ((t : ℕ) (x : Thread) → IsHeld seen.views t x → IsHeld views t x) → AreShown seen.threads views
still_shown seen views to was held = record {
  own = λ i t v x a h. let k = was i t v x a h in seen.shown.own k.0 t k.2 x k.3 k.4;
  once = λ i j t v w x y a b h k. let l = was i t v x a h in let m = was j t w y b k in l.1 ∙ ap (λ n. to n t) (seen.shown.once l.0 m.0 t l.2 m.2 x y l.3 m.3 l.4 m.4) ∙ sym m.1;
  each = λ t x e. held t x (seen.shown.each t x e);
}

-- which show a state of a run
pub record AtRun (c : MarkedProgram) (cfg : Config) : Type 0 where
  pub words : List ℕ
  pub views : List View
  pub id : ℕ
  pub v : View
  pub run : ShowsRun c cfg words views
  pub at : get_elem? views id ≡ some v

module _ {c : MarkedProgram} {cfg : Config} (place : AtRun c cfg) where
  open place use {words, views, id, v, run, at}

  abbrev pub seen_at : Seen
  seen_at = record { threads = (core c cfg run.happenings).threads; views = views; id = id; v = v; shown = run.threads_are; at = at }

  -- it is another one, and they still show one
  abbrev pub with_view : (w : View) → ShowsRun c cfg words (slice_set views id w) → AtRun c cfg
  with_view w shows = record { words = words; views = slice_set views id w; id = id; v = w; run = shows; at = set_here views id w (view_within views id v at) }
