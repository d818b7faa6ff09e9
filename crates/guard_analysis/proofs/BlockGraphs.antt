-- The graph of a method has the ways of its instructions that stand in blocks.
use Rattle.std.proofs.Common.{◌≡◌, ℕ, zero, suc, ◌<◌, ◌≤◌, ◌+◌, Bool, true, false, ◌&&◌, List, [], ◌∷◌, ◌++◌, length, Option, Some, None, refl, sym, ap, subst, ◌∙◌, arith, ⊎_elim, inl, inr, ◌⊎◌, nat_lt, ◌==◌, if◌then◌else◌, IsSomeAnd, slice_get, slice_index}
use Rattle.std.{specs.List.{AllByRecursion, AllZip}, proofs.lemmas.{Bool.{cases_order, Decides.nat_tests}, Option.slice_get_within}}
use Rattle.jvm_types.specs.{CodeTable.can_throw, CodeGrammar.RowFits, Verifying.{edges, covers, IsLaidOut}, declared.{class_file.Handler.Handler, code.Insn.Insn}}
use Rattle.jvm_types.specs.declared.program.{MethodInfo.MethodInfo, Row.Row, Target.Target}
use Rattle.laws_programs.{specs.CodeLaws.Begins, proofs.CodeOrder.{ascend, begin, short}}
use Rattle.code_table.{specs.PcTables.number_at, proofs.NumbersExact.exact}
use Rattle.graph_closure.specs.Chains.{IsIn}
use Rattle.checked_program.specs.{LockTags.TagShape, Tagging.catches_all}
use Rattle.widest_paths.specs.{WidestPaths.{IsInFan, IsFanEdge, AddsEdges, HasNoEdges}, declared.graph.{Fan.Fan, Graph.Graph}}
use Rattle.guard_analysis.specs.BlockReach.{level_of, level_at, levels_before, open_rows, turns_at, turns_in, turns_before, number_else, fan_of, edges_of, HasFanAt, IsOnward, IsThrown, IsThrownBefore, IsGraphOf}
use Rattle.guard_analysis.{specs.BlockWalks.{handler_pcs, catch_pcs, way_pcs, ways_at, ways_from, deep_at}, proofs.{BlockMarks.{in_append, in_left, in_right, in_mapped, mapped_in}, ListsMade.{made_long, made_at, made_past}}}

-- ---- what is added

pub from_again : (a b : Graph) (fan : Fan) (x : ℕ) → a.turns ≡ b.turns → IsInFan a fan x → IsInFan b fan x
from_again a b fan x e h = (h.0, h.1, subst (λ l. fan.turn < slice_index l x) e h.2)

pub thrown_again : (m : MethodInfo) (a b : Graph) (turn i k : ℕ) (o : Option Row) → a.turns ≡ b.turns → IsThrown m a turn o i k → IsThrown m b turn o i k
thrown_again m a b turn i k None e h = absurd h
thrown_again m a b turn i k (Some row) e h = (h.0, from_again a b (fan_of m.code row turn) i e h.1)

pub onward_within : (m : MethodInfo) (x k : ℕ) → IsOnward m x k → x < length m.code
onward_within m x k h = by_insn (slice_get m.code x) refl h
  where
    by_insn : (o : Option Insn) → slice_get m.code x ≡ o → HasFanAt m.code (edges_of o) (length (edges_of o)) k → x < length m.code
    by_insn (Some insn) e h = slice_get_within m.code x insn e
    by_insn None e h = absurd (let low : h.0 < 0 = h.1 in omega (arith, low))

pub kept_got : (xs ys : List (List ℕ)) (t : ℕ) (x : List ℕ) → slice_get xs t ≡ Some x → slice_get (xs ++ ys) t ≡ Some x
kept_got [] ys t x e = absurd (let bad : None ≡ Some x = e in cc)
kept_got (y ∷ xs) ys zero x e = e
kept_got (y ∷ xs) ys (suc t) x e = kept_got xs ys t x e

pub last_got : (xs : List (List ℕ)) (y : List ℕ) → slice_get (xs ++ y ∷ []) (length xs) ≡ Some y
last_got [] y = refl
last_got (x ∷ xs) y = last_got xs y

-- ---- the rows that an exception may go to

pub record IsCatcher (pc : ℕ) (rows : List Row) (h : ℕ) : Type 0 where
  pub r : ℕ
  pub row : Row
  pub at : slice_get rows r ≡ Some row
  pub opened : r < open_rows pc rows
  pub covers_it : covers pc row ≡ true
  pub to : row.handler ≡ h

pub handler_in : (pc : ℕ) (rows : List Row) (h : ℕ) → IsIn h (handler_pcs pc rows) → IsCatcher pc rows h
handler_in pc [] h i = absurd i
handler_in pc (x ∷ rows) h i = by_test (covers pc x) (catches_all x) refl refl i (handler_in pc rows h)
  where
    by_test : (c a : Bool) → covers pc x ≡ c → catches_all x ≡ a → IsIn h (if c then (if a then x.handler ∷ [] else x.handler ∷ handler_pcs pc rows) else handler_pcs pc rows) → (IsIn h (handler_pcs pc rows) → IsCatcher pc rows h) → IsCatcher pc (x ∷ rows) h
    by_test true true e f (inl q) more = record { r = 0; row = x; at = refl; opened = rw (f, e) (omega arith); covers_it = e; to = q }
    by_test true true e f (inr q) more = absurd q
    by_test true false e f (inl q) more = record { r = 0; row = x; at = refl; opened = rw f (omega arith); covers_it = e; to = q }
    by_test true false e f (inr q) more = let k = more q in record { r = suc k.r; row = k.row; at = k.at; opened = rw f (omega (arith, k.opened)); covers_it = k.covers_it; to = k.to }
    by_test false true e f q more = let k = more q in record { r = suc k.r; row = k.row; at = k.at; opened = rw (f, e) (omega (arith, k.opened)); covers_it = k.covers_it; to = k.to }
    by_test false false e f q more = let k = more q in record { r = suc k.r; row = k.row; at = k.at; opened = rw f (omega (arith, k.opened)); covers_it = k.covers_it; to = k.to }

pub catcher_in : (pc : ℕ) (rows : List Row) (r : ℕ) (row : Row) → slice_get rows r ≡ Some row → r < open_rows pc rows → covers pc row ≡ true → IsIn row.handler (handler_pcs pc rows)
catcher_in pc [] r row e l c = absurd (let bad : None ≡ Some row = e in cc)
catcher_in pc (x ∷ rows) zero row e l c = let same : x ≡ row = cc in subst (λ (y : Row). IsIn y.handler (handler_pcs pc (x ∷ rows))) same (first (covers pc x) (catches_all x) (ap (covers pc) same ∙ c))
  where
    first : (b a : Bool) → b ≡ true → IsIn x.handler (if b then (if a then x.handler ∷ [] else x.handler ∷ handler_pcs pc rows) else handler_pcs pc rows)
    first true true q = inl refl
    first true false q = inl refl
    first false a q = absurd (let bad : false ≡ true = q in cc)
catcher_in pc (x ∷ rows) (suc r) row e l c = by_test (covers pc x) (catches_all x) l (λ k. catcher_in pc rows r row e k c)
  where
    by_test : (b a : Bool) → suc r < (if a && b then 1 else suc (open_rows pc rows)) → (r < open_rows pc rows → IsIn row.handler (handler_pcs pc rows)) → IsIn row.handler (if b then (if a then x.handler ∷ [] else x.handler ∷ handler_pcs pc rows) else handler_pcs pc rows)
    by_test true true k more = absurd (let low : suc r < 1 = k in omega (arith, low))
    by_test true false k more = inr (more (omega (arith, k)))
    by_test false true k more = more (omega (arith, k))
    by_test false false k more = more (omega (arith, k))

-- ---- what a row covers, by numbers

record FitsCode (m : MethodInfo) (size : ℕ) (row : Row) : Type 0 where
  pub start : Begins m row.start
  pub end : Begins m row.end ⊎ (row.end ≡ size)

rows_fit : (m : MethodInfo) (size : ℕ) (rows : List Row) (handlers : List Handler) → AllZip (λ (r : Row) (h : Handler). (r.start ≡ h.start) × (r.end ≡ h.end) × (r.handler ≡ h.handler)) rows handlers
    → AllByRecursion (RowFits m.code size) handlers → (r : ℕ) (row : Row) → slice_get rows r ≡ Some row → FitsCode m size row
rows_fit m size [] handlers all fit r row e = absurd (let bad : None ≡ Some row = e in cc)
rows_fit m size (x ∷ rows) [] all fit r row e = absurd all
rows_fit m size (x ∷ rows) (h ∷ handlers) all fit zero row e =
    let same : x ≡ row = cc in
    subst (λ (y : Row). FitsCode m size y) same (record {
      start = subst (Begins m) (sym all.0.0) (begin m h.start fit.0.start);
      end = ⊎_elim (λ k. inl (subst (Begins m) (sym all.0.1) (begin m h.end k))) (λ (k : h.end ≡ size). inr (all.0.1 ∙ k)) fit.0.end;
    })
rows_fit m size (x ∷ rows) (h ∷ handlers) all fit (suc r) row e = rows_fit m size rows handlers all.1 fit.1 r row e

module _ (m : MethodInfo) (laid : IsLaidOut m) where
  number_of : (pc : ℕ) (b : Begins m pc) → number_at m.code pc ≡ Some b.number
  number_of pc b = (exact m pc b.number laid).1 (stands (slice_get m.code b.number) b.insn b.there b.starts)
    where
      stands : (o : Option Insn) (insn : Insn) → o ≡ Some insn → insn.pc ≡ pc → IsSomeAnd o (λ x. x.pc ≡ pc)
      stands (Some x) insn e q = let same : x ≡ insn = cc in ap (λ (y : Insn). y.pc) same ∙ q
      stands None insn e q = absurd (let bad : None ≡ Some insn = e in cc)

  in_order : (i j : ℕ) (insn other : Insn) → slice_get m.code i ≡ Some insn → slice_get m.code j ≡ Some other → i ≤ j → insn.pc ≤ other.pc
  in_order i j insn other e f l = ⊎_elim
      (λ (q : i ≡ j). let same : Some insn ≡ Some other = sym e ∙ ap (λ k. slice_get m.code k) q ∙ f in let is : insn ≡ other = cc in omega (arith, ap (λ (x : Insn). x.pc) is))
      (λ (h : (i < j) ⊎ (j < i)). ⊎_elim (λ (k : i < j). let low : insn.pc < other.pc = ascend m i j insn other laid e f k in omega (arith, low)) (λ (k : j < i). absurd (omega (arith, k, l))) h)
      (cases_order i j)

  module _ (x r : ℕ) (insn : Insn) (row : Row) (at : slice_get m.code x ≡ Some insn) (at_row : slice_get m.rows r ≡ Some row) where
    fits : FitsCode m (length laid.bytes) row
    fits = rows_fit m (length laid.bytes) m.rows laid.handlers laid.rows laid.code.rows_fit r row at_row

    end_none : row.end ≡ length laid.bytes → (o : Option ℕ) → number_at m.code row.end ≡ o → o ≡ None
    end_none q None e = refl
    end_none q (Some j) e = absurd (no (slice_get m.code j) refl ((exact m row.end j laid).0 e))
      where
        no : (o : Option Insn) → slice_get m.code j ≡ o → IsSomeAnd o (λ y. y.pc ≡ row.end) → ⊥
        no (Some y) f h = let low : y.pc < length laid.bytes = (short m j y laid f).0 in omega (arith, low, h, q)
        no None f h = h

    pub covered_numbers : covers insn.pc row ≡ true → (number_else (number_at m.code row.start) 0 ≤ x) × (x < number_else (number_at m.code row.end) (length m.code))
    covered_numbers c = (
      rw (number_of row.start fits.start) from,
      ⊎_elim
          (λ (b : Begins m row.end). rw (number_of row.end b) (to b))
          (λ (q : row.end ≡ length laid.bytes). rw (end_none q (number_at m.code row.end) refl) (slice_get_within m.code x insn at)) fits.end,
    )
      where
        low : row.start ≤ insn.pc
        low = grind (arith, nat_tests)

        high : insn.pc < row.end
        high = grind (arith, nat_tests)

        from : fits.start.number ≤ x
        from = ⊎_elim
            (λ (q : fits.start.number ≡ x). omega (arith, q))
            (λ (h : (fits.start.number < x) ⊎ (x < fits.start.number)). ⊎_elim (λ (k : fits.start.number < x). omega (arith, k))
            (λ (k : x < fits.start.number). absurd (let before : insn.pc < fits.start.insn.pc = ascend m x fits.start.number insn fits.start.insn laid at fits.start.there k in omega (arith, before, low, fits.start.starts))) h)
            (cases_order fits.start.number x)

        to : (b : Begins m row.end) → x < b.number
        to b = ⊎_elim
            (λ (q : x ≡ b.number). absurd (let up : b.insn.pc ≤ insn.pc = in_order b.number x b.insn insn b.there at (omega (arith, q)) in omega (arith, up, high, b.starts)))
            (λ (h : (x < b.number) ⊎ (b.number < x)). ⊎_elim (λ (k : x < b.number). k)
            (λ (k : b.number < x). absurd (let up : b.insn.pc < insn.pc = ascend m b.number x b.insn insn laid b.there at k in omega (arith, up, high, b.starts))) h)
            (cases_order x b.number)

    pub numbers_covered : (number_else (number_at m.code row.start) 0 ≤ x) → (x < number_else (number_at m.code row.end) (length m.code)) → covers insn.pc row ≡ true
    numbers_covered from to = both low high
      where
        first : fits.start.number ≤ x
        first = subst (λ o. number_else o 0 ≤ x) (number_of row.start fits.start) from

        low : row.start ≤ insn.pc
        low = let up : fits.start.insn.pc ≤ insn.pc = in_order fits.start.number x fits.start.insn insn fits.start.there at first in omega (arith, up, fits.start.starts)

        high : insn.pc < row.end
        high = ⊎_elim
            (λ (b : Begins m row.end). let k : x < b.number = subst (λ o. x < number_else o (length m.code)) (number_of row.end b) to in let up : insn.pc < b.insn.pc = ascend m x b.number insn b.insn laid at b.there k in omega (arith, up, b.starts))
            (λ (q : row.end ≡ length laid.bytes). let up : insn.pc < length laid.bytes = (short m x insn laid at).0 in omega (arith, up, q)) fits.end

        both : row.start ≤ insn.pc → insn.pc < row.end → covers insn.pc row ≡ true
        both l h = grind (arith, nat_tests)

-- ---- levels and turns

index_in : (xs : List ℕ) (t : ℕ) → t < length xs → IsIn (slice_index xs t) xs
index_in [] t l = absurd (omega (arith, l))
index_in (x ∷ xs) zero l = inl refl
index_in (x ∷ xs) (suc t) l = inr (index_in xs t (omega (arith, l)))

in_index : (xs : List ℕ) (x : ℕ) → IsIn x xs → (t : ℕ) × (t < length xs) × (slice_index xs t ≡ x)
in_index [] x i = absurd i
in_index (y ∷ xs) x (inl q) = (0, omega arith, q)
in_index (y ∷ xs) x (inr i) = let r = in_index xs x i in let low : r.0 < length xs = r.1 in (suc r.0, omega (arith, low), r.2)

pub deep_level : (depth : ℕ) (oi : Option Insn) (ot : Option Target) (of : Option (Option TagShape)) → deep_at depth oi ot of ≡ nat_lt depth (level_of oi ot of)
deep_level depth (Some insn) (Some target) (Some (Some f)) = refl
deep_level depth oi ot of = grind (arith, nat_tests)

get_none_out : (code : List Insn) (i : ℕ) → slice_get code i ≡ None → length code ≤ i
get_none_out [] i e = omega arith
get_none_out (x ∷ code) zero e = absurd (let bad : Some x ≡ None = e in cc)
get_none_out (x ∷ code) (suc i) e = let h : length code ≤ i = get_none_out code i e in omega (arith, h)

pub levels_long : (m : MethodInfo) (frames : List (Option TagShape)) (n : ℕ) → length (levels_before m frames n) ≡ n
levels_long m frames n = made_long (λ x. level_at m frames x) (λ k. levels_before m frames k) refl (λ k. refl) n

-- ---- the whole graph

-- the graph as it is made: without edges, then with those onward, then with those to handlers
pub record GraphsMade : Type 0 where
  pub m : MethodInfo
  pub frames : List (Option TagShape)
  pub first : Graph
  pub next : Graph
  pub last : Graph
  pub levels : first.levels ≡ levels_before m frames (length m.code)
  pub turns : first.turns ≡ turns_before m frames (length m.code)
  pub none : HasNoEdges first
  pub onward : AddsEdges first next (λ x k. (0 < level_at m frames x) × (0 < slice_index first.turns x) × IsOnward m x k)
  pub thrown : AddsEdges next last (λ i k. IsThrownBefore m next (length m.rows) i k)

module _ (made : GraphsMade) (laid : IsLaidOut made.m) where
  open made use {m, frames, first, next, last, levels, turns, none, onward, thrown}

  levels_are : (i : ℕ) → slice_index last.levels i ≡ level_at m frames i
  levels_are i = ap (λ l. slice_index l i) (thrown.levels ∙ onward.levels ∙ levels) ∙ by_insn (slice_get m.code i) refl
    where
      by_insn : (o : Option Insn) → slice_get m.code i ≡ o → slice_index (levels_before m frames (length m.code)) i ≡ level_at m frames i
      by_insn (Some insn) e = made_at (λ x. level_at m frames x) (λ n. levels_before m frames n) refl (λ n. refl) 0 (length m.code) i (slice_get_within m.code i insn e)
      by_insn None e = made_past (λ x. level_at m frames x) (λ n. levels_before m frames n) refl (λ n. refl) 0 (length m.code) i (get_none_out m.code i e) ∙ sym (ap (λ o. level_of o (slice_get m.targets i) (slice_get frames i)) e)

  turns_are : (i : ℕ) (insn : Insn) → slice_get m.code i ≡ Some insn → slice_index first.turns i ≡ turns_at m.rows insn (level_at m frames i)
  turns_are i insn e = ap (λ l. slice_index l i) turns ∙ made_at (λ x. turns_in m.rows (slice_get m.code x) (level_at m frames x)) (λ n. turns_before m frames n) refl (λ n. refl) 0 (length m.code) i (slice_get_within m.code i insn e)
      ∙ ap (λ o. turns_in m.rows o (level_at m frames i)) e

  module _ (i k : ℕ) (inside : 0 < level_at m frames i) where
    turn_is : (insn : Insn) (level : ℕ) → 0 < level → turns_at m.rows insn level ≡ (if can_throw insn.op then 1 + open_rows insn.pc m.rows else 1)
    turn_is insn level l = let test : (level == 0) ≡ false = grind (arith, nat_tests) in rw test refl

    some_turn : (insn : Insn) (level : ℕ) → 0 < level → 0 < turns_at m.rows insn level
    some_turn insn level l = subst (λ n. 0 < n) (sym (turn_is insn level l)) (by_test (can_throw insn.op))
      where
        by_test : (b : Bool) → 0 < (if b then 1 + open_rows insn.pc m.rows else 1)
        by_test true = omega arith
        by_test false = omega arith

    open_turn : (insn : Insn) (level r : ℕ) → 0 < level → r + 1 < turns_at m.rows insn level → (can_throw insn.op ≡ true) × (r < open_rows insn.pc m.rows)
    open_turn insn level r l h = by_test (can_throw insn.op) (subst (λ n. r + 1 < n) (turn_is insn level l) h)
      where
        by_test : (b : Bool) → r + 1 < (if b then 1 + open_rows insn.pc m.rows else 1) → (b ≡ true) × (r < open_rows insn.pc m.rows)
        by_test true h = (refl, omega (arith, h))
        by_test false h = absurd (omega (arith, h))

    turn_open : (insn : Insn) (level r : ℕ) → 0 < level → can_throw insn.op ≡ true → r < open_rows insn.pc m.rows → r + 1 < turns_at m.rows insn level
    turn_open insn level r l t h = subst (λ n. r + 1 < n) (sym (turn_is insn level l)) (by_test (can_throw insn.op) t)
      where
        by_test : (b : Bool) → b ≡ true → r + 1 < (if b then 1 + open_rows insn.pc m.rows else 1)
        by_test true q = omega (arith, h)
        by_test false q = absurd (let bad : false ≡ true = q in cc)

    catch_in : (insn : Insn) (pc : ℕ) → can_throw insn.op ≡ true → IsIn pc (handler_pcs insn.pc m.rows) → IsIn pc (catch_pcs m insn)
    catch_in insn pc t h = rw t h

    in_catch : (insn : Insn) (pc : ℕ) → IsIn pc (catch_pcs m insn) → (can_throw insn.op ≡ true) × IsIn pc (handler_pcs insn.pc m.rows)
    in_catch insn pc h = by_test (can_throw insn.op) h
      where
        by_test : (b : Bool) → IsIn pc (if b then handler_pcs insn.pc m.rows else []) → (b ≡ true) × IsIn pc (handler_pcs insn.pc m.rows)
        by_test true i = (refl, i)
        by_test false i = absurd i

    in_code : (o : Option Insn) → slice_get m.code i ≡ o → (insn : Insn) × (slice_get m.code i ≡ Some insn)
    in_code (Some insn) e = (insn, e)
    in_code None e = absurd (let none : level_at m frames i ≡ 0 = ap (λ o. level_of o (slice_get m.targets i) (slice_get frames i)) e in omega (arith, none, inside))

    module _ (insn : Insn) (at : slice_get m.code i ≡ Some insn) where
      way : (pc : ℕ) → IsIn pc (way_pcs m insn) → number_at m.code pc ≡ Some k → IsIn k (ways_from m i)
      way pc h e = subst (λ o. IsIn k (ways_at m o)) (sym at) (mapped_in (λ pc. number_at m.code pc) (way_pcs m insn) pc k h e)

      onward_way : IsOnward m i k → IsIn k (ways_from m i)
      onward_way h =
          let f : HasFanAt m.code (edges insn) (length (edges insn)) k = subst (λ o. HasFanAt m.code (edges_of o) (length (edges_of o)) k) at h in
          way (slice_index (edges insn) f.0) (in_left (slice_index (edges insn) f.0) (edges insn) (catch_pcs m insn) (index_in (edges insn) f.0 f.1)) f.2

      thrown_way : IsThrownBefore m next (length m.rows) i k → IsIn k (ways_from m i)
      thrown_way h = by_row (slice_get m.rows h.0) refl h.2
        where
          by_row : (o : Option Row) → slice_get m.rows h.0 ≡ o → IsThrown m next (h.0 + 1) o i k → IsIn k (ways_from m i)
          by_row None e t = absurd t
          by_row (Some row) e t =
              let turn : h.0 + 1 < turns_at m.rows insn (level_at m frames i) = subst (λ n. h.0 + 1 < n) (ap (λ l. slice_index l i) onward.turns ∙ turns_are i insn at) t.1.2 in
              let opened = open_turn insn (level_at m frames i) h.0 inside turn in
              let covered = numbers_covered m laid i h.0 insn row at e t.1.0 t.1.1 in
              way row.handler (in_right row.handler (edges insn) (catch_pcs m insn) (catch_in insn row.handler opened.0 (catcher_in insn.pc m.rows h.0 row e opened.1 covered))) t.0

      join_way : IsFanEdge last i k → IsIn k (ways_from m i)
      join_way e = ⊎_elim
          (λ (d : IsFanEdge next i k). ⊎_elim (λ (x : IsFanEdge first i k). absurd (none i k x)) (λ (x : (0 < level_at m frames i) × (0 < slice_index first.turns i) × IsOnward m i k). onward_way x.2) (onward.only i k d))
          (λ (t : IsThrownBefore m next (length m.rows) i k). thrown_way t)
          (thrown.only i k e)

      edge_onward : (pc : ℕ) → IsIn pc (edges insn) → number_at m.code pc ≡ Some k → IsFanEdge last i k
      edge_onward pc h e =
          let t = in_index (edges insn) pc h in
          let fan : HasFanAt m.code (edges insn) (length (edges insn)) k = (t.0, t.1, ap (λ x. number_at m.code x) t.2 ∙ e) in
          let turn : 0 < slice_index first.turns i = subst (λ n. 0 < n) (sym (turns_are i insn at)) (some_turn insn (level_at m frames i) inside) in
          thrown.kept i k (onward.joined i k (inside, turn, subst (λ o. HasFanAt m.code (edges_of o) (length (edges_of o)) k) (sym at) fan))

      edge_thrown : (pc : ℕ) → IsIn pc (catch_pcs m insn) → number_at m.code pc ≡ Some k → IsFanEdge last i k
      edge_thrown pc h e =
          let c = in_catch insn pc h in
          let r = handler_in insn.pc m.rows pc c.1 in
          let numbers = covered_numbers m laid i r.r insn r.row at r.at r.covers_it in
          let turn : r.r + 1 < slice_index next.turns i = subst (λ n. r.r + 1 < n) (sym (ap (λ l. slice_index l i) onward.turns ∙ turns_are i insn at)) (turn_open insn (level_at m frames i) r.r inside c.0 r.opened) in
          let by : IsThrown m next (r.r + 1) (Some r.row) i k = (ap (λ x. number_at m.code x) r.to ∙ e, (numbers.0, numbers.1, turn)) in
          thrown.joined i k (r.r, slice_get_within m.rows r.r r.row r.at, subst (λ o. IsThrown m next (r.r + 1) o i k) (sym r.at) by)

      way_join : IsIn k (ways_from m i) → IsFanEdge last i k
      way_join w =
          let x = in_mapped (λ pc. number_at m.code pc) (way_pcs m insn) k (subst (λ o. IsIn k (ways_at m o)) at w) in
          ⊎_elim (λ (h : IsIn x.0 (edges insn)). edge_onward x.0 h x.2) (λ (h : IsIn x.0 (catch_pcs m insn)). edge_thrown x.0 h x.2) (in_append x.0 (edges insn) (catch_pcs m insn) x.1)

  pub graph_of : IsGraphOf m frames last
  graph_of = record {
    levels = levels_are;
    joins = λ i k l e. let c = in_code i k l (slice_get m.code i) refl in join_way i k l c.0 c.1 e;
    edges = λ i k l w. let c = in_code i k l (slice_get m.code i) refl in way_join i k l c.0 c.1 w;
  }
