-- The parts of what an instruction does when a method is tagged: the rules, its edges, and those to handlers.
use Rattle.std.{proofs.Common.{◌≡◌, ℕ, Bool, true, false, List, [], ◌∷◌, ◌++◌, map, refl}, specs.List.AllByRecursion}
use Rattle.jvm_types.specs.{Verifying.edges, declared.{code.Insn.Insn, op_row.OpRow.OpRow, program.{MethodInfo.MethodInfo, Row.Row}, refusal.SRule.{SRule, TheVariants.{S1, S2, S3, S4}}}}
use Rattle.jvm_types.proofs.EachAfter.{all_append}
use Rattle.checked_program.specs.{LockTags.TagShape, Tagging.{tags_after, tags_at_handler, catchers, enters_untagged, exits_other, leaves_held, break_if, tag_acts}, Visits.{Act, Break, Bring}}

-- ---- lists of acts

all_parts : {X : Type 0} (P : X → Type 0) (xs ys : List X) → AllByRecursion P (xs ++ ys) → AllByRecursion P xs × AllByRecursion P ys
all_parts P [] ys h = (tt, h)
all_parts P (x ∷ xs) ys h = let more = all_parts P xs ys h.1 in ((h.0, more.0), more.1)

abbrev pub to_handler : TagShape → Row → Act TagShape SRule
to_handler f handler = Bring S3 (handler.handler ∷ []) (tags_at_handler f)

of_handlers : (P : Act TagShape SRule → Type 0) (f : TagShape) (rows : List Row) → AllByRecursion P (map (to_handler f) rows) → AllByRecursion (λ handler. P (to_handler f handler)) rows
of_handlers P f [] h = tt
of_handlers P f (handler ∷ rows) h = (h.0, of_handlers P f rows h.1)

to_handlers : (P : Act TagShape SRule → Type 0) (f : TagShape) (rows : List Row) → AllByRecursion (λ handler. P (to_handler f handler)) rows → AllByRecursion P (map (to_handler f) rows)
to_handlers P f [] h = tt
to_handlers P f (handler ∷ rows) h = (h.0, to_handlers P f rows h.1)

-- ---- a rule

pub unbroken : (P : Act TagShape SRule → Type 0) → ((rule : SRule) (pc : ℕ) → P (Break rule pc) → ⊥) → (b : Bool) (rule : SRule) (pc : ℕ) → AllByRecursion P (break_if b rule pc) → b ≡ false
unbroken P none true rule pc h = absurd (none rule pc h.0)
unbroken P none false rule pc h = refl

may_break : (P : Act TagShape SRule → Type 0) → ((rule : SRule) (pc : ℕ) → P (Break rule pc)) → (b : Bool) (rule : SRule) (pc : ℕ) → AllByRecursion P (break_if b rule pc)
may_break P any true rule pc = (any rule pc, tt)
may_break P any false rule pc = tt

-- ---- all that an instruction does

module _ (P : Act TagShape SRule → Type 0) (m : MethodInfo) (insn : Insn) (r : OpRow) (f : TagShape) where
  -- where no rule may be broken
  pub record AreKept : Type 0 where
    pub enters : enters_untagged insn.op f.stack ≡ false
    pub exits : exits_other insn.op f.stack f.held ≡ false
    pub leaves : leaves_held m insn f.held ≡ false
    pub onward : P (Bring S3 (edges insn) (tags_after insn r f))
    pub caught : AllByRecursion (λ handler. P (to_handler f handler)) (catchers m insn)

  abbrev enters : List (Act TagShape SRule)
  enters = break_if (enters_untagged insn.op f.stack) S1 insn.pc

  abbrev exits : List (Act TagShape SRule)
  exits = break_if (exits_other insn.op f.stack f.held) S2 insn.pc

  abbrev brings : List (Act TagShape SRule)
  brings = Bring S3 (edges insn) (tags_after insn r f) ∷ map (to_handler f) (catchers m insn)

  abbrev leaves : List (Act TagShape SRule)
  leaves = break_if (leaves_held m insn f.held) S4 insn.pc

  pub acts_kept : ((rule : SRule) (pc : ℕ) → P (Break rule pc) → ⊥) → AllByRecursion P (tag_acts m insn r f) → AreKept
  acts_kept none h =
      let outer = all_parts P (enters ++ exits ++ brings) leaves h in
      let inner = all_parts P (enters ++ exits) brings outer.0 in
      let tests = all_parts P enters exits inner.0 in
      record {
        enters = unbroken P none (enters_untagged insn.op f.stack) S1 insn.pc tests.0;
        exits = unbroken P none (exits_other insn.op f.stack f.held) S2 insn.pc tests.1;
        leaves = unbroken P none (leaves_held m insn f.held) S4 insn.pc outer.1;
        onward = inner.1.0;
        caught = of_handlers P f (catchers m insn) inner.1.1;
      }

  pub all_acts : ((rule : SRule) (pc : ℕ) → P (Break rule pc)) → P (Bring S3 (edges insn) (tags_after insn r f)) → AllByRecursion (λ handler. P (to_handler f handler)) (catchers m insn) → AllByRecursion P (tag_acts m insn r f)
  all_acts any onward caught =
      all_append P (enters ++ exits ++ brings) leaves
      (all_append P (enters ++ exits) brings
      (all_append P enters exits (may_break P any (enters_untagged insn.op f.stack) S1 insn.pc) (may_break P any (exits_other insn.op f.stack f.held) S2 insn.pc))
      (onward, to_handlers P f (catchers m insn) caught))
      (may_break P any (leaves_held m insn f.held) S4 insn.pc)
