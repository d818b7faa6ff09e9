-- A frame and the arrays of owned fields: what its instruction takes, and what it has behind it.
use Rattle.std.proofs.Common.{◌≡◌, ℕ, suc, ◌+◌, ◌<◌, inl, Bool, true, false, not, List, [], ◌∷◌, length, drop, Some, refl, sym, subst, arith, slice_index_or}
use Rattle.std.proofs.lemmas.Bool.{or_parts}
use Rattle.lists.proofs.TestLaws.{is_true}
use Rattle.jvm_types.specs.{CodeTable.{stack_after, locals_after}, Numbers.has_number, Types.TypeFrame, Verifying.{suits, some_taken, started, frame_after, edges}}
use Rattle.jvm_types.specs.declared.{code.Insn.Insn, op_row.{Given.{Given, TheVariants.{Fresh, Taken, Local}}, Want.{Want, TheVariants.AnObject}}, program.{MethodInfo.MethodInfo, Target.Target}, typing.VType.VType}
use Rattle.checked_program.specs.{LockTags.TagShape, MarkedProgram.MarkedProgram, OwnedArrays.IsOwnedAt, TaggedCode.IsAt}
use Rattle.machine_types.specs.Construction.{puts_owned, makes_frozen, Runs, SlotOf, IsNoStored, IsArraySlot, SlotsFrom}
use Rattle.machine_types.specs.{Frames.frame_on, OwnedPlaces.{Stores, IsStoredNowhere}, Standing.{row_at, tags_of}, Threads.Frame, Worlds.{Unstored, builder}}
use Rattle.laws_objects.proofs.ArrayMoves.{source, IsMadeWell, SourceFine, not_owned, stack_clean, locals_clean, dropped_at}
use Rattle.laws_objects.proofs.{ArraySlots.{each_from, no_stored_along, array_along, stack_begun, locals_begun}, Buildings.{Building, FrameIn}, Landing.LandsWell}
use Rattle.laws_objects.proofs.{Moves.{Suit, suits_later, suit_at, Starts, starts, is_start}, Operands.{WantOld, TakenOld, takes_any, object_at, object_free}, PutPlaces.{is_newarray, edge_plain}}
use Rattle.laws_objects.proofs.Slots.{slots_long, with_long}
use Rattle.jvm_types.specs.declared.typing.VType.TheVariants as types

-- ---- what is taken as an object was stored nowhere, where no array of an owned field is

module _ (c : MarkedProgram) (stores : Stores) (m : MethodInfo) (f : Frame) (number : ℕ) where
  pub taken_clean : (wants : List Want) (us : List VType) (vs : List ℕ) (n : ℕ) → length us ≡ length vs → Suit m wants us → SlotsFrom (IsArraySlot c stores f number) n us vs
      → ((k q : ℕ) → q ≡ n + k → k < length wants → object_at wants k ≡ true → IsOwnedAt c.program (tags_of c) f.method number q → ⊥) → TakenOld (IsStoredNowhere stores) wants vs
  taken_clean (want ∷ wants) [] (v ∷ vs) n l s a free = absurd (omega (arith, l))
  taken_clean (want ∷ wants) (u ∷ us) (v ∷ vs) n l s a free =
      (one want s (λ is. free 0 n (omega arith) (omega arith) is), taken_clean wants us vs (suc n) (omega (arith, l)) (suits_later m want u wants us s) a.1 (λ k q e less is. free (suc k) q (omega (arith, e)) (omega (arith, less)) is))
    where
      one : (want : Want) → Suit m (want ∷ wants) (u ∷ us) → (object_at (want ∷ wants) 0 ≡ true → IsOwnedAt c.program (tags_of c) f.method number n → ⊥) → WantOld (IsStoredNowhere stores) want v
      one (AnObject class) s free =
          (no_stored_along stores).rises 0 u (types.Ref class) v (is_true (suits m (AnObject class) u) (or_parts (not (suits m (AnObject class) u)) (some_taken (λ want u. not (suits m want u)) wants us) s).0) (a.0.other (free refl))
      one want s free = tt
  taken_clean wants us vs n l s a free = tt

-- ---- a frame that begins an instruction

module _ (building : Building) (h : ℕ) (f : Frame) (k : FrameIn building h Runs f) where
  open building use {design, c, marked, frozen, owning, owns, w, next, t}

  pub stack_long : length k.stands.types.stack ≡ length f.stack
  stack_long = with_long (SlotOf frozen w next t h Runs k.stands.method f.receiver) (λ v. w v ≡ Some (builder t h Unstored)) (puts_owned owning.owned k.stands.insn.op k.stands.target) k.stands.types.stack k.stands.tags.stack f.stack k.stack

  pub slot_of : (q : ℕ) → IsArraySlot c owning.stores f k.stands.number q (slice_index_or k.stands.types.stack q types.Top) (slice_index_or f.stack q 0)
  slot_of q = each_from (IsArraySlot c owning.stores f k.stands.number) (λ n. record { owned = λ o word is. inl refl; other = λ none. tt }) 0 k.stands.types.stack f.stack stack_long k.arrays q q (omega arith)

  pub local_of : (x : ℕ) → IsNoStored owning.stores (slice_index_or k.stands.types.locals x types.Top) (slice_index_or f.locals x 0)
  local_of x = each_from (λ place. IsNoStored owning.stores) (λ n. tt) 0 k.stands.types.locals f.locals (slots_long (SlotOf frozen w next t h Runs k.stands.method f.receiver) k.stands.types.locals k.stands.tags.locals f.locals k.locals) k.no_arrays x x (omega arith)

  pub takes_clean : takes_any k.stands.insn.op ≡ false → TakenOld (IsStoredNowhere owning.stores) (row_at c f k.stands).takes f.stack
  takes_clean any = taken_clean c owning.stores k.stands.method f k.stands.number (row_at c f k.stands).takes k.stands.types.stack f.stack 0 stack_long (suit_at c marked f k.stands) k.arrays
      (λ n q e less is o.
      let same : q ≡ n = omega (arith, e) in
      not_owned c marked owning.stores f k.stands n less
      ((object_free c.program k.stands.method k.stands.insn.pc k.stands.method.class k.stands.insn.op k.stands.target n is).1 any) (subst (IsOwnedAt c.program (tags_of c) f.method k.stands.number) same o))

  -- ---- where it goes on

  module _ (to made : ℕ) (edge : has_number (edges k.stands.insn) to ≡ true)
      (is_made : IsMadeWell c marked owning.stores f k.stands made) where
    sources : (x : Given) → SourceFine c marked owning.stores f k.stands k.stands.types.stack k.stands.types.locals f.stack f.locals made x
    sources (Fresh type) = tt
    sources (Taken q) = slot_of q
    sources (Local x) = local_of x

    begun : Starts k.stands.method (makes_frozen frozen k.stands.method) (started k.stands.method.class (row_at c f k.stands).takes k.stands.types.stack)
    begun = starts k.stands.method (makes_frozen frozen k.stands.method) (row_at c f k.stands).takes k.stands.types.stack (suit_at c marked f k.stands)

    before : TypeFrame
    before = record { stack = stack_after types.Top (λ t. t) (row_at c f k.stands) k.stands.types.stack k.stands.types.locals; locals = locals_after types.Top (λ t. t) (row_at c f k.stands).writes k.stands.types.stack k.stands.types.locals; ready = k.stands.types.ready }

    pub goes_well : (puts : Bool) → ((j : ℕ) (other : Insn) (next : Target) (u : TagShape) → IsAt c.program (tags_of c) f.method j k.stands.method other next u → other.pc ≡ to → puts_owned owning.owned other.op next ≡ puts)
        → LandsWell design puts (frame_on (row_at c f k.stands) to made f) k.stands.method (frame_after k.stands.method (row_at c f k.stands) k.stands.types)
    unfolding before
    goes_well puts put = record {
      put = put;
      arrays = λ j other next u at same.
          stack_begun (IsArraySlot c owning.stores (frame_on (row_at c f k.stands) to made f) j) (array_along c owning.stores (frame_on (row_at c f k.stands) to made f) j) (started k.stands.method.class (row_at c f k.stands).takes k.stands.types.stack)
          (is_start k.stands.method (makes_frozen frozen k.stands.method) (started k.stands.method.class (row_at c f k.stands).takes k.stands.types.stack) begun) before 0 (frame_on (row_at c f k.stands) to made f).stack
          (stack_clean c marked owning.stores f k.stands k.stands.types.stack k.stands.types.locals f.stack f.locals made to (drop (length (row_at c f k.stands).takes) f.stack)
          (frame_on (row_at c f k.stands) to made f).locals (λ q. dropped_at 0 (length (row_at c f k.stands).takes) f.stack q (length (row_at c f k.stands).takes + q) refl) is_made j other next u at (subst (λ (pc : ℕ). has_number (edges k.stands.insn) pc ≡ true) (sym same) edge)
          (λ n. sources (source (row_at c f k.stands).gives (length (row_at c f k.stands).takes) n)));
      locals = locals_begun (λ place. IsNoStored owning.stores) (no_stored_along owning.stores) (started k.stands.method.class (row_at c f k.stands).takes k.stands.types.stack)
          (is_start k.stands.method (makes_frozen frozen k.stands.method) (started k.stands.method.class (row_at c f k.stands).takes k.stands.types.stack) begun) before 0 (frame_on (row_at c f k.stands) to made f).locals
          (locals_clean c marked owning.stores f k.stands k.stands.types.stack k.stands.types.locals f.stack f.locals made is_made.written (λ q. slot_of q) (λ x. local_of x) k.no_arrays);
    }

    pub goes_plain : is_newarray k.stands.insn.op ≡ false → LandsWell design false (frame_on (row_at c f k.stands) to made f) k.stands.method (frame_after k.stands.method (row_at c f k.stands) k.stands.types)
    goes_plain op =
        goes_well false (λ j other next u at same. edge_plain c marked owning owns f.method j k.stands.method other next u at k.stands.number k.stands.insn k.stands.at.in_code (subst (λ (pc : ℕ). has_number (edges k.stands.insn) pc ≡ true) (sym same) edge) op)
