-- Own instructions of a block, and the reach of a method, of small programs.
use Rattle.std.proofs.Common.{◌≡◌, ◌<◌, ℕ, List, [], ◌∷◌, length, Option, Some, None, refl, sym, ap, subst, arith, slice_get}
use Rattle.checked_program.specs.{LockTags.TagShape, Sections.{IsDeep, StaysDeep, IsOwn}, TaggedCode.{Tagged, onward}, declared.{section.Spot.TheVariants.Block, tag.Tag.Tag}}
use Rattle.checked_program.proofs.TriedPrograms.{many, tags_of}

abbrev tags : Tagged
tags = tags_of many

-- the first instruction in the block of `sum`, and the second
first_is_own : IsOwn many tags 2 (Block 3) 4
first_is_own = record {
  enter = 3;
  f = _;
  begins = record { m = _; insn = _; target = _; at = record { in_program = refl; in_code = refl; names = refl; frames = _; of_method = refl; frame = refl }; pc_is = refl; enters = refl };
  first = 4;
  edge = record {
    m = _;
    insn = _;
    target = _;
    f = _;
    from = record { in_program = refl; in_code = refl; names = refl; frames = _; of_method = refl; frame = refl };
    other = _;
    next = _;
    g = _;
    to = record { in_program = refl; in_code = refl; names = refl; frames = _; of_method = refl; frame = refl };
    h = _;
    goes = onward _ refl;
  };
  over = [];
  stays = (refl, record { m = _; insn = _; target = _; f = _; at = record { in_program = refl; in_code = refl; names = refl; frames = _; of_method = refl; frame = refl }; deep = omega arith });
}

-- where such a way leads is deep
leads_deep : (depth i j : ℕ) (ks : List ℕ) → StaysDeep many tags 2 depth i ks j → IsDeep many tags 2 depth j
leads_deep depth i j [] s = subst (λ (k : ℕ). IsDeep many tags 2 depth k) s.0 s.1
leads_deep depth i j (k ∷ ks) s = leads_deep depth k j ks s.2

none_below : (f : TagShape) (depth : ℕ) → f.held ≡ [] → depth < length f.held → ⊥
none_below f depth e lt = let h : depth < 0 = subst (λ (ts : List Tag). depth < length ts) e lt in grind arith

abbrev at_return : Option (List (Option TagShape)) → Option (Option TagShape)
at_return None = None
at_return (Some frames) = slice_get frames 11

abbrev held_in : Option (Option TagShape) → List Tag
held_in (Some (Some f)) = f.held
held_in frame = []

-- the return behind it is not its own
return_is_not_own : IsOwn many tags 2 (Block 3) 11 → ⊥
return_is_not_own k =
    let d : IsDeep many tags 2 (length k.f.held) 11 = leads_deep (length k.f.held) k.first 11 k.over k.stays in
    let e : at_return (slice_get tags 2) ≡ Some (Some d.f) = subst (λ (o : Option (List (Option TagShape))). at_return o ≡ Some (Some d.f)) (sym d.at.of_method) d.at.frame in
    none_below d.f (length k.f.held) (sym (ap held_in e)) d.deep
