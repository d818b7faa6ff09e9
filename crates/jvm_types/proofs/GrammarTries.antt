-- Small codes and the instructions that they spell, each step by computing.
use Rattle.std.proofs.Common.{pos, negsuc, [], ◌∷◌, refl, arith}
use Rattle.jvm_types.specs.{CodeGrammar.{IsCode, SpellsOp, SpellsInsns}, declared.code.Op.TheVariants.{Iconst, Iadd, Iload, Goto, Getstatic, Invokevirtual, Return, Tableswitch, Lookupswitch}}

-- getstatic, iconst_2, iconst_3, iadd, invokevirtual, return
prints_a_sum : IsCode (0xb2 ∷ 0 ∷ 0x0d ∷ 5 ∷ 6 ∷ 0x60 ∷ 0xb6 ∷ 0 ∷ 0x13 ∷ 0xb1 ∷ []) []
    (record { pc = 0; next = 3; op = Getstatic 13 } ∷ record { pc = 3; next = 4; op = Iconst (pos 2) } ∷ record { pc = 4; next = 5; op = Iconst (pos 3) }
    ∷ record { pc = 5; next = 6; op = Iadd } ∷ record { pc = 6; next = 9; op = Invokevirtual 19 } ∷ record { pc = 9; next = 10; op = Return } ∷ [])
prints_a_sum = record {
  some = omega arith;
  short = omega arith;
  spelled = (
    0xb2 ∷ 0 ∷ 0x0d ∷ [],
    5 ∷ 6 ∷ 0x60 ∷ 0xb6 ∷ 0 ∷ 0x13 ∷ 0xb1 ∷ [],
    refl,
    refl,
    refl,
    record { opcode = 0xb2; operands = 0 ∷ 0x0d ∷ []; is = refl; spelled = (13, refl, refl, omega arith) },
    (
      5 ∷ [],
      6 ∷ 0x60 ∷ 0xb6 ∷ 0 ∷ 0x13 ∷ 0xb1 ∷ [],
      refl,
      refl,
      refl,
      record { opcode = 5; operands = []; is = refl; spelled = (refl, refl) },
      (
        6 ∷ [],
        0x60 ∷ 0xb6 ∷ 0 ∷ 0x13 ∷ 0xb1 ∷ [],
        refl,
        refl,
        refl,
        record { opcode = 6; operands = []; is = refl; spelled = (refl, refl) },
        (
          0x60 ∷ [],
          0xb6 ∷ 0 ∷ 0x13 ∷ 0xb1 ∷ [],
          refl,
          refl,
          refl,
          record { opcode = 0x60; operands = []; is = refl; spelled = (refl, refl) },
          (
            0xb6 ∷ 0 ∷ 0x13 ∷ [],
            0xb1 ∷ [],
            refl,
            refl,
            refl,
            record { opcode = 0xb6; operands = 0 ∷ 0x13 ∷ []; is = refl; spelled = (19, refl, refl, omega arith) },
            (
              0xb1 ∷ [],
              [],
              refl,
              refl,
              refl,
              record { opcode = 0xb1; operands = []; is = refl; spelled = (refl, refl) },
              refl,
            ),
          ),
        ),
      ),
    ),
  );
  targets = (tt, (tt, (tt, (tt, (tt, (tt, tt))))));
  rows_fit = tt;
}

-- both forms of a load of local 2, and a branch back to 0
two_loads : SpellsInsns 0 (record { pc = 0; next = 1; op = Iload 2 } ∷ record { pc = 1; next = 3; op = Iload 2 } ∷ record { pc = 3; next = 6; op = Goto 0 } ∷ []) (0x1c ∷ 0x15 ∷ 2 ∷ 0xa7 ∷ 0xff ∷ 0xfd ∷ [])
two_loads = (
  0x1c ∷ [],
  0x15 ∷ 2 ∷ 0xa7 ∷ 0xff ∷ 0xfd ∷ [],
  refl,
  refl,
  refl,
  record { opcode = 0x1c; operands = []; is = refl; spelled = (refl, refl) },
  (
    0x15 ∷ 2 ∷ [],
    0xa7 ∷ 0xff ∷ 0xfd ∷ [],
    refl,
    refl,
    refl,
    record { opcode = 0x15; operands = 2 ∷ []; is = refl; spelled = (2, refl, refl, omega arith) },
    (
      0xa7 ∷ 0xff ∷ 0xfd ∷ [],
      [],
      refl,
      refl,
      refl,
      record { opcode = 0xa7; operands = 0xff ∷ 0xfd ∷ []; is = refl; spelled = (0, refl, refl, grind arith) },
      refl,
    ),
  ),
)

-- a `tableswitch` at pc 1, with two bytes of padding, whose targets are 20 and 20
one_number : SpellsOp 1 (Tableswitch 20 (negsuc 0) (20 ∷ [])) (0xaa ∷ 7 ∷ 9 ∷ 0 ∷ 0 ∷ 0 ∷ 0x13 ∷ 0xff ∷ 0xff ∷ 0xff ∷ 0xff ∷ 0xff ∷ 0xff ∷ 0xff ∷ 0xff ∷ 0 ∷ 0 ∷ 0 ∷ 0x13 ∷ [])
one_number = record {
  opcode = 0xaa;
  operands = 7 ∷ 9 ∷ 0 ∷ 0 ∷ 0 ∷ 0x13 ∷ 0xff ∷ 0xff ∷ 0xff ∷ 0xff ∷ 0xff ∷ 0xff ∷ 0xff ∷ 0xff ∷ 0 ∷ 0 ∷ 0 ∷ 0x13 ∷ [];
  is = refl;
  spelled = record { padding = 7 ∷ 9 ∷ []; otherwise = 20; low = negsuc 0; high = negsuc 0; targets = 20 ∷ []; is = refl; spelled = refl; padded = refl; counted = refl; some = omega arith; low_fits = grind arith; high_fits = grind arith; default_fits = grind arith; offsets_fit = (grind arith, tt) };
}

-- a `lookupswitch` at pc 0 with the keys -1 and 5
two_keys : SpellsOp 0 (Lookupswitch 28 (record { key = negsuc 0; target = 28 } ∷ record { key = pos 5; target = 0 } ∷ []))
    (0xab ∷ 0 ∷ 0 ∷ 0 ∷ 0 ∷ 0 ∷ 0 ∷ 0x1c ∷ 0 ∷ 0 ∷ 0 ∷ 2 ∷ 0xff ∷ 0xff ∷ 0xff ∷ 0xff ∷ 0 ∷ 0 ∷ 0 ∷ 0x1c ∷ 0 ∷ 0 ∷ 0 ∷ 5 ∷ 0 ∷ 0 ∷ 0 ∷ 0 ∷ [])
two_keys = record {
  opcode = 0xab;
  operands = 0 ∷ 0 ∷ 0 ∷ 0 ∷ 0 ∷ 0 ∷ 0x1c ∷ 0 ∷ 0 ∷ 0 ∷ 2 ∷ 0xff ∷ 0xff ∷ 0xff ∷ 0xff ∷ 0 ∷ 0 ∷ 0 ∷ 0x1c ∷ 0 ∷ 0 ∷ 0 ∷ 5 ∷ 0 ∷ 0 ∷ 0 ∷ 0 ∷ [];
  is = refl;
  spelled = record {
    padding = 0 ∷ 0 ∷ 0 ∷ [];
    otherwise = 28;
    cases = record { key = negsuc 0; target = 28 } ∷ record { key = pos 5; target = 0 } ∷ [];
    is = refl;
    spelled = refl;
    padded = refl;
    count_fits = omega arith;
    ascending = (grind arith, tt);
    default_fits = grind arith;
    cases_fit = ((grind arith, grind arith), ((grind arith, grind arith), tt));
  };
}
