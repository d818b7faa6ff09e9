-- The mnemonics of the instructions of the JVMS (6.5) by their opcodes, also of those that this
-- machine does not have, in the groups of JVMS 7.
use Rattle.std.specs.Prelude.{ℕ, ◌==◌, nat_lt, if◌then◌else◌, List, [], ◌∷◌, ◌++◌, codes, bytes_eq}
use Rattle.std.specs.Prelude.{Option, Some, None}

-- an opcode and its mnemonic
abbrev pub MnemonicList : Type 0
MnemonicList = List (ℕ × List ℕ)

-- 0x00 to 0x14: a constant is pushed
abbrev pub constant_names : MnemonicList
constant_names =
    (0x00, codes "nop")
    ∷ (0x01, codes "aconst_null")
    ∷ (0x02, codes "iconst_m1")
    ∷ (0x03, codes "iconst_0")
    ∷ (0x04, codes "iconst_1")
    ∷ (0x05, codes "iconst_2")
    ∷ (0x06, codes "iconst_3")
    ∷ (0x07, codes "iconst_4")
    ∷ (0x08, codes "iconst_5")
    ∷ (0x09, codes "lconst_0")
    ∷ (0x0a, codes "lconst_1")
    ∷ (0x0b, codes "fconst_0")
    ∷ (0x0c, codes "fconst_1")
    ∷ (0x0d, codes "fconst_2")
    ∷ (0x0e, codes "dconst_0")
    ∷ (0x0f, codes "dconst_1")
    ∷ (0x10, codes "bipush")
    ∷ (0x11, codes "sipush")
    ∷ (0x12, codes "ldc")
    ∷ (0x13, codes "ldc_w")
    ∷ (0x14, codes "ldc2_w") ∷ []

-- 0x15 to 0x35: a local or an element is pushed
abbrev pub load_names : MnemonicList
load_names =
    (0x15, codes "iload")
    ∷ (0x16, codes "lload")
    ∷ (0x17, codes "fload")
    ∷ (0x18, codes "dload")
    ∷ (0x19, codes "aload")
    ∷ (0x1a, codes "iload_0")
    ∷ (0x1b, codes "iload_1")
    ∷ (0x1c, codes "iload_2")
    ∷ (0x1d, codes "iload_3")
    ∷ (0x1e, codes "lload_0")
    ∷ (0x1f, codes "lload_1")
    ∷ (0x20, codes "lload_2")
    ∷ (0x21, codes "lload_3")
    ∷ (0x22, codes "fload_0")
    ∷ (0x23, codes "fload_1")
    ∷ (0x24, codes "fload_2")
    ∷ (0x25, codes "fload_3")
    ∷ (0x26, codes "dload_0")
    ∷ (0x27, codes "dload_1")
    ∷ (0x28, codes "dload_2")
    ∷ (0x29, codes "dload_3")
    ∷ (0x2a, codes "aload_0")
    ∷ (0x2b, codes "aload_1")
    ∷ (0x2c, codes "aload_2")
    ∷ (0x2d, codes "aload_3")
    ∷ (0x2e, codes "iaload")
    ∷ (0x2f, codes "laload")
    ∷ (0x30, codes "faload")
    ∷ (0x31, codes "daload")
    ∷ (0x32, codes "aaload")
    ∷ (0x33, codes "baload")
    ∷ (0x34, codes "caload")
    ∷ (0x35, codes "saload") ∷ []

-- 0x36 to 0x56: a local or an element is written
abbrev pub store_names : MnemonicList
store_names =
    (0x36, codes "istore")
    ∷ (0x37, codes "lstore")
    ∷ (0x38, codes "fstore")
    ∷ (0x39, codes "dstore")
    ∷ (0x3a, codes "astore")
    ∷ (0x3b, codes "istore_0")
    ∷ (0x3c, codes "istore_1")
    ∷ (0x3d, codes "istore_2")
    ∷ (0x3e, codes "istore_3")
    ∷ (0x3f, codes "lstore_0")
    ∷ (0x40, codes "lstore_1")
    ∷ (0x41, codes "lstore_2")
    ∷ (0x42, codes "lstore_3")
    ∷ (0x43, codes "fstore_0")
    ∷ (0x44, codes "fstore_1")
    ∷ (0x45, codes "fstore_2")
    ∷ (0x46, codes "fstore_3")
    ∷ (0x47, codes "dstore_0")
    ∷ (0x48, codes "dstore_1")
    ∷ (0x49, codes "dstore_2")
    ∷ (0x4a, codes "dstore_3")
    ∷ (0x4b, codes "astore_0")
    ∷ (0x4c, codes "astore_1")
    ∷ (0x4d, codes "astore_2")
    ∷ (0x4e, codes "astore_3")
    ∷ (0x4f, codes "iastore")
    ∷ (0x50, codes "lastore")
    ∷ (0x51, codes "fastore")
    ∷ (0x52, codes "dastore")
    ∷ (0x53, codes "aastore")
    ∷ (0x54, codes "bastore")
    ∷ (0x55, codes "castore")
    ∷ (0x56, codes "sastore") ∷ []

-- 0x57 to 0x5f: the stack alone
abbrev pub stack_move_names : MnemonicList
stack_move_names =
    (0x57, codes "pop")
    ∷ (0x58, codes "pop2")
    ∷ (0x59, codes "dup")
    ∷ (0x5a, codes "dup_x1")
    ∷ (0x5b, codes "dup_x2")
    ∷ (0x5c, codes "dup2")
    ∷ (0x5d, codes "dup2_x1")
    ∷ (0x5e, codes "dup2_x2")
    ∷ (0x5f, codes "swap") ∷ []

-- 0x60 to 0x98: arithmetic, conversions, and comparisons of other numbers than ints
abbrev pub arithmetic_names : MnemonicList
arithmetic_names =
    (0x60, codes "iadd")
    ∷ (0x61, codes "ladd")
    ∷ (0x62, codes "fadd")
    ∷ (0x63, codes "dadd")
    ∷ (0x64, codes "isub")
    ∷ (0x65, codes "lsub")
    ∷ (0x66, codes "fsub")
    ∷ (0x67, codes "dsub")
    ∷ (0x68, codes "imul")
    ∷ (0x69, codes "lmul")
    ∷ (0x6a, codes "fmul")
    ∷ (0x6b, codes "dmul")
    ∷ (0x6c, codes "idiv")
    ∷ (0x6d, codes "ldiv")
    ∷ (0x6e, codes "fdiv")
    ∷ (0x6f, codes "ddiv")
    ∷ (0x70, codes "irem")
    ∷ (0x71, codes "lrem")
    ∷ (0x72, codes "frem")
    ∷ (0x73, codes "drem")
    ∷ (0x74, codes "ineg")
    ∷ (0x75, codes "lneg")
    ∷ (0x76, codes "fneg")
    ∷ (0x77, codes "dneg")
    ∷ (0x78, codes "ishl")
    ∷ (0x79, codes "lshl")
    ∷ (0x7a, codes "ishr")
    ∷ (0x7b, codes "lshr")
    ∷ (0x7c, codes "iushr")
    ∷ (0x7d, codes "lushr")
    ∷ (0x7e, codes "iand")
    ∷ (0x7f, codes "land")
    ∷ (0x80, codes "ior")
    ∷ (0x81, codes "lor")
    ∷ (0x82, codes "ixor")
    ∷ (0x83, codes "lxor")
    ∷ (0x84, codes "iinc")
    ∷ (0x85, codes "i2l")
    ∷ (0x86, codes "i2f")
    ∷ (0x87, codes "i2d")
    ∷ (0x88, codes "l2i")
    ∷ (0x89, codes "l2f")
    ∷ (0x8a, codes "l2d")
    ∷ (0x8b, codes "f2i")
    ∷ (0x8c, codes "f2l")
    ∷ (0x8d, codes "f2d")
    ∷ (0x8e, codes "d2i")
    ∷ (0x8f, codes "d2l")
    ∷ (0x90, codes "d2f")
    ∷ (0x91, codes "i2b")
    ∷ (0x92, codes "i2c")
    ∷ (0x93, codes "i2s")
    ∷ (0x94, codes "lcmp")
    ∷ (0x95, codes "fcmpl")
    ∷ (0x96, codes "fcmpg")
    ∷ (0x97, codes "dcmpl")
    ∷ (0x98, codes "dcmpg") ∷ []

-- 0x99 to 0xb1: branches, subroutines, switches and returns
abbrev pub control_names : MnemonicList
control_names =
    (0x99, codes "ifeq")
    ∷ (0x9a, codes "ifne")
    ∷ (0x9b, codes "iflt")
    ∷ (0x9c, codes "ifge")
    ∷ (0x9d, codes "ifgt")
    ∷ (0x9e, codes "ifle")
    ∷ (0x9f, codes "if_icmpeq")
    ∷ (0xa0, codes "if_icmpne")
    ∷ (0xa1, codes "if_icmplt")
    ∷ (0xa2, codes "if_icmpge")
    ∷ (0xa3, codes "if_icmpgt")
    ∷ (0xa4, codes "if_icmple")
    ∷ (0xa5, codes "if_acmpeq")
    ∷ (0xa6, codes "if_acmpne")
    ∷ (0xa7, codes "goto")
    ∷ (0xa8, codes "jsr")
    ∷ (0xa9, codes "ret")
    ∷ (0xaa, codes "tableswitch")
    ∷ (0xab, codes "lookupswitch")
    ∷ (0xac, codes "ireturn")
    ∷ (0xad, codes "lreturn")
    ∷ (0xae, codes "freturn")
    ∷ (0xaf, codes "dreturn")
    ∷ (0xb0, codes "areturn")
    ∷ (0xb1, codes "return") ∷ []

-- 0xb2 to 0xc9: fields, methods, objects and monitors, `wide`, and the extended branches; and the
-- three that no class file has (JVMS 6.2)
abbrev pub reference_names : MnemonicList
reference_names =
    (0xb2, codes "getstatic")
    ∷ (0xb3, codes "putstatic")
    ∷ (0xb4, codes "getfield")
    ∷ (0xb5, codes "putfield")
    ∷ (0xb6, codes "invokevirtual")
    ∷ (0xb7, codes "invokespecial")
    ∷ (0xb8, codes "invokestatic")
    ∷ (0xb9, codes "invokeinterface")
    ∷ (0xba, codes "invokedynamic")
    ∷ (0xbb, codes "new")
    ∷ (0xbc, codes "newarray")
    ∷ (0xbd, codes "anewarray")
    ∷ (0xbe, codes "arraylength")
    ∷ (0xbf, codes "athrow")
    ∷ (0xc0, codes "checkcast")
    ∷ (0xc1, codes "instanceof")
    ∷ (0xc2, codes "monitorenter")
    ∷ (0xc3, codes "monitorexit")
    ∷ (0xc4, codes "wide")
    ∷ (0xc5, codes "multianewarray")
    ∷ (0xc6, codes "ifnull")
    ∷ (0xc7, codes "ifnonnull")
    ∷ (0xc8, codes "goto_w")
    ∷ (0xc9, codes "jsr_w")
    ∷ (0xca, codes "breakpoint")
    ∷ (0xfe, codes "impdep1")
    ∷ (0xff, codes "impdep2") ∷ []

-- the mnemonic of an opcode among these
abbrev pub mnemonic_in : MnemonicList → ℕ → Option (List ℕ)
mnemonic_in [] b = None
mnemonic_in (r ∷ rs) b = if b == r.0 then Some r.1 else mnemonic_in rs b

-- None: the opcode is none of the standard
unfoldable pub mnemonic : ℕ → Option (List ℕ)
mnemonic b =
    if nat_lt b 0x15 then mnemonic_in constant_names b else
    if nat_lt b 0x36 then mnemonic_in load_names b else
    if nat_lt b 0x57 then mnemonic_in store_names b else
    if nat_lt b 0x60 then mnemonic_in stack_move_names b else
    if nat_lt b 0x99 then mnemonic_in arithmetic_names b else
    if nat_lt b 0xb2 then mnemonic_in control_names b else
    mnemonic_in reference_names b

abbrev pub all_names : MnemonicList
all_names =
    constant_names
    ++ (load_names
    ++ (store_names
    ++ (stack_move_names ++ (arithmetic_names ++ (control_names ++ reference_names)))))

-- the opcode of a mnemonic among these
abbrev pub opcode_among : MnemonicList → List ℕ → Option ℕ
opcode_among [] name = None
opcode_among (r ∷ rs) name = if bytes_eq r.1 name then Some r.0 else opcode_among rs name

-- None: the text is no mnemonic
unfoldable pub opcode_of : List ℕ → Option ℕ
opcode_of name = opcode_among all_names name
