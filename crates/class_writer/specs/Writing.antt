-- What writing a part of a class leaves, and when a class is refused.
use Rattle.std.specs.Prelude.{◌≡◌, ◌<◌, ◌^◌, ℕ, List, ◌++◌, length, Result, Ok, Err}
use Rattle.std.specs.Int.{w32}
use Rattle.std.specs.Int.RustNames.{FitsSigned}
use Rattle.jvm_types.specs.declared.class_file.Constant.{Constant}
use Rattle.jvm_types.specs.declared.class_file.Constant.TheVariants.{Utf8, Integer}
use Rattle.jvm_types.specs.declared.class_file.ClassFile.{ClassFile}
use Rattle.jvm_types.specs.declared.class_file.TheConstants.{MAGIC}
use Rattle.jvm_types.specs.declared.class_file.Code.{Code}
use Rattle.jvm_types.specs.Numbers.{u2, u4}
use Rattle.jvm_types.specs.Spelling.{counted, constant}
use Rattle.jvm_types.specs.Counts.{BodyFits, MemberFits, ClassCountsFit}
use Rattle.jvm_types.specs.ClassGrammar.{IsCounted, Spells}
use Rattle.class_writer.specs.declared.error.WriteError.{WriteError}
use Rattle.class_writer.specs.declared.error.WriteError.TheVariants.{Memory, TooLarge, NoSpelling}

-- a part was not written: want of memory is a free answer, and else some length of it does not fit
-- its field
abbrev pub IsWriteFailure : Type 0 → WriteError → Type 0
IsWriteFailure fits Memory = Unit {0}
IsWriteFailure fits TooLarge = fits → ⊥
IsWriteFailure fits NoSpelling = ⊥

-- the spelling of a part stands behind what was there, and this is known of the part
abbrev pub Writes : {A : Type 0} → Type 0 → Type 0 → List ℕ → List ℕ → List ℕ → Result A WriteError
    → Type 0
Writes fits known spelling old new (Ok u) = known × (new ≡ old ++ spelling)
Writes fits known spelling old new (Err e) = IsWriteFailure fits e

-- what is known of an entry that was written: the length of a text, and the range of a signed
-- number, which its bytes do not tell
abbrev pub IsKnown : Constant → Type 0
IsKnown (Utf8 text) = length text < 2 ^ 16
IsKnown (Integer n) = FitsSigned w32 n
IsKnown c = Unit {0}

-- the parts of a Code attribute
pub record CodePartsFit (c : Code) : Type 0 where
  pub bytes : length c.bytes < 2 ^ 32
  pub rows : length c.rows < 2 ^ 16
  pub attrs : IsCounted BodyFits c.attrs

-- the bytes in front of the interfaces of a class
abbrev pub head_bytes : ClassFile → List ℕ
head_bytes c =
    u4 MAGIC ++ u2 c.minor ++ u2 c.major ++ counted constant c.constants ++ u2 c.flags
    ++ u2 c.this_class ++ u2 c.super_class

-- what is known of a class that was written
pub record IsClassWritten (c : ClassFile) : Type 0 where
  pub constants : IsCounted IsKnown c.constants
  pub interfaces : length c.interfaces < 2 ^ 16
  pub fields : IsCounted MemberFits c.fields
  pub methods : IsCounted MemberFits c.methods
  pub attrs : IsCounted BodyFits c.attrs

-- what writing a class answers: the bytes that spell it; want of memory, which is free; that a
-- length does not fit its field; or that all fit, and no bytes spell the class
abbrev pub Answers : ClassFile → Result (List ℕ) WriteError → Type 0
Answers c (Ok bytes) = Spells bytes c
Answers c (Err Memory) = Unit {0}
Answers c (Err TooLarge) = ClassCountsFit c → ⊥
Answers c (Err NoSpelling) = ClassCountsFit c × ((bytes : List ℕ) → Spells bytes c → ⊥)
