-- Each rule in a sentence, and what to write instead; docs/EXPLAIN.md has the same.
use Rattle.std.specs.Prelude.{ℕ, List, codes}
use Rattle.jvm_types.specs.declared.refusal.Rule.{Rule}
use Rattle.jvm_types.specs.declared.refusal.Rule.TheVariants as rules
use Rattle.jvm_types.specs.declared.refusal.CRule.{CRule}
use Rattle.jvm_types.specs.declared.refusal.CRule.TheVariants.{C1, C2, C3, C4, C5, C6, C7, C8, C9}
use Rattle.jvm_types.specs.declared.refusal.CRule.TheVariants.{C10}
use Rattle.jvm_types.specs.declared.refusal.KRule.{KRule}
use Rattle.jvm_types.specs.declared.refusal.KRule.TheVariants.{K1, K2, K3, K4, K5, K6}
use Rattle.jvm_types.specs.declared.refusal.LRule.{LRule}
use Rattle.jvm_types.specs.declared.refusal.LRule.TheVariants.{L1, L2, L3, L4, L5, L6, L7, L8, L9}
use Rattle.jvm_types.specs.declared.refusal.VRule.{VRule}
use Rattle.jvm_types.specs.declared.refusal.VRule.TheVariants.{V1, V2, V3, V4, V5, V6, V7, V8}
use Rattle.jvm_types.specs.declared.refusal.SRule.{SRule}
use Rattle.jvm_types.specs.declared.refusal.SRule.TheVariants.{S1, S2, S3, S4}
use Rattle.jvm_types.specs.declared.refusal.ARule.{ARule}
use Rattle.jvm_types.specs.declared.refusal.ARule.TheVariants.{A1, A2}

abbrev pub again : List ℕ
again = codes "the class, compiled again"

abbrev pub structured : List ℕ
structured = codes "a synchronized block or method, as javac writes it"

abbrev pub together : List ℕ
together = codes "all classes compiled together"

abbrev pub listing : List ℕ
listing = codes "a listing, as --mode list writes it"

-- ---- what a rule refuses

abbrev pub reading_means : CRule → List ℕ
reading_means C1 = codes "the file does not begin with 0xCAFEBABE, so it is no class file"
reading_means C2 = codes "the version of the class file is below 45 or above 50"
reading_means C3 = codes "the file ends inside an item"
reading_means C4 = codes "a kind of constant that class files of Java 6 do not have"
reading_means C5 = codes "an index names no constant, or one of another kind than its place needs"
reading_means C6 = codes "a text has a byte that no text may have"
reading_means C7 = codes "the length of a Code or a ConstantValue disagrees with its parts"
reading_means C8 = codes "bytes stand behind the last attribute"
reading_means C9 = codes "a method is abstract or native, or has not exactly one Code"
reading_means C10 = codes "the file is longer than 1,048,576 bytes"

abbrev pub decoding_means : KRule → List ℕ
decoding_means K1 =
    codes "an instruction that this machine does not have, or an array of another type than int"
decoding_means K2 = codes "an operand is cut by the end of the code"
decoding_means K3 = codes "a branch or a switch leads to no start of an instruction"
decoding_means K4 =
    codes "a handler row is empty, or begins, ends or leads where no instruction begins"
decoding_means K5 = codes "the code has no byte, or more than 65,535"
decoding_means K6 = codes "a switch whose bounds, pairs or keys do not fit"

abbrev pub linking_means : LRule → List ℕ
linking_means L1 =
    codes
    "a class that is not among the files, or a type or a constant that this machine does not have"
linking_means L2 = codes "no such member, or a constant or member that does not fit the instruction"
linking_means L3 = codes "a private member of another class"
linking_means L4 =
    codes
    "a <clinit>, init, run or done that is not static, a <clinit> that takes or returns something, or no run where there are workers"
linking_means L5 = codes "the name of a class or of a member that is there already"
linking_means L6 = codes "a superclass other than Object, an interface, or an abstract class"
linking_means L7 = codes "a final field is written outside of its constructor or initializer"
linking_means L8 = codes "the classes and static fields need more words than the heap has"
linking_means L9 = codes "a <clinit>, or init(), run(int) or done() of the first class, that is static synchronized"

abbrev pub verifying_means : VRule → List ℕ
verifying_means V1 = codes "the stack has too few values"
verifying_means V2 = codes "the stack has more values than max_stack says"
verifying_means V3 = codes "a local or an argument has no place among max_locals"
verifying_means V4 =
    codes "a value of another type than the instruction takes, or a catch type that is no throwable"
verifying_means V5 = codes "two ways to the instruction bring stacks of different depths"
verifying_means V6 = codes "the code falls off its end"
verifying_means V7 =
    codes
    "an object that no constructor has finished is used, kept over a jump back or in covered code, or returned from, or one that is finished is constructed again"
verifying_means V8 = codes "a return that does not fit the descriptor of the method"

abbrev pub tagging_means : SRule → List ℕ
tagging_means S1 =
    codes "a monitor is entered on a value that is neither this nor a copy that dup made"
tagging_means S2 = codes "a monitor is left that is not the innermost one held"
tagging_means S3 = codes "two ways to the instruction hold different monitors"
tagging_means S4 =
    codes
    "a return, or an instruction that may throw and that no catch-all row covers, while a monitor is held"

abbrev pub assembling_means : ARule → List ℕ
assembling_means A1 =
    codes "a line has no form at its place, a number is outside its field, or the text stops early"
assembling_means A2 = codes "all lines have their forms, and they list no class"

unfoldable pub means : Rule → List ℕ
means (rules.C rule) = reading_means rule
means (rules.K rule) = decoding_means rule
means (rules.L rule) = linking_means rule
means (rules.V rule) = verifying_means rule
means (rules.S rule) = tagging_means rule
means (rules.A rule) = assembling_means rule

-- ---- what is accepted in its place

abbrev pub reading_instead : CRule → List ℕ
reading_instead C1 = codes "the name of a file that javac wrote"
reading_instead C2 = codes "classes compiled for Java 6 or before, as ./compile makes them"
reading_instead C3 = again
reading_instead C4 = codes "no lambda and no method reference: a class with a method"
reading_instead C5 = again
reading_instead C6 = again
reading_instead C7 = again
reading_instead C8 = again
reading_instead C9 =
    codes "no interface, and no abstract or native method: the class itself as the type"
reading_instead C10 = codes "a class file, or several smaller classes"

abbrev pub decoding_instead : KRule → List ℕ
decoding_instead K1 =
    codes
    "an int for a long, a float or a double; x = x + 1000 for x += 1000; a class for each type in place of casts and type parameters; a field that says the kind in place of instanceof; objects with a field next in place of an array of objects"
decoding_instead K2 = again
decoding_instead K3 = again
decoding_instead K4 = again
decoding_instead K5 = codes "several smaller methods"
decoding_instead K6 = again

abbrev pub linking_instead : LRule → List ℕ
linking_instead L1 =
    codes
    "the files of all classes that are used; an int for another number or a char; Object or this for a class object; a method of your own for the library's; an exception without a message"
linking_instead L2 =
    codes
    "println of an int, and of nothing else; a loop for arraycopy; all classes compiled together"
linking_instead L3 = codes "the member without private"
linking_instead L4 = codes "the file of the entry class first; public static void run(int)"
linking_instead L5 = codes "each class once, under a name of its own"
linking_instead L6 =
    codes
    "a field that holds the other object; one of the twelve throwables; the class itself as the type"
linking_instead L7 = codes "the field without final"
linking_instead L8 = codes "a larger --heap"
linking_instead L9 = codes "a static synchronized method that it calls"

abbrev pub verifying_instead : VRule → List ℕ
verifying_instead V1 = again
verifying_instead V2 = again
verifying_instead V3 = again
verifying_instead V4 = together
verifying_instead V5 = again
verifying_instead V6 = again
verifying_instead V7 = again
verifying_instead V8 = again

abbrev pub tagging_instead : SRule → List ℕ
tagging_instead S1 =
    codes
    "a synchronized block or method, as javac writes it; a method that makes the object, where a loop locks it and makes it anew"
tagging_instead S2 = structured
tagging_instead S3 = structured
tagging_instead S4 = structured

abbrev pub assembling_instead : ARule → List ℕ
assembling_instead A1 = listing
assembling_instead A2 = listing

unfoldable pub instead : Rule → List ℕ
instead (rules.C rule) = reading_instead rule
instead (rules.K rule) = decoding_instead rule
instead (rules.L rule) = linking_instead rule
instead (rules.V rule) = verifying_instead rule
instead (rules.S rule) = tagging_instead rule
instead (rules.A rule) = assembling_instead rule
