-- The line of a refusal: `refused RULE file I at A`, with ` method J` before ` at` where the place
-- is in a method.
use Rattle.std.specs.Prelude.{ℕ, ◌==◌, List, ◌++◌, codes, if◌then◌else◌}
use Rattle.std.specs.Fmt.{decimal}
use Rattle.run_texts.specs.Report.{line}
use Rattle.jvm_types.specs.declared.refusal.Rule.{Rule}
use Rattle.jvm_types.specs.declared.refusal.Rule.TheVariants as rules
use Rattle.jvm_types.specs.declared.refusal.CRule.{CRule}
use Rattle.jvm_types.specs.declared.refusal.CRule.TheVariants.{C1, C2, C3, C4, C5, C6, C7, C8, C9}
use Rattle.jvm_types.specs.declared.refusal.CRule.TheVariants.{C10}
use Rattle.jvm_types.specs.declared.refusal.KRule.{KRule}
use Rattle.jvm_types.specs.declared.refusal.KRule.TheVariants.{K1, K2, K3, K4, K5, K6}
use Rattle.jvm_types.specs.declared.refusal.LRule.{LRule}
use Rattle.jvm_types.specs.declared.refusal.LRule.TheVariants.{L1, L2, L3, L4, L5, L6, L7, L8, L9}
use Rattle.jvm_types.specs.declared.refusal.VRule.{VRule}
use Rattle.jvm_types.specs.declared.refusal.VRule.TheVariants.{V1, V2, V3, V4, V5, V6, V7, V8}
use Rattle.jvm_types.specs.declared.refusal.SRule.{SRule}
use Rattle.jvm_types.specs.declared.refusal.SRule.TheVariants.{S1, S2, S3, S4}
use Rattle.jvm_types.specs.declared.refusal.ARule.{ARule}
use Rattle.jvm_types.specs.declared.refusal.ARule.TheVariants.{A1, A2}
use Rattle.jvm_types.specs.declared.refusal.Place.{Place}
use Rattle.jvm_types.specs.declared.refusal.TheConstants.{NO_METHOD}

abbrev pub c_number : CRule → ℕ
c_number C1 = 1
c_number C2 = 2
c_number C3 = 3
c_number C4 = 4
c_number C5 = 5
c_number C6 = 6
c_number C7 = 7
c_number C8 = 8
c_number C9 = 9
c_number C10 = 10

abbrev pub k_number : KRule → ℕ
k_number K1 = 1
k_number K2 = 2
k_number K3 = 3
k_number K4 = 4
k_number K5 = 5
k_number K6 = 6

abbrev pub l_number : LRule → ℕ
l_number L1 = 1
l_number L2 = 2
l_number L3 = 3
l_number L4 = 4
l_number L5 = 5
l_number L6 = 6
l_number L7 = 7
l_number L8 = 8
l_number L9 = 9

abbrev pub v_number : VRule → ℕ
v_number V1 = 1
v_number V2 = 2
v_number V3 = 3
v_number V4 = 4
v_number V5 = 5
v_number V6 = 6
v_number V7 = 7
v_number V8 = 8

abbrev pub s_number : SRule → ℕ
s_number S1 = 1
s_number S2 = 2
s_number S3 = 3
s_number S4 = 4

abbrev pub a_number : ARule → ℕ
a_number A1 = 1
a_number A2 = 2

abbrev pub rule_text : Rule → List ℕ
rule_text (rules.C r) = codes "C" ++ decimal (c_number r)
rule_text (rules.K r) = codes "K" ++ decimal (k_number r)
rule_text (rules.L r) = codes "L" ++ decimal (l_number r)
rule_text (rules.V r) = codes "V" ++ decimal (v_number r)
rule_text (rules.S r) = codes "S" ++ decimal (s_number r)
rule_text (rules.A r) = codes "A" ++ decimal (a_number r)

abbrev pub method_text : ℕ → List ℕ
method_text method = if method == NO_METHOD then codes "" else codes " method " ++ decimal method

abbrev pub refusal_words : Rule → Place → List ℕ
refusal_words rule place =
    codes "refused " ++ rule_text rule ++ codes " file " ++ decimal place.file
    ++ method_text place.method ++ codes " at " ++ decimal place.at

abbrev pub refusal_text : Rule → Place → List ℕ
refusal_text rule place = line (refusal_words rule place)
