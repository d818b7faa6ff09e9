-- The places of faults lie in the bytes that were read, so offsets are numbers of the machine.
use Rattle.std.proofs.{Common.{◌≡◌, ℕ, suc, ◌+◌, ◌^◌, ◌<◌, ◌≤◌, List, [], ◌∷◌, length, get_or, Result, Err, arith}, lemmas.Result.IfErr-at_err}
use Rattle.jvm_types.specs.{ClassGrammar.IsIndex, Numbers.u2, ReadingClass.code_at, ReadingPool.index_at, ReadingSteps.{Fault, whole}, Spelling.code_body, declared.class_file.Constant.Constant}
use Rattle.jvm_types.proofs.{AttrLaws.AreParts, FaultPlaces.{Near, index_placed, code_placed, filled_near}, StepLaws.bytes_fit}
use Rattle.class_reader.specs.{Giving.{Fails, HasPlaceInFile}, declared.items.Stop.Stop}
use Rattle.jvm_types.specs.declared.index_kind.IndexKind.TheVariants as kinds
use Rattle.class_reader.specs.declared.items.Stop.TheVariants as stops

pub left_within : {A : Type 0} (n : ℕ) (r : Result A Fault) (f : Fault) → r ≡ Err f → Near n r → f.left ≤ n
left_within n r f e near = IfErr-at_err (λ g. g.left ≤ n) e near.place

has_place : {A : Type 0} (n behind : ℕ) (e : Stop) (r : Result A Fault) → Fails e r → Near n r → n + behind < 2 ^ 63 → HasPlaceInFile behind e
has_place n behind stops.Memory r fails near room = tt
has_place n behind (stops.At rule left) r fails near room = let le = left_within n r (record { rule = rule; left = left }) fails near in omega arith

pub code_has_place : (pool : List Constant) (name : ℕ) (body : List ℕ) (behind : ℕ) (e : Stop) → ((i : ℕ) → get_or body i 0 < 256) → length body + behind < 2 ^ 63 → Fails e (whole (code_at pool name body)) → HasPlaceInFile behind e
code_has_place pool name body behind e fits room fails =
    has_place (length body) behind e (whole (code_at pool name body)) fails (filled_near code_body (AreParts pool name) (code_at pool name) (code_placed pool name) body (bytes_fit body fits)) room

pub value_has_place : (pool : List Constant) (body : List ℕ) (behind : ℕ) (e : Stop) → ((i : ℕ) → get_or body i 0 < 256) → length body + behind < 2 ^ 63 → Fails e (whole (index_at kinds.Value pool body)) → HasPlaceInFile behind e
value_has_place pool body behind e fits room fails =
    has_place (length body) behind e (whole (index_at kinds.Value pool body)) fails (filled_near u2 (IsIndex kinds.Value pool) (index_at kinds.Value pool) (index_placed kinds.Value pool) body (bytes_fit body fits)) room
