-- The lines of a code make that code.
use Rattle.std.proofs.Common.{◌≡◌, ℕ, zero, suc, ◌+◌, ◌<◌, ◌≤◌, Bool, true, false, List, [], ◌∷◌, ◌++◌, length, map, Option, Some, None, refl, sym, ap, subst, ◌∙◌, arith, append_assoc, length-append, ◌==◌, not, is_some, IsSomeAnd, slice_index_or}
use Rattle.std.{specs.{List.{AllByRecursion, list_all}, Option.option_map}, proofs.lemmas.{Bool.{and_parts, Decides.nat_tests}, List.append-nil}}
use Rattle.jvm_types.specs.{ClassGrammar.IsByte, CodeFault.code_fault, CodeGrammar.{padding_size, SpellsOperands, SpellsInsns, IsCode}, CodeTable.{Form, Table, Lookup, form_of}, ReadCode.insns_of}
use Rattle.jvm_types.{specs.declared.{class_file.{ClassFile.ClassFile, Code.Code, Member.Member}, code.{Insn.Insn, Op.Op}}, proofs.CodeExact.read_is_code}
use Rattle.asm_text.specs.{CodeLines.{are_zeros, is_padded, are_insns}, Drafting.{draft, with_bytes}, Encoding.{zero_bytes, shape_bytes, encoded}, Operands.{shape_of, shape_at}}
use Rattle.asm_text.specs.declared.{items.{Item.{Item, TheVariants.{CodeBytes, Instruction}}, MemberKind.MemberKind}, places.CodePart.CodePart}
use Rattle.asm_text.proofs.{BuildLaws.{Leads, first_line, leads_as, stays, entered, CodeUpTo, LeadsInCode, code_up_more}, EncodeLaws.{insn_operands, LineHolds, line_holds, IsPadded, operands_spelled}}
use Rattle.asm_text.proofs.WordLaws.{small_back}
use Rattle.asm_text.specs.declared.places.CodePart.TheVariants as code_parts
use Rattle.asm_text.specs.declared.places.ListingPlace.TheVariants as places

-- ---- padding

pub at_end : (pre : List ℕ) (x : ℕ) (xs : List ℕ) → slice_index_or (pre ++ x ∷ xs) (length pre) 0 ≡ x
at_end [] x xs = refl
at_end (p ∷ pre) x xs = at_end pre x xs

is_zero : (b : ℕ) → (b == 0) ≡ true → b ≡ 0
is_zero b h = grind (arith, nat_tests)

zero_run : (whole pre xs rest : List ℕ) (n at : ℕ) → whole ≡ pre ++ (xs ++ rest) → length xs ≡ n → length pre ≡ at → are_zeros whole at n ≡ true → AllByRecursion (λ b. b ≡ 0) xs
zero_run whole pre [] rest n at e l a h = tt
zero_run whole pre (x ∷ xs) rest zero at e l a h = absurd (omega arith)
zero_run whole pre (x ∷ xs) rest (suc n) at e l a h =
    let p = and_parts (slice_index_or whole at 0 == 0) (are_zeros whole (at + 1) n) h in
    let here : slice_index_or whole at 0 ≡ x = ap (λ (w : List ℕ). slice_index_or w at 0) e ∙ ap (λ (k : ℕ). slice_index_or (pre ++ x ∷ (xs ++ rest)) k 0) (sym a) ∙ at_end pre x (xs ++ rest) in
    (sym here ∙ is_zero _ p.0, zero_run whole (pre ++ x ∷ []) xs rest n (at + 1) (e ∙ sym (append_assoc pre (x ∷ []) (xs ++ rest))) (omega arith) (omega (arith, a, length-append pre (x ∷ []))) p.1)

zeros_are : (xs : List ℕ) (n : ℕ) → AllByRecursion (λ b. b ≡ 0) xs → length xs ≡ n → n ≤ 3 → xs ≡ zero_bytes n
zeros_are [] n h l few = ap zero_bytes l
zeros_are (a ∷ []) n h l few = ap (λ (x : ℕ). x ∷ []) h.0 ∙ ap zero_bytes l
zeros_are (a ∷ b ∷ []) n h l few = ap (λ (x : ℕ). x ∷ b ∷ []) h.0 ∙ ap (λ (x : ℕ). 0 ∷ x ∷ []) h.1.0 ∙ ap zero_bytes l
zeros_are (a ∷ b ∷ c ∷ []) n h l few = ap (λ (x : ℕ). x ∷ b ∷ c ∷ []) h.0 ∙ ap (λ (x : ℕ). 0 ∷ x ∷ c ∷ []) h.1.0 ∙ ap (λ (x : ℕ). 0 ∷ 0 ∷ x ∷ []) h.1.1.0 ∙ ap zero_bytes l
zeros_are (a ∷ b ∷ c ∷ d ∷ xs) n h l few = absurd (omega arith)

few_pad : (pc : ℕ) → padding_size pc ≤ 3
few_pad pc = omega arith

switch_padded : (done operands rest : List ℕ) (opcode : ℕ) → are_zeros (done ++ opcode ∷ (operands ++ rest)) (length done + 1) (padding_size (length done)) ≡ true
    → (padding others : List ℕ) → operands ≡ padding ++ others → length padding ≡ padding_size (length done) → padding ≡ zero_bytes (padding_size (length done))
switch_padded done operands rest opcode h padding others e l =
    zeros_are padding (padding_size (length done)) (zero_run _ (done ++ opcode ∷ []) padding (others ++ rest) (padding_size (length done)) (length done + 1) whole_is l (omega (arith, length-append done (opcode ∷ []))) h) l (few_pad (length done))
  where
    whole_is : done ++ opcode ∷ (operands ++ rest) ≡ (done ++ opcode ∷ []) ++ (padding ++ (others ++ rest))
    whole_is = ap (λ t. done ++ opcode ∷ t) (ap (λ t. t ++ rest) e ∙ append_assoc padding others rest) ∙ sym (append_assoc done (opcode ∷ []) (padding ++ (others ++ rest)))

padded_by : (f : Form) (op : Op) (done operands rest : List ℕ) (opcode : ℕ) → SpellsOperands (length done) f op operands → is_padded (done ++ opcode ∷ (operands ++ rest)) (length done) op ≡ true → IsPadded (length done) f operands
padded_by Table op done operands rest opcode s h = switch_padded done operands rest opcode (subst (λ (o : Op). is_padded (done ++ opcode ∷ (operands ++ rest)) (length done) o ≡ true) s.is h)
padded_by Lookup op done operands rest opcode s h = switch_padded done operands rest opcode (subst (λ (o : Op). is_padded (done ++ opcode ∷ (operands ++ rest)) (length done) o ≡ true) s.is h)
padded_by f op done operands rest opcode s h = tt

-- ---- instructions

encoded_is : (done operands rest : List ℕ) (opcode : ℕ) (op : Op) → length done < 65536 → IsSomeAnd (form_of opcode) (λ f. SpellsOperands (length done) f op operands) → is_padded (done ++ opcode ∷ (operands ++ rest)) (length done) op ≡ true
    → encoded done opcode (insn_operands opcode op) ≡ done ++ opcode ∷ operands
encoded_is done operands rest opcode op l s h =
    ap (λ (pc : ℕ). done ++ (opcode ∷ shape_bytes pc (shape_at opcode) (insn_operands opcode op))) (small_back 65536 (length done) l)
    ∙ ap (λ t. done ++ (opcode ∷ t)) (by_form (form_of opcode) (line_holds opcode) s)
  where
    by_form : (o : Option Form) → LineHolds opcode o → IsSomeAnd o (λ f. SpellsOperands (length done) f op operands) → shape_bytes (length done) (option_map shape_of o) (insn_operands opcode op) ≡ operands
    by_form None law s = absurd s
    by_form (Some f) law s = operands_spelled (length done) opcode f op operands l law s (padded_by f op done operands rest opcode s h)

-- the line of an instruction
abbrev pub insn_item : List ℕ → Insn → Item
insn_item bytes insn = Instruction (slice_index_or bytes insn.pc 0) (insn_operands (slice_index_or bytes insn.pc 0) insn.op)

-- the lines of a code
abbrev pub code_items_by : Bool → List ℕ → List Item
code_items_by true bytes = map (insn_item bytes) (insns_of 0 0 bytes)
code_items_by false bytes = CodeBytes bytes ∷ []

abbrev pub code_items : List ℕ → List Item
code_items bytes = code_items_by (are_insns bytes) bytes

insns_lead : (kind : MemberKind) (c : ClassFile) (m : Member) (k : Code) (whole done rest : List ℕ) (insns : List Insn) (part : CodePart) → whole ≡ done ++ rest → length whole < 65536
    → SpellsInsns (length done) insns rest → list_all (λ (insn : Insn). is_padded whole insn.pc insn.op) insns ≡ true → CodeUpTo 1 part
    → LeadsInCode kind 1 part (draft c m (with_bytes k done)) (map (insn_item whole) insns) (draft c m (with_bytes k whole))
insns_lead kind c m k whole done rest [] part w l s h u = record {
  next = part;
  up = u;
  leads = leads_as _ _ _ _ _ _ (λ i. draft c m (with_bytes k (all i))) (stays _ _);
}
  where
    all : done ≡ whole
    all = sym (append-nil done) ∙ ap (λ t. done ++ t) (sym s) ∙ sym w
insns_lead kind c m k whole done rest (insn ∷ insns) part w l s h u =
    let q = and_parts (is_padded whole insn.pc insn.op) (list_all (λ (insn : Insn). is_padded whole insn.pc insn.op) insns) h in
    let more = insns_lead kind c m k whole (done ++ s.0) s.1 insns code_parts.Instructions whole_is l (subst (λ (n : ℕ). SpellsInsns n insns s.1) next_is s.6) q.1 refl in
    record {
      next = more.next;
      up = more.up;
      leads = first_line (places.Code kind part) (places.Code kind code_parts.Instructions) _ (insn_item whole insn) (map (insn_item whole) insns) (places.Code kind more.next) _ (entered _ _ u)
          (subst (λ (bytes : List ℕ). Leads (places.Code kind code_parts.Instructions) (draft c m (with_bytes k bytes)) (map (insn_item whole) insns) (places.Code kind more.next) (draft c m (with_bytes k whole))) (sym (made q.0)) more.leads);
    }
  where
    whole_is : whole ≡ (done ++ s.0) ++ s.1
    whole_is = w ∙ ap (λ t. done ++ t) s.2 ∙ sym (append_assoc done s.0 s.1)

    next_is : insn.next ≡ length (done ++ s.0)
    next_is = s.4 ∙ sym (length-append done s.0)

    parts_are : whole ≡ done ++ s.5.opcode ∷ (s.5.operands ++ s.1)
    parts_are = w ∙ ap (λ t. done ++ t) (s.2 ∙ ap (λ t. t ++ s.1) s.5.is)

    op_at : slice_index_or whole insn.pc 0 ≡ s.5.opcode
    op_at = ap (λ (n : ℕ). slice_index_or whole n 0) s.3 ∙ ap (λ (t : List ℕ). slice_index_or t (length done) 0) parts_are ∙ at_end done s.5.opcode (s.5.operands ++ s.1)

    short : length done < 65536
    short = omega (arith, l, ap length w, length-append done rest)

    padded_at : is_padded whole insn.pc insn.op ≡ true → is_padded (done ++ s.5.opcode ∷ (s.5.operands ++ s.1)) (length done) insn.op ≡ true
    padded_at z = subst (λ (t : List ℕ). is_padded t (length done) insn.op ≡ true) parts_are (subst (λ (n : ℕ). is_padded whole n insn.op ≡ true) s.3 z)

    made : is_padded whole insn.pc insn.op ≡ true → encoded done (slice_index_or whole insn.pc 0) (insn_operands (slice_index_or whole insn.pc 0) insn.op) ≡ done ++ s.0
    made z = ap (λ (b : ℕ). encoded done b (insn_operands b insn.op)) op_at ∙ encoded_is done s.5.operands s.1 s.5.opcode insn.op short s.5.spelled (padded_at z) ∙ ap (λ t. done ++ t) (sym s.5.is)

pub no_fault : {A : Type 0} (o : Option A) → not (is_some o) ≡ true → o ≡ None
no_fault None h = refl
no_fault (Some x) h = absurd (cc)

insns_are : (bytes : List ℕ) → are_insns bytes ≡ true → (not (is_some (code_fault bytes [])) ≡ true) × (list_all (λ (insn : Insn). is_padded bytes insn.pc insn.op) (insns_of 0 0 bytes) ≡ true)
unfolding are_insns
insns_are bytes h = and_parts (not (is_some (code_fault bytes []))) (list_all (λ (insn : Insn). is_padded bytes insn.pc insn.op) (insns_of 0 0 bytes)) h

-- listed instructions are those of the code
pub code_read : (bytes : List ℕ) → AllByRecursion IsByte bytes → are_insns bytes ≡ true → IsCode bytes [] (insns_of 0 0 bytes)
code_read bytes b h = read_is_code bytes [] b (no_fault _ (insns_are bytes h).0)

-- the lines of a code make its bytes
pub code_leads : (kind : MemberKind) (c : ClassFile) (m : Member) (k : Code) (bytes : List ℕ) → AllByRecursion IsByte bytes → LeadsInCode kind 2 code_parts.Start (draft c m (with_bytes k [])) (code_items bytes) (draft c m (with_bytes k bytes))
code_leads kind c m k bytes b = by_test (are_insns bytes) refl
  where
    insns : are_insns bytes ≡ true → LeadsInCode kind 1 code_parts.Start (draft c m (with_bytes k [])) (map (insn_item bytes) (insns_of 0 0 bytes)) (draft c m (with_bytes k bytes))
    insns h = let is = code_read bytes b h in insns_lead kind c m k bytes [] bytes (insns_of 0 0 bytes) code_parts.Start refl (omega (arith, is.short)) is.spelled (insns_are bytes h).1 refl

    by_test : (t : Bool) → are_insns bytes ≡ t → LeadsInCode kind 2 code_parts.Start (draft c m (with_bytes k [])) (code_items_by t bytes) (draft c m (with_bytes k bytes))
    by_test true h = let l = insns h in record { next = l.next; up = code_up_more 1 2 l.next (omega arith) l.up; leads = l.leads }
    by_test false h = record { next = code_parts.Rows; up = refl; leads = first_line _ (places.Code kind code_parts.Rows) _ (CodeBytes bytes) [] _ _ refl (stays _ _) }
