-- The lines of a class make that class.
use Rattle.std.{proofs.{Common.{◌≡◌, true, List, [], ◌∷◌, ◌++◌, map, drop, refl, sym, ap, arith}, lemmas.List.append-nil}, specs.List.{AllByRecursion, flat_map}}
use Rattle.jvm_types.specs.{ClassGrammar.{IsByte, IsClass, IsFieldAttr, IsMethodAttr, IsField, IsMethod, GapsFit, is_gap}, declared.class_file.{ClassFile.ClassFile, Code.Code, Constant.Constant}}
use Rattle.jvm_types.{specs.declared.class_file.{Constant.TheVariants.Gap, Member.Member, MemberAttr.MemberAttr}, proofs.{EachAfter.all_weaker, PoolLaws.gap_is}}
use Rattle.asm_text.specs.{Drafting.{draft, new_draft, no_class, no_member, empty_code, member_of, started_code, with_member, with_member_attr, with_bytes}, Places.{part_of, class_rank}}
use Rattle.asm_text.specs.declared.items.{Item.{Item, TheVariants.{FileHead, Entry, Interface, MemberHead, Attribute, InitialValue, CodeHead, Row, End}}, MemberKind.MemberKind}
use Rattle.asm_text.specs.declared.places.ClassPart.{ClassPart}
use Rattle.asm_text.proofs.BuildLaws.{Leads, first_line, both_lead, leads_as, stays, entered, UpTo, up_more, LeadsUpTo, code_up_more, one_behind, constants_lead, interfaces_lead, attrs_lead, rows_lead, code_attrs_lead}
use Rattle.asm_text.proofs.CodeBuildLaws.{code_items, code_leads}
use Rattle.jvm_types.specs.declared.class_file.MemberAttr.TheVariants as member_attrs
use Rattle.asm_text.specs.declared.items.MemberKind.TheVariants as kinds
use Rattle.asm_text.specs.declared.places.ClassPart.TheVariants as parts
use Rattle.asm_text.specs.declared.places.CodePart.TheVariants as code_parts
use Rattle.asm_text.specs.declared.places.ListingPlace.TheVariants as places

-- ---- the lines of a class

abbrev pub code_attr_items : Code → List Item
code_attr_items k = CodeHead k.name k.max_stack k.max_locals ∷ (code_items k.bytes ++ (map Row k.rows ++ (map Attribute k.attrs ++ End ∷ [])))

abbrev pub member_attr_items : MemberAttr → List Item
member_attr_items (member_attrs.Code k) = code_attr_items k
member_attr_items (member_attrs.ConstantValue name constant) = InitialValue name constant ∷ []
member_attr_items (member_attrs.Other a) = Attribute a ∷ []

abbrev pub member_items : MemberKind → Member → List Item
member_items kind m = MemberHead kind m.flags m.name m.descriptor ∷ (flat_map member_attr_items m.attrs ++ End ∷ [])

abbrev pub class_items : ClassFile → List Item
class_items c = FileHead c.minor c.major c.flags c.this_class c.super_class
    ∷ (map Entry (drop 1 c.constants) ++ (map Interface c.interfaces ++ (flat_map (member_items kinds.Field) c.fields ++ (flat_map (member_items kinds.Method) c.methods ++ map Attribute c.attrs))))

-- ---- members

-- the bytes of the codes are bytes
abbrev pub HasBytes : MemberAttr → Type 0
HasBytes (member_attrs.Code k) = AllByRecursion IsByte k.bytes
HasBytes attr = Unit {0}

code_attr_leads : (kind : MemberKind) (c : ClassFile) (m : Member) (k : Code) → AllByRecursion IsByte k.bytes
    → Leads (places.Member kind) (draft c m empty_code) (code_attr_items k) (places.Member kind) (draft c (with_member_attr m (member_attrs.Code k)) empty_code)
code_attr_leads kind c m k b =
    let head = started_code k.name k.max_stack k.max_locals in
    let x = code_leads kind c m head k.bytes b in
    let y = rows_lead kind x.next c m (with_bytes head k.bytes) k.rows x.up in
    let z = code_attrs_lead kind y.next c m (record (with_bytes head k.bytes) { rows = k.rows }) k.attrs (code_up_more 2 3 y.next (omega arith) y.up) in
    first_line (places.Member kind) (places.Code kind code_parts.Start) (draft c m empty_code) (CodeHead k.name k.max_stack k.max_locals) _ (places.Member kind) _ refl
    (both_lead _ _ (code_items k.bytes) _ _ _ _ _ x.leads (both_lead _ _ (map Row k.rows) _ _ _ _ _ y.leads (both_lead _ _ (map Attribute k.attrs) _ _ _ _ _ z.leads
    (first_line (places.Code kind z.next) (places.Member kind) (draft c m k) End [] (places.Member kind) _ refl (stays _ _)))))

member_attr_leads : (kind : MemberKind) (c : ClassFile) (m : Member) (a : MemberAttr) → HasBytes a → Leads (places.Member kind) (draft c m empty_code) (member_attr_items a) (places.Member kind) (draft c (with_member_attr m a) empty_code)
member_attr_leads kind c m (member_attrs.Code k) b = code_attr_leads kind c m k b
member_attr_leads kind c m (member_attrs.ConstantValue name constant) b = first_line _ (places.Member kind) _ _ [] _ _ refl (stays _ _)
member_attr_leads kind c m (member_attrs.Other a) b = first_line _ (places.Member kind) _ _ [] _ _ refl (stays _ _)

member_attrs_lead : (kind : MemberKind) (c : ClassFile) (m : Member) (xs : List MemberAttr) → AllByRecursion HasBytes xs
    → Leads (places.Member kind) (draft c m empty_code) (flat_map member_attr_items xs) (places.Member kind) (draft c (record m { attrs = m.attrs ++ xs }) empty_code)
member_attrs_lead kind c m [] b = leads_as _ _ _ _ _ _ (λ i. draft c (record m { attrs = sym (append-nil m.attrs) i }) empty_code) (stays _ _)
member_attrs_lead kind c m (x ∷ xs) b =
    both_lead _ _ (member_attr_items x) _ _ (flat_map member_attr_items xs) _ _ (member_attr_leads kind c m x b.0)
    (leads_as _ _ _ _ _ _ (λ i. draft c (record m { attrs = one_behind m.attrs x xs i }) empty_code) (member_attrs_lead kind c (with_member_attr m x) xs b.1))

member_leads : (kind : MemberKind) (part : ClassPart) (c : ClassFile) (m : Member) → UpTo (class_rank (part_of kind)) part → AllByRecursion HasBytes m.attrs
    → Leads (places.Class part) (draft c no_member empty_code) (member_items kind m) (places.Class (part_of kind)) (draft (with_member kind c m) no_member empty_code)
member_leads kind part c m u b =
    first_line (places.Class part) (places.Member kind) (draft c no_member empty_code) (MemberHead kind m.flags m.name m.descriptor) _ _ _ (entered _ _ u)
    (both_lead _ _ (flat_map member_attr_items m.attrs) _ _ (End ∷ []) _ _ (member_attrs_lead kind c (member_of m.flags m.name m.descriptor) m.attrs b)
    (first_line (places.Member kind) (places.Class (part_of kind)) (draft c m empty_code) End [] _ _ refl (stays _ _)))

abbrev pub with_members : MemberKind → ClassFile → List Member → ClassFile
with_members kinds.Field c ms = record c { fields = c.fields ++ ms }
with_members kinds.Method c ms = record c { methods = c.methods ++ ms }

none_more : (kind : MemberKind) (c : ClassFile) → c ≡ with_members kind c []
none_more kinds.Field c = λ i. record c { fields = sym (append-nil c.fields) i }
none_more kinds.Method c = λ i. record c { methods = sym (append-nil c.methods) i }

one_more : (kind : MemberKind) (c : ClassFile) (m : Member) (ms : List Member) → with_members kind (with_member kind c m) ms ≡ with_members kind c (m ∷ ms)
one_more kinds.Field c m ms = λ i. record c { fields = one_behind c.fields m ms i }
one_more kinds.Method c m ms = λ i. record c { methods = one_behind c.methods m ms i }

own_part : (kind : MemberKind) → UpTo (class_rank (part_of kind)) (part_of kind)
own_part kinds.Field = refl
own_part kinds.Method = refl

members_lead : (kind : MemberKind) (part : ClassPart) (c : ClassFile) (ms : List Member) → UpTo (class_rank (part_of kind)) part → AllByRecursion (λ m. AllByRecursion HasBytes m.attrs) ms
    → LeadsUpTo (class_rank (part_of kind)) part (draft c no_member empty_code) (flat_map (member_items kind) ms) (draft (with_members kind c ms) no_member empty_code)
members_lead kind part c [] u b = record { next = part; up = u; leads = leads_as _ _ _ _ _ _ (λ i. draft (none_more kind c i) no_member empty_code) (stays _ _) }
members_lead kind part c (m ∷ ms) u b =
    let more = members_lead kind (part_of kind) (with_member kind c m) ms (own_part kind) b.1 in
    record {
      next = more.next;
      up = more.up;
      leads = both_lead _ _ (member_items kind m) _ _ (flat_map (member_items kind) ms) _ _ (member_leads kind part c m u b.0)
          (leads_as _ _ _ _ _ _ (λ i. draft (one_more kind c m ms i) no_member empty_code) more.leads);
    }

-- ---- classes

gap_first : (cs : List Constant) → GapsFit true cs → Gap ∷ drop 1 cs ≡ cs
gap_first [] h = absurd (cc)
gap_first (x ∷ cs) h = ap (λ (y : Constant). y ∷ cs) (sym (gap_is x h.0))

field_attr_bytes : (pool : List Constant) (a : MemberAttr) → IsFieldAttr pool a → HasBytes a
field_attr_bytes pool (member_attrs.Code k) h = absurd h
field_attr_bytes pool (member_attrs.ConstantValue name constant) h = tt
field_attr_bytes pool (member_attrs.Other a) h = tt

method_attr_bytes : (pool : List Constant) (a : MemberAttr) → IsMethodAttr pool a → HasBytes a
method_attr_bytes pool (member_attrs.Code k) h = h.bytes
method_attr_bytes pool (member_attrs.ConstantValue name constant) h = absurd h
method_attr_bytes pool (member_attrs.Other a) h = tt

fields_bytes : (pool : List Constant) (ms : List Member) → AllByRecursion (IsField pool) ms → AllByRecursion (λ m. AllByRecursion HasBytes m.attrs) ms
fields_bytes pool ms h = all_weaker (IsField pool) (λ m. AllByRecursion HasBytes m.attrs) (λ m f. all_weaker (IsFieldAttr pool) HasBytes (field_attr_bytes pool) m.attrs f.attrs.each) ms h

methods_bytes : (pool : List Constant) (ms : List Member) → AllByRecursion (IsMethod pool) ms → AllByRecursion (λ m. AllByRecursion HasBytes m.attrs) ms
methods_bytes pool ms h = all_weaker (IsMethod pool) (λ m. AllByRecursion HasBytes m.attrs) (λ m f. all_weaker (IsMethodAttr pool) HasBytes (method_attr_bytes pool) m.attrs f.member.attrs.each) ms h

-- the lines of a class make it, and the text may end behind them
pub record Makes (c : ClassFile) : Type 0 where
  pub next : ClassPart
  pub leads : Leads places.Start new_draft (class_items c) (places.Class next) (draft c no_member empty_code)

pub class_leads : (c : ClassFile) → IsClass c → Makes c
class_leads c is =
    let c0 : ClassFile = record no_class { minor = c.minor; major = c.major; flags = c.flags; this_class = c.this_class; super_class = c.super_class } in
    let x = constants_lead parts.Constants c0 (drop 1 c.constants) refl in
    let c1 : ClassFile = record c0 { constants = Gap ∷ drop 1 c.constants } in
    let y = interfaces_lead x.next c1 c.interfaces (up_more 0 1 x.next (omega arith) x.up) in
    let c2 : ClassFile = record c1 { interfaces = c.interfaces } in
    let z = members_lead kinds.Field y.next c2 c.fields (up_more 1 2 y.next (omega arith) y.up) (fields_bytes c.constants c.fields is.fields.each) in
    let c3 : ClassFile = record c2 { fields = c.fields } in
    let v = members_lead kinds.Method z.next c3 c.methods (up_more 2 3 z.next (omega arith) z.up) (methods_bytes c.constants c.methods is.methods.each) in
    let c4 : ClassFile = record c3 { methods = c.methods } in
    let w = attrs_lead v.next c4 c.attrs (up_more 3 4 v.next (omega arith) v.up) in
    record {
      next = w.next;
      leads = first_line places.Start (places.Class parts.Constants) new_draft (FileHead c.minor c.major c.flags c.this_class c.super_class) _ (places.Class w.next) _ refl
          (both_lead _ _ (map Entry (drop 1 c.constants)) _ _ _ _ _ x.leads (both_lead _ _ (map Interface c.interfaces) _ _ _ _ _ y.leads
          (both_lead _ _ (flat_map (member_items kinds.Field) c.fields) _ _ _ _ _ z.leads (both_lead _ _ (flat_map (member_items kinds.Method) c.methods) _ _ _ _ _ v.leads
          (leads_as _ _ _ _ _ _ (λ i. draft (record c { constants = gap_first c.constants is.pool.gaps i }) no_member empty_code) w.leads)))));
    }
