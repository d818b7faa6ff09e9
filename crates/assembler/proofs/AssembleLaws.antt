-- What assembling a text answers, by its draft.
use Rattle.std.proofs.{Common.{◌≡◌, ℕ, Bool, true, false, List, Result, Ok, Err, refl, sym, subst, ◌∙◌, bytes_eq, Decides, IfOk}, lemmas.Slice.Eq.bytes_eq-Decides}
use Rattle.jvm_types.{specs.{ClassGrammar.IsClass, Spelling.class_file, declared.{class_file.ClassFile.ClassFile, refusal.ARule.TheVariants.{A1, A2}}}, proofs.CountLaws.classes_fit}
use Rattle.class_writer.specs.{Writing.Answers, declared.error.WriteError.WriteError}
use Rattle.asm_text.specs.{ClassLines.Lists, declared.drafts.Draft.Draft}
use Rattle.assembler.specs.{Assembling.{Assembles, ListsNone}, Drafted.{IsDrafted, IsWholeDraft, IsVerdict}, declared.asm_error.AsmError.{AsmError, TheVariants.{Memory, Refused}}}
use Rattle.assembler.proofs.ListingLaws.{draft_is, listings_formed}
use Rattle.class_writer.specs.declared.error.WriteError.TheVariants as write_errors

pub drafted_error : (text : List ℕ) (e : AsmError) → IsDrafted text (Err e) → Assembles text (Err e)
drafted_error text Memory h = tt
drafted_error text (Refused A1 at) h = h
drafted_error text (Refused A2 at) h = absurd h

pub only_memory : (text : List ℕ) (e : AsmError) → IsDrafted text (Err e) → (c : ClassFile) → Lists text c → e ≡ Memory
only_memory text Memory h c l = refl
only_memory text (Refused A1 at) h c l = absurd (listings_formed text c at l h)
only_memory text (Refused A2 at) h c l = absurd h

pub lists_none : (text : List ℕ) (d : Draft) → IsWholeDraft text d → (Lists text d.class → ⊥) → ListsNone text
lists_none text d w never c h = never (subst (λ (x : ClassFile). Lists text x) (sym (draft_is text d c w h)) h)

-- ---- the test

no_class : (c : ClassFile) (is : Bool) → (IsClass c → ⊥) → is ≡ false → Decides is (IsClass c)
no_class c true h e = absurd (cc)
no_class c false h e = (λ t. absurd (cc), λ i. absurd (h i))

-- whether the class was written
pub told : {E : Type 0} (c : ClassFile) (answer : Result (List ℕ) WriteError) (r : Result Bool E) → Answers c answer → IsVerdict answer r → IfOk r (λ is. Decides is (IsClass c))
told c answer (Err e) h v = tt
told c (Ok bytes) (Ok is) h v = (λ t. h.is, λ i. v)
told c (Err write_errors.Memory) (Ok is) h v = absurd v
told c (Err write_errors.TooLarge) (Ok is) h v = no_class c is (λ i. h (classes_fit c i)) v
told c (Err write_errors.NoSpelling) (Ok is) h v = no_class c is (λ i. h.1 (class_file c) (record { spelled = refl; is = i })) v

pub lists_by : (text listed : List ℕ) (c : ClassFile) → Lists listed c → Decides (bytes_eq text listed) (Lists text c)
lists_by text listed c h = (
  λ e. record { listed = (bytes_eq-Decides text listed).0 e ∙ h.listed; is = h.is },
  λ l. (bytes_eq-Decides text listed).1 (l.listed ∙ sym h.listed),
)

pub lists_never : (text : List ℕ) (c : ClassFile) → Decides false (IsClass c) → Decides false (Lists text c)
lists_never text c d = (λ e. absurd (cc), λ l. d.1 l.is)
