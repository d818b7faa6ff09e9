use Rattle.std.proofs.{Common.{refl, sym, subst}, lemmas.Bool.Decides.not_from_Decides}
use Rattle.jvm_types.specs.declared.class_file.ClassFile.{ClassFile}
use Rattle.asm_text.specs.ClassLines.{Lists}
use Rattle.assembler.proofs.assembling.assembled.Goals as goal

pub returns-else-branch-clause-is : goal.returns-else-branch-clause-is
returns-else-branch-clause-is c = (refl, c.requires.formed, λ d l. not_from_Decides _ c.in_ok-lists.ensures c.if-branch.false (subst (λ (x : ClassFile). Lists c.args.text.now x) (sym (c.requires.only d l)) l))

pub returns-else-branch-clause-listed : goal.returns-else-branch-clause-listed
returns-else-branch-clause-listed c d l = absurd (not_from_Decides _ c.in_ok-lists.ensures c.if-branch.false (subst (λ (x : ClassFile). Lists c.args.text.now x) (sym (c.requires.only d l)) l))
