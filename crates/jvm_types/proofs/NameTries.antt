-- What the definitions of class names, descriptors, members and the layout say of small cases, by computing.
use Rattle.std.proofs.Common.{◌≡◌, ℕ, pos, negsuc, true, false, List, [], ◌∷◌, Some, None, refl, replicate, codes}
use Rattle.jvm_types.specs.{ClassNames.{class_number, named_class, can_be_made}, Descriptors.{field_kind, method_signature}, Layout.{fixed_words, laid_out_fields}}
use Rattle.jvm_types.specs.{Members.{built_in_methods, look_up, field_rule, call_rule}, declared.{call.Call.TheVariants.{Virtual, Special, Static}, class_file.ClassFile.ClassFile}}
use Rattle.jvm_types.specs.declared.class_file.{Constant.{Constant, TheVariants.{Gap, Utf8, Integer, Float, Class}}, Member.{Member as ClassMember}, MemberAttr.TheVariants.ConstantValue}
use Rattle.jvm_types.specs.declared.refusal.LRule.TheVariants.{L2, L3, L7}
use Rattle.jvm_types.specs.declared.program.Kind.TheVariants as kinds

-- two classes, A and B
abbrev names : List (List ℕ)
names = codes "A" ∷ codes "B" ∷ []

-- ---- class numbers

object : class_number names (codes "java/lang/Object") ≡ Some 1
object = refl

int_array : class_number names (codes "[I") ≡ Some 2
int_array = refl

interrupted : class_number names (codes "java/lang/InterruptedException") ≡ Some 8
interrupted = refl

last_built_in : class_number names (codes "java/lang/StackOverflowError") ≡ Some 15
last_built_in = refl

second_file : class_number names (codes "B") ≡ Some 18
second_file = refl

no_number : class_number names (codes "java/lang/System") ≡ None
no_number = refl

no_file : named_class names (codes "C") ≡ None
no_file = refl

system : named_class names (codes "java/lang/System") ≡ Some 0
system = refl

not_made : (can_be_made 0 ∷ can_be_made 2 ∷ can_be_made 3 ∷ can_be_made 16 ∷ []) ≡ false ∷ false ∷ false ∷ false ∷ []
not_made = refl

made : (can_be_made 1 ∷ can_be_made 4 ∷ can_be_made 15 ∷ can_be_made 17 ∷ []) ≡ true ∷ true ∷ true ∷ true ∷ []
made = refl

-- ---- descriptors

types : (field_kind names (codes "I") ∷ field_kind names (codes "Z") ∷ field_kind names (codes "[I") ∷ field_kind names (codes "LB;") ∷ field_kind names (codes "Ljava/io/PrintStream;") ∷ [])
    ≡ Some kinds.Int ∷ Some kinds.Bool ∷ Some (kinds.Ref 2) ∷ Some (kinds.Ref 18) ∷ Some (kinds.Ref 3) ∷ []
types = refl

-- other types and classes, and texts that are no type
no_types : (field_kind names (codes "J") ∷ field_kind names (codes "[Z") ∷ field_kind names (codes "[[I") ∷ field_kind names (codes "[LA;")
    ∷ field_kind names (codes "LC;") ∷ field_kind names (codes "Ljava/lang/System;") ∷ field_kind names (codes "L[I;")
    ∷ field_kind names (codes "") ∷ field_kind names (codes "II") ∷ field_kind names (codes "LA") ∷ field_kind names (codes "LA;;") ∷ field_kind names (codes "V") ∷ [])
    ≡ replicate 12 None
no_types = refl

no_arguments : method_signature names (codes "()V") ≡ Some (record { args = []; result = None })
no_arguments = refl

all_arguments : method_signature names (codes "(I[IZLA;)LB;") ≡ Some (record { args = kinds.Int ∷ kinds.Ref 2 ∷ kinds.Bool ∷ kinds.Ref 17 ∷ []; result = Some (kinds.Ref 18) })
all_arguments = refl

no_signatures : (method_signature names (codes "I") ∷ method_signature names (codes "()") ∷ method_signature names (codes "(V)V") ∷ method_signature names (codes "(I")
    ∷ method_signature names (codes "()VV") ∷ method_signature names (codes "(LC;)V") ∷ method_signature names (codes "([)V") ∷ method_signature names (codes "()J") ∷ method_signature names (codes "(LA)V") ∷ [])
    ≡ replicate 9 None
no_signatures = refl

-- a class whose name has a `)` in it
bracket : method_signature (codes "a)b" ∷ []) (codes "(La)b;)V") ≡ Some (record { args = kinds.Ref 17 ∷ []; result = None })
bracket = refl

-- ---- members

-- `wait` is found from every class; an `<init>` in the named class alone
wait_of_file : look_up built_in_methods 17 (codes "wait") (codes "()V") ≡ look_up built_in_methods 1 (codes "wait") (codes "()V")
wait_of_file = refl

no_init : look_up built_in_methods 17 (codes "<init>") (codes "()V") ≡ None
no_init = refl

no_wait : look_up built_in_methods 17 (codes "wait") (codes "(I)V") ≡ None
no_wait = refl

-- a private final instance field (18) and a private final static one (26) of class 17
from_outside : field_rule false true (record { class = 18; name = codes "<init>" }) 17 18 ≡ Some L3
from_outside = refl

read_inside : field_rule false false (record { class = 17; name = codes "get" }) 17 18 ≡ None
read_inside = refl

written_inside : field_rule false true (record { class = 17; name = codes "set" }) 17 18 ≡ Some L7
written_inside = refl

written_by_init : field_rule false true (record { class = 17; name = codes "<init>" }) 17 18 ≡ None
written_by_init = refl

written_by_class_init : field_rule true true (record { class = 17; name = codes "<clinit>" }) 17 26 ≡ None
written_by_class_init = refl

static_by_init : field_rule true true (record { class = 17; name = codes "<init>" }) 17 26 ≡ Some L7
static_by_init = refl

not_static : field_rule true false (record { class = 17; name = codes "get" }) 17 18 ≡ Some L2
not_static = refl

-- private instance methods (2) and others (1)
own_private : (call_rule Special (record { class = 17; name = codes "m" }) 17 (codes "p") 2 ∷ call_rule Virtual (record { class = 17; name = codes "m" }) 17 (codes "p") 2 ∷ []) ≡ None ∷ None ∷ []
own_private = refl

other_private : (call_rule Special (record { class = 18; name = codes "m" }) 17 (codes "p") 2 ∷ call_rule Virtual (record { class = 18; name = codes "m" }) 17 (codes "p") 2 ∷ []) ≡ Some L2 ∷ Some L3 ∷ []
other_private = refl

own_public : call_rule Special (record { class = 17; name = codes "m" }) 17 (codes "p") 1 ≡ Some L2
own_public = refl

inits : (call_rule Special (record { class = 18; name = codes "m" }) 17 (codes "<init>") 1 ∷ call_rule Special (record { class = 18; name = codes "m" }) 17 (codes "<init>") 2
    ∷ call_rule Virtual (record { class = 18; name = codes "m" }) 17 (codes "<init>") 1 ∷ call_rule Static (record { class = 17; name = codes "m" }) 17 (codes "<clinit>") 8 ∷ [])
    ≡ None ∷ Some L3 ∷ Some L2 ∷ Some L2 ∷ []
inits = refl

-- ---- layout

-- I, Z, 7 as an Integer, 2 as a Float, and the name A
abbrev pool : List Constant
pool = Gap ∷ Utf8 (codes "I") ∷ Utf8 (codes "Z") ∷ Integer (pos 7) ∷ Float 2 ∷ Utf8 (codes "A") ∷ Class 5 ∷ []

abbrev field : (flags descriptor : ℕ) → ClassMember
field flags descriptor = record { flags = flags; name = 1; descriptor = descriptor; attrs = ConstantValue 0 3 ∷ ConstantValue 0 4 ∷ [] }

abbrev with_fields : List ClassMember → ClassFile
with_fields fields = record { minor = 0; major = 50; constants = pool; flags = 0; this_class = 6; super_class = 0; interfaces = []; fields = fields; methods = []; attrs = [] }

no_statics : fixed_words (with_fields [] ∷ []) ≡ 2070
no_statics = refl

some_statics : fixed_words (with_fields (field 8 1 ∷ field 0 1 ∷ []) ∷ with_fields (field 8 1 ∷ []) ∷ []) ≡ 2074
some_statics = refl

-- instance fields count up from 0, static ones from the third word of their class; a static field starts with its constant
laid_out : laid_out_fields names (with_fields (field 0 1 ∷ field 8 1 ∷ field 0 2 ∷ field 8 2 ∷ []) ∷ with_fields (field 8 1 ∷ []) ∷ [])
    ≡ record { class = 17; flags = 0; kind = kinds.Int; index = 0; start = pos 0 }
    ∷ record { class = 17; flags = 8; kind = kinds.Int; index = 2070; start = pos 7 }
    ∷ record { class = 17; flags = 0; kind = kinds.Bool; index = 1; start = pos 0 }
    ∷ record { class = 17; flags = 8; kind = kinds.Bool; index = 2071; start = pos 1 }
    ∷ record { class = 18; flags = 8; kind = kinds.Int; index = 2074; start = pos 7 } ∷ []
laid_out = refl

-- the first ConstantValue of a static field counts, and an Integer alone; of a boolean its low bit
abbrev start_pool : List Constant
start_pool = Gap ∷ Utf8 (codes "I") ∷ Utf8 (codes "Z") ∷ Integer (negsuc 0) ∷ Float 2 ∷ Utf8 (codes "A") ∷ Class 5 ∷ Integer (negsuc 1) ∷ Utf8 (codes "[I") ∷ []

abbrev start_field : (flags descriptor first second : ℕ) → ClassMember
start_field flags descriptor first second = record { flags = flags; name = 1; descriptor = descriptor; attrs = ConstantValue 0 first ∷ ConstantValue 0 second ∷ [] }

abbrev start_class : List ClassMember → ClassFile
start_class fields = record { minor = 0; major = 50; constants = start_pool; flags = 0; this_class = 6; super_class = 0; interfaces = []; fields = fields; methods = []; attrs = [] }

start_values : laid_out_fields names (start_class (start_field 8 2 3 4 ∷ start_field 8 2 7 3 ∷ start_field 8 1 4 3 ∷ start_field 8 8 3 3 ∷ start_field 0 1 3 3 ∷ start_field 8 1 3 4 ∷ []) ∷ [])
    ≡ record { class = 17; flags = 8; kind = kinds.Bool; index = 2070; start = pos 1 }
    ∷ record { class = 17; flags = 8; kind = kinds.Bool; index = 2071; start = pos 0 }
    ∷ record { class = 17; flags = 8; kind = kinds.Int; index = 2072; start = pos 0 }
    ∷ record { class = 17; flags = 8; kind = kinds.Ref 2; index = 2073; start = pos 0 }
    ∷ record { class = 17; flags = 0; kind = kinds.Int; index = 0; start = pos 0 }
    ∷ record { class = 17; flags = 8; kind = kinds.Int; index = 2074; start = negsuc 0 } ∷ []
start_values = refl
