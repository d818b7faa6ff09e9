-- The members of built-in classes.
use Rattle.std.specs.Prelude.{List, [], ◌∷◌, codes}
use Rattle.jvm_types.specs.declared.class_numbers.TheConstants.{OBJECT_CLASS, PRINT_STREAM_CLASS}
use Rattle.jvm_types.specs.Members.{Entry, public_method, init_of}
use Rattle.jvm_types.specs.declared.program.Target.TheVariants as targets
use Rattle.link_scope.specs.declared.built_in.BuiltIn.{BuiltIn}

abbrev pub entry_of : BuiltIn → Entry
entry_of b =
    record {
      class = b.class;
      name = b.name.now;
      descriptor = b.descriptor.now;
      flags = b.flags;
      target = b.target;
    }

-- those that stand before the throwables'
abbrev pub first_methods : List Entry
first_methods = init_of OBJECT_CLASS
    ∷ public_method OBJECT_CLASS (codes "wait") (codes "()V") targets.Wait
    ∷ public_method OBJECT_CLASS (codes "notify") (codes "()V") targets.Notify
    ∷ public_method OBJECT_CLASS (codes "notifyAll") (codes "()V") targets.NotifyAll
    ∷ public_method PRINT_STREAM_CLASS (codes "println") (codes "(I)V") targets.Println ∷ []
