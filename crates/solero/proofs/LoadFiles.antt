-- The class of a load, and its file.
use Rattle.std.{proofs.Common.{◌≡◌, ℕ, ◌≤◌, List, [], ◌∷◌, sym, subst}, specs.List.AllZip}
use Rattle.jvm_types.specs.{ClassGrammar.{IsClass, Spells}, declared.class_file.ClassFile.ClassFile}
use Rattle.load_classes.specs.{LoadClass.load_class, Loads.LoadsAreClasses, declared.limits.TheConstants.MOST_METHODS}
use Rattle.command_words.specs.Command.{Asked}
use Rattle.solero.specs.Answer.{IsFileOfLoad, class_of_load}

-- it is the one that is asked for
pub is_of_load : (asked : Asked) (class : ClassFile) → class ≡ load_class asked.size asked.seed → class ≡ class_of_load asked
unfolding class_of_load
is_of_load asked class is = is

-- bytes spell it
pub load_is_class : (asked : Asked) (class : ClassFile) → class ≡ load_class asked.size asked.seed → asked.size ≤ MOST_METHODS → LoadsAreClasses → IsClass class
load_is_class asked class is few law = subst IsClass (sym is) (law asked.size asked.seed few)

-- the one file of these bytes is its file
pub is_file_of_load : (asked : Asked) (class : ClassFile) (bytes : List ℕ) (files : List (List ℕ)) → class ≡ class_of_load asked → Spells bytes class → files ≡ bytes ∷ [] → IsFileOfLoad asked files
is_file_of_load asked class bytes files is spelled only =
    let one : AllZip Spells (bytes ∷ []) (class_of_load asked ∷ []) = (subst (Spells bytes) is spelled, tt) in
    subst (λ (fs : List (List ℕ)). AllZip Spells fs (class_of_load asked ∷ [])) (sym only) one
