-- The constants of the code are the numbers that are stated.
use Rattle.std.proofs.Common.{refl}
use Rattle.command_words.proofs.Stated.{are_stated as are_options_stated}
use Rattle.solero.specs.Limits.{AreStated}

pub are_stated : AreStated
are_stated = record {
  files = record { files = refl; bytes = refl; magic = refl; first_version = refl; last_version = refl; text_bytes_end = refl; counted = refl; code_bytes = refl; methods = refl; instructions = refl; no_method = refl };
  flags = record { of_public = refl; of_private = refl; of_static = refl; of_final = refl; of_synchronized = refl; of_native = refl; of_interface = refl; of_abstract = refl };
  machine = record { workers = refl; frames = refl; slots = refl; least_heap = refl; most_heap = refl; records = refl; attempts = refl; flag_from = refl; limit = refl; prints = refl };
  words = record { next_free = refl; next_ticket = refl; next_record = refl; first_record = refl; first_ready = refl; ready = refl; first_class = refl; head = refl; header_classes = refl; system = refl; object = refl; int_array = refl; print_stream = refl; throwable = refl; throwables = refl; class_itself = refl; first_file = refl };
  sizes = record { rounds = refl; methods = refl; events = refl };
  options = are_options_stated;
}
