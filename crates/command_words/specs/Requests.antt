-- What a request asks for.
use Rattle.command_words.specs.Command.{Asked}
use Rattle.command_words.specs.Words.{texts}
use Rattle.command_words.specs.declared.request.Request.{Request}

abbrev pub asked_by : Request → Asked
asked_by r = record {
  mode = r.mode;
  files = texts r.files.items;
  threads = r.threads;
  heap = r.heap;
  cfg = r.cfg;
  order = r.order;
  memory = r.memory;
  size = r.size;
  seed = r.seed;
  events = r.events;
  green = r.green;
}
