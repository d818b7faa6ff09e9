-- What a request asks for.
use Rattle.std.specs.Prelude.{option_map, string_bytes}
use Rattle.command_words.specs.Words.{texts}
use Rattle.solero_explain.specs.Command.{Question}
use Rattle.solero_explain.specs.declared.request.Request.{Request}

abbrev pub question_by : Request → Question
question_by r = record {
  what = r.what;
  form = r.form;
  files = texts r.files.items;
  threads = r.threads;
  heap = r.heap;
  cfg = r.cfg;
  order = r.order;
  begin = r.begin;
  part = r.part;
  states = r.states;
  forbidden = r.forbidden;
  expect = option_map (λ name. string_bytes name) r.expect;
}
