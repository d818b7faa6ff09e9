use Rattle.std.proofs.{Common.refl, lemmas.Result.on_ok_weaker}
use Rattle.widest_paths.proofs.GraphLaws.{adds_one}
use Rattle.widest_paths.proofs.graph.Graph.add.Goals as goal

pub returns : goal.returns
returns c = on_ok_weaker c.push_fan.result (λ k. adds_one c.args.self.now (record c.args.self.now { into = c.push_fan.new.into }) c.args.to c.args.fan c.requires refl k refl) c.push_fan.ensures
