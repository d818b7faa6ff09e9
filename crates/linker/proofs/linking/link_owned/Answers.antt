use Rattle.linker.proofs.linking.link_owned.Goals as goal

pub returns-clause-refused : goal.returns-clause-refused
returns-clause-refused c = rw c.in_ok-scope.ensures at c.link_scoped.ensures.refused
