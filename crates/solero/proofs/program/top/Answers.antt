use Rattle.solero.proofs.{Accepted.never_three, Whole.{refused_status, refused_whole, whole}}
use Rattle.solero.proofs.program.top.Goals as goal

pub returns-clause-accepted : goal.returns-clause-accepted
returns-clause-accepted g c = λ asked files read told accepted three. never_three asked files _ _ _ _ _ _ _ _ _ (rw (read, told) at c.work-due.ensures.due) c.deliver.ensures accepted three

pub returns-clause-not_accepted : goal.returns-clause-not_accepted
returns-clause-not_accepted g c = λ asked files read told not_so shelf. refused_status asked files _ _ _ _ _ _ _ _ _ (rw (read, told) at c.work-due.ensures.due) c.deliver.ensures not_so shelf

pub returns-clause-complete : goal.returns-clause-complete
returns-clause-complete g c = λ asked files read told accepted shelf sink. whole asked files _ _ _ _ _ _ _ _ _ (rw (read, told) at c.work-due.ensures.due) c.deliver.ensures accepted shelf sink

pub returns-clause-refused : goal.returns-clause-refused
returns-clause-refused g c = λ asked files read told not_so shelf sink. refused_whole asked files _ _ _ _ _ _ _ _ _ (rw (read, told) at c.work-due.ensures.due) c.deliver.ensures not_so shelf sink
