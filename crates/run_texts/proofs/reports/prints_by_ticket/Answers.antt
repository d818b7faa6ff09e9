use Rattle.std.proofs.{Common.{◌∙◌, ap, rules}, lemmas.List.Sorted.answers_always}
use Rattle.run_texts.{specs.Report.by_ticket, proofs.ByTicket.sorted_is_by_ticket}
use Rattle.run_texts.proofs.reports.prints_by_ticket.Goals as goal

pub returns : goal.returns
returns c =
    let sorted = c.in_ok-sort_by_key.ensures.sorted (λ p. p.ticket) (answers_always _ _ _ (λ f a r g h. search rules)) in
    let stable = c.sort_by_key.ensures.stable (λ p. p.ticket) (answers_always _ _ _ (λ f a r g h. search rules)) in
    sorted_is_by_ticket c.in_ok-prints.prints.items c.sort_by_key.new.self.items sorted stable ∙ ap by_ticket c.in_ok-prints.ensures
