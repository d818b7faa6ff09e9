use Rattle.std.proofs.Common.{◌≡◌, None, ◌∙◌, ap}
use Rattle.link_scope.{specs.TextNumbers.{by_bytes, number_of, Numbered}, proofs.{TextLaws.{inserted, is_given, keeps, are_texts, unchanged, Gives}, texts.Texts.give.Goals.In_ok-insert}}
use Rattle.link_scope.proofs.texts.Texts.give.Goals as goal

absent : (c : In_ok-insert) → number_of (by_bytes c.self.inside.numbers.entries) c.args.text.now ≡ None
absent c = ap (λ (t : Numbered). number_of t.numbers c.args.text.now) c.self.view_is ∙ c.requires.absent

gives : (c : In_ok-insert) → Gives (by_bytes c.self.inside.numbers.entries) (by_bytes c.insert.new.self.entries) c.args.text.now c.len-number.result
gives c = inserted c.args.text.now c.len-number.result c.self.inside.numbers c.insert.new.self c.in_ok-insert.ensures.updates

pub invariant_of-self-in_err-insert : goal.invariant_of-self-in_err-insert
invariant_of-self-in_err-insert c = rw (c.in_ok-push.ensures.ok, c.in_err-insert.ensures.err) (unchanged c.self.inside.classes (by_bytes c.self.inside.numbers.entries) c.self.inside.meanings c.in_ok-meaning.meaning c.self.invariant)

pub invariant_of-self-2 : goal.invariant_of-self-2
invariant_of-self-2 c = rw c.in_ok-push.ensures.ok
    (are_texts (by_bytes c.self.inside.numbers.entries) (by_bytes c.insert.new.self.entries) c.args.text.now c.len-number.result (gives c) (absent c) c.self.inside.classes c.self.inside.meanings c.in_ok-meaning.meaning c.len-number.ensures c.self.invariant c.in_ok-meaning.ensures)

pub returns-clause-number : goal.returns-clause-number
returns-clause-number c = is_given (by_bytes c.self.inside.numbers.entries) (by_bytes c.insert.new.self.entries) c.args.text.now c.len-number.result (gives c)

pub returns-clause-kept : goal.returns-clause-kept
returns-clause-kept c = rw (← c.self.view_is) (keeps (by_bytes c.self.inside.numbers.entries) (by_bytes c.insert.new.self.entries) c.args.text.now c.len-number.result (gives c) (absent c))
