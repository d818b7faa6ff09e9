use Rattle.std.proofs.Common.{◌≡◌, None, sym, subst, ◌∙◌, rules}
use Rattle.asm_text.{specs.{Places.place_after, declared.items.Item.Item}, proofs.LineLaws.same_said}
use Rattle.assembler.proofs.assembling.read_next.Goals as goal

pub returns-in_default-after : goal.returns-in_default-after
returns-in_default-after c item f says =
    let r = rw c.in-Some.is at c.in_ok-item.ensures in
    let k : place_after c.args.place c.in-Some.item ≡ None = first_of (cc, search rules) in
    subst (λ (x : Item). place_after c.args.place x ≡ None) (same_said c.in-Some.item item r.0 f (sym r.1 ∙ says)) k
