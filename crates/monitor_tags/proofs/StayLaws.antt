-- Frames that stay as they are where they meet others.
use Rattle.std.proofs.Common.{◌≡◌, ℕ, suc, ◌+◌, Bool, true, List, drop, Some, refl, sym, ap, ◌∙◌, add-one, ◌&&◌, if◌then◌else◌, slice_get}
use Rattle.checked_program.specs.{LockTags.{TagShape, same_tag, same_tags, meet_tags}, Tagging.tag_meeting, declared.tag.Tag.{Tag, TheVariants.Untagged}}
use Rattle.laws_sections.proofs.TagOrder.{one_list}
use Rattle.monitor_tags.proofs.StackTags.{opened_at}

-- ---- tags

stay_more : (ts us : List Tag) (i : ℕ) (t u : Tag) → slice_get ts i ≡ Some t → slice_get us i ≡ Some u
    → same_tags (drop i ts) (meet_tags (drop i ts) (drop i us)) ≡ (same_tag t (if same_tag t u then t else Untagged) && same_tags (drop (suc i) ts) (meet_tags (drop (suc i) ts) (drop (suc i) us)))
stay_more ts us i t u e f = rw (opened_at ts i t e, opened_at us i u f) refl

pub stay_on : (ts us : List Tag) (i : ℕ) (t u : Tag) (whole : Bool) → slice_get ts i ≡ Some t → slice_get us i ≡ Some u → true ≡ same_tag t (if same_tag t u then t else Untagged)
    → same_tags (drop i ts) (meet_tags (drop i ts) (drop i us)) ≡ whole → same_tags (drop (i + 1) ts) (meet_tags (drop (i + 1) ts) (drop (i + 1) us)) ≡ whole
stay_on ts us i t u whole e f s h =
    rw add-one (ap (λ b. b && same_tags (drop (suc i) ts) (meet_tags (drop (suc i) ts) (drop (suc i) us))) s ∙ sym (stay_more ts us i t u e f) ∙ h)

-- ---- a frame

pub frame_stays : (f g : TagShape) (stack stack' locals locals' : List Tag) → stack ≡ f.stack → stack' ≡ g.stack → locals ≡ f.locals → locals' ≡ g.locals
    → same_tags stack (meet_tags stack stack') ≡ true → same_tags locals (meet_tags locals locals') ≡ true → tag_meeting.meet f g ≡ f
frame_stays f g stack stack' locals locals' a b c d h k =
    let stacks : meet_tags f.stack g.stack ≡ f.stack = sym (one_list f.stack (meet_tags f.stack g.stack) (rw (← a, ← b) h)) in
    let all : meet_tags f.locals g.locals ≡ f.locals = sym (one_list f.locals (meet_tags f.locals g.locals) (rw (← c, ← d) k)) in
    λ i. record { stack = stacks i; locals = all i; held = f.held }
