-- A seat with the share 1 has taken in all others.
use Rattle.std.{proofs.{Common.{◌≡◌, ℕ, ◌*◌, ◌-◌, ◌^◌, ◌≤◌, inl, inr, List, refl, sym, ap, subst, ◌∙◌, arith, slice_index}, lemmas.Nat.{pow-add, pow_pos}}, specs.List.sum_by}
use Rattle.solero_cell.specs.{Calls.{IsOnlySeat, IsAtEnd, IsWhole}, CellRules.{ViewKnowledge, SeatFits, ShareHistory, HaveDepth, HasOneHistory, in_parts}, CellViews.spent, Histories.History, Moments.{moment_now, time_of}, declared.views.{Moment.{Moment, TheVariants.AtRest}, Record.Record}}
use Rattle.solero_cell.{specs.declared.views.View.View, proofs.{Allowing.Seat, Looking.looks_kept, Made.looked, ReadSteps.{Looks, its}, Shares.pos_times, Sums.{at_most, others_none}}}
use lib.ListN.{get_elem?}
use mathlib.Core.Option.{some}

abbrev depth_of : View → ℕ
depth_of v = v.share.depth

abbrev parts_of : ℕ → View → ℕ
parts_of depth v = in_parts depth v.share

whole_at : (n d depth : ℕ) → n ≡ 2 ^ d → d ≤ depth → n * 2 ^ (depth - d) ≡ 2 ^ depth
whole_at n d depth e le = ap (λ k. k * 2 ^ (depth - d)) e ∙ sym (pow-add 2 d (depth - d)) ∙ ap (λ k. 2 ^ k) (omega arith)

nobody : (depth : ℕ) (Knows : View → Type 0) (u : View) → parts_of depth u ≡ 0 → SeatFits Knows u → u ≡ spent
nobody depth Knows u none (inl e) = e
nobody depth Knows u none (inr k) =
    let some_parts = pos_times u.share.parts (2 ^ (depth - u.share.depth)) k.0 (pow_pos (depth - u.share.depth)) in
    absurd (omega (arith, none, some_parts))

-- of any cell
pub alone : (o : Record) (h : History) (Knows : View → Type 0) (time : Moment → ℕ) (now : Moment) (views : List View) (number : ℕ) (v : View)
    → ShareHistory o h Knows time now views → get_elem? views number ≡ some v → IsWhole v.share → IsOnlySeat number views
alone o h Knows time now views number v s here whole i u apart at =
    let depth : ℕ = sum_by depth_of views in
    let have : HaveDepth depth views = λ j w g. at_most depth_of views j w g in
    let all = s.whole depth have in
    let mine = whole_at v.share.parts v.share.depth depth whole (have number v here) in
    let most : sum_by (parts_of depth) views ≤ parts_of depth v = omega (arith, all, mine) in
    nobody depth Knows u (others_none (parts_of depth) views number i v u here most apart at) (s.each i u at)

-- a load shows this to a seat
pub end_step : (o : Record) {number : ℕ} {v : View} → v.opening ≡ o
    → (words : List ℕ) (seat : Seat number v) → HasOneHistory o words seat.views → Looks o words seat.views number (λ w. (w ≡ v) × IsAtEnd v)
end_step o {number} {v} is words seat s =
    let views = seat.views in
    let mine = its o words seat s in
    let now : Moment = moment_now o s.history (slice_index words 0) in
    let kept = looks_kept time_of (AtRest o.count) now now seat v s.seats.looks refl refl in
    let shows : HasOneHistory v.opening words views = subst (λ (p : Record). HasOneHistory p words views) (sym is) s in (
      v,
      looked o words seat v s refl refl refl mine kept,
      (
        refl,
        record {
          words = words;
          views = views;
          number = number;
          shows = shows;
          here = seat.at;
          whole = alone v.opening shows.history (ViewKnowledge v.opening shows.history words) time_of (moment_now v.opening shows.history (slice_index words 0)) views number v shows.seats seat.at;
        },
      ),
    )
