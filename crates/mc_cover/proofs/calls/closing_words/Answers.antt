use Rattle.std.proofs.Common.{◌≡◌, ℕ, ◌+◌, ◌%◌, ◌<◌, length, get_or, sym, ap, ◌∙◌, subst, arith}
use Rattle.std.specs.Prelude.{slice_set, []}
use Rattle.std.specs.Int.{bit_at}
use Rattle.std.specs.Slots.{slots_items}
use Rattle.std.proofs.lemmas.List.{length-set, get_or-set_same, get_or-set_other}
use mathlib.Core.Logic.{dite}
use native.Mathlib.Decide.{ℕ_discrete}
use Rattle.atomic_table.specs.Table.{Final, Seen}
use Rattle.mc_core.specs.declared.shape.Shape.{Shape}
use Rattle.mc_core.specs.Shape.{place}
use Rattle.mc_cover.specs.Rule.{IsKept}
use Rattle.mc_cover.specs.Tells.{SeenIsHit}
use Rattle.mc_cover.specs.Closed.{AreInRange, HasHits}
use Rattle.mc_cover.specs.Model.{CoverView, PassView}
use Rattle.mc_cover.proofs.Sums.{at_get_or}
use Rattle.mc_cover.proofs.Bits.{place_within, after_first}
use Rattle.mc_cover.proofs.Ends.{IsEnd, closed}
use Rattle.mc_cover.proofs.calls.closing_words.Goals as goal
use Rattle.mc_cover.proofs.calls.closing_words.Goals.{After-close_with-closed}

-- what is known of the words that the table gives back
the_end : (c : After-close_with-closed) → IsEnd c.cover.inside.shape c.pass.inside.seat.me.0 (slots_items c.close_with-closed.result.words)
the_end c =
    let p = c.pass.inside.seat in
    let f = subst (λ (key : Shape). Final (Seen (IsKept key) p.id p.me.0) (slots_items c.close_with-closed.result.words) (slots_items c.close_with-closed.result.slots)) c.cover.invariant.keyed c.close_with-closed.ensures.values.2 in
    let is_opener = ap (λ (x : PassView). x.view.role) c.pass.view_is ∙ c.requires.opener in
    let all = subst (λ (x : PassView). x.view.forks ≡ x.view.joined) (sym c.pass.view_is) c.requires.joined in
    closed c.cover.inside.shape p.id p.me.0 _ _ f is_opener all

pub free-requires : goal.free-requires
free-requires c j less = let n = c.close_with-closed.ensures.counts in let z = c.cover.invariant.slots in absurd (omega arith)

pub loop-i-preserved : goal.loop-i-preserved
loop-i-preserved c =
    let i = c.loop-i.i in
    let ws = c.loop-i.room.items in
    let read = at_get_or (slots_items c.close_with-closed.result.words) (i + 1) c.word.result 0 c.word.ensures in
    let long = c.loop-i.invariant.long in
    let inside : i < length ws = let e = c.len-i-end.ensures in omega arith in record {
      long = length-set ws i c.word.result ∙ long;
      copied = λ j less. dite (ℕ_discrete j i)
          (λ same. subst (λ (m : ℕ). get_or (slice_set ws i c.word.result) m 0 ≡ get_or (slots_items c.close_with-closed.result.words) (m + 1) 0) (sym same) (get_or-set_same ws i c.word.result 0 inside ∙ sym read))
          (λ ne. get_or-set_other ws i j c.word.result 0 ne ∙ c.loop-i.invariant.copied j (omega arith));
    }

pub returns-clause-bits : goal.returns-clause-bits
returns-clause-bits c b t hb ht =
    let k = c.cover.inside.shape in
    let ws = slots_items c.close_with-closed.result.words in
    let room = c.cover.invariant.room_is in
    let e = c.len-i-end.ensures in
    let ended = the_end (goal.at.returns-clause-bits c).After-close_with-closed in
    let inside : HasHits k c.pass.inside.seat.me.0.hits [] c.loop-i.room.items = λ b t hb ht.
    let wide = place_within k b t hb ht in
    let within : place k b t < c.loop-i.i = omega arith in
    ap (λ (x : ℕ). bit_at x (t % 64)) (c.loop-i.invariant.copied (place k b t) within ∙ sym (after_first ws (place k b t) 0)) ∙ ended.bits b t hb ht in
    subst (λ (x : CoverView × PassView). HasHits x.0.shape x.1.view.hits [] c.loop-i.room.items) (λ i. (c.cover.view_is i, c.pass.view_is i)) inside b t hb ht

pub returns-clause-in_range : goal.returns-clause-in_range
returns-clause-in_range c =
    let ended = the_end (goal.at.returns-clause-in_range c).After-close_with-closed in
    subst (λ (x : CoverView × PassView). AreInRange x.0.shape x.1.view.hits) (λ i. (c.cover.view_is i, c.pass.view_is i)) ended.in_range

pub returns-clause-seen : goal.returns-clause-seen
returns-clause-seen c =
    let ended = the_end (goal.at.returns-clause-seen c).After-close_with-closed in
    subst (λ (x : PassView). SeenIsHit x.view) c.pass.view_is ended.seen
