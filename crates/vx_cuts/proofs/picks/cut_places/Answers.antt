-- The picks are cut.
use Rattle.std.proofs.Common.{◌≡◌, ◌<◌, ℕ, length, get_or, None, refl, ap, ◌∙◌, arith, rules, slice_index}
use Rattle.std.proofs.lemmas.List.{length-map}
use Rattle.vx_take.specs.Picks.{pick_of, picks_of}
use Rattle.vx_cuts.proofs.PutPicks.{all_before, ends_are, named_of}
use Rattle.vx_cuts.proofs.picks.cut_places.Goals as goal

pub put_own-requires-clause-ends : goal.put_own-requires-clause-ends
put_own-requires-clause-ends c = λ k h.
    ap (λ l. slice_index l k) c.add_up.ensures
    ∙ ends_are c.args.bounds.now (picks_of c.args.places.now) c.place_picks.new.counts (length c.args.ends.now) (omega arith) c.place_picks.ensures.counts k (omega arith)

pub put_own-requires-clause-room : goal.put_own-requires-clause-room
put_own-requires-clause-room c =
    let many : length c.add_up.new.counts ≡ length c.args.ends.now = omega arith in
    let all = all_before c.args.bounds.now (picks_of c.args.places.now) c.place_picks.new.counts (length c.add_up.new.counts) (omega arith) (λ k h. c.place_picks.ensures.counts k (omega arith)) in
    grind (arith, all, many)

pub returns : goal.returns
returns c =
    let bounds = c.args.bounds.now in
    let picks = picks_of c.args.places.now in
    let done = c.untold-2.ensures.status in
    let long = length-map c.args.places.now pick_of in
    let many : length c.add_up.new.counts ≡ length c.args.ends.now = omega arith in
    let ends = λ (k : ℕ) (h : k < length c.add_up.new.counts). ap (λ l. slice_index l k) c.add_up.ensures ∙ ends_are bounds picks c.place_picks.new.counts (length c.args.ends.now) (omega arith) c.place_picks.ensures.counts k (omega arith) in
    record {
      lengths = λ h. grind (arith, h);
      unlike = λ h. absurd (omega (arith, done, h));
      no_bounds = λ h. absurd (omega (arith, done, h));
      beyond = λ h. absurd (omega (arith, done, h));
      told = λ h _ _. absurd (h done);
      untold = λ _. c.untold-2.ensures.value;
      bounds_are = λ _. search rules;
      inside = λ _. search rules;
      cut = λ _. record {
        ends_are = ends;
        each = λ k h. c.put_own.ensures.own k h;
        named = λ i h. named_of bounds picks i (slice_index c.place_picks.new.parts i) (slice_index c.place_picks.new.rows i) h (get_or picks i None) refl (c.place_picks.ensures.placed.each i (omega (arith, long)));
      };
      refused = λ h. absurd (h done);
    }
