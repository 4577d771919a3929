-- One record more.
use Rattle.std.proofs.Common.{◌≡◌, map, pos, ℕ, ◌++◌, ◌∷◌, [], ap, sym, ◌∙◌, ◌<◌, ◌^◌, arith}
use Rattle.std.specs.List.{range_with_len}
use Rattle.std.proofs.lemmas.List.FromFn.{map-range_with_len_more}
use Rattle.std.specs.Int.{w128}
use Rattle.std.proofs.lemmas.Int.{to_z_pos}
use Rattle.vx_types.specs.PType.{record_of, width}
use Rattle.vx_json.proofs.values.ramp_records.Goals as goal

pub loop-i-preserved : goal.loop-i-preserved
loop-i-preserved g c =
    let f = λ (i : ℕ). record_of (width c.args.ptype) (pos i) in
    let one : c.record_of.result ≡ f c.loop-i.i =
    let small : c.loop-i.i < 2 ^ 127 = omega arith in
    c.record_of.ensures ∙ ap (record_of g.row.W) (to_z_pos w128 c.loop-i.i small) ∙ ap (λ w. record_of w (pos c.loop-i.i)) c.requires
    in
    let v = c.loop-i.invariant in
    record {
      records = c.push_reserved.ensures.items ∙ ap (λ l. l ++ c.record_of.result ∷ []) v.records ∙ ap (λ r. map f (range_with_len 0 c.loop-i.i) ++ r ∷ []) one ∙ sym (map-range_with_len_more f 0 c.loop-i.i c.loop-i.i (omega arith));
      len = omega (arith, c.push_reserved.ensures.len, v.len);
      room = c.push_reserved.ensures.capacity ∙ v.room;
    }
