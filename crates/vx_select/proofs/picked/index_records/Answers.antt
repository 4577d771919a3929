-- One record more.
use Rattle.std.proofs.Common.{◌∙◌, ◌++◌, ◌∷◌, [], None, ap, sym, map, take, arith}
use Rattle.std.proofs.lemmas.List.{map_more}
use Rattle.vx_select.specs.IndexRecords.{index_record}
use Rattle.vx_select.proofs.picked.index_records.Goals as goal

pub loop-i-preserved : goal.loop-i-preserved
loop-i-preserved c =
    let picks = c.args.picks.now.picks in let v = c.loop-i.invariant in
    record {
      items = c.push_reserved.ensures.items ∙ ap (λ l. l ++ c.index_record.result ∷ []) v.items
          ∙ ap (λ r. map index_record (take c.loop-i.i picks) ++ r ∷ []) (c.index_record.ensures ∙ ap index_record c.get.ensures.value)
          ∙ sym (map_more index_record picks c.loop-i.i None (omega arith));
      len = omega (arith, c.push_reserved.ensures.len, v.len);
      room = omega (arith, c.push_reserved.ensures.capacity, v.room);
    }
