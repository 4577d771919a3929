-- One record more is widened, and there is room for it.
use Rattle.std.proofs.Common.{[], ◌∷◌, ◌++◌, ap, ◌∙◌, arith}
use Rattle.vx_text.proofs.OffsetLists.{wider}
use Rattle.vx_text.proofs.offsets.widened.Goals as goal
use Rattle.vx_lemmas.proofs.Lists.{length_pushed}

pub push_reserved-requires : goal.push_reserved-requires
push_reserved-requires c =
    omega (arith, c.loop-record.invariant.len, c.loop-record.invariant.room, c.loop-record-test.true, c.requires, c.loop-record.wide.ok.0)

pub loop-record-preserved : goal.loop-record-preserved
loop-record-preserved c =
    let old = c.loop-record.wide.items in
    let written = c.push_reserved.ensures.items in
    record {
      numbers = wider c.args.records.now c.loop-record.record-index [] old _ c.from.result c.loop-record-test.true c.loop-record.invariant.numbers (c.from.ensures ∙ c.from_le_bytes-number.ensures) c.from.type_inv (written ∙ ap (λ x. old ++ x ∷ []) c.to_le_bytes.ensures);
      len = length_pushed old _ _ c.loop-record.record-index written c.loop-record.invariant.len;
      room = c.push_reserved.ensures.capacity ∙ c.loop-record.invariant.room;
    }
