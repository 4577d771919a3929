-- The records at the picks are those at their ranks, and the calls for the set positions are those
-- for the picks.
use Rattle.std.proofs.Common.{◌≡◌, ◌∙◌, ℕ, Bool, List, Option, length, ap, sym, subst}
use Rattle.std.specs.Prelude.{replicate, IfOk}
use Rattle.std.specs.List.{items_where_true}
use Rattle.vx_bits.specs.Records.{records_of}
use Rattle.vx_mask.specs.Mask.{mask_bits}
use Rattle.vx_mask.specs.Policy.{sparse_limit_of}
use Rattle.vx_mask.specs.Positions.{set_of}
use Rattle.vx_take.specs.Picks.{at}
use Rattle.vx_take.specs.Ranks.{AreJustSet}
use Rattle.vx_take.proofs.TakenLists.{looked_up}
use Rattle.vx_chunked.specs.Asked.{asked, chunks_touched}
use Rattle.vx_decoder.specs.declared.call.Call.{Call}
use Rattle.vx_steps.specs.Shape.{ShapeValue}
use Rattle.vx_select.specs.Chunks.{IsTold, asked_at, asked_for, chunk_values}
use Rattle.vx_select.proofs.ChunkRows.{length-part}
use Rattle.vx_select.proofs.PickedCalls.{asked_alike}
use Rattle.vx_select.proofs.chunked.picked_records.Goals as goal

same_calls : (s : ShapeValue) (bound limit : ℕ) (bits : List Bool) (picks : List (Option ℕ)) → length bits ≡ bound → bound ≡ s.len → AreJustSet bits picks → asked_at s limit bits ≡ asked_for s limit picks
same_calls s bound limit bits picks long whole just =
    ap (λ n. asked s.offset (set_of bits) limit (chunks_touched s.offset n)) (long ∙ whole)
    ∙ asked_alike s.offset bits picks limit (chunks_touched s.offset s.len) just

pub returns-clause-records : goal.returns-clause-records
returns-clause-records g c =
    let s = c.args.shape.now in let p = c.args.picks.now in let bits = mask_bits c.in_ok-mask.mask in
    let values = g.D.ChunkDecoder.values c.args.decoder.now in let part = chunk_values s values in
    let missing = replicate g.row.W 0 in
    let count = length-part values s.offset s.len c.requires.values in
    let same : at missing (items_where_true bits part) c.in_ok-ranks.ranks.picks ≡ at missing part p.picks =
    ap (at missing (items_where_true bits part)) c.in_ok-ranks.ensures.ranks
    ∙ sym (looked_up missing bits part p.picks (c.in_ok-mask.ensures.len ∙ c.requires.bound ∙ sym count) c.in_ok-mask.ensures.each) in
    subst (λ (l : List (List ℕ)). IfOk c.ranked_records.result (λ r. records_of r ≡ l)) same c.ranked_records.ensures.records

pub returns-clause-told : goal.returns-clause-told
returns-clause-told g c =
    let s = c.args.shape.now in let p = c.args.picks.now in let calls = g.D.ChunkDecoder.calls in
    let same = same_calls s p.bound (sparse_limit_of c.args.policy.now g.row.W) (mask_bits c.in_ok-mask.mask) p.picks c.in_ok-mask.ensures.len c.requires.bound c.in_ok-mask.ensures.set in
    subst (λ (l : List Call). IsTold c.ranked_records.result (calls c.args.decoder.now) (calls c.ranked_records.new.decoder) l) same c.ranked_records.ensures.told
