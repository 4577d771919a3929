use Rattle.std.proofs.Common.{◌≡◌, refl, sym, [], ◌≤◌, ◌+◌, ◌*◌, ◌-◌, ◌^◌, ◌++◌, ℕ, Some, length, map, ap, subst, ◌∙◌, arith}
use Rattle.std.specs.Prelude.{slice_get}
use Rattle.std.specs.List.{All}
use Rattle.std.proofs.lemmas.List.{length-append, length-map}
use Rattle.vx_chunked.specs.Positions.{AscendFrom}
use Rattle.vx_bits.specs.WordReader.{then_told}
use Rattle.vx_chunked.specs.Asked.{call_for, calls_from}
use Rattle.vx_chunked.proofs.Ascends.{ascend_raise, ascend_rest, ascend_front, ascend_none}
use Rattle.vx_chunked.proofs.ValuesAt.{lengths_put, value_put, value_all}
use Rattle.vx_chunked.proofs.Counts.{calls_skip, told_next, told_end}
use Rattle.vx_chunked.proofs.driver.take_chunks.Goals as goal

pub take_places-count-requires-clause-ahead : goal.take_places-count-requires-clause-ahead
take_places-count-requires-clause-ahead g c = ascend_raise (1024 * c.walk.chunk) c.args.end (2 ^ 64) (g.C.Cursor.rest c.walk.cursor) c.walk.invariant.ahead (omega arith)

pub put_chunk-requires-clause-ascend : goal.put_chunk-requires-clause-ascend
put_chunk-requires-clause-ascend g c =
    let chunk = c.walk.chunk in
    let places = g.C.Cursor.taken c.take_places-count.new.self in
    let left = g.C.Cursor.rest c.take_places-count.new.self in
    let ahead = subst (AscendFrom (1024 * chunk) c.args.end) c.take_places-count.ensures.taken c.walk.invariant.ahead in
    ascend_front (1024 * chunk) 0 c.args.end places left (subst (λ (n : ℕ). AscendFrom n c.args.end (map (λ p. 1024 * chunk + p) places ++ left)) (omega arith) ahead) c.take_places-count.ensures.inside

pub put_chunk-requires-clause-room : goal.put_chunk-requires-clause-room
put_chunk-requires-clause-room g c =
    let chunk = c.walk.chunk in
    let places = g.C.Cursor.taken c.take_places-count.new.self in
    let left = g.C.Cursor.rest c.take_places-count.new.self in
    let split : length (g.C.Cursor.rest c.walk.cursor) ≡ length places + length left = ap length c.take_places-count.ensures.taken ∙ simp (length-append, length-map) in
    omega (arith, split, c.take_places-count.ensures.count, c.walk.invariant.room)

pub next_chunk-first-requires : goal.next_chunk-first-requires
next_chunk-first-requires g c = record { ahead = ascend_raise (1024 * 0) c.args.end (2 ^ 64) (g.C.Cursor.rest c.args.cursor.now) c.requires.ascend (omega arith) }

pub walk-init : goal.walk-init
walk-init g c =
    let all = g.C.Cursor.rest c.args.cursor.now in
    let chunks = c.div_ceil-chunks.result in
    let at = c.min-chunk.result in
    let jumped : All (λ p. 1024 * at ≤ p) all = λ k d q. omega (arith, c.next_chunk-first.ensures.passed k d q, c.min-chunk.ensures) in
    let none : chunks - 0 ≡ chunks = omega arith in
    record {
      within = omega (arith, c.min-chunk.ensures);
      room = omega (arith, c.requires.room, ap length c.requires.empty);
      value = ap (λ l. map Some l ++ map (slice_get (g.D.ChunkDecoder.values c.args.decoder.now)) all) c.requires.empty;
      told = ap (then_told (g.D.ChunkDecoder.calls c.args.decoder.now)) (sym (calls_skip c.args.limit all 0 at chunks (omega arith) (omega (arith, c.min-chunk.ensures)) jumped) ∙ ap (calls_from c.args.limit all 0) none);
      ahead = ascend_rest (1024 * at) 0 c.args.end [] all c.requires.ascend jumped;
      same = refl;
      cost = omega arith;
    }

pub next_chunk-next-requires : goal.next_chunk-next-requires
next_chunk-next-requires g c =
    let chunk = c.walk.chunk in
    let places = g.C.Cursor.taken c.take_places-count.new.self in
    let left = g.C.Cursor.rest c.take_places-count.new.self in
    record { ahead = ascend_raise (1024 * (chunk + 1)) c.args.end (2 ^ 64) left (ascend_rest (1024 * (chunk + 1)) (1024 * chunk) c.args.end (map (λ p. 1024 * chunk + p) places) left (subst (AscendFrom (1024 * chunk) c.args.end) c.take_places-count.ensures.taken c.walk.invariant.ahead) c.take_places-count.ensures.beyond) (omega arith) }

pub walk-preserved : goal.walk-preserved
walk-preserved g c =
    let values = g.D.ChunkDecoder.values c.args.decoder.now in
    let f = slice_get values in
    let v = c.walk.invariant in
    let chunk = c.walk.chunk in
    let base = 1024 * chunk in
    let high = c.args.end in
    let chunks = c.div_ceil-chunks.result in
    let rest = g.C.Cursor.rest c.walk.cursor in
    let left = g.C.Cursor.rest c.take_places-count.new.self in
    let places = g.C.Cursor.taken c.take_places-count.new.self in
    let next = c.take_places-count.ensures in
    let step = c.put_chunk.ensures in
    let taken = next.taken in
    let split : length rest ≡ length places + length left = ap length taken ∙ simp (length-append, length-map) in
    let put = step.value ∙ ap (λ w. map Some c.walk.out.items ++ map (λ p. slice_get w (base + p)) places) v.same in
    let long : length c.put_chunk.new.out.items ≡ length c.walk.out.items + length places = lengths_put f base c.put_chunk.new.out.items c.walk.out.items places put in
    let next_at = 1024 * (chunk + 1) in
    let later = ascend_rest next_at base high (map (λ p. base + p) places) left (subst (AscendFrom base high) taken v.ahead) next.beyond in
    let jump = c.next_chunk-next.ensures in
    let at = c.min-chunk-in-walk.result in
    let jumped : All (λ p. 1024 * at ≤ p) left = λ k d q. omega (arith, jump.passed k d q, c.min-chunk-in-walk.ensures) in
    record {
      within = omega (arith, c.min-chunk-in-walk.ensures);
      room = omega (arith, v.room, split, step.capacity, long);
      value = value_put f c.walk.out.items c.put_chunk.new.out.items base places rest left _ v.value taken put;
      told = ap (then_told (g.D.ChunkDecoder.calls c.put_chunk.new.decoder)) (sym (calls_skip c.args.limit left (chunk + 1) at chunks (omega (arith, jump.onward, c.min-chunk-in-walk.ensures)) (omega (arith, c.min-chunk-in-walk.ensures)) jumped))
          ∙ told_next _ _ _ c.args.limit rest places left chunk (chunks - chunk) (chunks - (chunk + 1)) v.told (step.told ∙ ap (λ n. then_told (g.D.ChunkDecoder.calls c.walk.decoder) (call_for c.args.limit chunk n)) next.count) taken next.inside next.beyond (omega arith);
      ahead = ascend_rest (1024 * at) next_at high [] left later jumped;
      same = step.same ∙ v.same;
      cost = omega (arith, step.cost, v.cost, jump.onward, c.min-chunk-in-walk.ensures);
    }

pub returns-clause-value : goal.returns-clause-value
returns-clause-value g c = value_all (slice_get (g.D.ChunkDecoder.values c.args.decoder.now)) c.walk.out.items (g.C.Cursor.rest c.walk.cursor) (g.C.Cursor.rest c.args.cursor.now) c.walk.invariant.value (ascend_none (1024 * c.walk.chunk) c.args.end (g.C.Cursor.rest c.walk.cursor) c.walk.invariant.ahead (omega arith))

pub returns-clause-told : goal.returns-clause-told
returns-clause-told g c =
    let chunks = c.div_ceil-chunks.result in
    let old = g.D.ChunkDecoder.calls c.args.decoder.now in
    let all = g.C.Cursor.rest c.args.cursor.now in
    let n : chunks - c.walk.chunk ≡ 0 = omega arith in
    told_end (g.D.ChunkDecoder.calls c.walk.decoder) _ c.args.limit (g.C.Cursor.rest c.walk.cursor) c.walk.chunk _ n c.walk.invariant.told ∙ ap (λ k. then_told old (calls_from c.args.limit all 0 k)) c.div_ceil-chunks.ensures
