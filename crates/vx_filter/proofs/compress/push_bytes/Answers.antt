use Rattle.std.proofs.Common.{◌≡◌, ◌+◌, ◌*◌, ◌++◌, map, Some, refl, sym, ap, ◌∙◌, arith, append-nil}
use Rattle.std.specs.List.{slice_get}
use Rattle.vx_bits.specs.Words.{word_bits}
use Rattle.vx_bits.proofs.WordBits.{word_bits-none}
use Rattle.vx_mask.specs.Positions.{set_of}
use Rattle.vx_filter.proofs.Bytes.{byte_pushed, bytes_done, bytes_fit}
use Rattle.vx_filter.proofs.compress.push_bytes.Goals as goal

pub loop-k-init : goal.loop-k-init
loop-k-init g c =
    let all = map Some c.args.kept.now.items in
    record {
      items = sym (ap (λ l. all ++ map (slice_get c.args.items.now) (set_of l)) (word_bits-none c.args.word) ∙ append-nil all);
      room = refl;
    }

pub push_byte-requires-clause-room : goal.push_byte-requires-clause-room
push_byte-requires-clause-room g c =
    let v = c.loop-k.invariant in
    omega (arith, bytes_fit c.args.items.now c.loop-k.kept.items c.args.kept.now.items c.args.word (8 * c.loop-k.k) (omega arith) (omega arith) v.items, c.row.ensures.eight, c.requires.room, v.room, c.loop-k.kept.ok.0, c.args.kept.now.ok.0)

pub loop-k-preserved : goal.loop-k-preserved
loop-k-preserved g c =
    let v = c.loop-k.invariant in
    let next : 8 * c.loop-k.k + 8 ≡ 8 * (c.loop-k.k + 1) = omega arith in
    let all = map Some c.args.kept.now.items in
    record {
      items = byte_pushed c.args.items.now c.loop-k.kept.items _ all c.args.word (8 * c.loop-k.k) _ _ refl c.row.ensures.front c.push_byte.ensures.items v.items
          ∙ ap (λ n. all ++ map (slice_get c.args.items.now) (set_of (word_bits c.args.word n))) next;
      room = c.push_byte.ensures.capacity ∙ v.room;
    }

pub returns-clause-items : goal.returns-clause-items
returns-clause-items g c =
    bytes_done c.args.items.now c.loop-k.kept.items c.args.kept.now.items c.args.word (8 * c.loop-k.k) (omega arith) c.requires.all_there c.loop-k.invariant.items
