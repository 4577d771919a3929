use Rattle.std.proofs.Common.{◌≡◌, ◌+◌, ◌-◌, ◌*◌, ◌%◌, ◌^◌, ◌<◌, ◌≤◌, ℕ, List, Vec, Global, vec_capacity, bit_or, get_or, length, take, refl, ap, sym, subst, ◌∙◌, arith}
use Rattle.std.proofs.lemmas.List.{length-take-le, take_all}
use Rattle.std.proofs.lemmas.Nat.{mul-le}
use Rattle.vx_packed.specs.Chunk.{field_bits}
use Rattle.vx_packed.proofs.Numbers.{greatest_above, least_below}
use Rattle.vx_packed.proofs.PackedWords.{Put, put_all_bits, put_length, put_none, put_over, put_within}
use Rattle.vx_packed.proofs.packing.put_offsets.Goals as goal
use Rattle.vx_packed.proofs.packing.put_offsets.Goals.{then-held-ge64, else-held-ge64}

pub loop-n-init : goal.loop-n-init
loop-n-init c = record { put = put_none c.args.out.now.items c.args.base c.args.digits c.args.numbers.now; room = refl }

pub overflow_sub-offset : goal.overflow_sub-offset
overflow_sub-offset c = omega (arith, least_below c.args.numbers.now c.loop-n.n-index (omega arith), c.requires.base)

pub put_eight-requires : goal.put_eight-requires
put_eight-requires c =
    let xs = c.args.numbers.now in
    let i = c.loop-n.n-index in
    let w = c.args.digits in
    let counted = put_length c.args.out.now.items c.loop-n.out.items c.args.base w i xs c.loop-n.next c.loop-n.held (omega arith) (length-take-le i xs (omega arith)) c.loop-n.invariant.put in
    let last : (i + 1) * w ≤ 1024 * w = mul-le (i + 1) w 1024 w (omega arith) (omega arith) in
    let whole : (i + 1) * w ≡ i * w + w = omega arith in
    let room = c.loop-n.invariant.room in
    omega (arith, counted, last, whole, room, c.requires.room)

pub loop-n-preserved : goal.loop-n-preserved
loop-n-preserved c =
    let front = c.args.out.now.items in
    let xs = c.args.numbers.now in
    let base = c.args.base in
    let digits = c.args.digits in
    let k = c.loop-n.n-index in
    let next = c.loop-n.next in
    let held = c.loop-n.held in
    let offset = get_or xs k 0 - base in
    let inside : k < length xs = omega arith in
    let below : offset < 2 ^ digits = omega (arith, greatest_above xs k inside, c.requires.digits) in
    let bits = field_bits base digits (take (k + 1) xs) in
    let before = c.loop-n.invariant.put in
    elim c.if-held-ge64.branch [
      | then-held-ge64 w ↦
          let out = ap (λ (v : Vec ℕ Global). v.items) w.out-is ∙ w.put_eight.ensures.items in
          let put = put_over front c.loop-n.out.items base digits k xs next held offset c.if-held-ge64.out.items c.if-held-ge64.next before inside refl below c.requires.most w.if-held-ge64.true out (w.next-is ∙ w.rest_of-next.ensures) in
          record {
            put = subst (λ (h : ℕ). Put front c.if-held-ge64.out.items bits c.if-held-ge64.next h) (sym w.held-is) put;
            room = ap vec_capacity w.out-is ∙ w.put_eight.ensures.capacity ∙ c.loop-n.invariant.room;
          }
      | else-held-ge64 w ↦
          let put = put_within front c.loop-n.out.items base digits k xs next held offset before inside refl below w.if-held-ge64.false in
          let counted = subst (λ (h : ℕ). Put front c.loop-n.out.items bits (bit_or next (offset * 2 ^ held % 2 ^ 64)) h) (sym w.held-is) put in
          let joined = subst (λ (n : ℕ). Put front c.loop-n.out.items bits n c.if-held-ge64.held) (sym w.next-is) counted in
          record {
            put = subst (λ (l : List ℕ). Put front l bits c.if-held-ge64.next c.if-held-ge64.held) (sym (ap (λ (v : Vec ℕ Global). v.items) w.out-is)) joined;
            room = ap vec_capacity w.out-is ∙ c.loop-n.invariant.room;
          }
    ]

pub returns : goal.returns
returns c =
    let xs = c.args.numbers.now in
    let p = subst (λ (l : List ℕ). Put c.args.out.now.items c.loop-n.out.items (field_bits c.args.base c.args.digits l) c.loop-n.next c.loop-n.held) (take_all c.loop-n.n-index xs (omega arith)) c.loop-n.invariant.put in
    put_all_bits c.args.out.now.items c.loop-n.out.items c.args.base c.args.digits xs c.loop-n.next c.loop-n.held c.requires.count p
