use Rattle.std.proofs.Common.{◌≡◌, ◌+◌, ◌-◌, ◌≤◌, length, take, drop, map, Some, refl, sym, ap, ap₂, ◌∙◌, arith, rules}
use Rattle.std.specs.Int.RustNames.{count_ones}
use borrow.Rule.Slice.PartMut.{put_mid}
use Rattle.vx_filter.proofs.Copies.{empty_copied, full_copied, full_rest, full_within}
use Rattle.vx_filter.proofs.Moves.{ones_of_full}
use Rattle.vx_filter.proofs.compact.copy_picked.Goals as goal

pub overflow_add-kept : goal.overflow_add-kept
overflow_add-kept g c =
    let ones = ones_of_full c.args.word c.if-word-eq18446744073709551615.true in
    omega (arith, ones, c.requires.room)

pub slice_bounds-copy_from_slice-end : goal.slice_bounds-copy_from_slice-end
slice_bounds-copy_from_slice-end g c =
    let ones = ones_of_full c.args.word c.if-word-eq18446744073709551615.true in
    let fits : c.args.kept + 64 ≤ length c.args.dst.now = omega (arith, ones, c.requires.room) in
    search (rules, arith)

pub overflow_add-base : goal.overflow_add-base
overflow_add-base g c =
    let within = full_within c.args.src.now c.args.base c.args.word c.if-word-eq18446744073709551615.true c.requires.within in
    omega (arith, within)

pub offset_bounds-src-base : goal.offset_bounds-src-base
offset_bounds-src-base g c =
    let within = full_within c.args.src.now c.args.base c.args.word c.if-word-eq18446744073709551615.true c.requires.within in
    omega (arith, within)

pub slice_bounds-copy_from_slice-end-then-word-eq18446744073709551615 : goal.slice_bounds-copy_from_slice-end-then-word-eq18446744073709551615
slice_bounds-copy_from_slice-end-then-word-eq18446744073709551615 g c =
    let within = full_within c.args.src.now c.args.base c.args.word c.if-word-eq18446744073709551615.true c.requires.within in
    search (rules, arith)

-- what the copy makes of dst
copied : (g : _) (c : goal.After-dst-1 g) → put_mid c.args.kept (c.args.kept + 64 - c.args.kept) c.args.dst.now c.copy_from_slice.new.self ≡ put_mid c.args.kept 64 c.args.dst.now (take 64 (drop c.args.base c.args.src.now))
copied g c =
    let one : c.args.base + 64 - c.args.base ≡ 64 = omega arith in
    let other : c.args.kept + 64 - c.args.kept ≡ 64 = omega arith in
    ap₂ (λ n l. put_mid c.args.kept n c.args.dst.now l) other (c.copy_from_slice.ensures.after ∙ ap (λ n. take n (drop c.args.base c.args.src.now)) one)

pub returns-then-word-eq18446744073709551615 : goal.returns-then-word-eq18446744073709551615
returns-then-word-eq18446744073709551615 g c =
    let src = c.args.src.now in
    let kept = c.args.kept in
    let full = c.if-word-eq18446744073709551615.true in
    let ones = ones_of_full c.args.word full in
    let room : kept + 64 ≤ length c.args.dst.now = omega (arith, ones, c.requires.room) in
    let within = full_within src c.args.base c.args.word full c.requires.within in
    record {
      count = ap (λ n. kept + n) (sym ones);
      front = ap (λ l. map Some (take (kept + 64) l)) (copied g c) ∙ full_copied src c.args.dst.now kept c.args.base c.args.word full room within;
      rest = ap (drop (kept + 64)) (copied g c) ∙ full_rest src c.args.dst.now kept c.args.base room within;
    }

pub returns-else-word-ne0 : goal.returns-else-word-ne0
unfolding count_ones
returns-else-word-ne0 g c =
    let empty = c.if-word-ne0.false in
    let none : count_ones c.args.word ≡ 0 = ap count_ones empty in
    record {
      count = omega (arith, none);
      front = empty_copied c.args.src.now c.args.dst.now c.args.kept c.args.base c.args.word empty;
      rest = refl;
    }
