use Rattle.std.proofs.Common.{◌≡◌, ◌+◌, refl, sym, ap, arith}
use Rattle.std.specs.Int.RustNames.{count_ones}
use Rattle.vx_filter.proofs.Moves.{empty_moved, full_moved, full_place, ones_of_full, same_further}
use Rattle.vx_filter.proofs.in_place.keep_picked.Goals as goal

pub move_block-requires-clause-from : goal.move_block-requires-clause-from
move_block-requires-clause-from g c =
    full_place c.args.values.now c.args.base c.args.word c.if-word-eq18446744073709551615.true c.requires.within

pub move_block-requires-clause-to : goal.move_block-requires-clause-to
move_block-requires-clause-to g c =
    let inside = full_place c.args.values.now c.args.base c.args.word c.if-word-eq18446744073709551615.true c.requires.within in
    omega (arith, inside, c.requires.behind)

pub overflow_add-result : goal.overflow_add-result
overflow_add-result g c =
    let inside = full_place c.args.values.now c.args.base c.args.word c.if-word-eq18446744073709551615.true c.requires.within in
    omega (arith, inside, c.requires.behind)

pub returns-then-word-eq18446744073709551615 : goal.returns-then-word-eq18446744073709551615
returns-then-word-eq18446744073709551615 g c =
    let full = c.if-word-eq18446744073709551615.true in
    record {
      count = ap (λ n. c.args.kept + n) (sym (ones_of_full c.args.word full));
      front = full_moved c.args.values.now _ c.args.kept c.args.base c.args.word full c.requires.behind c.requires.within c.move_block.ensures.front;
      after = same_further c.args.values.now _ (c.args.kept + 64) (c.args.base + 64) (omega (arith, c.requires.behind)) c.move_block.ensures.after;
    }

pub returns-else-word-ne0 : goal.returns-else-word-ne0
unfolding count_ones
returns-else-word-ne0 g c =
    let empty = c.if-word-ne0.false in
    let none : count_ones c.args.word ≡ 0 = ap count_ones empty in
    record {
      count = omega (arith, none);
      front = empty_moved c.args.values.now c.args.kept c.args.base c.args.word empty;
      after = refl;
    }
