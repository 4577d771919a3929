-- One offset more is read.
use Rattle.std.proofs.Common.{true, ℕ, List, subst, ◌≡◌, ◌<◌, ◌≤◌, ◌++◌, [], ◌∷◌, length, take, sym, ap, ◌∙◌, arith}
use Rattle.std.specs.Prelude.{pos, int_le}
use Rattle.vx_types.specs.PType.{greatest}
use Rattle.std.proofs.lemmas.List.{length-map, take_all, take_more}
use Rattle.vx_offsets.specs.Offsets.{offset_positions, record_numbers}
use Rattle.vx_positions.specs.Positions.{position_of}
use Rattle.vx_offsets.proofs.Ascending.{length-numbers}
use Rattle.vx_lists.specs.Numbers.{AreInType}
use Rattle.vx_lists.proofs.TakenLists.{All-more}
use Rattle.vx_lists.proofs.numbers.numbers_in.Goals as goal

pub loop-i-preserved : goal.loop-i-preserved
loop-i-preserved g c =
    let v = c.loop-i.invariant in
    let numbers = record_numbers c.args.ptype c.args.records.now in
    let all = offset_positions numbers in
    let long : length all ≡ length c.args.records.now = length-map numbers position_of ∙ length-numbers c.args.ptype c.args.records.now in
    let within : c.loop-i.i < length all = omega (arith, long, c.loop-i-test.true) in
    record {
      items = c.push_reserved.ensures.items ∙ ap (λ l. l ++ c.number_at.result ∷ []) v.items ∙ ap (λ n. take c.loop-i.i all ++ n ∷ []) c.number_at.ensures.value ∙ sym (take_more all c.loop-i.i 0 within);
      small = subst (λ (l : List ℕ). AreInType c.args.ptype l) (sym c.push_reserved.ensures.items) (All-more (λ n. int_le (pos n) (greatest c.args.ptype) ≡ true) c.loop-i.numbers.items c.number_at.result v.small c.number_at.ensures.small);
      count = omega (arith, c.push_reserved.ensures.len, v.count);
      room = c.push_reserved.ensures.capacity ∙ v.room;
    }

pub returns-clause-value : goal.returns-clause-value
returns-clause-value g c =
    let numbers = record_numbers c.args.ptype c.args.records.now in
    let all = offset_positions numbers in
    let long : length all ≡ length c.args.records.now = length-map numbers position_of ∙ length-numbers c.args.ptype c.args.records.now in
    let ended : length all ≤ c.loop-i.i = omega (arith, long, c.loop-i-test.false) in
    c.loop-i.invariant.items ∙ take_all c.loop-i.i all ended
