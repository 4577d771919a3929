-- The parts keep the slice's rows.
use Rattle.std.proofs.Common.{◌≡◌, ◌-◌, ◌<◌, ◌≤◌, ℕ, length, map, min, sym, ap, ◌∙◌, arith, slice_index}
use Rattle.std.specs.List.{range_with_len, sum}
use Rattle.std.proofs.lemmas.Bool.Decides.{nat_tests}
use Rattle.std.proofs.lemmas.List.{take_all}
use Rattle.std.proofs.lemmas.List.FromFn.{get_or-map-range_with_len, length-map-range_with_len}
use Rattle.vx_cuts.specs.Bounds.{bounds_of}
use Rattle.vx_cuts.specs.Slices.{left_in, row_in}
use Rattle.vx_cuts.proofs.BoundLists.{bound_sum}
use Rattle.vx_cuts.proofs.SlicePieces.{pieces_so}
use Rattle.vx_cuts.proofs.slices.cut_slice.Goals as goal

pub returns : goal.returns
returns c =
    let ns = c.args.lengths.now in
    let starts = c.put_rows.new.dst in
    let ends = c.put_rows-2.new.dst in
    let left = c.put_left.new.left in
    let fault = sym c.fault_of_range-fault.ensures ∙ c.if-fault-ne-DONE.false in
    let ordered : c.args.start ≤ c.args.end = grind (arith, nat_tests, fault) in
    let within : c.args.end ≤ sum ns = grind (arith, nat_tests, fault) in
    let many : length c.args.left.now ≡ length ns = grind (arith) in
    let lefts = c.put_left.ensures ∙ ap (λ (n : ℕ). map (left_in starts ends) (range_with_len 0 n)) many in
    let at = λ (f : ℕ → ℕ) (k : ℕ) (h : k < length ns). get_or-map-range_with_len f 0 (length ns) k k 0 h (omega arith) in
    let start_at = λ (k : ℕ) (h : k < length ns). ap (λ l. slice_index l k) c.put_rows.ensures ∙ at (row_in ns c.args.start) k h in
    let end_at = λ (k : ℕ) (h : k < length ns). ap (λ l. slice_index l k) c.put_rows-2.ensures ∙ at (row_in ns c.args.end) k h in
    let left_at = λ (k : ℕ) (h : k < length ns). ap (λ l. slice_index l k) lefts ∙ at (left_in starts ends) k h ∙ omega (arith, start_at k h, end_at k h) in
    let long : length starts ≡ length ns = ap length c.put_rows.ensures ∙ length-map-range_with_len (row_in ns c.args.start) 0 (length ns) in
    let last : slice_index (bounds_of ns) (length starts) ≡ sum ns = bound_sum ns (length starts) (omega (arith, long)) ∙ ap sum (take_all (length starts) ns (omega (arith, long))) in
    let all : min c.args.end (slice_index (bounds_of ns) (length starts)) - c.args.start ≡ c.args.end - c.args.start = omega (arith, last, within) in
    record {
      fault = grind (arith, nat_tests, fault);
      untold = c.untold-2.ensures.value;
      starts_are = λ _. c.put_rows.ensures;
      ends_are = λ _. c.put_rows-2.ensures;
      left_is = λ _. lefts;
      rows = λ _. pieces_so ns starts left c.args.start c.args.end ordered start_at left_at (length starts) (omega (arith, long)) ∙ ap (range_with_len c.args.start) all;
      refused = λ h. absurd (h c.untold-2.ensures.status);
    }
