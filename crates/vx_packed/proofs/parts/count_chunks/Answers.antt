use Rattle.std.proofs.Common.{◌≡◌, ◌+◌, ◌<◌, None, Some, length, take, drop, refl, ap, sym, ◌∙◌, add-zero, arith}
use Rattle.std.proofs.lemmas.List.{length-drop, length-take, take_rest}
use Rattle.vx_packed.specs.Faults.{chunk_fault}
use Rattle.vx_packed.specs.Parts.{first_bad, front_len, parts_of}
use Rattle.vx_packed.specs.declared.fault.PackedError.TheVariants.{Bad}
use Rattle.vx_packed.proofs.CutParts.{bad_here, bad_none, bad_step, count_step, good_packed, left_behind, packed_good, parts_none}
use Rattle.vx_packed.proofs.Rules.{small_width}
use Rattle.vx_packed.proofs.parts.count_chunks.Goals as goal

pub loop-start-init : goal.loop-start-init
loop-start-init c = record { within = omega arith; fewer = omega arith; left = refl; counted = sym (add-zero (length (parts_of c.args.bytes.now))) }

pub loop-start-preserved : goal.loop-start-preserved
loop-start-preserved c =
    let bytes = c.args.bytes.now in
    let start = c.loop-start.start in
    let rest = drop start bytes in
    let n = length c.front_of-part.result.now in
    let front = c.front_of-part.ensures ∙ ap (λ l. take (front_len l) l) (take_rest bytes start) in
    let e : n ≡ length (take (front_len rest) rest) = ap length front in
    let some : 0 < length rest = omega (arith, length-drop start bytes) in
    let none : chunk_fault c.args.width (take (front_len rest) rest) ≡ None = sym (ap (chunk_fault c.args.width) front) ∙ c.in_default.ensures.fault in
    let behind = left_behind bytes start n e in
    record {
      within = omega (arith, e, length-take (front_len rest) rest, length-drop start bytes);
      fewer = omega (arith, e, length-take (front_len rest) rest, some);
      left = c.loop-start.invariant.left ∙ bad_step c.args.width c.loop-start.count rest some none ∙ ap (λ l. first_bad c.args.width (c.loop-start.count + 1) (parts_of l)) behind;
      counted = omega (arith, c.loop-start.invariant.counted, count_step rest some, ap (λ l. length (parts_of l)) behind);
    }

pub returns-in-Err-clause-bad : goal.returns-in-Err-clause-bad
returns-in-Err-clause-bad c =
    let bytes = c.args.bytes.now in
    let start = c.loop-start.start in
    let rest = drop start bytes in
    let front = c.front_of-part.ensures ∙ ap (λ l. take (front_len l) l) (take_rest bytes start) in
    let some : 0 < length rest = omega (arith, length-drop start bytes) in
    c.loop-start.invariant.left ∙ bad_here c.args.width c.loop-start.count rest c.in-Err.fault some (sym (ap (chunk_fault c.args.width) front) ∙ c.in-Err.ensures.fault)

pub returns-in-Err-clause-each : goal.returns-in-Err-clause-each
returns-in-Err-clause-each c = λ packed.
    let bytes = c.args.bytes.now in
    let start = c.loop-start.start in
    let rest = drop start bytes in
    let front = c.front_of-part.ensures ∙ ap (λ l. take (front_len l) l) (take_rest bytes start) in
    let some : 0 < length rest = omega (arith, length-drop start bytes) in
    let bad : first_bad c.args.width 0 (parts_of bytes) ≡ Some (Bad c.loop-start.count c.in-Err.fault) = c.loop-start.invariant.left ∙ bad_here c.args.width c.loop-start.count rest c.in-Err.fault some (sym (ap (chunk_fault c.args.width) front) ∙ c.in-Err.ensures.fault) in
    let small = small_width c.args.width c.requires in
    let good : first_bad c.args.width 0 (parts_of bytes) ≡ None = packed_good c.args.width bytes small.most packed in
    let no : ⊥ = cc in
    absurd no

pub returns-clause-count : goal.returns-clause-count
returns-clause-count c =
    let rest = drop c.loop-start.start c.args.bytes.now in
    let none : length rest ≡ 0 = omega (arith, length-drop c.loop-start.start c.args.bytes.now) in
    omega (arith, c.loop-start.invariant.counted, ap length (parts_none rest none))

pub returns-clause-bad : goal.returns-clause-bad
returns-clause-bad c =
    let rest = drop c.loop-start.start c.args.bytes.now in
    let none : length rest ≡ 0 = omega (arith, length-drop c.loop-start.start c.args.bytes.now) in
    c.loop-start.invariant.left ∙ bad_none c.args.width c.loop-start.count rest none

pub returns-clause-packed : goal.returns-clause-packed
returns-clause-packed c =
    let rest = drop c.loop-start.start c.args.bytes.now in
    let none : length rest ≡ 0 = omega (arith, length-drop c.loop-start.start c.args.bytes.now) in
    let small = small_width c.args.width c.requires in
    good_packed c.args.width c.args.bytes.now small.most (λ i. omega (arith, c.type_inv.bytes i)) (c.loop-start.invariant.left ∙ bad_none c.args.width c.loop-start.count rest none)
