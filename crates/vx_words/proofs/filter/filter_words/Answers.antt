use Rattle.std.proofs.Common.{length, refl, sym, ◌∙◌, arith}
use Rattle.vx_filter.specs.Compact.{bits_of_words}
use Rattle.vx_words.proofs.FilterFaults.{front_and_rest}
use Rattle.vx_words.proofs.MaskWords.{is_mask}
use Rattle.vx_words.proofs.WholeMasks.{whole_count, whole_no_room, whole_room}
use Rattle.vx_words.proofs.filter.filter_words.Goals as goal
use Rattle.vx_lemmas.proofs.Picked.{picked_front}

pub count_set-count-requires : goal.count_set-count-requires
count_set-count-requires g c =
    omega (arith, (is_mask (length c.args.src.now) c.args.words.now c.requires).few)

pub keep-kept-requires-clause-clear : goal.keep-kept-requires-clause-clear
keep-kept-requires-clause-clear g c =
    (is_mask (length c.args.src.now) c.args.words.now c.requires).clear

pub returns-then-count-dst : goal.returns-then-count-dst
returns-then-count-dst g c =
    let rows = length c.args.src.now in
    let words = c.args.words.now in
    let mask = is_mask rows words c.requires in
    let count = c.count_set-count.ensures ∙ whole_count rows words mask in
    record {
      fault = whole_no_room rows words (length c.args.dst.now) mask (omega (arith, count, c.if-count-dst.true));
      count = λ _. count;
      untold = λ e. absurd (omega (arith, e));
      items = λ e. absurd (omega (arith, e));
      refused = λ _. refl;
    }

pub returns : goal.returns
returns g c =
    let src = c.args.src.now in
    let rows = length src in
    let words = c.args.words.now in
    let mask = is_mask rows words c.requires in
    let step = c.keep-kept.ensures in
    let count = step.count ∙ whole_count rows words mask in
    record {
      fault = whole_room rows words (length c.args.dst.now) mask (omega (arith, whole_count rows words mask, c.count_set-count.ensures, c.if-count-dst.false));
      count = λ _. count;
      untold = λ e. absurd (omega (arith, e));
      items = λ _. front_and_rest c.keep-kept.result c.keep-kept.new.dst _ _ (step.front ∙ sym (picked_front rows (bits_of_words words) src (omega arith))) step.rest;
      refused = λ e. absurd (e refl);
    }
