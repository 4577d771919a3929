-- Each number is a position, and one pick more is put out.
use Rattle.std.proofs.Common.{rules, ◌≡◌, ◌<◌, ◌/◌, ◌++◌, [], ◌∷◌, length, get_or, take, true, sym, ap, ◌∙◌, subst, None, arith}
use Rattle.std.specs.Prelude.{IfSome}
use Rattle.std.specs.Option.{option_map}
use Rattle.std.proofs.lemmas.List.{take_all}
use Rattle.vx_bits.specs.Words.{word_at}
use Rattle.vx_positions.specs.Positions.{is_position, position_of, positions_of}
use Rattle.vx_positions.specs.Stored.{shown_numbers}
use Rattle.vx_positions.proofs.NumberLists.{each_is_position, length-shown_numbers, picks_are, positions_of-more, shown_by_word}
use Rattle.vx_positions.proofs.shown.picks_shown_of_width.Goals as goal

pub position_of-requires : goal.position_of-requires
position_of-requires g c =
    let bits = c.args.bits.now.bits in let records = c.args.records.now in let i = c.loop-i.i in
    let xs = shown_numbers c.args.ptype bits records in
    let below : i < length records = search rules in
    let read : c.number_by.result ≡ get_or xs i None =
    shown_by_word c.args.ptype bits records i c.loop-i.word c.number_by.result c.requires.long below (c.loop-i.invariant.word ∙ ap (λ b. word_at b (i / 64)) c.words-view.ensures) c.number_by.ensures in
    subst (λ x. IfSome x (λ z. is_position c.args.len z ≡ true)) (sym read)
    (each_is_position c.args.len xs i c.requires.sound (omega (arith, below, length-shown_numbers c.args.ptype bits records c.requires.long)))

pub loop-i-preserved : goal.loop-i-preserved
loop-i-preserved g c =
    let bits = c.args.bits.now.bits in let records = c.args.records.now in let i = c.loop-i.i in
    let xs = shown_numbers c.args.ptype bits records in
    let below : i < length records = search rules in
    let read : c.number_by.result ≡ get_or xs i None =
    shown_by_word c.args.ptype bits records i c.loop-i.word c.number_by.result c.requires.long below (c.loop-i.invariant.word ∙ ap (λ b. word_at b (i / 64)) c.words-view.ensures) c.number_by.ensures in
    let more : c.push.new.self ≡ record c.loop-i.picks { picks = c.loop-i.picks.picks ++ c.position_of.result ∷ [] } = search rules in
    record {
      picks = ap (λ p. p.picks) more ∙ ap (λ l. l ++ c.position_of.result ∷ []) c.loop-i.invariant.picks
          ∙ ap (λ x. positions_of (take i xs) ++ x ∷ []) (c.position_of.ensures.value ∙ ap (option_map position_of) read)
          ∙ sym (positions_of-more xs i (omega (arith, below, length-shown_numbers c.args.ptype bits records c.requires.long)));
      bound = ap (λ p. p.bound) more ∙ c.loop-i.invariant.bound;
      word = c.word_after-word.ensures;
    }

pub returns : goal.returns
returns g c =
    let bits = c.args.bits.now.bits in let records = c.args.records.now in
    let xs = shown_numbers c.args.ptype bits records in
    picks_are c.loop-i.picks _ _
    (c.loop-i.invariant.picks ∙ ap positions_of (take_all c.loop-i.i xs (omega (arith, c.loop-i-test.false, c.loop-i.auto.i-end, length-shown_numbers c.args.ptype bits records c.requires.long))))
    c.loop-i.invariant.bound
