-- Each number is a position, and one pick more is put out.
use Rattle.std.proofs.Common.{rules, ◌≡◌, ◌++◌, [], ◌∷◌, take, true, sym, ap, ◌∙◌, subst}
use Rattle.std.specs.Prelude.{IfSome}
use Rattle.std.specs.Option.{option_map}
use Rattle.vx_positions.specs.Positions.{is_position, position_of, positions_of}
use Rattle.vx_positions.proofs.NumberLists.{each_is_position, positions_of-more, all_there-more, there_by}
use Rattle.vx_positions.proofs.positions.picks_of.Goals as goal

pub position_of-requires : goal.position_of-requires
position_of-requires g c =
    let xs = g.N.Numbers.numbers c.args.numbers.now in let i = c.loop-i.i in
    subst (λ x. IfSome x (λ z. is_position c.args.len z ≡ true)) (sym c.number.ensures.value)
    (each_is_position c.args.len xs i c.requires (search rules))

pub loop-i-preserved : goal.loop-i-preserved
loop-i-preserved g c =
    let xs = g.N.Numbers.numbers c.args.numbers.now in let i = c.loop-i.i in
    let more : c.push.new.self ≡ record c.loop-i.picks { picks = c.loop-i.picks.picks ++ c.position_of.result ∷ [] } = search rules in
    record {
      picks = ap (λ p. p.picks) more ∙ ap (λ l. l ++ c.position_of.result ∷ []) c.loop-i.invariant.picks
          ∙ ap (λ x. positions_of (take i xs) ++ x ∷ []) (c.position_of.ensures.value ∙ ap (option_map position_of) c.number.ensures.value)
          ∙ sym (positions_of-more xs i (search rules));
      bound = ap (λ p. p.bound) more ∙ c.loop-i.invariant.bound;
      there = λ h. rw (ap (λ p. p.picks) more)
          (all_there-more c.loop-i.picks.picks c.position_of.result (c.loop-i.invariant.there h)
          (rw c.position_of.ensures.value (there_by (g.N.Numbers.nullable c.args.numbers.now) c.number.result c.number.ensures.missing h)));
    }
