-- One draw more.
use Rattle.std.proofs.Common.{◌≡◌, ◌+◌, ◌-◌, ◌/◌, ◌^◌, ◌++◌, ◌∷◌, [], length, refl, sym, ap, ◌∙◌, arith}
use Rattle.std.proofs.lemmas.List.{append-nil, append_assoc, length-append}
use Rattle.vx_rows.specs.Made.{draws}
use Rattle.vx_rows.proofs.MadeRows.{draws_next, no_draws}
use Rattle.vx_rows.proofs.made.draws.Goals as goal

pub loop-i-preserved : goal.loop-i-preserved
loop-i-preserved c =
    let v = c.loop-i.invariant in let n = c.args.count in let i = c.loop-i.i in
    let old = c.loop-i.draws.items in let state = c.next_state-state.result in
    let next : draws (n - i) c.loop-i.state ≡ (state / 2 ^ 33) ∷ draws (n - (i + 1)) state = draws_next (n - i) (n - (i + 1)) c.loop-i.state state (state / 2 ^ 33) (omega arith) c.next_state-state.ensures refl in
    record {
      rest =
          ap (λ l. l ++ draws (n - (i + 1)) state) c.push_reserved.ensures.items
          ∙ append_assoc old ((state / 2 ^ 33) ∷ []) (draws (n - (i + 1)) state)
          ∙ ap (λ l. old ++ l) (sym next) ∙ v.rest;
      len = omega (arith, simp length-append at (ap length c.push_reserved.ensures.items), v.len);
      room = c.push_reserved.ensures.capacity ∙ v.room;
    }

pub returns : goal.returns
returns c =
    let end : draws (c.args.count - c.loop-i.i) c.loop-i.state ≡ [] = no_draws (c.args.count - c.loop-i.i) c.loop-i.state (omega arith) in
    sym (append-nil c.loop-i.draws.items) ∙ ap (λ l. c.loop-i.draws.items ++ l) (sym end) ∙ c.loop-i.invariant.rest
