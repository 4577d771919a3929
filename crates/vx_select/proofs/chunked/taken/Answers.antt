-- One record more.
use Rattle.std.proofs.Common.{◌≡◌, ◌∙◌, ◌++◌, ◌∷◌, [], ◌+◌, ◌<◌, ℕ, List, Option, None, ap, sym, length, take, replicate, get_or, arith}
use Rattle.std.proofs.lemmas.List.{map_more}
use Rattle.vx_take.specs.Picks.{at, item_at}
use Rattle.vx_select.proofs.chunked.taken.Goals as goal

pushed : (missing : List ℕ) (values : List (List ℕ)) (picks : List (Option ℕ)) (i : ℕ) (before after : List (List ℕ)) (x : List ℕ) (rank : Option ℕ) → i < length picks → after ≡ before ++ x ∷ [] → x ≡ item_at missing values rank → rank ≡ get_or picks i None → before ≡ at missing values (take i picks) → after ≡ at missing values (take (i + 1) picks)
pushed missing values picks i before after x rank h more here is same =
    more ∙ ap (λ l. l ++ x ∷ []) same
    ∙ ap (λ r. at missing values (take i picks) ++ r ∷ []) (here ∙ ap (item_at missing values) is)
    ∙ sym (map_more (item_at missing values) picks i None h)

pub loop-i-preserved : goal.loop-i-preserved
loop-i-preserved g c =
    let v = c.loop-i.invariant in
    record {
      items = pushed (replicate g.row.W 0) c.args.values.now c.args.ranks.now.picks c.loop-i.i c.loop-i.records.items c.push_reserved.new.self.items c.record_at.result c.get.result (omega arith) c.push_reserved.ensures.items c.record_at.ensures c.get.ensures.value v.items;
      len = omega (arith, c.push_reserved.ensures.len, v.len);
      room = omega (arith, c.push_reserved.ensures.capacity, v.room);
    }
