-- 64 rows more.
use Rattle.std.proofs.Common.{◌≡◌, ◌+◌, ◌-◌, ◌*◌, ◌≤◌, ◌++◌, ℕ, List, length, take, drop, sym, ap, ap₂, ◌∙◌, subst, arith}
use Rattle.std.specs.List.{range_with_len}
use Rattle.std.proofs.Math.Nat.{add-mul}
use Rattle.vx_bits.proofs.Cuts.{length_of_cut}
use Rattle.vx_fixed.specs.Rows.{ArePut}
use Rattle.vx_fixed.proofs.Rows.{range_put}
use Rattle.vx_fixed.proofs.bits.put_rows.Goals as goal

pub returns : goal.returns
returns g c = λ old places len put.
    let w = g.row.W in
    let src = c.args.src.now in
    let out = c.args.out.now in
    let n = c.args.kept in
    let first = (c.args.from + c.args.base) * w in
    let cut : first + 64 * w - first ≡ 64 * w = omega arith in
    let there : first + 64 * w ≤ length src = omega (arith, add-mul (c.args.from + c.args.base) 64 w, c.requires.there) in
    let own : take (first + 64 * w - first) (drop first src) ≡ take (64 * w) (drop first src) = ap (λ k. take k (drop first src)) cut in
    let is : c.put_bytes.new.bytes ≡ take (n * w) out ++ (take (64 * w) (drop first src) ++ drop (n * w + 64 * w) out) =
    c.put_bytes.ensures
    ∙ ap₂ (λ (l : List ℕ) (k : ℕ). take (n * w) out ++ (l ++ drop (n * w + k) out)) own (ap length own ∙ length_of_cut src first (64 * w) there) in
    subst (λ (l : List ℕ). ArePut w src c.args.from (places ++ range_with_len c.args.base 64) old l) (sym is)
    (range_put w src c.args.from places old out n c.args.base 64 (sym len) there put)
