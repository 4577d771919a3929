-- The bytes of the numbers are records of their type.
use Rattle.std.proofs.Common.{ℕ, List, ◌++◌, ◌≤◌, length, drop, map, ap, ap₂, sym, ◌∙◌, arith, rules}
use Rattle.std.specs.List.{list_all}
use Rattle.vx_types.specs.PType.{is_int, number, width}
use Rattle.vx_types.specs.declared.ptype.PType.{PType}
use Rattle.vx_positions.specs.Positions.{is_position, position_of}
use Rattle.vx_arrow.specs.Known.{numbers_at}
use Rattle.vx_arrow.proofs.KnownLists.{length-number_bytes}
use Rattle.vx_arrow.proofs.known.Numbers.write_as.Goals as goal

pub write_positions-requires : goal.write_positions-requires
write_positions-requires g c =
    let n = c.args.rows in
    let same = ap₂ (λ (p : PType) (rs : List (List ℕ)). list_all (λ r. is_position n (number p r)) rs) c.requires.ptype c.records.ensures in
    let room : length c.records.result.now ≤ length c.args.places.now = omega (arith, c.requires.room, ap (λ (rs : List (List ℕ)). length rs) c.records.ensures, length-number_bytes c.args.self.now) in
    (search rules, (ap is_int c.requires.ptype ∙ c.requires.held.int, (c.requires.width ∙ ap width (sym c.requires.ptype), (same ∙ c.requires.below, room))))

pub returns : goal.returns
returns g c =
    let old = c.args.places.now in
    c.write_positions.ensures
    ∙ ap₂ (λ (p : PType) (rs : List (List ℕ)). map (λ r. position_of (number p r)) rs ++ drop (length rs) old) c.requires.ptype c.records.ensures
    ∙ ap (λ (k : ℕ). numbers_at c.args.self.now ++ drop k old) (length-number_bytes c.args.self.now)
