-- What holds of all picks.
use Rattle.std.specs.Prelude.{◌≡◌, ℕ, ◌<◌, Bool, List, length, map, Contains, Option, None, Some}
use Rattle.std.specs.List.{AllAdjacentBelow, items_where_true}
use Rattle.vx_bits.specs.BitBuffer.{true_count_of}
use Rattle.vx_mask.specs.Positions.{rank_of, set_of}
use Rattle.vx_take.specs.Picks.{AreBelow, at}
use Rattle.vx_take.specs.Ranks.{AreJustSet, AreSet, ranks_of_picks, positions_by_rank}

-- each set position is below the next
abbrev pub SetAscends : List Bool → Type 0
SetAscends bits = AllAdjacentBelow (λ p next. p < next) (set_of bits) (length (set_of bits))

-- the items where bits are set are those at the set positions, which have no null
abbrev pub IsTakeAtTheSet : {X : Type 0} → List Bool → List X → Type 0
IsTakeAtTheSet {X} bits items =
    length bits ≡ length items
    → (missing : X) → items_where_true bits items ≡ at missing items (map Some (set_of bits))

-- a take of a take is one take, at the later picks looked up in the earlier ones: a null of the
-- later ones, or one that they name, is a null
abbrev pub TakesJoin : {X : Type 0} → List X → List (Option ℕ) → List (Option ℕ) → Type 0
TakesJoin {X} items picks later =
    (missing : X)
    → at missing (at missing items picks) later ≡ at missing items (at None picks later)

-- a take of a filter is a take at the set positions that its ranks name
abbrev pub IsTakeOfFilter : {X : Type 0} → List Bool → List X → List (Option ℕ) → Type 0
IsTakeOfFilter {X} bits items ranks =
    length bits ≡ length items
    → AreBelow ranks (true_count_of bits)
    → (missing : X)
    → at missing (items_where_true bits items) ranks
    ≡ at missing items (positions_by_rank bits ranks)

-- p is the position of exactly one rank
pub record IsOneRank (bits : List Bool) (p : ℕ) : Type 0 where
  pub rank : ℕ
  pub below : rank < true_count_of bits
  pub position : rank_of bits rank ≡ p
  pub only : (k : ℕ) → k < true_count_of bits → rank_of bits k ≡ p → k ≡ rank

-- where the set positions are just the picks, each position among them is that of exactly one rank
abbrev pub EachIsOneRank : List Bool → List (Option ℕ) → Type 0
EachIsOneRank bits picks =
    AreJustSet bits picks → (p : ℕ) → Contains picks (Some p) → IsOneRank bits p

-- where picks are set positions, a take at them is a take of the filter at their ranks
abbrev pub IsLookedUp : {X : Type 0} → List Bool → List X → List (Option ℕ) → Type 0
IsLookedUp {X} bits items picks =
    length bits ≡ length items
    → AreSet bits picks
    → (missing : X)
    → at missing items picks ≡ at missing (items_where_true bits items) (ranks_of_picks bits picks)

-- the ranks of picks that are set positions name these picks
abbrev pub AreRankedBack : List Bool → List (Option ℕ) → Type 0
AreRankedBack bits picks =
    AreSet bits picks → positions_by_rank bits (ranks_of_picks bits picks) ≡ picks

-- where the set positions are just the picks, the picks are set positions
abbrev pub JustSetAreSet : List Bool → List (Option ℕ) → Type 0
JustSetAreSet bits picks = AreJustSet bits picks → AreSet bits picks
