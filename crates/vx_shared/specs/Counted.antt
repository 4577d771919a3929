-- What a `Counted` owns and shares. c points to a `Block` with a count and the value x, of the row
-- R.
use Rattle.std.specs.Prelude.{ℕ, []}
use base.Fraction.{full_share}
use base.Fml.{Lft, Key, Fml, ffalse, fsep, fex, fleft}
use mir.Syntax.{Ty, Tys, w64, ty_int, ty_struct, tcons, tnil}
use mir.Raw.{raw}
use prog.Memory.{align, up}
use denote.RattleType.{RattleType}
use denote.Memory.{lone}
use denote.Builtin.{usize}
use denote.RawPtr.{Ptr, block_ptr, null_ptr, block_of, count_of, lies_at, ◌+ₚ◌}
use denote.Struct.Lending.{lent_at}
use Rattle.std.specs.declared.alloc.Global.{Global}
use Rattle.std.specs.contracts.impls.GlobalAllocator.TheImpl.{ghosts}
use Rattle.vx_shared.specs.Saturating.{owner_owns, owner_lends}

-- where the block lies, as the name of its invariant
abbrev pub key : Ptr → Key
key c = (block_of c, count_of c)

-- ownership of the count n in its field
abbrev pub count_at : Ptr → ℕ → Fml
count_at c n = lies_at usize full_share (c +ₚ 0) n

module _ (R : RattleType) where
  -- the fields of a `Block`, as the machine sees them
  abbrev pub block_fields : Tys
  block_fields = tcons (ty_int w64) (tcons (raw (lone R.mir)) tnil)

  abbrev pub block_type : Ty
  block_type = ty_struct [] block_fields

  abbrev pub value_offset : ℕ
  value_offset = up (align (lone R.mir)) 8

  -- ownership of the value x in its field
  abbrev pub value_at : Ptr → R.Denot → Fml
  value_at c x = lies_at R full_share (c +ₚ value_offset) x

  -- what is left of the block's memory beside its fields
  abbrev pub left_at : Ptr → Fml
  left_at (block_ptr b o) = fleft full_share block_type block_fields b o
  left_at null_ptr = ffalse

  -- the right to free the block, which no value of `Global` changes
  abbrev pub freeable : Ptr → Fml
  freeable c = fex Global (λ heap. ghosts.dealloc_token heap block_type c)

module _ (R : RattleType) (c : Ptr) (x : R.Denot) where
  -- what the last owner gets beside the count
  abbrev pub value_and_block : Fml
  value_and_block = fsep (value_at R c x) (fsep (left_at R c) (freeable R c))

  -- what a `&` to the value holds
  abbrev pub value_shared : Lft → Fml
  value_shared = lent_at R (c +ₚ value_offset R) x

  abbrev pub counted_owns : Fml
  counted_owns = owner_owns (key c) (count_at c) value_and_block value_shared

  abbrev pub counted_shares : Lft → Fml
  counted_shares = owner_lends (key c) (count_at c) value_and_block value_shared
