-- A `Block` in memory as its two fields. Assumes `Logic`.
--     Block      the row of a `Block`.        block_out, block_in      [the count; the value; what is left of the block], each way
use mathlib.Core.List.{List, [], ◌∷◌}
use Prim.Native.Nat.{ℕ, zero}
use seplogic.Ra.Ura.{Ura}
use base.Fraction.{full_share}
use mir.Syntax.{Sym, w64, ty_int}
use base.Logic.{ent, sep, id⊢}
use base.Fml.{Fml}
use types.Logic.{Logic, sem}
use types.Kit.{‵, ◌⊛◌, ◌$◌, ◌∵◌, !, qed, move, drop, split, fsplit3, fjoin, use1, use2, done}
use denote.Builtin.{usize}
use denote.Memory.{part_at, part_of}
use denote.Param.{param, layout}
use denote.Param.Laws.{Laws, param_laws}
use denote.Plain.{uint_Lawful}
use denote.RattleType.{RattleType}
use denote.RawPtr.{block_ptr}
use denote.Steps.{nothing}
use denote.Struct.Declared.{shape}
use denote.Struct.Members.{Member, parts_at, lawful_Lones}
use denote.Struct.Parts.{Struct-left, left_Struct}
use denote.Struct.Struct.{Struct}
use Rattle.vx_shared.specs.Counted.{count_at, value_at, left_at}
use Rattle.vx_shared.specs.contracts.counted.Block as block

module _ (T : RattleType) (L : Laws T) where
  abbrev R : RattleType
  R = param 0 T

  abbrev pub Block : RattleType
  Block = block.the_row R

  abbrev fields : List Member
  fields = record { row = usize; ty = ty_int w64 } ∷ record { row = R; ty = layout T } ∷ []

  abbrev ν : Sym
  ν = (block.the_type R).name

  abbrev Tuple : RattleType
  Tuple = Struct (shape (block.the_type R))

  module _ {M : Type 1} {𝓤 : Ura M} (𝓛 : Logic 𝓤) (n : ℕ) (x : T.Denot) (b o : ℕ) where
    abbrev Parts : Fml
    Parts = parts_at full_share fields zero (n, (x, tt)) b o

    as_tuple : ent 𝓤 (sem 𝓛 (part_at Block full_share (record { count = n; value = x }) b o)) (sem 𝓛 (part_at Tuple full_share (n, (x, tt)) b o))
    unfolding part_of
    as_tuple = id⊢ 𝓤 _

    as_block : ent 𝓤 (sem 𝓛 (part_at Tuple full_share (n, (x, tt)) b o)) (sem 𝓛 (part_at Block full_share (record { count = n; value = x }) b o))
    unfolding part_of
    as_block = id⊢ 𝓤 _

    pub block_out : ent 𝓤 (sem 𝓛 (part_at Block full_share (record { count = n; value = x }) b o))
        (sep 𝓤 (sem 𝓛 (count_at (block_ptr b o) n)) (sep 𝓤 (sem 𝓛 (value_at R (block_ptr b o) x)) (sem 𝓛 (left_at R (block_ptr b o)))))
    block_out = qed 𝓛 (‵ (part_at Block full_share (record { count = n; value = x }) b o) ∷ []) ∵ use1 𝓛 (‵ (part_at Tuple full_share (n, (x, tt)) b o)) as_tuple $
        use1 𝓛 (‵ Parts ⊛ ‵ (left_at R (block_ptr b o))) (Struct-left 𝓛 full_share ν fields (lawful_Lones 𝓛 fields (uint_Lawful 𝓛 w64, ((param_laws 0 T L).lawful 𝓛, tt))) (n, (x, tt)) b o) $
        split ! $ fsplit3 ! $ move ! (2 ∷ []) $ drop ! $ done !

    pub block_in : ent 𝓤 (sep 𝓤 (sem 𝓛 (count_at (block_ptr b o) n)) (sep 𝓤 (sem 𝓛 (value_at R (block_ptr b o) x)) (sem 𝓛 (left_at R (block_ptr b o)))))
        (sem 𝓛 (part_at Block full_share (record { count = n; value = x }) b o))
    block_in = qed 𝓛 (‵ (count_at (block_ptr b o) n) ∷ ‵ (value_at R (block_ptr b o) x) ∷ ‵ (left_at R (block_ptr b o)) ∷ []) ∵
        nothing ! $ move ! (2 ∷ 0 ∷ []) $ fjoin ! $ move ! (1 ∷ 0 ∷ []) $ fjoin ! $
        use2 𝓛 (‵ (part_at Tuple full_share (n, (x, tt)) b o)) (left_Struct 𝓛 full_share ν fields (n, (x, tt)) b o) $ use1 𝓛 (‵ (part_at Block full_share (record { count = n; value = x }) b o)) as_block $ done !
