-- A `&` to an owner holds a share of its lifetime's token. Assumes `Logic`.
use denote.RattleType.{RattleType}
use denote.Param.Laws.{Laws}
use denote.Param.Shared.{copy_shared}
use denote.Struct.Field.{RawPtr-field}
use denote.Struct.Laws.{RawPtr-copy}
use denote.Struct.Lending.{of_Lends, lent_at_shr_laws}
use denote.RawPtr.{◌+ₚ◌}
use Rattle.vx_shared.specs.Counted.{key, count_at, value_offset, value_and_block, value_shared}
use Rattle.vx_shared.specs.contracts.counted.Counted as C
use Rattle.vx_shared.proofs.Saturating.{owner_laws, Lends-owner}
use Rattle.vx_shared.proofs.counted.Counted.TheLaw.Statement.{statement}

pub shares : (T : RattleType) (L : Laws T) → statement T L
shares T L = of_Lends (C.struct T) (C.the_codes T.Denot T.coded) (C.the_heap T) (C.the_lent T)
    (λ d p. owner_laws (key d.ptr) (count_at d.ptr) (value_and_block T d.ptr d.value) (value_shared T d.ptr d.value) (lent_at_shr_laws T L.shr_laws (d.ptr +ₚ value_offset T) d.value)) (copy_shared RawPtr-field RawPtr-copy, tt)
    (λ M 𝓤 𝓛 d p. Lends-owner (key d.ptr) (count_at d.ptr) (value_and_block T d.ptr d.value) (value_shared T d.ptr d.value) (lent_at_shr_laws T L.shr_laws (d.ptr +ₚ value_offset T) d.value) 𝓛 (C.the_row T).lives)
