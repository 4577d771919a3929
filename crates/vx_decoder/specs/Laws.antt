-- What holds of whole chunks.
use Rattle.std.proofs.Common.{◌≡◌, ◌*◌, ◌-◌, ◌/◌, ◌%◌, ◌^◌, ◌<◌, min, List, length, arith}
use Rattle.std.proofs.lemmas.List.{length-take-le, take_all}
use Rattle.vx_decoder.specs.Told.{whole_chunks}

pub whole_chunks_are_whole : {X : Type 0} (xs : List X) → length (whole_chunks xs) % 1024 ≡ 0
whole_chunks_are_whole xs =
    omega (arith, length-take-le (min (length xs) (2 ^ 64 - 1) / 1024 * 1024) xs (omega arith))

pub whole_chunks_are_bounded : {X : Type 0} (xs : List X) → length (whole_chunks xs) < 2 ^ 64
whole_chunks_are_bounded xs =
    omega (arith, length-take-le (min (length xs) (2 ^ 64 - 1) / 1024 * 1024) xs (omega arith))

pub whole_chunks_same : {X : Type 0} (xs : List X) → length xs % 1024 ≡ 0 → length xs < 2 ^ 64
    → whole_chunks xs ≡ xs
whole_chunks_same xs h b =
    take_all (min (length xs) (2 ^ 64 - 1) / 1024 * 1024) xs (omega arith)
