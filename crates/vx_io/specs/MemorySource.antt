-- What contracts see of a source in memory of which some calls fail.
use Rattle.std.specs.Prelude.{ℕ, List, drop}
use Rattle.vx_io.specs.Bytes.{next_count}

-- a source, and which of its calls fail
pub record SourceState : Type 0 where
  -- the bytes that are left
  pub bytes : List ℕ
  -- how many a call takes at most
  pub piece : ℕ
  -- the numbers of the calls that fail
  pub failing : List ℕ
  -- the number of the next call
  pub call : ℕ
  -- how many calls have failed
  pub faults : ℕ

-- a source that no call was made of
abbrev pub new_source : List ℕ → ℕ → List ℕ → SourceState
new_source bytes piece failing =
    record { bytes = bytes; piece = piece; failing = failing; call = 0; faults = 0 }

-- a call took n bytes
abbrev pub after_read : SourceState → ℕ → SourceState
after_read s n = record s { bytes = drop n s.bytes; call = next_count s.call }

-- a call failed
abbrev pub after_failed_read : SourceState → SourceState
after_failed_read s = record s { call = next_count s.call; faults = next_count s.faults }
