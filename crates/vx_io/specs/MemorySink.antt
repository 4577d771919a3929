-- What contracts see of a sink in memory.
use Rattle.std.specs.Prelude.{ℕ, ◌+◌, ◌-◌, List, [], ◌++◌, length}
use Rattle.vx_io.specs.Bytes.{next_count}

-- a sink, and which of its calls fail
pub record SinkState : Type 0 where
  -- the bytes that it holds
  pub held : List ℕ
  -- how many more it has room for
  pub room : ℕ
  -- how many of those it holds no finish has covered
  pub pending : ℕ
  -- how many a call takes at most
  pub piece : ℕ
  -- the numbers of the calls that fail
  pub failing : List ℕ
  -- the number of the next call
  pub call : ℕ
  -- how many calls have failed
  pub faults : ℕ

-- a sink that no call was made of
abbrev pub new_sink : ℕ → List ℕ → ℕ → SinkState
new_sink piece failing room =
    record {
      held = [];
      room = room;
      pending = 0;
      piece = piece;
      failing = failing;
      call = 0;
      faults = 0;
    }

-- a call wrote some bytes
abbrev pub after_write : SinkState → List ℕ → SinkState
after_write s bytes =
    record s {
      held = s.held ++ bytes;
      room = s.room - length bytes;
      pending = s.pending + length bytes;
      call = next_count s.call;
    }

-- a call finished what was written
abbrev pub after_finish : SinkState → SinkState
after_finish s = record s { pending = 0; call = next_count s.call }

-- a call failed
abbrev pub after_failed_call : SinkState → SinkState
after_failed_call s = record s { call = next_count s.call; faults = next_count s.faults }
