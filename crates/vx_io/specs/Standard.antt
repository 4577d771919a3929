-- What contracts see of a std reader as a source, and of a std writer as a sink.
use Rattle.std.specs.Prelude.{ℕ}

-- the reader, and how many calls have failed
pub record ReaderState (R : Type 0) : Type 0 where
  pub reader : R
  pub faults : ℕ

-- the writer, and how many calls have failed
pub record WriterState (W : Type 0) : Type 0 where
  pub writer : W
  pub faults : ℕ
