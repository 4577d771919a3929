-- Text: its kinds, and what a view of it stands for.
use Rattle.std.specs.Prelude.{ℕ, ◌+◌, ◌-◌, ◌++◌, ◌&&◌, nat_le, nat_lt, Bool, List, [], length, take, replicate, slice_range, slice_index_or, if◌then◌else◌}
use Rattle.std.specs.Str.{bytes_eq}
use Rattle.vx_types.specs.TypeTree.{TypeKind, utf8_kind, binary_kind}
use Rattle.vx_types.specs.declared.text.TextKind.{TextKind}
use Rattle.vx_types.specs.declared.text.TextKind.TheVariants.{Utf8, Binary}
use Rattle.vx_types.specs.declared.text.InlineBytes.{InlineBytes}
use Rattle.vx_types.specs.declared.text.BinaryView.{BinaryView}
use Rattle.vx_types.specs.declared.text.BinaryView.TheVariants.{Inlined, Ref}

-- the kind of a column's type
abbrev pub text_kind : TextKind → TypeKind
text_kind Utf8 = utf8_kind
text_kind Binary = binary_kind

-- a text of at most twelve bytes, and zeros past its end
abbrev pub inline_text : List ℕ → InlineBytes
inline_text b = record { len = length b; bytes = b ++ replicate (12 - length b) 0 }

-- the view of a text that stands at an offset of a buffer
abbrev pub view_of : List ℕ → ℕ → ℕ → BinaryView
view_of b buffer offset =
    if nat_le (length b) 12 then Inlined (inline_text b)
    else Ref (length b) (take 4 b) buffer offset

-- the text that a view stands for
abbrev pub view_text : List (List ℕ) → BinaryView → List ℕ
view_text buffers (Inlined inline) = take inline.len inline.bytes
view_text buffers (Ref len prefix buffer offset) =
    slice_range (slice_index_or buffers buffer []) offset (offset + len)

-- a text of more than twelve bytes stands at an offset, and begins so
abbrev pub is_text_at : List ℕ → ℕ → List ℕ → ℕ → Bool
is_text_at bytes len prefix offset =
    nat_lt 12 len && (nat_le (offset + len) (length bytes)
    && bytes_eq (slice_range bytes offset (offset + 4)) prefix)

-- a view is one of a text: at most twelve bytes in itself, or more that stand in a buffer
abbrev pub is_view : List (List ℕ) → BinaryView → Bool
is_view buffers (Inlined inline) = nat_le inline.len 12
is_view buffers (Ref len prefix buffer offset) =
    nat_lt buffer (length buffers)
    && is_text_at (slice_index_or buffers buffer []) len prefix offset
