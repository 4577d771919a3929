-- What the words ask for.
use Rattle.std.specs.Prelude.{◌≡◌, ◌≢◌, ◌<◌, ◌≤◌, ◌⊎◌, ℕ, ◌^◌, ◌&&◌, nat_le, nat_lt, length, List}
use Rattle.std.specs.Prelude.{[], ◌∷◌, Option, Some, None, option_map, codes, bytes_eq}
use Rattle.std.specs.Prelude.{if◌then◌else◌}
use Rattle.std.specs.Str.{all_ascii_digits}
use Rattle.std.specs.Str.Parse.{digits_value}
use Rattle.vx_rows.specs.declared.command.Command.{Command}
use Rattle.vx_rows.specs.declared.command.Command.TheVariants.{Read, Made}
use Rattle.vx_rows.specs.declared.command.Form.{Form}
use Rattle.vx_rows.specs.declared.command.Form.TheVariants as forms
use Rattle.vx_rows.specs.declared.trace.Trace.{Trace}

-- the number that one to ten digits write, where it is below 2^32
unfoldable pub number_named : List ℕ → Option ℕ
number_named word =
    if all_ascii_digits word && (nat_le 1 (length word) && nat_le (length word) 10)
    && nat_lt (digits_value 10 word) (2 ^ 32)
    then Some (digits_value 10 word) else None

abbrev pub command_named : List ℕ → Option Command
command_named word =
    if bytes_eq word (codes "rows") then Some (Read forms.Rows)
    else if bytes_eq word (codes "file") then Some (Read forms.File)
    else None

abbrev pub command_with : List ℕ → List ℕ → Option Command
command_with word number =
    if bytes_eq word (codes "made") then option_map Made (number_named number) else None

-- the page of this number, where pages of so many rows have rows
abbrev pub page_of : Option ℕ → Option ℕ → Option Command
page_of (Some number) (Some len) =
    if nat_lt 0 len then Some (Read (forms.Page number len)) else None
page_of number len = None

abbrev pub page_named : List ℕ → List ℕ → Option Command
page_named number len = page_of (number_named number) (number_named len)

abbrev pub command_with_two : List ℕ → List ℕ → List ℕ → Option Command
command_with_two word number len =
    if bytes_eq word (codes "page") then page_named number len else None

-- the command that the words name: `rows` or `file` alone, `made` and a number, or `page`, its
-- number, and how many rows a page has
abbrev pub command_of : List (List ℕ) → Option Command
command_of [] = None
command_of (w ∷ []) = command_named w
command_of (w ∷ v ∷ []) = command_with w v
command_of (w ∷ v ∷ x ∷ []) = command_with_two w v x
command_of (w ∷ v ∷ x ∷ y ∷ ws) = None

-- a page has a row at least
abbrev pub HasRows : Form → Type 0
HasRows forms.Rows = Unit {0}
HasRows forms.File = Unit {0}
HasRows (forms.Page number len) = 0 < len

-- a fact of the command that the words name; no words that name none
abbrev pub IfCommand : Option Command → (Command → Type 0) → Type 0
IfCommand None P = ⊥
IfCommand (Some command) P = P command

-- a fact of the source where the command reads nothing: `made` and other words read nothing
abbrev pub UnlessRead : Option Command → Type 0 → Type 0
UnlessRead None P = P
UnlessRead (Some (Read form)) P = Unit {0}
UnlessRead (Some (Made seed)) P = P

-- the statuses that may come of a command
abbrev pub MayEnd : Option Command → ℕ → Type 0
MayEnd None status = status ≡ 3
MayEnd (Some (Read form)) status = (status ≤ 7) × (status ≢ 3)
MayEnd (Some (Made seed)) status = (status ≡ 0) ⊎ (status ≡ 5) ⊎ (status ≡ 6)

-- what of a trace a command never changes: `rows` leaves the reads of a file, `file` the calls of a
-- decoder, and the others leave all
abbrev pub LeavesTrace : Option Command → Trace → Trace → Type 0
LeavesTrace None before after = after ≡ before
LeavesTrace (Some (Read forms.Rows)) before after = after.reads ≡ before.reads
LeavesTrace (Some (Read forms.File)) before after = after.calls ≡ before.calls
LeavesTrace (Some (Read (forms.Page number len))) before after = after ≡ before
LeavesTrace (Some (Made seed)) before after = after ≡ before
