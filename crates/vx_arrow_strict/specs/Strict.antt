-- Which rule a node breaks first, and which node of a table.
use Rattle.std.specs.Prelude.{◌≡◌, ℕ, ◌+◌, ◌<◌, List, drop, length, slice_get, slice_index_or, if◌then◌else◌, Option, Some, None}
use Rattle.vx_arrow_image.specs.Image.{Part}
use Rattle.vx_arrow_strict.specs.declared.flaw.Extra.{Extra}
use Rattle.vx_arrow_strict.specs.declared.flaw.Flaw.{Flaw}
use Rattle.vx_arrow_strict.specs.declared.flaw.Rule.{Rule}
use Rattle.vx_arrow_strict.specs.declared.flaw.Rule.TheVariants as rules
use Rattle.vx_arrow_strict.specs.Codes.{has_codes}
use Rattle.vx_arrow_strict.specs.Dense.{dense_holds}
use Rattle.vx_arrow_strict.specs.Lists.{lists_hold}
use Rattle.vx_arrow_strict.specs.Maps.{absent, maps_hold}
use Rattle.vx_arrow_strict.specs.Nulls.{counts_nulls}
use Rattle.vx_arrow_strict.specs.Texts.{texts_hold}

-- the first rule that a node breaks, with the nodes behind it; without an extra it is the first
-- rule
unfoldable pub flaw_of : Part → Option Extra → List Part → Option Rule
flaw_of p None below = Some rules.NullCount
flaw_of p (Some x) below =
    if counts_nulls p x then
    if has_codes p x then
    if maps_hold p x below then
    if texts_hold p.format p below then
    if lists_hold p.format p below then
    if dense_holds p.format p then None else Some rules.Dense
    else Some rules.ListViews
    else Some rules.Views
    else Some rules.Map
    else Some rules.Codes
    else Some rules.NullCount

-- the first rule that node k of a table breaks
unfoldable pub flaw_at : List Part → List Extra → ℕ → Option Rule
flaw_at parts extras k =
    flaw_of (slice_index_or parts k absent) (slice_get extras k) (drop (k + 1) parts)

-- no node breaks a rule
abbrev pub IsStrict : List Part → List Extra → Type 0
IsStrict parts extras = (k : ℕ) → k < length parts → flaw_at parts extras k ≡ None

-- it is the first node that breaks a rule, and the first rule that it breaks
pub record IsFirstFlaw (parts : List Part) (extras : List Extra) (f : Flaw) : Type 0 where
  pub within : f.node < length parts
  pub broken : flaw_at parts extras f.node ≡ Some f.rule
  pub first : (k : ℕ) → k < f.node → flaw_at parts extras k ≡ None
