-- The rows of the layouts of text.
use Rattle.std.proofs.Common.{◌≡◌, ℕ, zero, suc, ◌+◌, ◌-◌, ◌<◌, ◌≤◌, Bool, true, false, List, [], ◌∷◌, map, length, get_or, slice_range, None, Some, refl, sym, ap, ◌∙◌, arith}
use Rattle.std.specs.Prelude.{if◌then◌else◌, ℤ, pos}
use Rattle.std.specs.List.{list_all}
use Rattle.std.proofs.lemmas.List.{length-map, get_or-map}
use Rattle.vx_types.specs.RowValue.{RowValue, null, bytes}
use Rattle.vx_types.specs.Scalar.{is_of_bytes, is_width_of}
use Rattle.vx_types.specs.Text.{text_kind, is_view, view_text}
use Rattle.vx_types.specs.TypeTree.{TypeTree, type_width, is_carried}
use Rattle.vx_types.specs.declared.nullability.Nullability.{Nullability}
use Rattle.vx_types.specs.declared.text.BinaryView.{BinaryView}
use Rattle.vx_types.specs.declared.text.TextKind.{TextKind}
use Rattle.vx_types.specs.declared.text.TextKind.TheVariants.{Utf8, Binary}
use Rattle.vx_types.specs.declared.error.ColumnError.TheVariants.{WrongType, BadValidity, BadOffsets, BadViews}
use Rattle.vx_offsets.specs.Offsets.{are_offsets, spans, items_in, lists_at, offset_positions}
use Rattle.vx_positions.specs.Positions.{position_of}
use Rattle.vx_offsets.proofs.Ascending.{offset_ascends, offset_value, offset_within}
use Rattle.vx_model.specs.Valid.{Valid, is_fitting, is_present}
use Rattle.vx_model.specs.Numbers.{integer_by, integers_of}
use Rattle.vx_model.specs.Text.{TextParts, stored_texts, text_column}
use Rattle.vx_model.specs.VarBin.{VarBinParts, are_integers, row_count, varbin_fault, varbin_texts, varbin_column}
use Rattle.vx_model.specs.VarBinView.{ViewParts, views_fault, view_texts, views_column}
use Rattle.vx_model.proofs.Spans.{length-spans, get_or-spans}
use Rattle.vx_model.proofs.StoredRows.{length-stored_rows, get_or-stored_rows}
use Rattle.std.specs.Cmp.{first_so, second_so}

-- ---- lists that offsets cut

pub length-lists_at : {X : Type 0} (offsets : List ℕ) (items : List X) → length (lists_at offsets items) ≡ length offsets - 1
length-lists_at offsets items = length-map (spans offsets) (items_in items) ∙ length-spans offsets

pub get_or-lists_at : {X : Type 0} (offsets : List ℕ) (items : List X) (i : ℕ) → i + 1 < length offsets → get_or (lists_at offsets items) i [] ≡ slice_range items (get_or offsets i 0) (get_or offsets (i + 1) 0)
get_or-lists_at offsets items i h =
    get_or-map (items_in items) (spans offsets) i (0, 0) [] (omega (arith, h, length-spans offsets))
    ∙ ap (items_in items) (get_or-spans offsets i h)

-- ---- either layout

-- the type is one that a column may have, and bytes are a row of it
pub carried-text : (k : TextKind) (n : Nullability) (t : TypeTree) → t ≡ record { kind = text_kind k; nullability = n } → is_carried t ≡ true
carried-text Utf8 n t e = ap is_carried e
carried-text Binary n t e = ap is_carried e

pub of_bytes-text : (k : TextKind) → is_of_bytes (text_kind k) ≡ true
of_bytes-text Utf8 = refl
of_bytes-text Binary = refl

pub width-text : (k : TextKind) (n : Nullability) (b : List ℕ) → is_width_of (type_width (record { kind = text_kind k; nullability = n })) b ≡ true
width-text Utf8 n b = refl
width-text Binary n b = refl

fits : (p : TextParts) → is_fitting p.valid (length p.texts) ≡ true → is_fitting p.valid (length (map bytes p.texts)) ≡ true
fits p h = ap (is_fitting p.valid) (length-map p.texts bytes) ∙ h

length-text : (p : TextParts) → is_fitting p.valid (length p.texts) ≡ true → length (text_column p).rows ≡ length p.texts
length-text p h = length-stored_rows p.valid (map bytes p.texts) (fits p h) ∙ length-map p.texts bytes

row-text : (p : TextParts) (i : ℕ) → is_fitting p.valid (length p.texts) ≡ true → i < length p.texts → get_or (text_column p).rows i null ≡ (if is_present p.valid i then bytes (get_or p.texts i []) else null)
row-text p i h l =
    get_or-stored_rows p.valid (map bytes p.texts) i (fits p h) (omega (arith, l, length-map p.texts bytes))
    ∙ ap (λ (x : RowValue). if is_present p.valid i then x else null) (get_or-map bytes p.texts i [] null l)

-- the row of a text that is there, and of one that isn't
shown-text : (p : TextParts) (i : ℕ) (t : List ℕ) → is_fitting p.valid (length p.texts) ≡ true → i < length p.texts → is_present p.valid i ≡ true → t ≡ get_or p.texts i [] → bytes t ≡ get_or (text_column p).rows i null
shown-text p i t h l there is = ap bytes is ∙ ap (λ (b : Bool). if b then bytes (get_or p.texts i []) else null) (sym there) ∙ sym (row-text p i h l)

hidden-text : (p : TextParts) (i : ℕ) → is_fitting p.valid (length p.texts) ≡ true → i < length p.texts → is_present p.valid i ≡ false → null ≡ get_or (text_column p).rows i null
hidden-text p i h l gone = ap (λ (b : Bool). if b then bytes (get_or p.texts i []) else null) (sym gone) ∙ sym (row-text p i h l)

-- ---- `VarBin`

pub integers-varbin : (p : VarBinParts) → varbin_fault p ≡ None → are_integers p.offsets ≡ true
integers-varbin p h = parts (are_integers p.offsets) (is_fitting p.valid (row_count p.offsets)) (are_offsets (integers_of p.offsets) (length p.bytes)) h
  where
    parts : (a b c : Bool) → (if a then (if b then (if c then None else Some BadOffsets) else Some BadValidity) else Some WrongType) ≡ None → a ≡ true
    parts true b c h = refl
    parts false b c h = cc

pub fitting-varbin : (p : VarBinParts) → varbin_fault p ≡ None → is_fitting p.valid (row_count p.offsets) ≡ true
fitting-varbin p h = parts (are_integers p.offsets) (is_fitting p.valid (row_count p.offsets)) (are_offsets (integers_of p.offsets) (length p.bytes)) h
  where
    parts : (a b c : Bool) → (if a then (if b then (if c then None else Some BadOffsets) else Some BadValidity) else Some WrongType) ≡ None → b ≡ true
    parts true true c h = refl
    parts true false c h = cc
    parts false b c h = cc

pub offsets-varbin : (p : VarBinParts) → varbin_fault p ≡ None → are_offsets (integers_of p.offsets) (length p.bytes) ≡ true
offsets-varbin p h = parts (are_integers p.offsets) (is_fitting p.valid (row_count p.offsets)) (are_offsets (integers_of p.offsets) (length p.bytes)) h
  where
    parts : (a b c : Bool) → (if a then (if b then (if c then None else Some BadOffsets) else Some BadValidity) else Some WrongType) ≡ None → c ≡ true
    parts true true true h = refl
    parts true true false h = cc
    parts true false c h = cc
    parts false b c h = cc

-- there are as many texts as rows
pub texts-varbin : (p : VarBinParts) → length (varbin_texts p).texts ≡ row_count p.offsets
texts-varbin p =
    let zs = integers_of p.offsets in
    length-lists_at (offset_positions zs) p.bytes
    ∙ ap (λ n. n - 1) (length-map zs position_of ∙ length-map p.offsets.records (integer_by p.offsets.kind))

fit-varbin : (p : VarBinParts) → varbin_fault p ≡ None → is_fitting p.valid (length (varbin_texts p).texts) ≡ true
fit-varbin p h = ap (is_fitting p.valid) (texts-varbin p) ∙ fitting-varbin p h

pub length-varbin : (p : VarBinParts) → varbin_fault p ≡ None → length (varbin_column p).rows ≡ row_count p.offsets
length-varbin p h = length-text (varbin_texts p) (fit-varbin p h) ∙ texts-varbin p

-- row i, where it is there and where it isn't
pub shown-varbin : (p : VarBinParts) (i : ℕ) (t : List ℕ) → varbin_fault p ≡ None → i < length (varbin_texts p).texts → is_present p.valid i ≡ true → t ≡ get_or (varbin_texts p).texts i [] → bytes t ≡ get_or (varbin_column p).rows i null
shown-varbin p i t h l there is = shown-text (varbin_texts p) i t (fit-varbin p h) l there is

pub hidden-varbin : (p : VarBinParts) (i : ℕ) → varbin_fault p ≡ None → i < length (varbin_texts p).texts → is_present p.valid i ≡ false → null ≡ get_or (varbin_column p).rows i null
hidden-varbin p i h l gone = hidden-text (varbin_texts p) i (fit-varbin p h) l gone

-- there are as many rows as texts
pub rows-varbin : (p : VarBinParts) → varbin_fault p ≡ None → length (varbin_column p).rows ≡ length (varbin_texts p).texts
rows-varbin p h = length-varbin p h ∙ sym (texts-varbin p)

-- there is an offset
pub some-varbin : (p : VarBinParts) → varbin_fault p ≡ None → row_count p.offsets < length p.offsets.records
some-varbin p h = some (integers_of p.offsets) (length p.bytes) (offsets-varbin p h) (length-map p.offsets.records (integer_by p.offsets.kind))
  where
    some : (zs : List ℤ) (n : ℕ) → are_offsets zs n ≡ true → length zs ≡ length p.offsets.records → row_count p.offsets < length p.offsets.records
    some [] n h l = cc
    some (z ∷ zs) n h l = omega (arith, l)

-- they are sound with any validity that fits
pub fault-varbin-valid : (p : VarBinParts) (v : Valid) → varbin_fault p ≡ None → is_fitting v (length (varbin_texts p).texts) ≡ true → varbin_fault (record p { valid = v }) ≡ None
fault-varbin-valid p v h fit =
    rw (integers-varbin p h, ap (is_fitting v) (sym (texts-varbin p)) ∙ fit, offsets-varbin p h) refl

pub ruleset some_offset = (some-varbin)

pub ruleset other_valid = (fault-varbin-valid)

-- where the text of a row begins and ends
module _ (p : VarBinParts) (h : varbin_fault p ≡ None) where
  numbers : length (integers_of p.offsets) ≡ length p.offsets.records
  numbers = length-map p.offsets.records (integer_by p.offsets.kind)

  pub offset-varbin : (i : ℕ) → i < length p.offsets.records → pos (get_or (offset_positions (integers_of p.offsets)) i 0) ≡ integer_by p.offsets.kind (get_or p.offsets.records i [])
  offset-varbin i l =
      offset_value (length p.bytes) (integers_of p.offsets) i (offsets-varbin p h) (omega (arith, l, numbers))
      ∙ get_or-map (integer_by p.offsets.kind) p.offsets.records i [] (pos 0) l

  pub within-varbin : (i : ℕ) → i < length p.offsets.records → get_or (offset_positions (integers_of p.offsets)) i 0 ≤ length p.bytes
  within-varbin i l = offset_within (length p.bytes) (integers_of p.offsets) i (offsets-varbin p h) (omega (arith, l, numbers))

  pub ascends-varbin : (i : ℕ) → i + 1 < length p.offsets.records → get_or (offset_positions (integers_of p.offsets)) i 0 ≤ get_or (offset_positions (integers_of p.offsets)) (i + 1) 0
  ascends-varbin i l = offset_ascends (length p.bytes) (integers_of p.offsets) i (offsets-varbin p h) (omega (arith, l, numbers))

  pub text-varbin : (i : ℕ) → i < length (varbin_texts p).texts → get_or (varbin_texts p).texts i [] ≡ slice_range p.bytes (get_or (offset_positions (integers_of p.offsets)) i 0) (get_or (offset_positions (integers_of p.offsets)) (i + 1) 0)
  text-varbin i l =
      get_or-lists_at (offset_positions (integers_of p.offsets)) p.bytes i
      (omega (arith, l, texts-varbin p, length-map (integers_of p.offsets) position_of, numbers))

  -- its offsets are there
  pub begins-varbin : (i : ℕ) → i < length (varbin_texts p).texts → i < length p.offsets.records
  begins-varbin i l = omega (arith, l, texts-varbin p)

  pub ends-varbin : (i : ℕ) → i < length (varbin_texts p).texts → i + 1 < length p.offsets.records
  ends-varbin i l = omega (arith, l, texts-varbin p)

-- ---- `VarBinView`

pub fitting-views : (p : ViewParts) → views_fault p ≡ None → is_fitting p.valid (length p.views) ≡ true
fitting-views p h = parts (is_fitting p.valid (length p.views)) (list_all (is_view p.buffers) p.views) h
  where
    parts : (a b : Bool) → (if a then (if b then None else Some BadViews) else Some BadValidity) ≡ None → a ≡ true
    parts true b h = refl
    parts false b h = cc

pub sound-views : (p : ViewParts) → views_fault p ≡ None → list_all (is_view p.buffers) p.views ≡ true
sound-views p h = parts (is_fitting p.valid (length p.views)) (list_all (is_view p.buffers) p.views) h
  where
    parts : (a b : Bool) → (if a then (if b then None else Some BadViews) else Some BadValidity) ≡ None → b ≡ true
    parts true true h = refl
    parts true false h = cc
    parts false b h = cc

pub texts-views : (p : ViewParts) → length (view_texts p).texts ≡ length p.views
texts-views p = length-map p.views (view_text p.buffers)

-- a view's text, and that it is one
pub text-views : (p : ViewParts) (i : ℕ) (d : BinaryView) → i < length p.views → get_or (view_texts p).texts i [] ≡ view_text p.buffers (get_or p.views i d)
text-views p i d l = get_or-map (view_text p.buffers) p.views i d [] l

pub view-views : (p : ViewParts) (i : ℕ) (d : BinaryView) → views_fault p ≡ None → i < length p.views → is_view p.buffers (get_or p.views i d) ≡ true
view-views p i d h l = each (is_view p.buffers) p.views i (sound-views p h) l
  where
    each : (f : BinaryView → Bool) (xs : List BinaryView) (i : ℕ) → list_all f xs ≡ true → i < length xs → f (get_or xs i d) ≡ true
    each f [] i h l = absurd (omega arith)
    each f (x ∷ xs) zero h l = first_so (f x) (list_all f xs) h
    each f (x ∷ xs) (suc i) h l = each f xs i (second_so (f x) (list_all f xs) h) (omega arith)

fit-views : (p : ViewParts) → views_fault p ≡ None → is_fitting p.valid (length (view_texts p).texts) ≡ true
fit-views p h = ap (is_fitting p.valid) (texts-views p) ∙ fitting-views p h

pub shown-views : (p : ViewParts) (i : ℕ) (t : List ℕ) → views_fault p ≡ None → i < length (view_texts p).texts → is_present p.valid i ≡ true → t ≡ get_or (view_texts p).texts i [] → bytes t ≡ get_or (views_column p).rows i null
shown-views p i t h l there is = shown-text (view_texts p) i t (fit-views p h) l there is

pub hidden-views : (p : ViewParts) (i : ℕ) → views_fault p ≡ None → i < length (view_texts p).texts → is_present p.valid i ≡ false → null ≡ get_or (views_column p).rows i null
hidden-views p i h l gone = hidden-text (view_texts p) i (fit-views p h) l gone

pub length-views : (p : ViewParts) → views_fault p ≡ None → length (views_column p).rows ≡ length p.views
length-views p h = length-text (view_texts p) (fit-views p h) ∙ texts-views p

pub rows-views : (p : ViewParts) → views_fault p ≡ None → length (views_column p).rows ≡ length (view_texts p).texts
rows-views p h = length-views p h ∙ sym (texts-views p)

-- ---- the items of either

pub items-texts : (p : TextParts) → length (stored_texts p).items ≡ length p.texts
items-texts p = length-map p.texts bytes

pub fits-varbin : (p : VarBinParts) → varbin_fault p ≡ None → is_fitting p.valid (length (stored_texts (varbin_texts p)).items) ≡ true
fits-varbin p h = fits (varbin_texts p) (fit-varbin p h)

pub fits-views : (p : ViewParts) → views_fault p ≡ None → is_fitting p.valid (length (stored_texts (view_texts p)).items) ≡ true
fits-views p h = fits (view_texts p) (fit-views p h)

pub items-views : (p : ViewParts) → length (stored_texts (view_texts p)).items ≡ length p.views
items-views p = items-texts (view_texts p) ∙ texts-views p

pub items-varbin : (p : VarBinParts) → length (stored_texts (varbin_texts p)).items ≡ length (varbin_texts p).texts
items-varbin p = items-texts (varbin_texts p)

-- what a proof about the length or about one row needs
pub ruleset varbin_rows = (carried-text, of_bytes-text, width-text, texts-varbin, length-varbin, rows-varbin, fitting-varbin, shown-varbin, hidden-varbin)

pub ruleset view_rows = (carried-text, of_bytes-text, width-text, texts-views, length-views, rows-views, fitting-views, shown-views, hidden-views)

-- what a proof about the text of a row needs
pub ruleset varbin_offsets = (integers-varbin, offset-varbin, within-varbin, ascends-varbin, text-varbin, begins-varbin, ends-varbin)

pub ruleset view_each = (texts-views, text-views, view-views)

-- what a proof about the items and the validity that fits them needs
pub ruleset text_items = (items-varbin, fits-varbin, items-views, fits-views)
