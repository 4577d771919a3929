-- The bytes of the rows of one span more.
use Rattle.std.proofs.Common.{◌≡◌, ℕ, ◌+◌, ◌-◌, ◌*◌, ◌<◌, ◌≤◌, zero, suc, List, ◌++◌, length, get_or, take, drop, ap, ap₂, sym, ◌∙◌, subst, arith}
use Rattle.std.specs.List.{flat_map}
use Rattle.std.proofs.Math.Seq.{take-add}
use Rattle.std.proofs.Math.Nat.{add-mul, one-mul}
use Rattle.std.proofs.lemmas.List.{drop-drop}
use Rattle.vx_arrow_image.specs.Image.{Part}
use Rattle.vx_arrow_columns.proofs.RunRows.{run_bytes}
use Rattle.vx_arrow_interleave.specs.declared.spans.Span.{Span}
use Rattle.vx_arrow_interleave.specs.Bytes.{HoldRecords, record_in, records}
use Rattle.vx_arrow_interleave.specs.Sources.{part_at}
use Rattle.vx_arrow_interleave.specs.Spots.{Spot, run_of, spot, spots}
use Rattle.vx_arrow_interleave.proofs.SpotLists.{in_span, made_take, no_span, spots_all, spots_len, spots_none, spots_same, spots_within}

next_mul : (n w : ℕ) → (n + 1) * w ≡ n * w + w
next_mul n w = add-mul n 1 w ∙ ap (λ m. n * w + m) (one-mul w)

-- the records of rows that follow one another are a part of their source's
run_records : (w s a n : ℕ) (ps : List Part) → flat_map (record_in w ps) (run_of s a n) ≡ take (n * w) (drop (a * w) (part_at ps s).values)
run_records w s a zero ps = let none : 0 ≡ 0 * w = omega arith in ap (λ n. take n (drop (a * w) (part_at ps s).values)) none
run_records w s a (suc n) ps =
    let bytes = (part_at ps s).values in
    let more : w + n * w ≡ suc n * w = let e : n + 1 ≡ suc n = omega arith in omega (arith, next_mul n w, ap (λ m. m * w) e) in
    let here : a * w + w ≡ (a + 1) * w = sym (next_mul a w) in
    ap (λ l. record_in w ps (spot s a) ++ l) (run_records w s (a + 1) n ps)
    ∙ ap (λ m. take w (drop (a * w) bytes) ++ take (n * w) (drop m bytes)) (sym here)
    ∙ ap (λ l. take w (drop (a * w) bytes) ++ take (n * w) l) (sym (drop-drop w (a * w) bytes))
    ∙ sym (take-add w (n * w) (drop (a * w) bytes))
    ∙ ap (λ m. take m (drop (a * w) bytes)) more

-- the rows of span k are among the records of its source
pub record IsHeld (w : ℕ) (ps : List Part) (r : Span) : Type 0 where
  pub source : r.source < length ps
  pub bytes : r.start * w + r.len * w ≤ length (part_at ps r.source).values

pub is_held : (w : ℕ) (ps : List Part) (ss : List Span) (k : ℕ) (r : Span) → k < length ss → r ≡ get_or ss k no_span → 0 < r.len → HoldRecords w ps (spots ss) → IsHeld w ps r
is_held w ps ss k r h e some held =
    let i = r.len - 1 in
    let low : i < r.len = omega arith in
    let last : r.start + i + 1 ≡ r.start + r.len = omega arith in
    let own = in_span (λ (s : Spot). s.row * w + w ≤ length (part_at ps s.source).values) ss k i r h e low held.held in
    record {
      source = in_span (λ (s : Spot). s.source < length ps) ss k i r h e low held.source;
      bytes = omega (arith, own, next_mul (r.start + i) w, ap (λ m. m * w) last, add-mul r.start r.len w);
    }

-- the first k spans' records, which are `at` bytes
pub record RecordsTo (w : ℕ) (ps : List Part) (ss : List Span) (k at : ℕ) (out : List ℕ) : Type 0 where
  pub at_is : at ≡ length (spots (take k ss)) * w
  pub are : take at out ≡ records w ps (spots (take k ss))

pub no_records : (w : ℕ) (ps : List Part) (ss : List Span) (out : List ℕ) → RecordsTo w ps ss 0 0 out
unfolding records
no_records w ps ss out =
    let none : 0 ≡ 0 * w = omega arith in
    record { at_is = none ∙ ap (λ l. length l * w) (sym (spots_none ss)); are = ap (flat_map (record_in w ps)) (sym (spots_none ss)) }

pub records_room : (w : ℕ) (ps : List Part) (ss : List Span) (k at len : ℕ) (out : List ℕ) (r : Span) → k < length ss → r ≡ get_or ss k no_span → length (spots ss) * w ≤ len → RecordsTo w ps ss k at out → at + r.len * w ≤ len
records_room w ps ss k at len out r h e room t =
    omega (arith, t.at_is, run_bytes (length (spots (take k ss))) r.len (length (spots ss)) w len (spots_within ss k r h e) room)

pub more_records : (w : ℕ) (ps : List Part) (ss : List Span) (k at : ℕ) (r : Span) (bytes out new : List ℕ) → k < length ss → r ≡ get_or ss k no_span → bytes ≡ (part_at ps r.source).values
    → take (at + r.len * w) new ≡ take at out ++ take (r.len * w) (drop (r.start * w) bytes) → RecordsTo w ps ss k at out → RecordsTo w ps ss (k + 1) (at + r.len * w) new
unfolding records
more_records w ps ss k at r bytes out new h e from put t =
    let n = length (spots (take k ss)) in
    record {
      at_is = ap (λ m. m + r.len * w) t.at_is ∙ sym (add-mul n r.len w) ∙ ap (λ m. m * w) (sym (spots_len ss k r h e));
      are = put ∙ ap₂ ◌++◌ t.are (ap (λ l. take (r.len * w) (drop (r.start * w) l)) from ∙ sym (run_records w r.source r.start r.len ps)) ∙ sym (made_take (record_in w ps) ss k r h e);
    }

-- a span of no rows changes nothing
pub same_records : (w : ℕ) (ps : List Part) (ss : List Span) (k at : ℕ) (r : Span) (out : List ℕ) → k < length ss → r ≡ get_or ss k no_span → r.len ≡ 0 → RecordsTo w ps ss k at out → RecordsTo w ps ss (k + 1) at out
same_records w ps ss k at r out h e none t =
    let same = spots_same ss k r h e none in
    record { at_is = t.at_is ∙ ap (λ l. length l * w) (sym same); are = t.are ∙ ap (records w ps) (sym same) }

pub as_records : (w : ℕ) (ps : List Part) (ss : List Span) (k at now : ℕ) (out new : List ℕ) → now ≡ at → new ≡ out → RecordsTo w ps ss k at out → RecordsTo w ps ss k now new
as_records w ps ss k at now out new e g t = subst (λ (n : ℕ). RecordsTo w ps ss k n new) (sym e) (subst (λ (l : List ℕ). RecordsTo w ps ss k at l) (sym g) t)

pub all_records : (w : ℕ) (ps : List Part) (ss : List Span) (k at : ℕ) (out : List ℕ) → length ss ≤ k → RecordsTo w ps ss k at out → take (length (spots ss) * w) out ≡ records w ps (spots ss)
all_records w ps ss k at out h t =
    let all = spots_all ss k h in
    ap (λ n. take n out) (sym (t.at_is ∙ ap (λ l. length l * w) all)) ∙ t.are ∙ ap (records w ps) all
