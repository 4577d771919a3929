-- What holds where no rule is broken.
use Rattle.std.proofs.Common.{◌≡◌, ℕ, ◌+◌, ◌*◌, ◌/◌, ◌%◌, ◌^◌, ◌<◌, ◌≤◌, Bool, true, false, not, ◌&&◌, ◌||◌, List, length, get_or, Option, Some, None, eqb, ltb, leb, refl, ap, ◌∙◌, inl, inr, arith}
use Rattle.std.specs.Prelude.{if◌then◌else◌}
use Rattle.std.specs.Option.{option_map, option_or}
use Rattle.std.proofs.lemmas.Bool.{and_parts, eqb-false, eqb-true, leb-true, ltb-true, not-false, or_cases}
use Rattle.std.proofs.Math.Nat.{div-mul-le_self, mul-le-mul_right}
use Rattle.vx_chunk_plan.specs.declared.fault.Fault.TheVariants.{Bytes, Chunk, ChunkLen, Order, Output, Place, Starts, Stray, Valid, Width}
use Rattle.vx_chunk_plan.specs.Faults.{bytes_fault, first_beyond, first_row, first_stray, has_rows, has_valid, is_among, is_chunk, is_width, lists_fault, nulls_fault, plan_fault, rows_in, scatter_fault}
use Rattle.vx_chunk_plan.specs.Picks.{chunks_of}
use Rattle.vx_chunk_plan.specs.Scattered.{Fits}
use Rattle.vx_chunk_plan.proofs.Firsts.{none_found}

pub none_of_both : {X : Type 0} (a b : Option X) → option_or a b ≡ None → (a ≡ None) × (b ≡ None)
none_of_both None b h = (refl, h)
none_of_both (Some x) b h = absurd (let e : Some x ≡ None = h in cc)

pub none_mapped : {X Y : Type 0} (f : X → Y) (o : Option X) → option_map f o ≡ None → o ≡ None
none_mapped f None h = refl
none_mapped f (Some x) h = absurd (let e : Some (f x) ≡ None = h in cc)

-- four rules hold where none is broken
four_hold : {X : Type 0} (w x y z : X) (a b c d : Bool) → (if a then Some w else if not b then Some x else if not c then Some y else if not d then Some z else None) ≡ None
    → (a ≡ false) × (b ≡ true) × (c ≡ true) × (d ≡ true)
four_hold w x y z true b c d h = absurd (let e : Some w ≡ None = h in cc)
four_hold w x y z false false c d h = absurd (let e : Some x ≡ None = h in cc)
four_hold w x y z false true false d h = absurd (let e : Some y ≡ None = h in cc)
four_hold w x y z false true true false h = absurd (let e : Some z ≡ None = h in cc)
four_hold w x y z false true true true h = (refl, refl, refl, refl)

pub record CanPlan (places valid : List ℕ) (len chunk_len starts order : ℕ) : Type 0 where
  pub some : 0 < chunk_len
  pub many : starts ≡ chunks_of len chunk_len + 1
  pub long : order ≡ length places
  pub inside : first_beyond places valid len ≡ None

pub can_plan : (places valid : List ℕ) (len chunk_len starts order : ℕ) → plan_fault places valid len chunk_len starts order ≡ None → CanPlan places valid len chunk_len starts order
can_plan places valid len chunk_len starts order h =
    let both = none_of_both (lists_fault places valid len chunk_len starts order) (option_map Place (first_beyond places valid len)) h in
    let four = four_hold ChunkLen Starts Order Valid (eqb chunk_len 0) (eqb starts (chunks_of len chunk_len + 1)) (eqb order (length places)) (has_valid valid (length places)) both.0 in
    let ne : chunk_len ≡ 0 → ⊥ = eqb-false chunk_len 0 four.0 in
    record {
      some = omega (arith, ne);
      many = eqb-true starts (chunks_of len chunk_len + 1) four.1;
      long = eqb-true order (length places) four.2;
      inside = none_mapped Place (first_beyond places valid len) both.1;
    }

-- five rules hold where none is broken
five_hold : {X : Type 0} (v w x y z : X) (a b c d e : Bool) → (if not a then Some v else if b then Some w else if not c then Some x else if not d then Some y else if not e then Some z else None) ≡ None
    → (a ≡ true) × (b ≡ false) × (c ≡ true) × (d ≡ true) × (e ≡ true)
five_hold v w x y z false b c d e h = absurd (let f : Some v ≡ None = h in cc)
five_hold v w x y z true true c d e h = absurd (let f : Some w ≡ None = h in cc)
five_hold v w x y z true false false d e h = absurd (let f : Some x ≡ None = h in cc)
five_hold v w x y z true false true false e h = absurd (let f : Some y ≡ None = h in cc)
five_hold v w x y z true false true true false h = absurd (let f : Some z ≡ None = h in cc)
five_hold v w x y z true false true true true h = (refl, refl, refl, refl, refl)

-- three rules hold where none is broken
three_hold : {X : Type 0} (x y z : X) (a b c : Bool) → (if not a then Some x else if not b then Some y else if not c then Some z else None) ≡ None → (a ≡ true) × (b ≡ true) × (c ≡ true)
three_hold x y z false b c h = absurd (let f : Some x ≡ None = h in cc)
three_hold x y z true false c h = absurd (let f : Some y ≡ None = h in cc)
three_hold x y z true true false h = absurd (let f : Some z ≡ None = h in cc)
three_hold x y z true true true h = (refl, refl, refl)

pub record CanRead (bytes k len chunk_len width places out : ℕ) : Type 0 where
  pub wide : 0 < width
  pub some : 0 < chunk_len
  pub index : k < chunks_of len chunk_len
  pub chunk : rows_in len chunk_len k * width ≤ bytes
  pub room : places * width ≤ out

wide_some : (width : ℕ) → is_width width ≡ true → 0 < width
wide_some width h = ltb-true 0 width (and_parts (ltb 0 width) (leb width (2 ^ 20)) h).0

rows_held : (bytes width count : ℕ) → count ≤ bytes / width → count * width ≤ bytes
rows_held bytes width count h =
    let most = mul-le-mul_right {m = count} {n = bytes / width} width h in
    omega (arith, most, div-mul-le_self bytes width)

chunk_held : (bytes width rows chunk_len : ℕ) → rows ≤ chunk_len → is_chunk bytes width rows chunk_len ≡ true → rows * width ≤ bytes
chunk_held bytes width rows chunk_len few h =
    let both = and_parts (eqb (bytes % width) 0) (eqb (bytes / width) rows || eqb (bytes / width) chunk_len) h in
    rows_held bytes width rows (elim (or_cases (eqb (bytes / width) rows) (eqb (bytes / width) chunk_len) both.1) [
      | inl own ↦ (let e = eqb-true (bytes / width) rows own in omega (arith, e))
      | inr whole ↦ (let e = eqb-true (bytes / width) chunk_len whole in omega (arith, e))
    ])

pub can_read : (bytes k len chunk_len width places out : ℕ) → bytes_fault bytes k len chunk_len width places out ≡ None → CanRead bytes k len chunk_len width places out
can_read bytes k len chunk_len width places out h =
    let rows = rows_in len chunk_len k in
    let five = five_hold Width ChunkLen Chunk Bytes Output (is_width width) (eqb chunk_len 0) (ltb k (chunks_of len chunk_len)) (is_chunk bytes width rows chunk_len) (has_rows out width places) h in
    let ne : chunk_len ≡ 0 → ⊥ = eqb-false chunk_len 0 five.1 in
    record {
      wide = wide_some width five.0;
      some = omega (arith, ne);
      index = ltb-true k (chunks_of len chunk_len) five.2;
      chunk = chunk_held bytes width rows chunk_len (omega arith) five.3;
      room = rows_held out width places (leb-true places (out / width) five.4);
    }

pub among : (places : List ℕ) (first rows j : ℕ) → is_among places first rows j ≡ true → (j < length places) × (first ≤ get_or places j 0) × (get_or places j 0 < first + rows)
among places first rows j h =
    let one = and_parts (ltb j (length places)) (leb first (get_or places j 0) && ltb (get_or places j 0) (first + rows)) h in
    let two = and_parts (leb first (get_or places j 0)) (ltb (get_or places j 0) (first + rows)) one.1 in
    (ltb-true j (length places) one.0, leb-true first (get_or places j 0) two.0, ltb-true (get_or places j 0) (first + rows) two.1)

-- the picks of a chunk whose numbers are not refused can be written
pub can_write : (bytes : List ℕ) (k len chunk_len width : ℕ) (places order out : List ℕ) (first rows : ℕ) → first ≡ first_row chunk_len k → rows ≡ rows_in len chunk_len k → first + rows < 2 ^ 64
    → scatter_fault (length bytes) k len chunk_len width places order (length out) ≡ None → Fits width first rows bytes places order out
can_write bytes k len chunk_len width places order out first rows e f small h =
    let both = none_of_both (bytes_fault (length bytes) k len chunk_len width (length places) (length out)) (option_map Stray (first_stray places order (first_row chunk_len k) (rows_in len chunk_len k))) h in
    let r = can_read (length bytes) k len chunk_len width (length places) (length out) both.0 in
    let none : first_stray places order first rows ≡ None = ap (λ (n : ℕ). first_stray places order n rows) e ∙ ap (first_stray places order (first_row chunk_len k)) f ∙ none_mapped Stray (first_stray places order (first_row chunk_len k) (rows_in len chunk_len k)) both.1 in
    let each = λ (i : ℕ) (lt : i < length order). among places first rows (get_or order i 0) (not-false (is_among places first rows (get_or order i 0)) (none_found (λ (j : ℕ). not (is_among places first rows j)) order i 0 none lt)) in
    record {
      wide = r.wide;
      small = small;
      inside = λ i lt. (each i lt).0;
      low = λ i lt. (each i lt).1;
      high = λ i lt. (each i lt).2;
      bytes = let same = ap (λ (n : ℕ). n * width) f in omega (arith, same, r.chunk);
      room = r.room;
    }

pub can_clear : (valid : List ℕ) (count width out : ℕ) → nulls_fault valid count width out ≡ None → (0 < width) × (count * width ≤ out)
can_clear valid count width out h =
    let three = three_hold Width Valid Output (is_width width) (has_valid valid count) (has_rows out width count) h in
    (wide_some width three.0, rows_held out width count (leb-true count (out / width) three.2))
