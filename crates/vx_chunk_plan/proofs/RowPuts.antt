-- Rows that are written, and all other bytes as they were.
use Rattle.std.proofs.Common.{◌≡◌, ℕ, ◌+◌, ◌-◌, ◌*◌, ◌/◌, ◌<◌, ◌≤◌, ◌⊎◌, true, false, List, [], ◌++◌, length, take, drop, get_or, set, replicate, refl, sym, ap, ◌∙◌, inl, inr, arith, length-append, length-drop, get_or-set_same, get_or-set_other}
use borrow.Rule.Slice.PartMut.{put_mid}
use Rattle.std.proofs.Math.Nat.{add-mul, div-lt_iff_lt-mul, mul-le-mul_right}
use Rattle.std.proofs.lemmas.Bool.{cases_lt}
use Rattle.std.proofs.lemmas.List.{drop-append-le, drop-drop, drop-take, drop_at, ext_get_or, get_or-append_right, get_or-drop, get_or-take, get_or_append_left, length-take, length-take-le, take-append-le, take-take, take_all}
use Rattle.std.proofs.lemmas.Nat.{div-mul-add}
use Rattle.vx_arrow_image.specs.Image.{is_valid}
use Rattle.vx_chunk_plan.specs.Rows.{AreRowsPut, row_at}
use Rattle.vx_chunk_plan.specs.Scattered.{AreFollowing, AreNulled, AreScattered, Fits}

-- ---- rows of lists of bytes

drop_past : (xs ys : List ℕ) (a n : ℕ) → length xs ≡ a → drop (a + n) (xs ++ ys) ≡ drop n ys
drop_past xs ys a n h = sym (drop-drop n a (xs ++ ys)) ∙ ap (drop n) (drop_at xs ys a h)

-- a row is among so many
pub row_end : (w t m : ℕ) → t < m → t * w + w ≤ m * w
row_end w t m h =
    let end = mul-le-mul_right {m = t + 1} {n = m} w (omega arith) in
    omega (arith, end, add-mul t 1 w)

-- a row of a run of rows
pub row_of_run : (w from m n t : ℕ) (bytes : List ℕ) → n ≡ m * w → t < m → row_at w (take n (drop (from * w) bytes)) t ≡ row_at w bytes (from + t)
row_of_run w from m n t bytes e h =
    let end = row_end w t m h in
    let parts : n ≡ t * w + (n - t * w) = omega (arith, end, e) in
    let at : from * w + t * w ≡ (from + t) * w = sym (add-mul from t w) in
    ap (λ (k : ℕ). take w (drop (t * w) (take k (drop (from * w) bytes)))) parts
    ∙ ap (take w) (drop-take (t * w) (n - t * w) (drop (from * w) bytes))
    ∙ take-take w (n - t * w) (drop (t * w) (drop (from * w) bytes)) (omega (arith, end, e))
    ∙ ap (take w) (drop-drop (t * w) (from * w) bytes) ∙ ap (λ (k : ℕ). take w (drop k bytes)) at

-- the only row of a row
pub row_whole : (w : ℕ) (bytes : List ℕ) → length bytes ≡ w → row_at w bytes 0 ≡ bytes
row_whole w bytes e =
    let none : 0 * w ≡ 0 = omega arith in
    ap (λ (n : ℕ). take w (drop n bytes)) none ∙ take_all w bytes (omega arith)

byte_of_row : (w j b : ℕ) (xs : List ℕ) → b < w → get_or (row_at w xs j) b 0 ≡ get_or xs (j * w + b) 0
byte_of_row w j b xs h = get_or-take w (drop (j * w) xs) b 0 h ∙ get_or-drop (j * w) xs b 0

row_len : (w j : ℕ) (xs ys : List ℕ) → length ys ≡ length xs → length (row_at w ys j) ≡ length (row_at w xs j)
row_len w j xs ys e = omega (arith, length-take w (drop (j * w) xs), length-take w (drop (j * w) ys), length-drop (j * w) xs, length-drop (j * w) ys)

-- a row whose bytes are as they were
pub row_same : (w j : ℕ) (old new : List ℕ) → length new ≡ length old → ((b : ℕ) → b / w ≡ j → get_or new b 0 ≡ get_or old b 0) → row_at w new j ≡ row_at w old j
row_same w j old new long same = ext_get_or 0 (row_at w new j) (row_at w old j) (row_len w j old new long) (λ b h.
    let lt : b < w = omega (arith, h, length-take w (drop (j * w) new)) in
    byte_of_row w j b new lt ∙ same (j * w + b) (div-mul-add j w b lt) ∙ sym (byte_of_row w j b old lt))

-- ---- rows that are put

-- what a write of `size` bytes at `at` leaves of those before and behind
kept_before : (at size b : ℕ) (ys old : List ℕ) → at ≤ length old → b < at → get_or (put_mid at size old ys) b 0 ≡ get_or old b 0
kept_before at size b ys old h lt =
    let long : length (take at old) ≡ at = length-take-le at old h in
    get_or_append_left (take at old) (ys ++ drop size (drop at old)) 0 b (omega (arith, long)) ∙ get_or-take at old b 0 lt

kept_behind : (at size b : ℕ) (ys old : List ℕ) → at ≤ length old → length ys ≡ size → at + size ≤ b → get_or (put_mid at size old ys) b 0 ≡ get_or old b 0
kept_behind at size b ys old h e low =
    let long : length (take at old) ≡ at = length-take-le at old h in
    let there : at + (size + (b - at - size)) ≡ b = omega arith in
    get_or-append_right (take at old) (ys ++ drop size (drop at old)) at b 0 long (omega arith)
    ∙ get_or-append_right ys (drop size (drop at old)) size (b - at) 0 e (omega arith)
    ∙ get_or-drop size (drop at old) (b - at - size) 0
    ∙ get_or-drop at old (size + (b - at - size)) 0 ∙ ap (λ (k : ℕ). get_or old k 0) there

put_len : (at size : ℕ) (ys old : List ℕ) → at + size ≤ length old → length ys ≡ size → length (put_mid at size old ys) ≡ length old
put_len at size ys old h e = omega (arith, length-append (take at old) (ys ++ drop size (drop at old)), length-append ys (drop size (drop at old)), length-take-le at old (omega arith), length-drop size (drop at old), length-drop at old, e)

put_row_at : (w j m size t : ℕ) (ys old : List ℕ) → j * w ≤ length old → length ys ≡ m * w → t < m → row_at w (put_mid (j * w) size old ys) (j + t) ≡ row_at w ys t
put_row_at w j m size t ys old h e lt =
    let end = row_end w t m lt in
    let rest = drop size (drop (j * w) old) in
    let long : length (take (j * w) old) ≡ j * w = length-take-le (j * w) old h in
    let room : w ≤ length (drop (t * w) ys) = omega (arith, length-drop (t * w) ys, end, e) in
    ap (λ (k : ℕ). take w (drop k (put_mid (j * w) size old ys))) (add-mul j t w)
    ∙ ap (take w) (drop_past (take (j * w) old) (ys ++ rest) (j * w) (t * w) long)
    ∙ ap (take w) (drop-append-le (t * w) ys rest (omega (arith, end, e)))
    ∙ take-append-le w (drop (t * w) ys) rest room

pub rows_put : (w j m size : ℕ) (bytes ys old : List ℕ) → 0 < w → length bytes ≡ m * w → ys ≡ bytes → size ≡ m * w → (j + m) * w ≤ length old → AreRowsPut w j m bytes old (put_mid (j * w) size old ys)
rows_put w j m size bytes ys old some e same s room =
    let both = add-mul j m w in
    let f : length ys ≡ m * w = ap length same ∙ e in
    record {
      len = put_len (j * w) size ys old (omega (arith, both, s, room)) (omega (arith, f, s));
      rows = λ t lt. put_row_at w j m size t ys old (omega (arith, both, room)) f lt ∙ ap (λ (l : List ℕ). row_at w l t) same;
      others = λ b h. elim h [
        | inl before ↦ kept_before (j * w) size b ys old (omega (arith, both, room)) ((div-lt_iff_lt-mul some).0 before)
        | inr behind ↦ kept_behind (j * w) size b ys old (omega (arith, both, room)) (omega (arith, f, s)) (elim (cases_lt b ((j + m) * w)) [
          | inl less ↦ absurd (let k : b / w < j + m = (div-lt_iff_lt-mul some).1 less in omega arith)
          | inr more ↦ omega (arith, both, s)
        ])
      ];
    }

-- ---- zeros, byte by byte

-- the first n bytes from `at` on are zeros, and all others are as they were
pub record AreCleared (at n : ℕ) (old new : List ℕ) : Type 0 where
  pub zeros : (b : ℕ) → at ≤ b → b < at + n → get_or new b 0 ≡ 0
  pub others : (b : ℕ) → (b < at) ⊎ (at + n ≤ b) → get_or new b 0 ≡ get_or old b 0

pub cleared_none : (at : ℕ) (old : List ℕ) → AreCleared at 0 old old
cleared_none at old = record { zeros = λ b low high. absurd (omega arith); others = λ b h. refl }

pub cleared_more : (at n : ℕ) (old mid : List ℕ) → at + n < length mid → AreCleared at n old mid → AreCleared at (n + 1) old (set mid (at + n) 0)
cleared_more at n old mid h so = record {
  zeros = λ b low high. elim (cases_lt b (at + n)) [
    | inl before ↦ get_or-set_other mid (at + n) b 0 0 (λ (e : b ≡ at + n). omega arith) ∙ so.zeros b low before
    | inr here ↦ let e : b ≡ at + n = omega arith in ap (λ (k : ℕ). get_or (set mid (at + n) 0) k 0) e ∙ get_or-set_same mid (at + n) 0 0 h
  ];
  others = λ b away.
      let ne : b ≡ at + n → ⊥ = λ (e : b ≡ at + n). elim away [ inl before ↦ omega arith | inr behind ↦ omega arith ] in
      let out : (b < at) ⊎ (at + n ≤ b) = elim away [ inl before ↦ inl before | inr behind ↦ inr (omega arith) ] in
      get_or-set_other mid (at + n) b 0 0 ne ∙ so.others b out;
}

pub cleared_row : (w j : ℕ) (old new : List ℕ) → 0 < w → (j + 1) * w ≤ length old → length new ≡ length old → AreCleared (j * w) w old new → AreRowsPut w j 1 (replicate w 0) old new
cleared_row w j old new some room long so =
    let both = add-mul j 1 w in
    let zeros : List ℕ = replicate w 0 in
    let zlen : length zeros ≡ w = Rattle.std.proofs.lemmas.List.length-replicate w 0 in
    let whole = row_whole w zeros zlen in
    record {
      len = long;
      rows = λ t lt.
          let e : j + t ≡ j = omega arith in
          let f : t ≡ 0 = omega arith in
          let n : length (row_at w new j) ≡ w = omega (arith, length-take w (drop (j * w) new), length-drop (j * w) new, both, room, long) in
          let is : row_at w new j ≡ zeros = ext_get_or 0 (row_at w new j) zeros (n ∙ sym zlen) (λ b h.
          let lt : b < w = omega arith in
          byte_of_row w j b new lt ∙ so.zeros (j * w + b) (omega arith) (omega arith) ∙ sym (Rattle.std.proofs.lemmas.List.get_or-replicate w b 0 0 lt)) in
          ap (row_at w new) e ∙ is ∙ sym (ap (row_at w zeros) f ∙ whole);
      others = λ b h.
          let out : (b < j * w) ⊎ (j * w + w ≤ b) = elim h [
            | inl before ↦ inl ((div-lt_iff_lt-mul some).0 before)
            | inr behind ↦ elim (cases_lt b ((j + 1) * w)) [
              | inl less ↦ absurd (let k : b / w < j + 1 = (div-lt_iff_lt-mul some).1 less in omega arith)
              | inr more ↦ inr (omega (arith, both))
            ]
          ] in
          so.others b out;
    }

-- ---- rows that are scattered

pub scattered_none : (w first : ℕ) (chunk places order old : List ℕ) → AreScattered w first chunk places order 0 old old
scattered_none w first chunk places order old = record { len = refl; rows = λ i h. absurd (omega arith); others = λ b h. refl }

pub scattered_more : (w first : ℕ) (chunk places order : List ℕ) (n m : ℕ) (bytes old mid new : List ℕ) → AreScattered w first chunk places order n old mid → AreFollowing places order n m
    → first ≤ get_or places (get_or order n 0) 0 → ((t : ℕ) → t < m → row_at w bytes t ≡ row_at w chunk (get_or places (get_or order n 0) 0 - first + t))
    → AreRowsPut w (get_or order n 0) m bytes mid new → AreScattered w first chunk places order (n + m) old new
scattered_more w first chunk places order n m bytes old mid new so run low copied put =
    let j = get_or order n 0 in
    let p = get_or places j 0 in
    let here : (i t : ℕ) → t < m → get_or order i 0 ≡ j + t → row_at w new (get_or order i 0) ≡ row_at w chunk (get_or places (get_or order i 0) 0 - first) = λ i t lt e.
    let at : get_or places (get_or order i 0) 0 - first ≡ p - first + t = let q = ap (λ (k : ℕ). get_or places k 0) e in let r = run.follow t lt in omega (arith, q, r, low) in
    ap (row_at w new) e ∙ put.rows t lt ∙ copied t lt ∙ ap (row_at w chunk) (sym at) in
    let away : (i : ℕ) → i < n → (get_or order i 0 < j) ⊎ (j + m ≤ get_or order i 0) → row_at w new (get_or order i 0) ≡ row_at w chunk (get_or places (get_or order i 0) 0 - first) = λ i lt out.
    row_same w (get_or order i 0) mid new put.len (λ b e. put.others b (elim out [ inl less ↦ inl (omega arith) | inr more ↦ inr (omega arith) ])) ∙ so.rows i lt in
    record {
      len = put.len ∙ so.len;
      rows = λ i lt. elim (cases_lt i n) [
        | inl before ↦ elim (cases_lt (get_or order i 0) j) [
          | inl less ↦ away i before (inl less)
          | inr more ↦ elim (cases_lt (get_or order i 0) (j + m)) [
            | inl again ↦ here i (get_or order i 0 - j) (omega arith) (omega arith)
            | inr past ↦ away i before (inr past)
          ]
        ]
        | inr now ↦
            let e : n + (i - n) ≡ i = omega arith in
            here i (i - n) (omega arith) (ap (λ (k : ℕ). get_or order k 0) (sym e) ∙ run.numbers (i - n) (omega arith))
      ];
      others = λ b none.
          let out : (b / w < j) ⊎ (j + m ≤ b / w) = elim (cases_lt (b / w) j) [
            | inl less ↦ inl less
            | inr more ↦ elim (cases_lt (b / w) (j + m)) [
              | inl in_run ↦ absurd (none (n + (b / w - j)) (omega arith) (run.numbers (b / w - j) (omega arith) ∙ omega arith))
              | inr past ↦ inr past
            ]
          ] in
          put.others b out ∙ so.others b (λ i lt. none i (omega arith));
    }

-- one pick alone
pub follows_alone : (places order : List ℕ) (i : ℕ) → i < length order → AreFollowing places order i 1
follows_alone places order i h = record {
  within = omega arith;
  numbers = λ t lt. let e : i + t ≡ i = omega arith in ap (λ (k : ℕ). get_or order k 0) e ∙ omega arith;
  follow = λ t lt. let e : get_or order i 0 + t ≡ get_or order i 0 = omega arith in ap (λ (k : ℕ). get_or places k 0) e ∙ omega arith;
}

-- one pick more
pub follows_more : (places order : List ℕ) (i n : ℕ) → 0 < n → i + n < length order → get_or order (i + n) 0 ≡ get_or order (i + n - 1) 0 + 1
    → get_or places (get_or order (i + n - 1) 0 + 1) 0 ≡ get_or places (get_or order (i + n - 1) 0) 0 + 1 → AreFollowing places order i n → AreFollowing places order i (n + 1)
follows_more places order i n some h number place run =
    let j = get_or order i 0 in
    let back : i + n - 1 ≡ i + (n - 1) = omega arith in
    let last : get_or order (i + n - 1) 0 ≡ j + (n - 1) = ap (λ (k : ℕ). get_or order k 0) back ∙ run.numbers (n - 1) (omega arith) in
    let last_place : get_or places (get_or order (i + n - 1) 0) 0 ≡ get_or places j 0 + (n - 1) = ap (λ (k : ℕ). get_or places k 0) last ∙ run.follow (n - 1) (omega arith) in
    let next : get_or order (i + n - 1) 0 + 1 ≡ j + n = omega arith in
    record {
      within = omega arith;
      numbers = λ t lt. elim (cases_lt t n) [
        | inl before ↦ run.numbers t before
        | inr here ↦ let e : t ≡ n = omega arith in ap (λ (k : ℕ). get_or order (i + k) 0) e ∙ omega (arith, number, next)
      ];
      follow = λ t lt. elim (cases_lt t n) [
        | inl before ↦ run.follow t before
        | inr here ↦
            let e : j + t ≡ get_or order (i + n - 1) 0 + 1 = omega arith in
            ap (λ (k : ℕ). get_or places k 0) e ∙ place ∙ omega (arith, last_place)
      ];
    }

-- ---- rows of nulls

pub nulled_none : (w : ℕ) (valid old : List ℕ) → AreNulled w valid 0 old old
nulled_none w valid old = record { len = refl; rows = λ j h n. absurd (omega arith); others = λ b h. refl }

pub nulled_kept : (w : ℕ) (valid : List ℕ) (n : ℕ) (old new : List ℕ) → is_valid valid n ≡ true → AreNulled w valid n old new → AreNulled w valid (n + 1) old new
nulled_kept w valid n old new there so = record {
  len = so.len;
  rows = λ j lt null. elim (cases_lt j n) [
    | inl before ↦ so.rows j before null
    | inr here ↦ absurd (let e : j ≡ n = omega arith in let f : true ≡ false = sym there ∙ ap (is_valid valid) (sym e) ∙ null in cc)
  ];
  others = λ b h. so.others b (λ lt. h (omega arith));
}

pub nulled_more : (w : ℕ) (valid : List ℕ) (n : ℕ) (old mid new : List ℕ) → is_valid valid n ≡ false → AreRowsPut w n 1 (replicate w 0) mid new → AreNulled w valid n old mid → AreNulled w valid (n + 1) old new
nulled_more w valid n old mid new null put so = record {
  len = put.len ∙ so.len;
  rows = λ j lt none. elim (cases_lt j n) [
    | inl before ↦ row_same w j mid new put.len (λ b e. put.others b (inl (omega arith))) ∙ so.rows j before none
    | inr here ↦
        let e : j ≡ n + 0 = omega arith in
        ap (row_at w new) e ∙ put.rows 0 (omega arith) ∙ row_whole w (replicate w 0) (Rattle.std.proofs.lemmas.List.length-replicate w 0)
  ];
  others = λ b h.
      let away : (b / w < n) ⊎ (n + 1 ≤ b / w) = elim (cases_lt (b / w) n) [
        | inl less ↦ inl less
        | inr more ↦ elim (cases_lt n (b / w)) [
          | inl past ↦ inr (omega arith)
          | inr same ↦ absurd (let e : b / w ≡ n = omega arith in let f : true ≡ false = sym (h (omega arith)) ∙ ap (is_valid valid) e ∙ null in cc)
        ]
      ] in
      put.others b away ∙ so.others b (λ lt. h (omega arith));
}

-- without bits no pick is null
pub nulled_empty : (w : ℕ) (valid : List ℕ) (n : ℕ) (old : List ℕ) → valid ≡ [] → AreNulled w valid n old old
nulled_empty w valid n old e = record {
  len = refl;
  rows = λ j lt null. absurd (let f : true ≡ false = sym (ap (λ (v : List ℕ). is_valid v j) e) ∙ null in cc);
  others = λ b h. refl;
}

-- ---- a row fits

pub record RowFits (w first j place chunk out : ℕ) : Type 0 where
  pub low : first ≤ place
  pub bytes : (place - first) * w + w ≤ chunk
  pub room : (j + 1) * w ≤ out

pub row_fits : (w first rows : ℕ) (chunk places order out : List ℕ) (i : ℕ) → Fits w first rows chunk places order out → i < length order → RowFits w first (get_or order i 0) (get_or places (get_or order i 0) 0) (length chunk) (length out)
row_fits w first rows chunk places order out i f h =
    let j = get_or order i 0 in
    let p = get_or places j 0 in
    let end = row_end w (p - first) rows (omega (arith, f.low i h, f.high i h)) in
    let room = mul-le-mul_right {m = j + 1} {n = length places} w (omega (arith, f.inside i h)) in
    record { low = f.low i h; bytes = omega (arith, end, f.bytes); room = omega (arith, room, f.room) }

-- so does a run of rows
pub run_fits : (w first rows : ℕ) (chunk places order out : List ℕ) (i n : ℕ) → Fits w first rows chunk places order out → 0 < n → AreFollowing places order i n
    → ((get_or places (get_or order i 0) 0 - first) * w + n * w ≤ length chunk) × ((get_or order i 0 + n) * w ≤ length out)
run_fits w first rows chunk places order out i n f some run =
    let j = get_or order i 0 in
    let p = get_or places j 0 in
    let last : i + (n - 1) < length order = omega (arith, run.within) in
    let number : get_or order (i + (n - 1)) 0 ≡ j + (n - 1) = run.numbers (n - 1) (omega arith) in
    let place : get_or places (get_or order (i + (n - 1)) 0) 0 ≡ p + (n - 1) = ap (λ (k : ℕ). get_or places k 0) number ∙ run.follow (n - 1) (omega arith) in
    let e : i + 0 ≡ i = omega arith in
    let low : first ≤ p = f.low i (omega arith) in
    let end = mul-le-mul_right {m = p - first + n} {n = rows} w (omega (arith, place, f.high (i + (n - 1)) last)) in
    let room = mul-le-mul_right {m = j + n} {n = length places} w (omega (arith, number, f.inside (i + (n - 1)) last)) in
    (omega (arith, end, f.bytes, add-mul (p - first) n w), omega (arith, room, f.room))
