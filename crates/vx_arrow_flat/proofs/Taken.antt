-- Rows written one after another, as the rows of a column at picks.
use Rattle.std.proofs.Common.{zero, suc, ◌≡◌, ℕ, ◌+◌, ◌*◌, ◌^◌, ◌<◌, ◌≤◌, true, false, cond, List, [], ◌∷◌, ◌++◌, length, get_or, take, drop, map, Option, Some, None, ap, sym, ◌∙◌, refl, subst, arith, append_assoc, length-append}
use Rattle.std.specs.Prelude.{is_some, ◌||◌, if◌then◌else◌}
use Rattle.std.proofs.lemmas.Bool.{and_from, lt-ltb}
use Rattle.std.proofs.lemmas.List.{drop-drop, drop_at, get_or-map, length-map, take_at}
use Rattle.std.proofs.Math.Nat.{suc-mul}
use Rattle.vx_arrow_image.specs.declared.format.Format.{Format}
use Rattle.vx_arrow_image.specs.declared.format.Format.TheVariants.{Fixed}
use Rattle.vx_arrow_image.specs.declared.image.Room.{Room}
use Rattle.vx_arrow_image.specs.Image.{Part, holds_valid, is_placed, is_valid}
use Rattle.vx_arrow_columns.specs.Answer.{AreTaken}
use Rattle.vx_arrow_columns.specs.Bytes.{AreOffsetsOf, AreSizesOf, AreValuesOf, HasBytes, KeepsPast, row_in as row_in_or}
use Rattle.vx_arrow_columns.specs.Picks.{Picking, place_of, pickings, shows_valid, shows_by, has_bits, keeps, need_of, values_len}
use Rattle.vx_arrow_columns.specs.Planned.{IsRead, are_trees, child_lens}
use Rattle.vx_arrow_columns.specs.Taken.{AreCopied, AreWithin, Holds, IsOwnTaken, IsReadable, IsTaken, ShowsRows, TakenAs, is_inside}
use Rattle.vx_arrow_columns.specs.Written.{own_part, written}
use Rattle.vx_arrow_columns.proofs.OwnTaken.{counted_from, fixed_taken}
use Rattle.vx_arrow_columns.proofs.Trees.{drop_first}
use Rattle.vx_bits.proofs.Cuts.{length_of_cut}
use Rattle.vx_fixed.proofs.Rows.{one_more, times_mono}
use Rattle.vx_fixed.specs.Rows.{AreWritten, row, rows_at}
use Rattle.vx_arrow_flat.specs.Flat.{HasValues}

-- ---- one row of those that are written

-- all bytes of each row are there
pub record AreWhole (w : ℕ) (src : List ℕ) (from : ℕ) (places : List ℕ) : Type 0 where
  pub whole : (k : ℕ) → k < length places → length (row w src (from + get_or places k 0)) ≡ w

later : (w : ℕ) (src : List ℕ) (from p : ℕ) (places : List ℕ) → AreWhole w src from (p ∷ places) → AreWhole w src from places
later w src from p places h = record { whole = λ k l. h.whole (suc k) (omega arith) }

row_in : (w : ℕ) (src : List ℕ) (from : ℕ) (places rest : List ℕ) (k : ℕ) → k < length places → AreWhole w src from places
    → take w (drop (k * w) (rows_at w src from places ++ rest)) ≡ row w src (from + get_or places k 0)
unfolding rows_at
row_in w src from [] rest k h a = absurd (omega arith)
row_in w src from (p ∷ places) rest zero h a =
    let own = row w src (from + p) in
    let none : 0 * w ≡ 0 = omega arith in
    ap (λ n. take w (drop n (rows_at w src from (p ∷ places) ++ rest))) none
    ∙ ap (take w) (append_assoc own (rows_at w src from places) rest)
    ∙ take_at own (rows_at w src from places ++ rest) w (a.whole 0 (omega arith))
row_in w src from (p ∷ places) rest (suc k) h a =
    let own = row w src (from + p) in
    let wide : suc k * w ≡ w + k * w = omega (arith, suc-mul k w) in
    ap (λ n. take w (drop n (rows_at w src from (p ∷ places) ++ rest))) wide
    ∙ ap (take w) (sym (drop-drop (k * w) w (rows_at w src from (p ∷ places) ++ rest)))
    ∙ ap (λ l. take w (drop (k * w) l)) (ap (drop w) (append_assoc own (rows_at w src from places) rest) ∙ drop_at own (rows_at w src from places ++ rest) w (a.whole 0 (omega arith)))
    ∙ row_in w src from places rest k (omega arith) (later w src from p places a)

rows_len : (w : ℕ) (src : List ℕ) (from : ℕ) (places : List ℕ) → AreWhole w src from places → length (rows_at w src from places) ≡ length places * w
unfolding rows_at
rows_len w src from [] a = let e : 0 ≡ 0 * w = omega arith in e
rows_len w src from (p ∷ places) a =
    length-append (row w src (from + p)) (rows_at w src from places)
    ∙ omega (arith, a.whole 0 (omega arith), rows_len w src from places (later w src from p places a), suc-mul (length places) w)

same_past : (n : ℕ) (old new : List ℕ) → new ≡ old → KeepsPast n old new
same_past n old new e = record { long = ap length e; past = ap (drop n) e }

-- ---- one node

some_same : (a b : ℕ) → Some a ≡ Some b → a ≡ b
some_same a b e = cc

is_there : (p : Part) → HasValues p → is_placed p ≡ true
unfolding is_placed
is_there p v = and_from _ _ (lt-ltb _ _ v.few) (ap (λ (l : List ℕ). holds_valid l (p.offset + p.len)) v.bare)

module _ (p : Part) (v : HasValues p) (places : List ℕ) (low : (k : ℕ) → k < length places → get_or places k 0 < p.len) (few : length places < 2 ^ 60) where
  abbrev pub q : Picking
  q = record { picks = map Some places; nullable = false; kept = false }

  long : length q.picks ≡ length places
  long = length-map places (λ (i : ℕ). Some i)

  pick : (k : ℕ) → k < length q.picks → get_or q.picks k None ≡ Some (get_or places k 0)
  pick k h = get_or-map (λ (i : ℕ). Some i) places k 0 None (omega (arith, long))

  place : (i : ℕ) → place_of p (Some i) ≡ Some (p.offset + i)
  place i = ap (λ (l : List ℕ). cond (is_valid l (p.offset + i)) (Some (p.offset + i)) None) v.bare

  pub within : AreWithin q.picks p.len
  within = record {
    below = λ k i h e. let same : get_or places k 0 ≡ i = some_same (get_or places k 0) i (sym (pick k h) ∙ e) in omega (arith, low k (omega (arith, long)), same);
  }

  pub readable : length places * p.width < 2 ^ 63 → IsReadable p q.picks
  readable small = record {
    placed = is_there p v;
    within = within;
    counted = counted_from p q.picks (Some Fixed) v.format (omega (arith, long)) (lt-ltb _ _ (subst (λ (n : ℕ). n * p.width < 2 ^ 63) (sym long) small));
    held = subst (λ (f : Option Format). Holds f p q.picks) (sym v.format) (v.leaf, v.values);
  }

  whole : AreWhole p.width p.values p.offset places
  whole = record {
    whole = λ k h.
        let i = get_or places k 0 in
        length_of_cut p.values ((p.offset + i) * p.width) p.width (omega (arith, one_more (p.offset + i) p.width, times_mono (p.offset + i + 1) (p.offset + p.len) p.width (omega (arith, low k h)), v.values));
  }

  pub copied : (old new : List ℕ) → AreWritten p.width p.values p.offset places old new → AreCopied p.width p.values p q.picks (length q.picks) new
  copied old new e = record {
    values = λ k i h at.
        let low : k < length places = omega (arith, long) in
        let same : p.offset + get_or places k 0 ≡ i = some_same (p.offset + get_or places k 0) i (sym (ap (place_of p) (pick k h) ∙ place (get_or places k 0)) ∙ at) in
        ap (λ l. take p.width (drop (k * p.width) l)) e
        ∙ row_in p.width p.values p.offset places (drop (length places * p.width) old) k low whole
        ∙ ap (row p.width p.values) same;
  }

  bits : shows_valid p q ≡ false
  bits = ap (λ (f : Option Format). shows_by f (has_bits p.valid || false)) v.format ∙ ap (λ (l : List ℕ). has_bits l || false) v.bare

  pub shows : ShowsRows p q.picks []
  shows = record { shows = λ k h. sym (ap (λ (o : Option ℕ). is_some (place_of p o)) (pick k h) ∙ ap is_some (place (get_or places k 0))) }

  wide : (need_of p q).values ≡ length places * p.width
  wide = ap (λ (f : Option Format). values_len f p q.picks) v.format ∙ ap (λ n. n * p.width) long

  pub has_bytes : (old new : Room) → length new.values.now ≡ length old.values.now → AreWritten p.width p.values p.offset places old.values.now new.values.now
      → new.valid ≡ old.valid → new.offsets ≡ old.offsets → new.sizes ≡ old.sizes → HasBytes p q old new
  has_bytes old new len e sv so ss = record {
    rows = λ own. record {
      valid = λ b. absurd (let f : false ≡ true = sym bits ∙ b in cc);
      offsets = subst (λ (f : Option Format). AreOffsetsOf f p q.picks new.offsets.now) (sym v.format) tt;
      values = subst (λ (f : Option Format). AreValuesOf f p q.picks new.values.now) (sym v.format) (record {
        rows = λ k h.
            let at = ap (place_of p) (pick k h) ∙ place (get_or places k 0) in
            (copied old.values.now new.values.now e).values k (p.offset + get_or places k 0) h at ∙ sym (ap (row_in_or p.width p.values) at);
      });
      sizes = subst (λ (f : Option Format). AreSizesOf f p q.picks new.sizes.now) (sym v.format) tt;
    };
    valid = same_past (need_of p q).valid old.valid.now new.valid.now (ap (λ b. b.now) sv);
    offsets = same_past (need_of p q).offsets old.offsets.now new.offsets.now (ap (λ b. b.now) so);
    values = record {
      long = len;
      past = subst (λ n. drop n new.values.now ≡ drop n old.values.now) (sym wide)
          (ap (drop (length places * p.width)) e
          ∙ drop_at (rows_at p.width p.values p.offset places) (drop (length places * p.width) old.values.now) (length places * p.width) (rows_len p.width p.values p.offset places whole));
    };
    sizes = same_past (need_of p q).sizes old.sizes.now new.sizes.now (ap (λ b. b.now) ss);
  }

  module _ (old : List ℕ) (room : Room) (space : length places * p.width ≤ length room.values.now) (small : length places * p.width < 2 ^ 63) (e : AreWritten p.width p.values p.offset places old room.values.now) where
    none : (if shows_valid p q then room.valid.now else []) ≡ []
    none = ap (λ b. cond b room.valid.now []) bits

    own : IsOwnTaken p (own_part p q room) q
    own =
        fixed_taken p q _ room.offsets.now room.values.now room.sizes.now v.format (readable small)
        (subst (ShowsRows p q.picks) (sym none) shows) (ap (λ (l : List ℕ). holds_valid l (length q.picks)) none)
        (subst (λ (n : ℕ). n * p.width ≤ length room.values.now) (sym long) space) (copied old room.values.now e)

    taken : IsTaken p (own_part p q room) q
    taken = subst (λ (f : Option Format). TakenAs false (keeps f) p (own_part p q room) q) (sym v.format) own

    read : IsRead p q []
    read = record {
      within = within;
      readable = λ kept. readable small;
      inside = λ kept. record { all = λ k i h at. ap (λ (f : Option Format). is_inside f p (child_lens p []) i) v.format };
    }

    pub alone : AreTaken (p ∷ []) q (room ∷ [])
    alone = record {
      tree = ap (λ (n : ℕ). are_trees [] (n + 0)) v.leaf;
      len = refl;
      taken = λ k d f r h. only k d f r h;
      read = λ k d r h. reads k d r h;
    }
      where
        only : (k : ℕ) (d f : Part) (r : Picking) → k < length (p ∷ []) → IsTaken (get_or (p ∷ []) k d) (get_or (written (p ∷ []) q (room ∷ [])) k f) (get_or (pickings (p ∷ []) (q ∷ [])) k r)
        only zero d f r h = taken
        only (suc k) d f r h = absurd (omega arith)

        reads : (k : ℕ) (d : Part) (r : Picking) → k < length (p ∷ []) → IsRead (get_or (p ∷ []) k d) (get_or (pickings (p ∷ []) (q ∷ [])) k r) (drop (k + 1) (p ∷ []))
        reads zero d r h = subst (IsRead p q) (sym (drop_first p [])) read
        reads (suc k) d r h = absurd (omega arith)
