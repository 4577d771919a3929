-- Views, written one after another.
use Rattle.std.proofs.Common.{◌≡◌, ℕ, ◌+◌, ◌*◌, ◌^◌, ◌<◌, ◌≤◌, Bool, true, false, cond, eqb, ltb, List, [], ◌∷◌, ◌++◌, length, get_or, set, take, drop, ap, ap₂, sym, ◌∙◌, refl, subst, inl, inr, arith, length-append, length-drop}
use Rattle.std.specs.Prelude.{◌&&◌, replicate}
use Rattle.std.specs.List.{flat_map}
use Rattle.std.proofs.Math.Seq.{take-add}
use Rattle.std.proofs.lemmas.Bool.{cases_eq, cases_lt, le-ltb, lt-ltb, ltb-true}
use Rattle.std.proofs.lemmas.List.{append-nil, append_assoc, drop-drop, get_or-set_other, get_or-set_same, get_or_append_left, get_or_push, length-take-le, take-append-le, take_at}
use Rattle.vx_arrow_image.specs.Image.{Part, is_valid, view_buffer, view_len, view_start}
use Rattle.vx_arrow_columns.proofs.Bytes.{cut_before, put_at, put_there}
use Rattle.vx_arrow_columns.proofs.Cuts.{same_cut}
use Rattle.vx_arrow_interleave.specs.declared.spans.Span.{Span}
use Rattle.vx_arrow_interleave.specs.Given.{row_viewed_item, viewed_item, viewed_items}
use Rattle.vx_arrow_interleave.specs.Sources.{part_at}
use Rattle.vx_arrow_interleave.specs.Spots.{Spot, run_of, spot, spot_at, spots}
use Rattle.vx_arrow_interleave.specs.TextViews.{HoldsView, ShowViews, ViewsTo, moved_view, same_view, view_behind, view_row}
use Rattle.vx_arrow_interleave.proofs.JoinedRows.{front_within}
use Rattle.vx_arrow_interleave.proofs.ShownViews.{viewed_append, viewed_none, viewed_other, viewed_there}
use Rattle.vx_arrow_interleave.proofs.SpotLists.{no_span, run_len, run_more, spots_up_to}

-- ---- one view

pub row_null : (p : Part) (i start : ℕ) → is_valid p.valid i ≡ false → view_row p i start ≡ replicate 16 0
row_null p i start e = ap (λ (b : Bool). cond b (cond (ltb 12 (view_len p i)) (moved_view p i start) (same_view p i)) (replicate 16 0)) e

pub row_short : (p : Part) (i start : ℕ) → is_valid p.valid i ≡ true → view_len p i ≤ 12 → view_row p i start ≡ same_view p i
row_short p i start e h =
    ap (λ (b : Bool). cond b (cond (ltb 12 (view_len p i)) (moved_view p i start) (same_view p i)) (replicate 16 0)) e
    ∙ ap (λ (b : Bool). cond b (moved_view p i start) (same_view p i)) (le-ltb _ _ h)

pub row_long : (p : Part) (i start : ℕ) → is_valid p.valid i ≡ true → 12 < view_len p i → view_row p i start ≡ moved_view p i start
row_long p i start e h =
    ap (λ (b : Bool). cond b (cond (ltb 12 (view_len p i)) (moved_view p i start) (same_view p i)) (replicate 16 0)) e
    ∙ ap (λ (b : Bool). cond b (moved_view p i start) (same_view p i)) (lt-ltb _ _ h)

-- only the start of a long text that is there matters
pub row_start : (n : ℕ) (p : Part) (i a b : ℕ) → HoldsView n p i → (view_buffer p i < n → a ≡ b) → view_row p i a ≡ view_row p i b
row_start n p i a b view same = there (is_valid p.valid i) refl
  where
    long : is_valid p.valid i ≡ true → (c : Bool) → ltb 12 (view_len p i) ≡ c → view_row p i a ≡ view_row p i b
    long e true f = ap (view_row p i) (same (view.buffer e (ltb-true _ _ f)))
    long e false f =
        ap (λ (c : Bool). cond c (cond (ltb 12 (view_len p i)) (moved_view p i a) (same_view p i)) (replicate 16 0)) e
        ∙ ap (λ (c : Bool). cond c (moved_view p i a) (same_view p i)) f
        ∙ sym (ap (λ (c : Bool). cond c (cond (ltb 12 (view_len p i)) (moved_view p i b) (same_view p i)) (replicate 16 0)) e
        ∙ ap (λ (c : Bool). cond c (moved_view p i b) (same_view p i)) f)

    there : (c : Bool) → is_valid p.valid i ≡ c → view_row p i a ≡ view_row p i b
    there true e = long e (ltb 12 (view_len p i)) refl
    there false e = row_null p i a e ∙ sym (row_null p i b e)

-- twelve bytes and then four
pub moved_put : (out values src mid new : List ℕ) (at from : ℕ) → from + 16 ≤ length values → at + 16 ≤ length out → length src ≡ 4 → mid ≡ take at out ++ (take 12 (drop from values) ++ drop (at + 12) out) → new ≡ put_at mid src (at + 12)
    → take 16 (drop at new) ≡ take 12 (drop from values) ++ src
moved_put out values src mid new at from there room four first second =
    let own = take 12 (drop from values) in
    let twelve : length own ≡ 12 = length-take-le 12 (drop from values) (omega (arith, length-drop from values)) in
    let put : mid ≡ put_at out own at = first ∙ ap (λ m. take at out ++ (own ++ drop (at + m) out)) (sym twelve) in
    let long : length mid ≡ length out = ap length put ∙ length-append (take at out) (own ++ drop (at + length own) out) ∙ (let a = length-take-le at out (omega arith) in let b = length-append own (drop (at + length own) out) in let c = length-drop (at + length own) out in omega arith) in
    let front : take 12 (drop at new) ≡ own =
    ap (λ (l : List ℕ). take 12 (drop at l)) second ∙ cut_before mid (src ++ drop (at + 12 + length src) mid) at 12 (at + 12) (omega arith) (omega arith)
    ∙ ap (λ (l : List ℕ). take 12 (drop at l)) put ∙ ap (λ m. take m (drop at (put_at out own at))) (sym twelve) ∙ put_there out own at (omega arith) in
    let back : take 4 (drop (at + 12) new) ≡ src =
    ap (λ (l : List ℕ). take 4 (drop (at + 12) l)) second ∙ ap (λ m. take m (drop (at + 12) (put_at mid src (at + 12)))) (sym four) ∙ put_there mid src (at + 12) (omega arith) in
    take-add 12 4 (drop at new) ∙ ap₂ (λ (x : List ℕ) (y : List ℕ). x ++ y) front (ap (take 4) (drop-drop 12 at new) ∙ back)

-- sixteen bytes
pub whole_put : (out src new : List ℕ) (at : ℕ) → at ≤ length out → length src ≡ 16 → new ≡ take at out ++ (src ++ drop (at + 16) out) → take 16 (drop at new) ≡ src
whole_put out src new at h all e =
    ap (λ (l : List ℕ). take 16 (drop at l)) (e ∙ ap (λ m. take at out ++ (src ++ drop (at + m) out)) (sym all))
    ∙ ap (λ m. take m (drop at (put_at out src at))) (sym all) ∙ put_there out src at h

-- the number of the buffer that a view shows grows
pub counts_grow : (starts : List ℕ) (p : Part) (s i k n j : ℕ) → is_valid p.valid i ≡ true → 12 < n → n ≡ view_len p i → k ≡ view_buffer p i → k < length starts → j < length starts
    → get_or (set starts k (get_or starts k 0 + n)) j 0 ≡ get_or starts j 0 + length (viewed_item j p s i)
counts_grow starts p s i k n j there long len buffer h low =
    elim (cases_eq j k) as (λ _. get_or (set starts k (get_or starts k 0 + n)) j 0 ≡ get_or starts j 0 + length (viewed_item j p s i)) [
      | inl same ↦
          let own : n ≡ length (viewed_item k p s i) = len ∙ sym (run_len s (view_start p i) (view_len p i)) ∙ ap length (sym (viewed_there p s i k there (omega arith) (sym buffer))) in
          subst (λ (m : ℕ). get_or (set starts k (get_or starts k 0 + n)) m 0 ≡ get_or starts m 0 + length (viewed_item m p s i)) (sym same)
          (get_or-set_same starts k (get_or starts k 0 + n) 0 h ∙ ap (λ m. get_or starts k 0 + m) own)
      | inr other ↦
          let none : length (viewed_item j p s i) ≡ 0 = ap length (viewed_other p s i j there (omega arith) (λ g. other (omega arith))) in
          get_or-set_other starts k j (get_or starts k 0 + n) 0 other ∙ (let e : get_or starts j 0 ≡ get_or starts j 0 + length (viewed_item j p s i) = omega arith in e)
    ]

-- how much a view shows does not depend on its source
pub viewed_len : (p : Part) (s t i j : ℕ) → length (viewed_item j p s i) ≡ length (viewed_item j p t i)
viewed_len p s t i j = go (is_valid p.valid i && (ltb 12 (view_len p i) && eqb (view_buffer p i) j))
  where
    go : (b : Bool) → length (cond b (run_of s (view_start p i) (view_len p i)) []) ≡ length (cond b (run_of t (view_start p i) (view_len p i)) [])
    go true = run_len s (view_start p i) (view_len p i) ∙ sym (run_len t (view_start p i) (view_len p i))
    go false = refl

-- ---- views so far

pub views_none : (n : ℕ) (ps : List Part) (ss : List Spot) (starts out : List ℕ) → ss ≡ [] → ((j : ℕ) → j < n → get_or starts j 0 ≡ 0) → ViewsTo n ps ss starts out
views_none n ps ss starts out e clear = record {
  counts = λ j h. clear j h ∙ sym (ap length (viewed_none ps ss j e));
  views = record { bytes = λ k h. absurd (omega (arith, ap length e)) };
}

pub one_viewed : (ps : List Part) (ss : List Spot) (s i j : ℕ) → length (viewed_items ps (ss ++ spot s i ∷ []) j) ≡ length (viewed_items ps ss j) + length (viewed_item j (part_at ps s) s i)
unfolding viewed_items
one_viewed ps ss s i j =
    ap length (viewed_append ps ss (spot s i ∷ []) j) ∙ length-append (viewed_items ps ss j) (viewed_items ps (spot s i ∷ []) j)
    ∙ ap (λ (l : List Spot). length (viewed_items ps ss j) + length l) (append-nil (viewed_item j (part_at ps s) s i))

pub views_more : (n : ℕ) (ps : List Part) (ss : List Spot) (s i at : ℕ) (p : Part) (starts next out new : List ℕ) → part_at ps s ≡ p → at ≡ 16 * length ss → at + 16 ≤ length out → HoldsView n p i → take at new ≡ take at out → take 16 (drop at new) ≡ view_row p i (get_or starts (view_buffer p i) 0)
    → ((j : ℕ) → j < n → get_or next j 0 ≡ get_or starts j 0 + length (viewed_item j p 0 i)) → ViewsTo n ps ss starts out → ViewsTo n ps (ss ++ spot s i ∷ []) next new
views_more n ps ss s i at p starts next out new own place room view before put grow t =
    let more = ss ++ spot s i ∷ [] in
    let size : length more ≡ length ss + 1 = length-append ss (spot s i ∷ []) in
    record {
      counts = λ j h. grow j h ∙ ap₂ ◌+◌ (t.counts j h) (viewed_len p 0 s i j ∙ ap (λ (q : Part). length (viewed_item j q s i)) (sym own)) ∙ sym (one_viewed ps ss s i j);
      views = record {
        bytes = λ k h. elim (cases_lt k (length ss)) as (λ _. take 16 (drop (16 * k) new) ≡ view_behind ps (take k more) (spot_at more k)) [
          | inl low ↦
              same_cut new out (16 * k) 16 at (omega arith) before ∙ t.views.bytes k low
              ∙ ap₂ (view_behind ps) (sym (take-append-le k ss (spot s i ∷ []) (omega arith))) (sym (get_or_append_left ss (spot s i ∷ []) (spot 0 0) k low))
          | inr high ↦
              let last : length ss ≡ k = omega arith in
              let there : at ≡ 16 * k = omega arith in
              ap (λ m. take 16 (drop m new)) (sym there) ∙ put
              ∙ row_start n p i (get_or starts (view_buffer p i) 0) (length (viewed_items ps ss (view_buffer p i))) view (λ b. t.counts (view_buffer p i) b)
              ∙ ap (λ (q : Part). view_row q i (length (viewed_items ps ss (view_buffer q i)))) (sym own)
              ∙ ap₂ (view_behind ps) (sym (take_at ss (spot s i ∷ []) k last)) (sym (get_or_push ss (spot s i) (spot 0 0) k last))
        ];
      };
    }

pub as_views : (n : ℕ) (ps : List Part) (ss more : List Spot) (starts next out new : List ℕ) → more ≡ ss → next ≡ starts → new ≡ out → ViewsTo n ps ss starts out → ViewsTo n ps more next new
as_views n ps ss more starts next out new e f g t =
    subst (λ (l : List Spot). ViewsTo n ps l next new) (sym e) (subst (λ (l : List ℕ). ViewsTo n ps ss l new) (sym f) (subst (λ (l : List ℕ). ViewsTo n ps ss starts l) (sym g) t))

-- what the rows up to one of a span show can be counted
pub row_few : (n : ℕ) (ps : List Part) (all : List Span) (k i j : ℕ) (r : Span) (p : Part) (starts out : List ℕ) → k < length all → r ≡ get_or all k no_span → i < r.len → j < n → part_at ps r.source ≡ p → ShowViews n ps (spots all)
    → ViewsTo n ps (spots (take k all) ++ run_of r.source r.start i) starts out → get_or starts j 0 + length (viewed_item j p 0 (r.start + i)) < 2 ^ 31
unfolding viewed_items
row_few n ps all k i j r p starts out h e low b own show t =
    let s = r.source in
    let front = spots (take k all) ++ run_of s r.start i in
    let one : length (viewed_items ps (front ++ spot s (r.start + i) ∷ []) j) ≡ get_or starts j 0 + length (viewed_item j p 0 (r.start + i)) =
    one_viewed ps front s (r.start + i) j ∙ ap₂ ◌+◌ (sym (t.counts j b)) (ap (λ (q : Part). length (viewed_item j q s (r.start + i))) own ∙ viewed_len p s 0 (r.start + i) j) in
    let up = take (length (spots (take k all)) + (i + 1)) (spots all) in
    let is : up ≡ front ++ spot s (r.start + i) ∷ [] = spots_up_to all k (i + 1) r h e (omega arith) ∙ ap (λ (l : List Spot). spots (take k all) ++ l) (run_more s r.start i (r.start + i) refl) ∙ sym (append_assoc (spots (take k all)) (run_of s r.start i) (spot s (r.start + i) ∷ [])) in
    let within = front_within (row_viewed_item j ps) (spots all) (length (spots (take k all)) + (i + 1)) in
    let few = show.few j b in
    omega (arith, one, ap (λ (l : List Spot). length (flat_map (row_viewed_item j ps) l)) is, within, few)

-- ---- spans

pub span_more : (before : List Spot) (s a i : ℕ) → before ++ run_of s a (i + 1) ≡ (before ++ run_of s a i) ++ spot s (a + i) ∷ []
span_more before s a i = ap (λ (l : List Spot). before ++ l) (run_more s a i (a + i) refl) ∙ sym (append_assoc before (run_of s a i) (spot s (a + i) ∷ []))

pub span_len : (before : List Spot) (s a i first : ℕ) → first ≡ length before → 16 * (first + i) ≡ 16 * length (before ++ run_of s a i)
span_len before s a i first e = let l = length-append before (run_of s a i) in let n = run_len s a i in omega arith

pub span_none : (before : List Spot) (s a : ℕ) → before ++ run_of s a 0 ≡ before
span_none before s a = append-nil before
