-- Rows at runs of places.
use Rattle.std.proofs.Common.{◌≡◌, ℕ, ◌+◌, ◌-◌, ◌*◌, ◌^◌, ◌<◌, ◌≤◌, ◌++◌, true, List, [], length, get_or, take, drop, Some, None, ap, sym, ◌∙◌, refl, subst, arith}
use Rattle.std.proofs.Math.Nat.{mul-le-mul_right, add-mul}
use Rattle.vx_runs.specs.declared.runs.Run.{Run}
use Rattle.vx_runs.specs.Runs.{run_places}
use Rattle.vx_runs.proofs.RunPlaces.{len_within, more_len, no_places, no_run, place_at}
use Rattle.vx_arrow_image.specs.declared.image.Node.{Node}
use Rattle.vx_arrow_image.specs.Image.{Part, is_placed, part_of}
use Rattle.vx_arrow_columns.specs.declared.places.RunPicks.{RunPicks}
use Rattle.vx_arrow_columns.specs.Asked.{the_run_picks}
use Rattle.vx_arrow_columns.specs.Picks.{picks_of}
use Rattle.vx_arrow_columns.specs.Taken.{AreCopied, AreWithin}
use Rattle.vx_arrow_columns.proofs.Columns.{place_some}
use Rattle.vx_arrow_columns.proofs.PickReads.{get_picks, length_picks, pick_there, placed_end}
use Rattle.vx_arrow_columns.proofs.Steps.{copied_run, none_copied}

-- pick j of run k
pick_in : (rs : List Run) (add k j : ℕ) (r : Run) → k < length rs → r ≡ get_or rs k no_run → j < r.len → get_or (picks_of (run_places rs) [] add) (length (run_places (take k rs)) + j) None ≡ Some (add + (r.start + j))
pick_in rs add k j r h e low =
    let ps = run_places rs in
    let m = length (run_places (take k rs)) + j in
    let inside : m < length ps = omega (arith, len_within rs k r h e) in
    get_picks ps [] add m inside ∙ pick_there ps [] add m refl ∙ ap (λ (n : ℕ). Some (add + n)) (place_at rs k j r h e low)

-- the end of a run is one of the picks' end at most
pub run_end : (rs : List Run) (add n k : ℕ) (r : Run) → k < length rs → r ≡ get_or rs k no_run → 0 < r.len → AreWithin (picks_of (run_places rs) [] add) n → add + r.start + r.len ≤ n
run_end rs add n k r h e some within =
    let j = r.len - 1 in
    let low : j < r.len = omega arith in
    let m = length (run_places (take k rs)) + j in
    let inside : m < length (picks_of (run_places rs) [] add) = omega (arith, len_within rs k r h e, length_picks (run_places rs) [] add) in
    let under = within.below m (add + (r.start + j)) inside (pick_in rs add k j r h e low) in
    omega arith

-- its bytes are among those of the rows
pub run_bytes : (i n end w len : ℕ) → i + n ≤ end → end * w ≤ len → i * w + n * w ≤ len
run_bytes i n end w len h room = omega (arith, add-mul i n w, mul-le-mul_right {m = i + n} {n = end} w h)

-- a run that has places is among the rows
pub record IsAmong (p : Part) (add w len : ℕ) (r : Run) : Type 0 where
  pub last : p.offset + add + r.start + r.len ≤ p.offset + p.len
  pub small : p.offset + p.len < 2 ^ 60
  pub bytes : (p.offset + add + r.start) * w + r.len * w ≤ len

pub is_among : (p : Part) (rs : List Run) (add k w len : ℕ) (r : Run) → k < length rs → r ≡ get_or rs k no_run → 0 < r.len → AreWithin (picks_of (run_places rs) [] add) p.len → is_placed p ≡ true → (p.offset + p.len) * w ≤ len → IsAmong p add w len r
is_among p rs add k w len r h e some within placed room =
    let end = run_end rs add p.len k r h e some within in
    let last : p.offset + add + r.start + r.len ≤ p.offset + p.len = omega arith in
    record { last = last; small = placed_end p placed; bytes = run_bytes (p.offset + add + r.start) r.len (p.offset + p.len) w len last room }

-- run k of these picks, if it has places
pub run_among : (node : Node) (picks : RunPicks) (k : ℕ) → k < length picks.runs.now → 0 < (get_or picks.runs.now k no_run).len → AreWithin (the_run_picks picks) node.len → is_placed (part_of node) ≡ true → (node.offset + node.len) * node.width ≤ length node.values.now → IsAmong (part_of node) picks.add node.width (length node.values.now) (get_or picks.runs.now k no_run)
run_among node picks k h some within placed room =
    is_among (part_of node) picks.runs.now picks.add k node.width (length node.values.now) (get_or picks.runs.now k no_run) h refl some within placed room

-- the rows of the first k runs are copied, which are so many bytes
pub record RunsTo (w : ℕ) (src : List ℕ) (p : Part) (rs : List Run) (add k at : ℕ) (out : List ℕ) : Type 0 where
  pub at_is : at ≡ length (run_places (take k rs)) * w
  pub are : AreCopied w src p (picks_of (run_places rs) [] add) (length (run_places (take k rs))) out

pub no_runs : (w : ℕ) (src : List ℕ) (p : Part) (rs : List Run) (add : ℕ) (out : List ℕ) → RunsTo w src p rs add 0 0 out
no_runs w src p rs add out =
    let none : length (run_places (take 0 rs)) ≡ 0 = ap length (no_places rs) in
    record {
      at_is = sym (ap (λ n. n * w) none ∙ (let z : 0 * w ≡ 0 = omega arith in z));
      are = subst (λ (n : ℕ). AreCopied w src p (picks_of (run_places rs) [] add) n out) (sym none) (none_copied w src p (picks_of (run_places rs) [] add) out);
    }

-- one run more is written
pub run_room : (w : ℕ) (src : List ℕ) (p : Part) (rs : List Run) (add k at len : ℕ) (out : List ℕ) (r : Run) → k < length rs → r ≡ get_or rs k no_run → length (run_places rs) * w ≤ len → RunsTo w src p rs add k at out → at + r.len * w ≤ len
run_room w src p rs add k at len out r h e room t =
    let n = length (run_places (take k rs)) in
    let within = len_within rs k r h e in
    let fits = run_bytes n r.len (length (run_places rs)) w len within room in
    omega (arith, t.at_is)

pub one_run : (w : ℕ) (src : List ℕ) (p : Part) (rs : List Run) (add k at i : ℕ) (out new : List ℕ) (r : Run) → k < length rs → r ≡ get_or rs k no_run → i ≡ p.offset + add + r.start → at ≤ length out
    → take (at + r.len * w) new ≡ take at out ++ take (r.len * w) (drop (i * w) src) → RunsTo w src p rs add k at out → RunsTo w src p rs add (k + 1) (at + r.len * w) new
one_run w src p rs add k at i out new r h e is room put t =
    let q = picks_of (run_places rs) [] add in
    let n = length (run_places (take k rs)) in
    let more : length (run_places (take (k + 1) rs)) ≡ n + r.len = more_len rs k r h e in
    record {
      at_is = ap (λ m. m + r.len * w) t.at_is ∙ sym (add-mul n r.len w) ∙ ap (λ m. m * w) (sym more);
      are = subst (λ (m : ℕ). AreCopied w src p q m new) (sym more) (copied_run w src p q n i r.len out new
          (λ j m low f.
          let at_pick = pick_in rs add k j r h e low in
          let there = place_some p (get_or q (n + j) None) m f in
          let same : Some (add + (r.start + j)) ≡ Some there.0 = sym at_pick ∙ there.1.0 in
          let here : add + (r.start + j) ≡ there.0 = cc in
          omega (arith, there.1.1))
          (omega (arith, t.at_is)) (ap (λ m. take (m + r.len * w) new) (sym t.at_is) ∙ put ∙ ap (λ m. take m out ++ take (r.len * w) (drop (i * w) src)) t.at_is) t.are);
    }

-- a run of no places changes nothing
pub bare_run : (w : ℕ) (src : List ℕ) (p : Part) (rs : List Run) (add k at : ℕ) (out : List ℕ) (r : Run) → k < length rs → r ≡ get_or rs k no_run → r.len ≡ 0 → RunsTo w src p rs add k at out → RunsTo w src p rs add (k + 1) at out
bare_run w src p rs add k at out r h e none t =
    let more : length (run_places (take (k + 1) rs)) ≡ length (run_places (take k rs)) = omega (arith, more_len rs k r h e) in
    record {
      at_is = t.at_is ∙ ap (λ m. m * w) (sym more);
      are = subst (λ (m : ℕ). AreCopied w src p (picks_of (run_places rs) [] add) m out) (sym more) t.are;
    }

pub same_runs : (w : ℕ) (src : List ℕ) (p : Part) (rs : List Run) (add k at new : ℕ) (out after : List ℕ) → new ≡ at → after ≡ out → RunsTo w src p rs add k at out → RunsTo w src p rs add k new after
same_runs w src p rs add k at new out after e f t = subst (λ (n : ℕ). RunsTo w src p rs add k n after) (sym e) (subst (λ (l : List ℕ). RunsTo w src p rs add k at l) (sym f) t)
