-- The places of one run more.
use Rattle.std.proofs.Common.{zero, suc, ◌≡◌, ℕ, ◌+◌, ◌<◌, ◌≤◌, List, [], ◌∷◌, ◌++◌, length, get_or, take, ap, sym, ◌∙◌, refl, arith, length-append}
use Rattle.std.specs.List.{flat_map, range_with_len}
use Rattle.std.proofs.lemmas.List.{take_all, take_more, flat_map_more, append-nil}
use Rattle.std.proofs.lemmas.List.Concat.{get_or-flat_map}
use Rattle.std.proofs.lemmas.List.Folds.{length-flat_map-take}
use Rattle.std.proofs.lemmas.List.FromFn.{length-range_with_len, get_or-range_with_len}
use Rattle.vx_runs.specs.declared.runs.Run.{Run}
use Rattle.vx_runs.specs.Runs.{places_of_run, run_places}

abbrev pub no_run : Run
no_run = record { start = 0; len = 0 }

pub no_places : (rs : List Run) → run_places (take 0 rs) ≡ []
unfolding run_places
no_places rs = refl

pub more_places : (rs : List Run) (k : ℕ) (r : Run) → k < length rs → r ≡ get_or rs k no_run → run_places (take (k + 1) rs) ≡ run_places (take k rs) ++ range_with_len r.start r.len
unfolding run_places
more_places rs k r h e =
    ap (flat_map places_of_run) (take_more rs k no_run h) ∙ sym (flat_map_more places_of_run [] (take k rs) (get_or rs k no_run)) ∙ ap (λ (x : Run). flat_map places_of_run (take k rs) ++ places_of_run x) (sym e)

pub more_len : (rs : List Run) (k : ℕ) (r : Run) → k < length rs → r ≡ get_or rs k no_run → length (run_places (take (k + 1) rs)) ≡ length (run_places (take k rs)) + r.len
more_len rs k r h e =
    ap length (more_places rs k r h e) ∙ length-append (run_places (take k rs)) (range_with_len r.start r.len) ∙ ap (λ n. length (run_places (take k rs)) + n) (length-range_with_len r.start r.len)

pub len_within : (rs : List Run) (k : ℕ) (r : Run) → k < length rs → r ≡ get_or rs k no_run → length (run_places (take k rs)) + r.len ≤ length (run_places rs)
unfolding run_places
len_within rs k r h e =
    let own : length (places_of_run (get_or rs k no_run)) ≡ r.len = ap (λ (x : Run). length (places_of_run x)) (sym e) ∙ length-range_with_len r.start r.len in
    omega (arith, length-flat_map-take places_of_run rs k no_run h)

pub all_places : (rs : List Run) (k : ℕ) → length rs ≤ k → run_places (take k rs) ≡ run_places rs
all_places rs k h = ap run_places (take_all k rs h)

-- place j of run k stands behind those of the runs before
pub place_at : (rs : List Run) (k j : ℕ) (r : Run) → k < length rs → r ≡ get_or rs k no_run → j < r.len → get_or (run_places rs) (length (run_places (take k rs)) + j) 0 ≡ r.start + j
unfolding run_places
place_at rs k j r h e low =
    let own : length (places_of_run (get_or rs k no_run)) ≡ r.len = ap (λ (x : Run). length (places_of_run x)) (sym e) ∙ length-range_with_len r.start r.len in
    get_or-flat_map places_of_run rs k j no_run 0 h (omega arith) ∙ ap (λ (x : Run). get_or (places_of_run x) j 0) (sym e) ∙ get_or-range_with_len r.start r.len j 0 low

pub range_more : (a n j : ℕ) → a + n ≡ j → range_with_len a (n + 1) ≡ range_with_len a n ++ j ∷ []
range_more a zero j e = ap (λ k. k ∷ []) (omega arith)
range_more a (suc n) j e = let m : suc n + 1 ≡ suc (n + 1) = omega arith in ap (range_with_len a) m ∙ ap (λ l. a ∷ l) (range_more (a + 1) n j (omega arith))

pub pushed_places : (rs new : List Run) (r : Run) → new ≡ rs ++ r ∷ [] → run_places new ≡ run_places rs ++ range_with_len r.start r.len
unfolding run_places
pushed_places rs new r e = ap (flat_map places_of_run) e ∙ sym (flat_map_more places_of_run [] rs r)

pub bare_places : (rs : List Run) → rs ≡ [] → run_places rs ≡ []
unfolding run_places
bare_places rs e = ap (flat_map places_of_run) e

pub one_run : (r : Run) → run_places (r ∷ []) ≡ range_with_len r.start r.len
unfolding run_places
one_run r = append-nil (range_with_len r.start r.len)
