-- The reads that are recorded, and what comes of an error.
use Rattle.std.proofs.Common.{◌≡◌, ℕ, ◌+◌, ◌-◌, ◌<◌, ◌≤◌, Bool, true, false, List, [], ◌∷◌, ◌++◌, Option, length, get_or, sym, ap, subst, ◌∙◌, arith}
use Rattle.std.specs.Prelude.{IfSome}
use Rattle.std.specs.List.{list_any}
use Rattle.std.proofs.lemmas.List.{length-append}
use Rattle.vx_bits.specs.WordReader.{then_told}
use Rattle.vx_io.specs.Bytes.{Rose}
use Rattle.vx_take.specs.Picks.{BoundedPicks}
use Rattle.vx_file.specs.Blocks.{block_at}
use Rattle.vx_file.specs.Errors.{MatchReading}
use Rattle.vx_file.specs.Reading.{AreTold, IsNoSpelling, NamesTouched, ReadLast, ReadUpTo}
use Rattle.vx_file.specs.Touched.{AreMarked, block_of_rows, blocks_for, lies_in, blocks_touched}
use Rattle.vx_file.specs.declared.error.FileError.{FileError}
use Rattle.vx_file.specs.declared.error.FileError.TheVariants.{ReadFault, BadHeader, Damaged, Broken, NoMemory}
use Rattle.vx_file.proofs.TouchedLists.{touched_longer, touched_more, touched_none}
use Rattle.vx_bits.proofs.Told.{told_more, told_none}

pub told_nothing : (picks : List (Option ℕ)) (r : Option (List ℕ)) → r ≡ then_told r (blocks_touched picks 0)
told_nothing picks r = told_none r ∙ ap (then_told r) (sym (touched_none picks))

pub read_nothing : (picks : List (Option ℕ)) (r : Option (List ℕ)) (n : ℕ) → ReadUpTo picks r r n
read_nothing picks r n = record { count = 0; within = omega arith; told = told_nothing picks r }

pub told_step : (picks : List (Option ℕ)) (k : ℕ) (picked : Bool) (before now after : Option (List ℕ)) → picked ≡ list_any (lies_in k) picks → now ≡ then_told before (blocks_touched picks k) → after ≡ then_told now (block_of_rows picked k) → after ≡ then_told before (blocks_touched picks (k + 1))
told_step picks k picked before now after here e f =
    f ∙ ap (λ r. then_told r (block_of_rows picked k)) e ∙ told_more before (blocks_touched picks k) (block_of_rows picked k)
    ∙ ap (then_told before) (ap (λ b. blocks_touched picks k ++ block_of_rows b k) here ∙ sym (touched_more picks k))

-- how many blocks are touched with one more
pub count_step : (picks : List (Option ℕ)) (k : ℕ) (picked : Bool) → picked ≡ list_any (lies_in k) picks → length (blocks_touched picks (k + 1)) ≡ length (blocks_touched picks k) + length (block_of_rows picked k)
count_step picks k picked here =
    ap length (touched_more picks k ∙ ap (λ b. blocks_touched picks k ++ block_of_rows b k) (sym here)) ∙ length-append (blocks_touched picks k) (block_of_rows picked k)

-- what the flag of block k + 1 says
pub record IsFlag (flags : List Bool) (picks : BoundedPicks) (k : ℕ) : Type 0 where
  pub long : length flags ≡ blocks_for picks.bound
  pub here : get_or flags k false ≡ list_any (lies_in k) picks.picks
  pub count : length (blocks_touched picks.picks (k + 1)) ≡ length (blocks_touched picks.picks k) + length (block_of_rows (get_or flags k false) k)
  pub most : length (blocks_touched picks.picks (k + 1)) ≤ length (blocks_touched picks.picks (blocks_for picks.bound))

pub flag_of : (flags marks : List Bool) (picks : BoundedPicks) (k : ℕ) → flags ≡ marks → AreMarked marks picks.picks (blocks_for picks.bound) → k < length flags → IsFlag flags picks k
flag_of flags marks picks k same marked h =
    let many : length flags ≡ blocks_for picks.bound = ap length same ∙ marked.long in
    let here : get_or flags k false ≡ list_any (lies_in k) picks.picks = ap (λ l. get_or l k false) same ∙ marked.each k (omega (arith, many)) in
    record {
      long = many;
      here = here;
      count = count_step picks.picks k (get_or flags k false) here;
      most = touched_longer picks.picks (k + 1) (blocks_for picks.bound) (omega (arith, many));
    }

pub told_after : (flags : List Bool) (picks : BoundedPicks) (k spare left : ℕ) (before now after : Option (List ℕ)) → IsFlag flags picks k → spare ≤ left + length (blocks_touched picks.picks k)
    → AreTold spare picks (now ≡ then_told before (blocks_touched picks.picks k)) → (length (block_of_rows (get_or flags k false) k) ≤ left → after ≡ then_told now (block_of_rows (get_or flags k false) k))
    → AreTold spare picks (after ≡ then_told before (blocks_touched picks.picks (k + 1)))
told_after flags picks k spare left before now after flag cost told step = λ t.
    told_step picks.picks k (get_or flags k false) before now after flag.here (told t) (step (omega (arith, t, flag.most, flag.count, cost)))

-- an error at block k + 1 names no other
pub names_touched : (k : ℕ) (picks : BoundedPicks) (F N : Type 0) (D : ℕ → Type 0) (e : FileError) → k < blocks_for picks.bound → list_any (lies_in k) picks.picks ≡ true
    → MatchReading e F (λ block. (block ≡ k + 1) × D block) (λ _ _. ⊥) N → NamesTouched picks e
names_touched k picks F N D ReadFault h any m = tt
names_touched k picks F N D BadHeader h any m = m
names_touched k picks F N D (Damaged block) h any m = record { rows = k; number = m.0; within = h; picked = any }
names_touched k picks F N D (Broken step cause) h any m = absurd m
names_touched k picks F N D NoMemory h any m = tt

module _ (width k : ℕ) (picks : BoundedPicks) (spare f0 f1 f2 : ℕ) (before after : Option (List ℕ)) (blocks now : Option (List (List ℕ))) where
  -- what an error at block k + 1 says
  pub raised : (e : FileError) → f0 ≤ f1 → k < blocks_for picks.bound → list_any (lies_in k) picks.picks ≡ true → now ≡ blocks
      → AreTold spare picks (after ≡ then_told before (blocks_touched picks.picks (k + 1)))
      → MatchReading e (Rose f1 f2) (λ block. (block ≡ k + 1) × IfSome now (λ all. IsNoSpelling width (block_at all block))) (λ _ _. ⊥) (Unit {0})
      → MatchReading e (Rose f0 f2 × AreTold spare picks (ReadUpTo picks.picks before after (blocks_for picks.bound)))
      (λ block. IfSome blocks (λ all. IsNoSpelling width (block_at all block)) × AreTold spare picks (ReadLast picks.picks before after (blocks_for picks.bound) block))
      (λ _ _. ⊥) (AreTold spare picks (ReadUpTo picks.picks before after (blocks_for picks.bound)))
  raised ReadFault a h any same told m = (λ below. omega (arith, m below, a), λ t. record { count = k + 1; within = omega (arith, h); told = told t })
  raised BadHeader a h any same told m = m
  raised (Damaged block) a h any same told m = (
    subst (λ (o : Option (List (List ℕ))). IfSome o (λ all. IsNoSpelling width (block_at all block))) same m.1,
    λ t. record {
      within = omega (arith, h, m.0);
      front = blocks_touched picks.picks k;
      last = ap (blocks_touched picks.picks) m.0 ∙ touched_more picks.picks k ∙ ap (λ b. blocks_touched picks.picks k ++ block_of_rows b k) any ∙ ap (λ n. blocks_touched picks.picks k ++ n ∷ []) (sym m.0);
      told = told t ∙ ap (λ n. then_told before (blocks_touched picks.picks n)) (sym m.0);
    },
  )
  raised (Broken step cause) a h any same told m = m
  raised NoMemory a h any same told m = λ t. record { count = k + 1; within = omega (arith, h); told = told t }
