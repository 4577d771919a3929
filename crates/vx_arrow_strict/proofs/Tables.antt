-- Nodes of a table, and those behind a node.
use Rattle.std.proofs.Common.{zero, suc, ◌≡◌, ℕ, ◌+◌, ◌-◌, ◌*◌, ◌^◌, ◌<◌, ◌≤◌, Bool, true, false, List, [], ◌∷◌, length, get_or, take, drop, Option, Some, None, ap, sym, ◌∙◌, refl, arith, eqb, leb, ltb}
use Rattle.std.specs.List.{list_all, range_with_len}
use Rattle.std.specs.Prelude.{slice_get}
use Rattle.std.proofs.lemmas.Bool.{and_left, and_parts, and_right, le-leb, leb-true, ltb-true}
use Rattle.std.proofs.lemmas.List.{drop-map, get_or-map, length-drop, length-map, take-map, take_all}
use Rattle.std.proofs.lemmas.List.Folds.{list_all-map}
use Rattle.std.proofs.lemmas.Option.{slice_get-get_or}
use Rattle.vx_lemmas.proofs.Bools.{and_step}
use Rattle.vx_arrow_image.specs.declared.image.Node as image
use Rattle.vx_arrow_image.specs.Image.{Part, is_placed, part_of, parts_of}
use Rattle.vx_arrow_image.proofs.SoundNodes.{zero_node}
use Rattle.vx_arrow_strict.specs.declared.flaw.Extra.{Extra}
use Rattle.vx_arrow_strict.specs.declared.flaw.Rule.{Rule}
use Rattle.vx_arrow_strict.specs.declared.flaw.Rule.TheVariants as rules
use Rattle.vx_arrow_strict.specs.Maps.{absent}
use Rattle.vx_arrow_strict.specs.Strict.{flaw_at, flaw_of}
use Rattle.vx_arrow_strict.specs.Texts.{are_texts, is_buffer, is_fixed, is_text}

slice_get_past : {X : Type 0} (xs : List X) (k : ℕ) → length xs ≤ k → slice_get xs k ≡ None
slice_get_past [] k h = refl
slice_get_past (x ∷ xs) zero h = absurd (omega arith)
slice_get_past (x ∷ xs) (suc k) h = slice_get_past xs k (omega arith)

pub part_at : (nodes : List image.Node) (k : ℕ) (n : image.Node) → k < length nodes → n ≡ get_or nodes k zero_node → part_of n ≡ get_or (parts_of nodes) k absent
part_at nodes k n h e = ap part_of e ∙ sym (get_or-map part_of nodes k zero_node absent h)

first_all : (f : Part → Bool) (n k : ℕ) (ps : List Part) (d : Part) → list_all f (take n ps) ≡ true → k < n → k < length ps → f (get_or ps k d) ≡ true
first_all f zero k ps d h low high = absurd (omega arith)
first_all f (suc n) k [] d h low high = absurd (omega arith)
first_all f (suc n) zero (p ∷ ps) d h low high = (and_parts (f p) _ h).0
first_all f (suc n) (suc k) (p ∷ ps) d h low high = first_all f n k ps d (and_parts (f p) _ h).1 (omega arith) (omega arith)

pub buffer_at : (n k : ℕ) (ps : List Part) → list_all is_buffer (take n ps) ≡ true → k < n → k < length ps → is_buffer (get_or ps k absent) ≡ true
buffer_at n k ps h low high = first_all is_buffer n k ps absent h low high

pub buffers_of : (n : ℕ) (nodes : List image.Node) → list_all is_buffer (take n (parts_of nodes)) ≡ list_all (λ m. is_buffer (part_of m)) (take n nodes)
buffers_of n nodes = ap (list_all is_buffer) (take-map part_of n nodes) ∙ list_all-map is_buffer part_of (take n nodes)

-- a data buffer has bytes for its rows
pub record HoldsBytes (b : Part) : Type 0 where
  pub few : b.offset + b.len < 2 ^ 60
  pub held : b.offset + b.len ≤ length b.values

few_of : (b : Part) → is_placed b ≡ true → b.offset + b.len < 2 ^ 60
unfolding is_placed
few_of b h = ltb-true _ _ (and_parts (ltb (b.offset + b.len) (2 ^ 60)) _ h).0

holds_bytes : (b : Part) → is_buffer b ≡ true → HoldsBytes b
unfolding is_buffer
holds_bytes b h =
    let second = (and_parts (is_fixed b.format) _ h).1 in
    let third = (and_parts (eqb b.width 1) _ second).1 in
    let fourth = (and_parts (eqb b.children 0) _ third).1 in
    let last = and_parts (is_placed b) _ fourth in
    record { few = few_of b last.0; held = leb-true _ _ last.1 }

pub buffer_here : (n k : ℕ) (nodes : List image.Node) → list_all is_buffer (take n (parts_of nodes)) ≡ true → k < n → k < length nodes → HoldsBytes (part_of (get_or nodes k zero_node))
buffer_here n k nodes h low high =
    holds_bytes _ (ap is_buffer (part_at nodes k (get_or nodes k zero_node) high refl) ∙ buffer_at n k (parts_of nodes) h low (omega (arith, length-map nodes part_of)))

-- ---- string views, of which the tests before have passed

pub texts_not_buffers : (p : Part) (ps : List Part) → list_all is_buffer (take p.children ps) ≡ false → false ≡ are_texts p ps
unfolding are_texts
texts_not_buffers p ps h = sym (and_right (is_placed p) _ (and_right (leb (16 * (p.offset + p.len)) (length p.values)) _ (and_right (leb p.children (length ps)) _ (and_left _ _ h))))

pub texts_last : (p : Part) (ps : List Part) (r : Bool) → is_placed p ≡ true → 16 * (p.offset + p.len) ≤ length p.values → p.children ≤ length ps → list_all is_buffer (take p.children ps) ≡ true
    → r ≡ list_all (is_text p ps) (range_with_len p.offset p.len) → r ≡ are_texts p ps
unfolding are_texts
texts_last p ps r placed held count buffers e =
    e ∙ and_step _ _ buffers ∙ and_step _ _ (le-leb _ _ count) ∙ and_step _ _ (le-leb _ _ held) ∙ and_step _ _ placed

-- ---- the first flaw of a node

pub flaw_past : (parts : List Part) (extras : List Extra) (k : ℕ) → length extras ≤ k → Some rules.NullCount ≡ flaw_at parts extras k
unfolding flaw_at flaw_of
flaw_past parts extras k h = sym (ap (λ (x : Option Extra). flaw_of (get_or parts k absent) x (drop (k + 1) parts)) (slice_get_past extras k h))

pub flaw_here : (nodes : List image.Node) (extras : List Extra) (k : ℕ) (n : image.Node) (x d : Extra) (r : Option Rule) → k < length nodes → k < length extras → n ≡ get_or nodes k zero_node → x ≡ get_or extras k d
    → r ≡ flaw_of (part_of n) (Some x) (parts_of (take (length nodes - (k + 1)) (drop (k + 1) nodes))) → r ≡ flaw_at (parts_of nodes) extras k
unfolding flaw_at
flaw_here nodes extras k n x d r high within e f h =
    let rest = drop (k + 1) nodes in
    h
    ∙ ap (λ (l : List image.Node). flaw_of (part_of n) (Some x) (parts_of l)) (take_all (length nodes - (k + 1)) rest (omega (arith, length-drop (k + 1) nodes)))
    ∙ ap (λ (p : Part). flaw_of p (Some x) (parts_of rest)) (part_at nodes k n high e)
    ∙ ap (λ (o : Option Extra). flaw_of (get_or (parts_of nodes) k absent) o (parts_of rest)) (sym (slice_get-get_or extras k d within ∙ ap Some (sym f)))
    ∙ ap (flaw_of (get_or (parts_of nodes) k absent) (slice_get extras k)) (sym (drop-map part_of (k + 1) nodes))
