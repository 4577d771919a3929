-- How many rows each buffer of views of texts has, tree by tree.
use Rattle.std.proofs.Common.{suc, ◌≡◌, ◌≢◌, ℕ, ◌+◌, ◌-◌, ◌^◌, ◌<◌, ◌≤◌, List, [], ◌∷◌, ◌++◌, length, get_or, take, drop, ap, sym, ◌∙◌, refl, inl, inr, arith, append_assoc, length-append}
use Rattle.std.proofs.lemmas.Bool.{cases_lt}
use Rattle.std.proofs.lemmas.List.{append-nil, drop-drop, drop_all, drop_more, get_or-map, length-drop, length-map, take_all, take_at}
use Rattle.vx_arrow_image.specs.declared.image.Node as image
use Rattle.vx_arrow_image.specs.Image.{Part, part_of, parts_of}
use Rattle.vx_arrow_columns.specs.Planned.{child_lens, tree_lens}
use Rattle.vx_arrow_columns.proofs.Trees.{empty, lens_more, no_lens}

-- how many rows the trees of the first k nodes have that begin there; as many as `open` trees go on
pub record LensTo (p : Part) (nodes : List image.Node) (k open_trees : ℕ) (lens : List ℕ) : Type 0 where
  pub few : length lens ≤ p.children
  pub are : lens ++ drop open_trees (tree_lens (drop k (parts_of nodes))) ≡ tree_lens (parts_of nodes)

pub first_lens : (p : Part) (nodes : List image.Node) (lens : List ℕ) → lens ≡ [] → LensTo p nodes 0 0 lens
first_lens p nodes lens e = record { few = omega (arith, ap length e); are = ap (λ (l : List ℕ). l ++ tree_lens (parts_of nodes)) e }

-- the trees from a node on
trees_at : (nodes : List image.Node) (k : ℕ) (d : image.Node) → k < length nodes → tree_lens (drop k (parts_of nodes)) ≡ (get_or nodes k d).len ∷ drop (get_or nodes k d).children (tree_lens (drop (k + 1) (parts_of nodes)))
trees_at nodes k d h =
    let parts = parts_of nodes in
    let n = get_or nodes k d in
    let low : k < length parts = omega (arith, length-map nodes part_of) in
    let split : drop k parts ≡ part_of n ∷ drop (k + 1) parts = drop_more parts k (part_of d) low ∙ ap (λ (p : Part). p ∷ drop (k + 1) parts) (get_or-map part_of nodes k d (part_of d) h) in
    ap tree_lens split ∙ lens_more (part_of n) (drop (k + 1) parts)

pub more_lens : (p : Part) (nodes : List image.Node) (k : ℕ) (d : image.Node) (lens new : List ℕ) → k < length nodes → length lens ≢ p.children → new ≡ lens ++ (get_or nodes k d).len ∷ [] → LensTo p nodes k 0 lens
    → LensTo p nodes (k + 1) (get_or nodes k d).children new
more_lens p nodes k d lens new h other pushed t =
    let n = get_or nodes k d in
    let rest = drop n.children (tree_lens (drop (k + 1) (parts_of nodes))) in
    let few = t.few in
    record {
      few = omega (arith, ap length pushed, length-append lens (n.len ∷ []));
      are = ap (λ (l : List ℕ). l ++ rest) pushed ∙ append_assoc lens (n.len ∷ []) rest ∙ ap (λ (l : List ℕ). lens ++ l) (sym (trees_at nodes k d h)) ∙ t.are;
    }

lens_few : (ps : List Part) → length (tree_lens ps) ≤ length ps
lens_few [] = omega (arith, no_lens 0 refl)
lens_few (p ∷ ps) = omega (arith, ap length (lens_more p ps), length-drop p.children (tree_lens ps), lens_few ps)

-- one node of a tree that goes on
passed : (n a b m : ℕ) (l : List ℕ) → 0 < a → (b + (a - 1) < 2 ^ 64 → m ≡ b + (a - 1)) → (2 ^ 64 ≤ b + (a - 1) → 2 ^ 64 - 1 ≤ m) → length l < 2 ^ 64 - 1 → drop m l ≡ drop a (n ∷ drop b l)
passed n a b m l some is most few =
    elim (cases_lt (b + (a - 1)) (2 ^ 64)) as (λ _. drop m l ≡ drop a (n ∷ drop b l)) [
      | inl small ↦ ap (λ k. drop k l) (is small) ∙ back
      | inr large ↦ drop_all m l (omega (arith, most large)) ∙ sym (drop_all (b + (a - 1)) l (omega arith)) ∙ back
    ]
  where
    back : drop (b + (a - 1)) l ≡ drop a (n ∷ drop b l)
    back = let e : a ≡ suc (a - 1) = omega arith in sym (drop-drop (a - 1) b l) ∙ sym (ap (λ k. drop k (n ∷ drop b l)) e)

pub passed_lens : (p : Part) (nodes : List image.Node) (k more m : ℕ) (d : image.Node) (lens : List ℕ) → k < length nodes → length nodes < 2 ^ 64 - 1 → 0 < more → ((get_or nodes k d).children + (more - 1) < 2 ^ 64 → m ≡ (get_or nodes k d).children + (more - 1))
    → (2 ^ 64 ≤ (get_or nodes k d).children + (more - 1) → 2 ^ 64 - 1 ≤ m) → LensTo p nodes k more lens → LensTo p nodes (k + 1) m lens
passed_lens p nodes k more m d lens h few some is most t =
    let rest = tree_lens (drop (k + 1) (parts_of nodes)) in
    let n = get_or nodes k d in
    let short : length rest < 2 ^ 64 - 1 = omega (arith, lens_few (drop (k + 1) (parts_of nodes)), length-drop (k + 1) (parts_of nodes), length-map nodes part_of) in
    record {
      few = t.few;
      are = ap (λ (l : List ℕ). lens ++ l) (passed n.len more n.children m rest some is most short ∙ sym (ap (drop more) (trees_at nodes k d h))) ∙ t.are;
    }

pub all_lens : (p : Part) (nodes : List image.Node) (k more : ℕ) (lens : List ℕ) → length nodes ≤ k → LensTo p nodes k more lens → lens ≡ child_lens p (parts_of nodes)
all_lens p nodes k more lens all t =
    let none : drop k (parts_of nodes) ≡ [] = drop_all k (parts_of nodes) (omega (arith, length-map nodes part_of)) in
    let rest = drop more (tree_lens (drop k (parts_of nodes))) in
    let short : length rest ≡ 0 = omega (arith, length-drop more (tree_lens (drop k (parts_of nodes))), ap (λ (l : List Part). length (tree_lens l)) none, no_lens 0 refl) in
    sym (take_all p.children lens t.few) ∙ ap (take p.children) (sym (append-nil lens) ∙ ap (λ (l : List ℕ). lens ++ l) (sym (empty rest short)) ∙ t.are)

pub full_lens : (p : Part) (nodes : List image.Node) (k : ℕ) (lens : List ℕ) → length lens ≡ p.children → LensTo p nodes k 0 lens → lens ≡ child_lens p (parts_of nodes)
full_lens p nodes k lens e t = sym (take_at lens (tree_lens (drop k (parts_of nodes))) p.children e) ∙ ap (take p.children) t.are
