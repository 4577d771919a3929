-- Spans that are joined, pushed and replaced.
use Rattle.std.proofs.Common.{suc, ◌≡◌, ℕ, ◌+◌, ◌<◌, ◌≤◌, List, [], ◌∷◌, ◌++◌, length, get_or, set, take, ap, ap₂, sym, ◌∙◌, arith}
use Rattle.std.specs.List.{flat_map}
use Rattle.std.proofs.lemmas.List.{append_assoc, drop_all, set_split}
use Rattle.vx_arrow_interleave.specs.declared.spans.Span.{Span}
use Rattle.vx_arrow_interleave.specs.Spots.{Spot, run_of, span_spots, spots}
use Rattle.vx_arrow_interleave.proofs.SpotLists.{no_span, run_join, spots_all, spots_push, spots_take}

-- a span behind which another one stands
pub joined_spots : (a b : Span) (n : ℕ) → a.source ≡ b.source → a.start + a.len ≡ b.start → a.len + b.len ≡ n → run_of a.source a.start n ≡ span_spots a ++ span_spots b
joined_spots a b n e f g =
    ap (run_of a.source a.start) (sym g) ∙ sym (run_join a.source a.start a.len b.len)
    ∙ ap₂ (λ (s : ℕ) (k : ℕ). span_spots a ++ run_of s k b.len) e f

pub bare_spots : (ss : List Span) → ss ≡ [] → spots ss ≡ []
unfolding spots
bare_spots ss e = ap (flat_map span_spots) e

-- the last span, replaced
pub last_spots : (ss : List Span) (k : ℕ) (last both s : Span) → k + 1 ≡ length ss → last ≡ get_or ss k no_span → span_spots both ≡ span_spots last ++ span_spots s → spots (set ss k both) ≡ spots ss ++ span_spots s
last_spots ss k last both s n is e =
    let low : k < length ss = omega arith in
    let all : length ss ≤ k + 1 = omega arith in
    let end : length ss ≤ suc k = omega arith in
    spots_push (take k ss) (set ss k both) both (set_split ss k both low ∙ ap (λ (l : List Span). take k ss ++ both ∷ l) (drop_all (suc k) ss end))
    ∙ ap (λ (l : List Spot). spots (take k ss) ++ l) e
    ∙ sym (append_assoc (spots (take k ss)) (span_spots last) (span_spots s))
    ∙ ap (λ (l : List Spot). l ++ span_spots s) (sym (spots_take ss k last low is) ∙ spots_all ss (k + 1) all)
