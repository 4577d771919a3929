-- Offsets that are put out by words.
use Rattle.std.proofs.Common.{◌≡◌, ℕ, ◌+◌, ◌-◌, ◌*◌, ◌/◌, ◌%◌, ◌^◌, ◌<◌, ◌≤◌, Bool, List, [], ◌++◌, length, get_or, take, bit_or, inl, inr, refl, sym, ap, ap₂, subst, ◌∙◌, add-zero, arith}
use Rattle.std.specs.Int.{to_le_bytes, w64}
use Rattle.std.proofs.lemmas.List.{append-nil, append_assoc, get_or-append_right, get_or_append_left, length-append}
use Rattle.std.proofs.lemmas.Bool.{cases_lt}
use Rattle.std.proofs.lemmas.Nat.{mod_low, mod-pow-add, or_comm, or_shifted, pow-add, pow_pos, shr_below, shr_high}
use Rattle.std.proofs.Math.Nat.{div-div-eq-div-mul, mod-eq_of_lt}
use Rattle.std.proofs.Math.Pow.{pow_mono}
use Rattle.vx_bits.specs.BitBuffer.{bits_of}
use Rattle.vx_bits.specs.BitBuilder.{builder_bits}
use Rattle.vx_bits.specs.Words.{word_bits}
use Rattle.vx_bits.proofs.ByteLists.{le_below}
use Rattle.vx_bits.proofs.BuiltLists.{built_more, built_none, built_word, joined_below, length-built}
use Rattle.vx_bits.proofs.WordBits.{word_bits-none}
use Rattle.vx_packed.specs.Chunk.{bytes_of, field_bits}
use Rattle.vx_packed.proofs.Bytes.{bytes_of-bits_of}
use Rattle.vx_packed.proofs.Fields.{field_bits_more, field_bits_none, length-field_bits}

-- the bytes that are put out behind others, and the open word, hold the bits
pub record Put (front out : List ℕ) (bits : List Bool) (next held : ℕ) : Type 0 where
  pub put : List ℕ
  pub out_is : out ≡ front ++ put
  pub bits_are : builder_bits put next held ≡ bits
  pub whole : length put % 8 ≡ 0
  pub open_word : held < 64
  pub clean : next < 2 ^ held
  pub fits : (k : ℕ) → get_or put k 0 < 256

-- an offset behind the bits of the open word
pub joined_word : (next held offset s : ℕ) → s + held ≡ 64 → next < 2 ^ held → bit_or next (offset * 2 ^ held % 2 ^ 64) ≡ (offset * 2 ^ held + next) % 2 ^ 64
joined_word next held offset s whole clean =
    let n = offset * 2 ^ held + next in
    let m = offset * 2 ^ held + 0 in
    let same : offset * 2 ^ held ≡ m = omega arith in
    let cut = ap (λ e. n % 2 ^ e) (sym whole) ∙ mod-pow-add n s held ∙ ap₂ (λ a b. a % 2 ^ s * 2 ^ held + b) (shr_high offset held next clean) (mod_low offset held next clean) in
    let top = ap₂ (λ x e. x % 2 ^ e) same (sym whole) ∙ mod-pow-add m s held ∙ ap₂ (λ a b. a % 2 ^ s * 2 ^ held + b) (shr_high offset held 0 (pow_pos held)) (mod_low offset held 0 (pow_pos held)) ∙ add-zero (offset % 2 ^ s * 2 ^ held) in
    ap (bit_or next) top ∙ or_comm next (offset % 2 ^ s * 2 ^ held) ∙ or_shifted (offset % 2 ^ s) held next clean ∙ sym cut

pub put_none : (front : List ℕ) (base w : ℕ) (numbers : List ℕ) → Put front front (field_bits base w (take 0 numbers)) 0 0
put_none front base w numbers = record {
  put = [];
  out_is = sym (append-nil front);
  bits_are = built_none [] refl ∙ sym (field_bits_none base w numbers);
  whole = refl;
  open_word = omega arith;
  clean = omega arith;
  fits = λ k. omega arith;
}

-- how many bytes are put out
pub put_length : (front out : List ℕ) (base w i : ℕ) (numbers : List ℕ) (next held : ℕ) → i ≤ length numbers → length (take i numbers) ≡ i → Put front out (field_bits base w (take i numbers)) next held → 8 * length out + held ≡ 8 * length front + i * w
put_length front out base w i numbers next held h long p =
    let bits = ap length p.bits_are ∙ length-field_bits base w (take i numbers) ∙ ap (λ n. n * w) long in
    omega (arith, bits, length-built p.put next held, ap length p.out_is, length-append front p.put)

module _ (front out : List ℕ) (base w i : ℕ) (numbers : List ℕ) (next held offset : ℕ) where
  -- the offset fits the open word
  pub put_within : Put front out (field_bits base w (take i numbers)) next held → i < length numbers → offset ≡ get_or numbers i 0 - base → offset < 2 ^ w → held + w < 64
      → Put front out (field_bits base w (take (i + 1) numbers)) (bit_or next (offset * 2 ^ held % 2 ^ 64)) (held + w)
  put_within p h e below fits =
      let all = offset * 2 ^ held + next in
      let low : offset % 2 ^ w ≡ offset = mod-eq_of_lt below in
      let all_is : all ≡ offset % 2 ^ w * 2 ^ held + next = ap (λ m. m * 2 ^ held + next) (sym low) in
      let small = joined_below next held offset w all p.clean below refl in
      let short : held + w ≤ 64 = omega arith in
      let power : 2 ^ (held + w) ≤ 2 ^ 64 = pow_mono short in
      let is : bit_or next (offset * 2 ^ held % 2 ^ 64) ≡ all = joined_word next held offset (64 - held) (omega (arith, p.open_word)) p.clean ∙ mod-eq_of_lt (omega arith) in
      record {
        put = p.put;
        out_is = p.out_is;
        bits_are = ap (λ m. builder_bits p.put m (held + w)) is
            ∙ built_more p.put next held offset w all p.clean all_is
            ∙ ap₂ (λ l m. l ++ word_bits m w) p.bits_are e
            ∙ sym (field_bits_more base w numbers i h);
        whole = p.whole;
        open_word = fits;
        clean = subst (λ (m : ℕ). m < 2 ^ (held + w)) (sym is) small;
        fits = p.fits;
      }

  -- the offset fills it
  pub put_over : (new : List ℕ) (rest : ℕ) → Put front out (field_bits base w (take i numbers)) next held → i < length numbers → offset ≡ get_or numbers i 0 - base → offset < 2 ^ w → w ≤ 64 → 64 ≤ held + w
      → new ≡ out ++ to_le_bytes w64 (bit_or next (offset * 2 ^ held % 2 ^ 64)) → rest ≡ offset / 2 ^ (w - (held + w - 64))
      → Put front new (field_bits base w (take (i + 1) numbers)) rest (held + w - 64)
  put_over new rest p h e below short full pushed rest_is =
      let s = 64 - held in
      let r = held + w - 64 in
      let all = offset * 2 ^ held + next in
      let low : offset % 2 ^ w ≡ offset = mod-eq_of_lt below in
      let all_is : all ≡ offset % 2 ^ w * 2 ^ held + next = ap (λ m. m * 2 ^ held + next) (sym low) in
      let word = bit_or next (offset * 2 ^ held % 2 ^ 64) in
      let word_is : word ≡ all % 2 ^ 64 = joined_word next held offset s (omega (arith, p.open_word)) p.clean in
      let bits_left : w - r ≡ s = omega (arith, p.open_word) in
      let sum : held + s ≡ 64 = omega (arith, p.open_word) in
      let power : 2 ^ 64 ≡ 2 ^ held * 2 ^ s = ap (λ k. 2 ^ k) (sym sum) ∙ pow-add 2 held s in
      let high : all / 2 ^ 64 ≡ offset / 2 ^ s = ap (λ m. all / m) power ∙ sym (div-div-eq-div-mul all (2 ^ held) (2 ^ s)) ∙ ap (λ m. m / 2 ^ s) (shr_high offset held next p.clean) in
      let rest_high : rest ≡ all / 2 ^ 64 = rest_is ∙ ap (λ k. offset / 2 ^ k) bits_left ∙ sym high in
      let wide : held + w ≡ r + 64 = omega arith in
      let small = subst (λ (k : ℕ). all < 2 ^ k) wide (joined_below next held offset w all p.clean below refl) in
      let put = p.put ++ to_le_bytes w64 word in
      record {
        put = put;
        out_is = pushed ∙ ap (λ l. l ++ to_le_bytes w64 word) p.out_is ∙ append_assoc front p.put (to_le_bytes w64 word);
        bits_are = built_word p.put put next held offset w all word rest r p.clean all_is word_is rest_high (omega arith) refl
            ∙ ap₂ (λ l m. l ++ word_bits m w) p.bits_are e
            ∙ sym (field_bits_more base w numbers i h);
        whole = omega (arith, p.whole, length-append p.put (to_le_bytes w64 word));
        open_word = omega (arith, p.open_word);
        clean = subst (λ (m : ℕ). m < 2 ^ r) (sym rest_high) (shr_below all r 64 small);
        fits = λ k. elim (cases_lt k (length p.put)) [
          | inl h ↦ omega (arith, get_or_append_left p.put (to_le_bytes w64 word) 0 k h, p.fits k)
          | inr h ↦ omega (arith, get_or-append_right p.put (to_le_bytes w64 word) (length p.put) k 0 refl h, le_below word (k - length p.put))
        ];
      }

-- all of them are put out
pub put_all_bits : (front out : List ℕ) (base w : ℕ) (numbers : List ℕ) (next held : ℕ) → length numbers ≡ 1024 → Put front out (field_bits base w numbers) next held → out ≡ front ++ bytes_of (field_bits base w numbers)
put_all_bits front out base w numbers next held long p =
    let put = p.put in
    let count = ap length p.bits_are ∙ length-field_bits base w numbers ∙ ap (λ n. n * w) long in
    let none : held ≡ 0 = omega (arith, count, length-built put next held, p.whole, p.open_word) in
    let bits = sym p.bits_are ∙ ap (builder_bits put next) none ∙ ap (λ l. bits_of put 0 (8 * length put) ++ l) (word_bits-none next) ∙ append-nil (bits_of put 0 (8 * length put)) in
    p.out_is ∙ ap (λ l. front ++ l) (sym (ap bytes_of bits ∙ bytes_of-bits_of put p.fits))
