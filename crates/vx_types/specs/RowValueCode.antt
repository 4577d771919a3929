-- The code of a row.
use Rattle.std.specs.Prelude.{◌≡◌, ℕ, zero, suc, refl, true, false}
use base.Stored.{Gv, gnil, gnum, gcons, num, Coded}
use Rattle.vx_types.specs.Code.{head, bytes_code, bytes_back, bytes_back_code, coded_back}
use Rattle.vx_types.specs.RowValue.{RowValue, RowValues, null, bit, bytes, list, fields, tagged, none, more}

abbrev mutual
  pub code : RowValue → Gv
  code null = gcons (gnum 0) gnil
  code (bit false) = gcons (gnum 1) gnil
  code (bit true) = gcons (gnum 2) gnil
  code (bytes bs) = gcons (gnum 3) (bytes_code bs)
  code (list xs) = gcons (gnum 4) (codes xs)
  code (fields xs) = gcons (gnum 5) (codes xs)
  code (tagged n x) = gcons (gnum 6) (gcons (gnum n) (gcons (code x) gnil))

  pub codes : RowValues → Gv
  codes none = gnil
  codes (more x xs) = gcons (code x) (codes xs)

abbrev second : RowValues → RowValue
second none = null
second (more x none) = null
second (more x (more y ys)) = y

abbrev row_numbered : ℕ → Gv → RowValues → RowValue
row_numbered zero b xs = null
row_numbered (suc zero) b xs = bit false
row_numbered (suc (suc zero)) b xs = bit true
row_numbered (suc (suc (suc zero))) b xs = bytes (bytes_back b)
row_numbered (suc (suc (suc (suc zero)))) b xs = list xs
row_numbered (suc (suc (suc (suc (suc zero))))) b xs = fields xs
row_numbered (suc (suc (suc (suc (suc (suc n)))))) b xs = tagged (num (head b)) (second xs)

abbrev pub back : Gv → RowValue × RowValues
back gnil = (null, none)
back (gnum n) = (null, none)
back (gcons a b) = (row_numbered (num a) b (back b).1, more (back a).0 (back b).1)

mutual
  pub back_code : (x : RowValue) → (back (code x)).0 ≡ x
  back_code null = refl
  back_code (bit false) = refl
  back_code (bit true) = refl
  back_code (bytes bs) = λ i. bytes (bytes_back_code bs i)
  back_code (list xs) = λ i. list (back_codes xs i)
  back_code (fields xs) = λ i. fields (back_codes xs i)
  back_code (tagged n x) = λ i. tagged n (back_code x i)

  pub back_codes : (xs : RowValues) → (back (codes xs)).1 ≡ xs
  back_codes none = refl
  back_codes (more x xs) = λ i. more (back_code x i) (back_codes xs i)

abbrev pub coded_row : Coded RowValue
coded_row = coded_back code (λ g. (back g).0) back_code
