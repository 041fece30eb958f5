-- Laws of what is put into a page, and of storing where there is room. Assumes nothing.
use Prim.Native.Nat.{ℕ, ◌+◌, ◌/◌, ◌%◌, ◌^◌, ◌<◌, ◌≤◌}
use mathlib.Core.Path.{◌≡◌, refl}
use mathlib.Core.List.{List, [], ◌∷◌, ◌++◌, append_assoc}
use native.Mathlib.Omega.{arith}
use mathlib.Core.Bool.{true}
use lib.Dec.{ltb}
use lib.ListN.{length, drop, get_or, drop_of_length-le}
use lib.Seq.{drop-cons}
use native.Mathlib.Numerals.{add-one}
use borrow.Author.Tests.{ltb-true, lt-ltb}
use Rattle.words.proofs.Laws.{and_true}
use Rattle.std.specs.Int.Bits.{bit_or}
use Rattle.std.proofs.lemmas.Nat.{le_or_l, le_or_r}
use Rattle.octets.specs.Split.{LF, comma}
use Rattle.report.specs.Print.{decimal, after_comma, after_commas, line_of, letter_r, row_of}
use Rattle.report.specs.Puts.{Puts}
use Rattle.report.specs.Store.{Takes, pair_of, states_of, short_states}
use Rattle.report.specs.declared.Row.{Row}
use Rattle.report.specs.declared.page.Page.{Page}
use Rattle.report.proofs.PutLaws.{puts_then, put_length, Completes, one_more, none_left}
use Rattle.report.proofs.PrintLaws.{decimal_less, decimal_more, decimal_length, fields_next, fields_end}

-- ---- bytes, and numbers after their commas, in the loops over them, and none left

module _ {from here : Page} {whole : List ℕ} (ns : List ℕ) (i : ℕ) where
  pub byte_more : {later : Page} (d : ℕ) → i < length ns → Completes from whole here (drop i ns) → Puts here (get_or ns i d ∷ []) later → Completes from whole later (drop (i + 1) ns)
  byte_more d h more = one_more more (rw (add-one i) (drop-cons ns i d h))

  pub bytes_end : length ns ≤ i → Completes from whole here (drop i ns) → Puts from whole here
  bytes_end h more = none_left more (drop_of_length-le ns h)

  pub field_more : {mid later : Page} → i < length ns → Completes from whole here (after_commas (drop i ns)) → Puts here (comma ∷ []) mid → Puts mid (decimal (get_or ns i 0)) later
      → Completes from whole later (after_commas (drop (i + 1) ns))
  unfolding after_comma
  field_more h more p k = one_more more (rw (add-one i) (fields_next ns i h)) (puts_then p k)

  pub line_end : {later : Page} → length ns ≤ i → Completes from whole here (after_commas (drop i ns)) → Puts here (LF ∷ []) later → Puts from whole later
  line_end h more p = more.by _ (rw (fields_end ns i h) p)

-- ---- a number

pub number_less : {p q : Page} (n : ℕ) → n < 10 → Puts p ((48 + n) ∷ []) q → Puts p (decimal n) q
number_less n h j = rw (decimal_less n h) j

pub number_then : {p q r : Page} (n : ℕ) → 10 ≤ n → n < 2 ^ 32 → Puts p (decimal (n / 10)) q → Puts q ((48 + n % 10) ∷ []) r → Puts p (decimal n) r
number_then n h g j k = rw (decimal_more n h g) (puts_then j k)

-- two digits at a time
pub pair_less : {p q : Page} (n : ℕ) → 10 ≤ n → n < 100 → Puts p (pair_of n) q → Puts p (decimal n) q
unfolding pair_of
pair_less n h g j = rw (decimal_more n h (omega arith), decimal_less (n / 10) (omega arith)) j

pub pair_then : {p q r : Page} (n : ℕ) → 100 ≤ n → n < 2 ^ 32 → Puts p (decimal (n / 100)) q → Puts q (pair_of (n % 100)) r → Puts p (decimal n) r
unfolding pair_of
pair_then n h g j k =
    let hundreds : n / 10 / 10 ≡ n / 100 = omega arith in
    let tens : n / 10 % 10 ≡ n % 100 / 10 = omega arith in
    let ones : n % 10 ≡ n % 100 % 10 = omega arith in
    rw (decimal_more n (omega arith) g, decimal_more (n / 10) (omega arith) (omega arith), ones, tens, hundreds, append_assoc) (puts_then j k)

-- ---- a row

pub row_parts : (r : Row)
    → row_of r
    ≡ (letter_r ∷ []) ++ (after_comma r.scan ++ (after_comma r.number ++ (states_of r ++ (after_comma r.flags ++ (LF ∷ [])))))
unfolding row_of line_of after_commas states_of
row_parts r = simp append_assoc

pub record ShortStates (r : Row) : Type 0 where
  pub mode : r.mode < 10
  pub position : r.position < 10
  pub command : r.command < 10
  pub end : r.end < 10
  pub output : r.output < 10

pub short_states_lem : (r : Row) → short_states r ≡ true → ShortStates r
unfolding short_states
short_states_lem r h =
    let four = and_true _ (ltb r.output 10) h in
    let three = and_true _ (ltb r.end 10) four.0 in
    let two = and_true _ (ltb r.command 10) three.0 in
    let one = and_true (ltb r.mode 10) (ltb r.position 10) two.0 in
    record {
      mode = ltb-true _ _ one.0;
      position = ltb-true _ _ one.1;
      command = ltb-true _ _ two.1;
      end = ltb-true _ _ three.1;
      output = ltb-true _ _ four.1;
    }

-- numbers are below ten if all their bits together are
pub all_short : (r : Row) → bit_or (bit_or (bit_or (bit_or r.mode r.position) r.command) r.end) r.output < 10 → short_states r ≡ true
unfolding short_states
all_short r h =
    let two = bit_or r.mode r.position in
    let three = bit_or two r.command in
    let four = bit_or three r.end in
    let i = le_or_l four r.output in
    let j = le_or_l three r.end in
    let k = le_or_l two r.command in
    rw (
      lt-ltb r.mode 10 (omega (arith, i, j, k, le_or_l r.mode r.position)),
      lt-ltb r.position 10 (omega (arith, i, j, k, le_or_r r.mode r.position)),
      lt-ltb r.command 10 (omega (arith, i, j, le_or_r two r.command)),
      lt-ltb r.end 10 (omega (arith, i, le_or_r three r.end)),
      lt-ltb r.output 10 (omega (arith, le_or_r four r.output)),
    ) refl

-- a number takes room for ten digits at most
pub number_takes : {p q : Page} (n : ℕ) → Puts p (decimal n) q → Takes p 10 q
number_takes n j = record { used = omega (arith, decimal_length n, j.put.place); length = put_length j.put }
