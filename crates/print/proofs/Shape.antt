-- The print by its lines: the rows of the accepted scans, and last what is printed at the end, or, if a line is refused, its E line. Assumes
-- nothing.
use Prim.Native.Nat.{ℕ, suc, ◌+◌, ◌*◌, ◌<◌, ◌≤◌, min}
use mathlib.Core.Path.{◌≡◌, refl, sym, ap, subst, ◌∙◌}
use mathlib.Core.Bool.{Bool, true, false}
use mathlib.Core.List.{List, [], ◌∷◌, ◌++◌, append_assoc}
use native.Mathlib.Omega.{arith}
use lib.Dec.{eqb}
use native.Mathlib.Nat.{add-zero, zero-add, zero-mul, suc-mul}
use native.Mathlib.Numerals.{add-one}
use lib.ListN.{length, length-append}
use borrow.Author.Tests.{eqb-true, eqb-false}
use Rattle.words.specs.Word.{when◌then◌else◌}
use Rattle.words.proofs.Laws.{and_true, either}
use Rattle.rules.specs.declared.Motor.{Motor}
use Rattle.rules.specs.Refusals.{table_after}
use Rattle.rules.proofs.Tables.{length_after}
use Rattle.sheet.specs.Grammar.{requests_of}
use Rattle.sheet.proofs.MoreLines.{few_requests}
use Rattle.sheet.specs.declared.Request.{Request}
use Rattle.sheet.specs.declared.Request.TheVariants.{Motor as M, Input as I, Scan as S, Refused}
use Rattle.report.specs.declared.Row.{Row}
use Rattle.report.specs.Print.{row_of, refusal_of}
use Rattle.interpreter.specs.State.{State, empty_state, next_number, with_motor, with_words, with_word, with_scan, refusal_for, changed, state_after, states_after, accepted_from, all_accepted}
use Rattle.print.specs.Print.{motor_row, rows_of, answer_of, print_from}
use Rattle.interpreter.proofs.ActLaws.{accepted, motor_first}
use Rattle.print.proofs.PrintLaws.{from_accepted, from_refused}

-- ---- the rows of a print, as rows

-- the motors' rows, from a number on; those of an accepted request; those of accepted requests
unfoldable pub row_list : ℕ → ℕ → List Motor → List Row
row_list scan number [] = []
row_list scan number (m ∷ ms) = motor_row scan number m ∷ row_list scan (number + 1) ms

unfoldable pub rows_after : State → Request → List Row
rows_after t (M number ops1 ops2 w u) = []
rows_after t (I number word) = []
rows_after t (S period) = row_list t.scans 1 t.motors
rows_after t Refused = []

unfoldable pub all_rows : State → List Request → List Row
all_rows t [] = []
all_rows t (r ∷ rs) = rows_after (changed t r) r ++ all_rows (changed t r) rs

unfoldable pub printed : List Row → List ℕ
printed [] = []
printed (r ∷ rs) = row_of r ++ printed rs

-- ---- what is printed after the requests up to the first that is refused

unfoldable pub line_after : ℕ → List Request → ℕ
line_after k [] = k
line_after k (r ∷ rs) = line_after (next_number k) rs

-- how a print ends: with what is printed at the end of the file, or with the E line of line k and a refusal that is not 0
pub data Ends (end : List ℕ) (k : ℕ) : List ℕ → Type 0 where
  read_out : Ends end k end
  by_refusal : (code : ℕ) → (code ≡ 0 → ⊥) → Ends end k (refusal_of k code)

-- Rows alone, and then what is printed at the end, or one E line; its number is that of the line after the accepted ones.
pub record Shaped (end : List ℕ) (rs : List Request) (t : State) (k : ℕ) : Type 0 where
  pub tail : List ℕ
  pub is : print_from end rs t k ≡ printed (all_rows t (accepted_from t rs)) ++ tail
  pub ends : Ends end (line_after k (accepted_from t rs)) tail

printed_more : (a b : List Row) → printed (a ++ b) ≡ printed a ++ printed b
unfolding printed
printed_more [] b = refl
printed_more (r ∷ a) b = rw (printed_more a b) (sym (append_assoc (row_of r) (printed a) (printed b)))

rows_printed : (scan n : ℕ) (ms : List Motor) → rows_of scan n ms ≡ printed (row_list scan n ms)
unfolding rows_of printed row_list
rows_printed scan n [] = refl
rows_printed scan n (m ∷ ms) = rw (rows_printed scan (n + 1) ms)

answer_printed : (t : State) (r : Request) → answer_of t r ≡ printed (rows_after t r)
unfolding answer_of printed rows_after
answer_printed t (M number ops1 ops2 w u) = refl
answer_printed t (I number word) = refl
answer_printed t (S period) = rows_printed t.scans 1 t.motors
answer_printed t Refused = refl

pub shaped : (end : List ℕ) (rs : List Request) (t : State) (k : ℕ) → Shaped end rs t k
unfolding print_from accepted_from all_rows printed line_after when◌then◌else◌
shaped end [] t k = record { tail = end; is = refl; ends = read_out }
shaped end (r ∷ rs) t k = go (eqb (refusal_for t r) 0) refl (shaped end rs (changed t r) (next_number k))
  where
    go : (b : Bool) → eqb (refusal_for t r) 0 ≡ b → Shaped end rs (changed t r) (next_number k) → Shaped end (r ∷ rs) t k
    go true e s =
        record {
          tail = s.tail;
          is =
              from_accepted end r rs t k (eqb-true _ _ e)
              ∙ rw (e, s.is, answer_printed (changed t r) r, printed_more (rows_after (changed t r) r) (all_rows (changed t r) (accepted_from (changed t r) rs)))
              (sym (append_assoc (printed (rows_after (changed t r) r)) _ s.tail));
          ends = rw e s.ends;
        }
    go false e s =
        record {
          tail = refusal_of k (refusal_for t r);
          is = from_refused end r rs t k (eqb-false _ _ e) ∙ rw e;
          ends = rw e (by_refusal (refusal_for t r) (eqb-false _ _ e));
        }

-- ---- how many rows: n times the motors after n scans. M is refused once there was a scan, so the motors stay as many.

rows_many : (scan n : ℕ) (ms : List Motor) → length (row_list scan n ms) ≡ length ms
unfolding row_list
rows_many scan n [] = refl
rows_many scan n (m ∷ ms) = ap suc (rows_many scan (n + 1) ms)

pub accepts : (t : State) (rs : List Request) → all_accepted t (accepted_from t rs) ≡ true
unfolding accepted_from all_accepted when◌then◌else◌
accepts t [] = refl
accepts t (r ∷ rs) = go (eqb (refusal_for t r) 0) refl (accepts (changed t r) rs)
  where
    go : (b : Bool) → eqb (refusal_for t r) 0 ≡ b → all_accepted (changed t r) (accepted_from (changed t r) rs) ≡ true
        → all_accepted t (when b then r ∷ accepted_from (changed t r) rs else []) ≡ true
    go true e a = rw e a
    go false e a = refl

-- rows counted so far, in a state where they are right
Counted : State → ℕ → Type 0
Counted t n = n ≡ t.scans * length t.motors

step_counted : (t : State) (r : Request) (n : ℕ) → refusal_for t r ≡ 0 → t.scans < 4294967295 → Counted t n
    → Counted (changed t r) (n + length (rows_after (changed t r) r)) × ((changed t r).scans ≤ t.scans + 1)
unfolding refusal_for changed with_motor with_word with_words with_scan next_number rows_after Counted
step_counted t (M number ops1 ops2 w u) n h l e =
    let z = motor_first _ _ _ _ h in
    (rw (add-zero n, e, z, zero-mul, zero-mul), omega arith)
step_counted t (I number word) n h l e = (rw (add-zero n) e, omega arith)
step_counted t (S period) n h l e =
    let k : min (t.scans + 1) 4294967295 ≡ t.scans + 1 = omega arith in
    (rw (k, rows_many (t.scans + 1) 1 (table_after t.motors t.words period), length_after t.motors t.words period, add-one t.scans, suc-mul) (ap (λ (m : ℕ). m + length t.motors) e), omega arith)
step_counted t Refused n h l e = (rw (add-zero n) e, omega arith)

rows_counted : (t : State) (rs : List Request) (n : ℕ) → all_accepted t rs ≡ true → t.scans + length rs ≤ 4294967295 → Counted t n
    → Counted (states_after t rs) (n + length (all_rows t rs))
unfolding states_after all_rows all_accepted
rows_counted t [] n a l e = subst (λ (m : ℕ). Counted t m) (sym (add-zero n)) e
rows_counted t (r ∷ rs) n a l e =
    let b = and_true (eqb (refusal_for t r) 0) (all_accepted (changed t r) rs) a in
    let h = eqb-true (refusal_for t r) 0 b.0 in
    let u : state_after t r ≡ changed t r = accepted t r h in
    let s = step_counted t r n h (omega arith) e in
    let w = rows_after (changed t r) r in
    let m : n + length w + length (all_rows (changed t r) rs) ≡ n + length (w ++ all_rows (changed t r) rs) = omega (arith, length-append w (all_rows (changed t r) rs)) in
    rw (u, ← m) (rows_counted (changed t r) rs (n + length w) b.1 (omega (arith, s.1)) s.0)

-- ---- a file that is not too long has so few lines that every number is exact

few_accepted : (t : State) (rs : List Request) → length (accepted_from t rs) ≤ length rs
unfolding accepted_from
few_accepted t [] = omega arith
few_accepted t (r ∷ rs) = either (λ (qs : List Request). length qs ≤ suc (length rs)) _ (omega (arith, few_accepted (changed t r) rs)) (omega arith)

line_exact : (k : ℕ) (rs : List Request) → k + length rs ≤ 4294967295 → line_after k rs ≡ k + length rs
unfolding line_after next_number
line_exact k [] l = omega arith
line_exact k (r ∷ rs) l =
    let e : min (k + 1) 4294967295 ≡ k + 1 = omega arith in
    rw e (line_exact (k + 1) rs (omega arith) ∙ (omega arith))

-- After n accepted scans there are n times the motors of rows, and the E line has the number of the line after the accepted ones.
pub record Numbered (rs : List Request) : Type 0 where
  pub rows : length (all_rows empty_state rs) ≡ (states_after empty_state rs).scans * length (states_after empty_state rs).motors
  pub line : line_after 1 rs ≡ 1 + length rs

pub numbered : (file : List ℕ) → length file ≤ 65536 → Numbered (accepted_from empty_state (requests_of file))
unfolding empty_state Counted
numbered file h =
    let rs = accepted_from empty_state (requests_of file) in
    let few : length rs ≤ 65536 = omega (arith, few_accepted empty_state (requests_of file), few_requests file) in
    record {
      rows = sym (zero-add _) ∙ rows_counted empty_state rs 0 (accepts empty_state (requests_of file)) (omega arith) refl;
      line = line_exact 1 rs (omega arith);
    }
