-- What a scan does to single flags, flag 14 above all. Assumes nothing.
use Prim.Native.Nat.{ℕ, ◌+◌, ◌≤◌, ◌<◌}
use mathlib.Core.Path.{◌≡◌, refl, sym, ap, ◌∙◌}
use mathlib.Core.Logic.{◌≢◌, ◌⊎◌, inl, inr}
use mathlib.Core.Bool.{Bool, true, false, ◌&&◌}
use native.Mathlib.Omega.{arith}
use lib.Dec.{eqb, lit<, lit≤}
use Rattle.words.specs.Word.{when◌then◌else◌, is_set}
use Rattle.words.proofs.Laws.{set_has, set_keeps, clear_has, clear_keeps, clear_one_keeps, either, if_map}
use Rattle.rules.specs.declared.Settings.{Settings}
use Rattle.rules.specs.declared.Status.{Status}
use Rattle.rules.specs.declared.Motor.{Motor}
use Rattle.rules.specs.declared.Reading.{Reading}
use Rattle.rules.specs.Record.{flag, idle, with_mode, with_command, with_flags, with_previous, with_status}
use Rattle.rules.specs.Steps.{reading, supply_fault, switch_fault, both_closed, closed_fault, put_flag, status5, status6, flags7, status7, flags9, issue_status, status9, issue, step9, status10, status7to10, steps1to5, to_choice, half, close, issued, issues, step}

-- ---- setting, clearing and putting

-- a choice has the bit that both of its arms have
if_keeps : (k : ℕ) (b : Bool) (x y : ℕ) {t : Bool} → is_set k x ≡ t → is_set k y ≡ t → is_set k (when b then x else y) ≡ t
if_keeps k b x y {t} = either (λ (n : ℕ). is_set k n ≡ t) b

put_keeps : (j k : ℕ) (b : Bool) (w : ℕ) → j ≢ k → is_set k (put_flag j b w) ≡ is_set k w
unfolding put_flag
put_keeps j k b w ne = if_keeps k b _ _ (set_keeps j k w ne) (clear_one_keeps j k w ne)

put_has : (k : ℕ) (b : Bool) (w : ℕ) → k < 32 → is_set k (put_flag k b w) ≡ b
unfolding put_flag when◌then◌else◌
put_has k true w h = set_has k w h
put_has k false w h = clear_has k w

-- ---- step 5 changes no flags but 0, 1 and 14

pub keeps5 : (s : Settings) (v : Status) (word : ℕ) (r : Reading) (k : ℕ) → 0 ≢ k → 1 ≢ k → 14 ≢ k → flag (status5 s v word r) k ≡ flag v k
unfolding flag status5 with_flags
keeps5 s v word r k n₀ n₁ n₁₄ = put_keeps 14 k _ _ n₁₄ ∙ put_keeps 1 k _ _ n₁ ∙ put_keeps 0 k _ _ n₀

-- ---- steps 6 to 10 change no flags but 4, 5 and 6

abbrev pub Other : ℕ → Type 0
Other k = (k < 4) ⊎ (6 < k)

other_ne : {k : ℕ} (j : ℕ) → 4 ≤ j → j ≤ 6 → Other k → j ≢ k
other_ne j a b (inl h) e = omega arith
other_ne j a b (inr h) e = omega arith

beside : {k : ℕ} → Other k → (k < 5) ⊎ (5 + 2 ≤ k)
beside (inl h) = inl (omega arith)
beside (inr h) = inr (omega arith)

keeps7 : (s : Settings) (v : Status) (word k : ℕ) → Other k → is_set k (flags7 s v word) ≡ is_set k v.flags
unfolding flags7
keeps7 s v word k o =
    let off = if_keeps k _ _ _ (clear_keeps 5 2 k v.flags (beside o)) refl in
    if_keeps k _ _ _ (clear_one_keeps 4 k _ (other_ne 4 (lit≤ tt) (lit≤ tt) o) ∙ off) off

keeps9 : (c k f : ℕ) → Other k → is_set k (flags9 c f) ≡ is_set k f
unfolding flags9
keeps9 c k f o =
    let ne : (j : ℕ) → 4 ≤ j → j ≤ 6 → j ≢ k = λ j a b. other_ne j a b o in
    let g = if_keeps k _ _ _ (clear_keeps 5 2 k f (beside o)) (clear_one_keeps 4 k f (ne 4 (lit≤ tt) (lit≤ tt))) in
    if_keeps k _ _ _ (set_keeps 4 k _ (ne 4 (lit≤ tt) (lit≤ tt)) ∙ g)
    (if_keeps k _ _ _ (set_keeps 5 k _ (ne 5 (lit≤ tt) (lit≤ tt)) ∙ g) (if_keeps k _ _ _ (set_keeps 6 k _ (ne 6 (lit≤ tt) (lit≤ tt)) ∙ g) g))

-- as the book of commands goes through them, and the record
pub keeps7to10 : (s : Settings) (v : Status) (word k : ℕ) → Other k → flag (status7to10 s v word) k ≡ flag v k
unfolding flag status7to10 status10 status9 issue_status status7 with_previous with_flags with_mode with_command
keeps7to10 s v word k o =
    let at7 = keeps7 s v word k o in
    either (λ (x : Status). is_set k x.flags ≡ is_set k v.flags) _ at7 (keeps9 _ k _ o ∙ at7)

-- step 9 does to the record's status what it does to the book's
pub step9_status : (m : Motor) (c : ℕ) → (step9 m c).status ≡ status9 m.settings m.status c
unfolding step9 status9 issue
step9_status m c = if_map (λ (n : Motor). n.status) (eqb c 0) m (issue m c)

-- what a scan leaves of a flag after its fifth step
keeps6to10 : (m : Motor) (word period k : ℕ) → Other k → flag (step m word period).status k ≡ flag (steps1to5 m word period).status k
unfolding step half to_choice close status7to10 with_status issued issues idle status7 with_flags
keeps6to10 m word period k o =
    let n = steps1to5 m word period in
    ap (λ (v : Status). flag (status10 v word) k) (step9_status _ _)
    ∙ keeps7to10 n.settings (status6 n.settings n.status word) word k o ∙ unfold status6 with_mode flag in refl

-- ---- flag 14

formed : (s : Settings) (v : Status) (word : ℕ) (r : Reading) → flag (status5 s v word r) 14 ≡ (flag (status5 s v word r) 1 && both_closed r)
unfolding flag status5 with_flags closed_fault
formed s v word r =
    let f : ℕ = put_flag 1 (switch_fault s v word r) (put_flag 0 (supply_fault s word) v.flags) in
    let one : is_set 1 (put_flag 14 (closed_fault s v word r) f) ≡ switch_fault s v word r = put_keeps 14 1 _ f (λ e. omega arith) ∙ put_has 1 _ _ (lit< tt) in
    put_has 14 _ f (lit< tt) ∙ ap (λ (b : Bool). b && both_closed r) (sym one)

-- Flag 14 stands together with flag 1 if both switches are closed, and is 0 after every other scan.
pub closed_flag : (m : Motor) (word period : ℕ)
    → flag (step m word period).status 14 ≡ (flag (step m word period).status 1 && both_closed (reading m.settings word))
closed_flag m word period =
    let r = reading m.settings word in
    keeps6to10 m word period 14 (inr (lit< tt)) ∙ unfold steps1to5 with_status in formed _ _ word r
    ∙ ap (λ (b : Bool). b && both_closed r) (sym (keeps6to10 m word period 1 (inl (lit< tt))))
