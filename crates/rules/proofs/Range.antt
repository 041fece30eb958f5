-- The range is kept: a scan of a record in range leaves one in range, so a motor that starts fresh with settings in range is never
-- refused by 6. Assumes nothing.
use Prim.Native.Nat.{ℕ, suc, ◌+◌, ◌^◌, ◌≤◌, ◌<◌}
use mathlib.Core.Path.{◌≡◌, refl}
use mathlib.Core.Bool.{Bool, true, false, not, ◌&&◌, ◌||◌}
use mathlib.Core.List.{List, [], ◌∷◌}
use mathlib.Core.Logic.{◌≢◌}
use native.Mathlib.Nat.{lt_of_le_of_lt}
use native.Mathlib.Omega.{arith}
use lib.Dec.{eqb, leb, lit<, lit≤}
use borrow.Author.Tests.{leb-true, leb-false, le-leb, eqb-true, not-false}
use Rattle.words.specs.Word.{when◌then◌else◌, with_bit, without_bit, without_bits}
use Rattle.words.proofs.Laws.{either, if_lt, with_lt, without_le, and_true}
use Rattle.rules.specs.declared.Settings.{Settings}
use Rattle.rules.specs.declared.Status.{Status}
use Rattle.rules.specs.declared.Output.{Output}
use Rattle.rules.specs.declared.Motor.{Motor}
use Rattle.rules.specs.declared.Reading.{Reading}
use Rattle.rules.specs.declared.Reading.TheVariants.{Off, On, BothOpen, BothClosed}
use Rattle.rules.specs.Record.{ops₁, commands, idle, own_output, overdue_flag, fresh_status, dropped, fresh, with_mode, with_positions, with_command, with_flags, with_previous, with_status}
use Rattle.rules.specs.Steps.{flags1, status1, reading, position_read, flags2, pretended, status2, running, step3, confirmed, overdue, ended, end4, flags4, status4, time_up, pulse_over, drops, step4, put_flag, status5, mode_asked, status6, flags7, status7, chosen, first_of, issued, flags9, issue_status, raised, without_opposite, output9, issue, step9, status10, steps1to5, to_choice, half, close, step}
use Rattle.rules.specs.Refusals.{most_flags, settings_in_range, status_in_range, output_in_range, in_range, period_ok, word_ok, one_refusal, one_after}
use Rattle.rules.specs.Scans.{Input, scans, SumsFit}
use Rattle.rules.proofs.Tables.{if_zero}

-- ---- the ranges, as bounds

-- flags 0 to 14
abbrev flag_count : ℕ
flag_count = 15

record Fits (v : Status) : Type 0 where
  mode : v.mode < 3
  sure : v.sure < 3
  position : v.position < 3
  command : v.command < 8
  end : v.end < 4
  flags : v.flags < 2 ^ flag_count
  previous : v.previous < 131072

-- ---- a field changed within its bound

with_mode_lem : {v : Status} {k : ℕ} → Fits v → k < 3 → Fits (with_mode v k)
unfolding with_mode
with_mode_lem f h = record { mode = h; sure = f.sure; position = f.position; command = f.command; end = f.end; flags = f.flags; previous = f.previous }

with_positions_lem : {v : Status} {a b : ℕ} → Fits v → a < 3 → b < 3 → Fits (with_positions v a b)
unfolding with_positions
with_positions_lem f h l = record { mode = f.mode; sure = h; position = l; command = f.command; end = f.end; flags = f.flags; previous = f.previous }

with_command_lem : {v : Status} {c e : ℕ} → Fits v → c < 8 → e < 4 → Fits (with_command v c e)
unfolding with_command
with_command_lem f h l = record { mode = f.mode; sure = f.sure; position = f.position; command = h; end = l; flags = f.flags; previous = f.previous }

with_flags_lem : {v : Status} {k : ℕ} → Fits v → k < 2 ^ flag_count → Fits (with_flags v k)
unfolding with_flags
with_flags_lem f h = record { mode = f.mode; sure = f.sure; position = f.position; command = f.command; end = f.end; flags = h; previous = f.previous }

with_previous_lem : {v : Status} {k : ℕ} → Fits v → k < 131072 → Fits (with_previous v k)
unfolding with_previous
with_previous_lem f h = record { mode = f.mode; sure = f.sure; position = f.position; command = f.command; end = f.end; flags = f.flags; previous = h }

-- ---- the flags

set : (k : ℕ) {f : ℕ} → k < flag_count → f < 2 ^ flag_count → with_bit k f < 2 ^ flag_count
set k {f} h = with_lt flag_count k f (lit≤ tt) h

clear : (k n : ℕ) {f : ℕ} → f < 2 ^ flag_count → without_bits k n f < 2 ^ flag_count
clear k n {f} h = lt_of_le_of_lt (without_le k n f) h

clear_one : (k : ℕ) {f : ℕ} → f < 2 ^ flag_count → without_bit k f < 2 ^ flag_count
unfolding without_bit
clear_one k h = clear k 1 h

put : (k : ℕ) (b : Bool) {f : ℕ} → k < flag_count → f < 2 ^ flag_count → put_flag k b f < 2 ^ flag_count
unfolding put_flag
put k b h l = if_lt b (set k h l) (clear_one k l)

-- ---- the steps

keeps1 : (v : Status) (word : ℕ) → Fits v → Fits (status1 v word)
unfolding status1 flags1
keeps1 v word f = with_flags_lem (with_command_lem f f.command (lit< tt)) (if_lt _ (clear 2 12 f.flags) f.flags)

read_fits : (r : Reading) → position_read r < 3
unfolding position_read
read_fits Off = lit< tt
read_fits On = lit< tt
read_fits BothOpen = lit< tt
read_fits BothClosed = lit< tt

keeps2 : (s : Settings) (v : Status) (r : Reading) → Fits v → Fits (status2 s v r)
unfolding status2 flags2 pretended
keeps2 s v r f =
    with_flags_lem
    (with_positions_lem f (if_lt _ (read_fits _) f.sure) (if_lt _ (read_fits _) (if_lt _ (lit< tt) (if_lt _ f.sure (if_lt _ (lit< tt) (lit< tt))))))
    (if_lt _ (set 2 (lit< tt) f.flags) (if_lt _ (set 3 (lit< tt) f.flags) f.flags))

keeps4 : (v : Status) (r : Reading) (up : Bool) → Fits v → Fits (status4 v r up)
unfolding status4 end4 flags4 overdue_flag
keeps4 v r up f =
    with_flags_lem (with_command_lem f (if_lt _ (lit< tt) f.command) (if_lt _ (lit< tt) (if_lt _ (lit< tt) f.end)))
    (if_lt _ (let c = f.command in set (6 + v.command) (omega arith) f.flags) f.flags)

keeps5 : (s : Settings) (v : Status) (word : ℕ) (r : Reading) → Fits v → Fits (status5 s v word r)
unfolding status5
keeps5 s v word r f = with_flags_lem f (put 14 _ (lit< tt) (put 1 _ (lit< tt) (put 0 _ (lit< tt) f.flags)))

keeps6 : (s : Settings) (v : Status) (word : ℕ) → Fits v → Fits (status6 s v word)
unfolding status6 mode_asked
keeps6 s v word f = with_mode_lem f (if_lt _ (if_lt _ (lit< tt) (if_lt _ (lit< tt) (lit< tt))) f.mode)

keeps7 : (s : Settings) (v : Status) (word : ℕ) → Fits v → Fits (status7 s v word)
unfolding status7 flags7
keeps7 s v word f =
    let g = if_lt _ (clear 5 2 f.flags) f.flags in
    with_flags_lem f (if_lt _ (clear_one 4 g) g)

chosen_fits : (s : Settings) (v : Status) (word : ℕ) → chosen s v word < 8
unfolding chosen first_of commands
chosen_fits s v word =
    if_lt _ (lit< tt)
    (if_lt _ (lit< tt) (if_lt _ (lit< tt) (if_lt _ (lit< tt) (if_lt _ (lit< tt) (if_lt _ (lit< tt) (if_lt _ (lit< tt) (lit< tt)))))))

pub issued_fits : (s : Settings) (v w : Status) (word : ℕ) → issued w (chosen s v word) < 8
unfolding issued
issued_fits s v w word = if_lt _ (chosen_fits s v word) (lit< tt)

keeps_issue : (s : Settings) (v : Status) (c : ℕ) → c < 8 → Fits v → Fits (issue_status s v c)
unfolding issue_status flags9
keeps_issue s v c h f =
    let g = if_lt _ (clear 5 2 f.flags) (clear_one 4 f.flags) in
    with_flags_lem (with_mode_lem (with_command_lem f h (if_lt _ f.end (lit< tt))) (if_lt _ (lit< tt) f.mode))
    (if_lt _ (set 4 (lit< tt) g) (if_lt _ (set 5 (lit< tt) g) (if_lt _ (set 6 (lit< tt) g) g)))

keeps10 : (v : Status) (word : ℕ) → word < 131072 → Fits v → Fits (status10 v word)
unfolding status10
keeps10 v word h f = with_previous_lem f h

-- ---- the record

record SettingsFit (s : Settings) : Type 0 where
  ops1 : s.ops1 ≤ 65535
  ops2 : s.ops2 ≤ 31
  w : s.w ≤ 600000
  u : s.u ≤ 600000

record RecordFits (m : Motor) : Type 0 where
  settings : SettingsFit m.settings
  status : Fits m.status
  sum : m.sum < 600000
  output : m.output.state < 3
  pulse : m.output.sum < 600000

with_status_lem : {m : Motor} {v : Status} → RecordFits m → Fits v → RecordFits (with_status m v)
unfolding with_status
with_status_lem f h = record { settings = f.settings; status = h; sum = f.sum; output = f.output; pulse = f.pulse }

-- steps 3 and 4 together, since a sum is out of range between them: what is still under way is below its limit
sum_kept : (idle conf : Bool) (sum period w : ℕ) → sum < 600000 → w ≤ 600000
    → (when not idle && conf || not idle && not conf && leb w (when idle then sum else sum + period) then 0 else when idle then sum else sum + period) < 600000
unfolding when◌then◌else◌
sum_kept true conf sum period w h l = h
sum_kept false true sum period w h l = lit< tt
sum_kept false false sum period w h l = go (leb w (sum + period)) refl
  where
    go : (b : Bool) → leb w (sum + period) ≡ b → (when b then 0 else sum + period) < 600000
    go true e = lit< tt
    go false e = let x = leb-false w (sum + period) e in omega arith

record OutputFits (o : Output) : Type 0 where
  state : o.state < 3
  sum : o.sum < 600000

pulse_kept : (running late done : Bool) (state sum period u : ℕ) → state < 3 → sum < 600000 → u ≤ 600000
    → OutputFits
    (when running && (leb u (when running then sum + period else sum) || late || done) then dropped
    else record { state = state; sum = when running then sum + period else sum })
unfolding when◌then◌else◌ dropped
pulse_kept false late done state sum period u g h l = record { state = g; sum = h }
pulse_kept true late done state sum period u g h l = go (leb u (sum + period)) refl late done
  where
    go : (b : Bool) → leb u (sum + period) ≡ b → (late done : Bool)
        → OutputFits (when b || late || done then dropped else record { state = state; sum = sum + period })
    go true e late done = record { state = lit< tt; sum = lit< tt }
    go false e true done = record { state = lit< tt; sum = lit< tt }
    go false e false true = record { state = lit< tt; sum = lit< tt }
    go false e false false = let x = leb-false u (sum + period) e in record { state = g; sum = omega arith }

keeps34 : (m : Motor) (r : Reading) (period : ℕ) → RecordFits m → RecordFits (step4 (step3 m period) r)
unfolding step4 step3 time_up ended confirmed overdue drops pulse_over running
keeps34 m r period f =
    let t = f.settings in
    let late = overdue m.status r (time_up (step3 m period)) && eqb m.output.state (own_output m.status.command) in
    let done = confirmed m.status r && ops₁ m.settings 7 in
    let o =
    pulse_kept (running m.settings m.output) late done m.output.state m.output.sum period m.settings.u f.output f.pulse
    t.u in
    record {
      settings = f.settings;
      status = keeps4 m.status r _ f.status;
      sum = sum_kept (idle m.status) _ m.sum period m.settings.w f.sum t.w;
      output = o.state;
      pulse = o.sum;
    }

output_kept : (s : Settings) (o : Output) (c : ℕ) → OutputFits o → OutputFits (output9 s o c)
unfolding output9 raised without_opposite dropped own_output
output_kept s o c f =
    either OutputFits _ (record { state = if_lt _ (lit< tt) (lit< tt); sum = lit< tt }) (either OutputFits _ (record { state = lit< tt; sum = lit< tt }) f)

keeps9 : (m : Motor) (c : ℕ) → c < 8 → RecordFits m → RecordFits (step9 m c)
unfolding step9 issue
keeps9 m c h f =
    let o = output_kept m.settings m.output c (record { state = f.output; sum = f.pulse }) in
    either RecordFits _ f
    (record {
      settings = f.settings;
      status = keeps_issue m.settings m.status c h f.status;
      sum = lit< tt;
      output = o.state;
      pulse = o.sum;
    })

keeps1to5 : (m : Motor) (word period : ℕ) → RecordFits m → RecordFits (steps1to5 m word period)
unfolding steps1to5
keeps1to5 m word period f =
    let s = m.settings in
    let r = reading s word in
    let g = keeps34 _ r period (with_status_lem f (keeps2 s _ r (keeps1 m.status word f.status))) in
    with_status_lem g (keeps5 s _ word r g.status)

keeps : (m : Motor) (word period : ℕ) → word < 131072 → RecordFits m → RecordFits (step m word period)
unfolding step half to_choice close with_status
keeps m word period h f =
    let n = steps1to5 m word period in
    let s = n.settings in
    let v = status6 s n.status word in
    let k = keeps1to5 m word period f in
    let at7 = with_status_lem k (keeps7 s v word (keeps6 s n.status word k.status)) in
    let g = keeps9 _ _ (issued_fits s v (status7 s v word) word) at7 in
    with_status_lem g (keeps10 _ word h g.status)

-- ---- the bounds are the tests of the refusal

settings_fit : (s : Settings) → settings_in_range s ≡ true → SettingsFit s
unfolding settings_in_range
settings_fit s h =
    let x = and_true (leb s.ops1 65535 && leb s.ops2 31 && leb s.w 600000) _ h in
    let y = and_true (leb s.ops1 65535 && leb s.ops2 31) _ x.0 in
    let z = and_true (leb s.ops1 65535) _ y.0 in
    record { ops1 = leb-true _ _ z.0; ops2 = leb-true _ _ z.1; w = leb-true _ _ y.1; u = leb-true _ _ x.1 }

status_fits : (v : Status) → status_in_range v ≡ true → Fits v
unfolding status_in_range
status_fits v h =
    let m = leb v.mode 2 in
    let s = leb v.sure 2 in
    let p = leb v.position 2 in
    let c = leb v.command 7 in
    let e = leb v.end 3 in
    let f = leb v.flags most_flags in
    let a = and_true (m && s && p && c && e && f) _ h in
    let b = and_true (m && s && p && c && e) _ a.0 in
    let d = and_true (m && s && p && c) _ b.0 in
    let g = and_true (m && s && p) _ d.0 in
    let k = and_true (m && s) _ g.0 in
    let l = and_true m _ k.0 in
    let at : (x y : ℕ) → leb x y ≡ true → x < suc y = λ x y t. let z = leb-true x y t in omega arith in
    record {
      mode = at _ _ l.0;
      sure = at _ _ l.1;
      position = at _ _ k.1;
      command = at _ _ g.1;
      end = at _ _ d.1;
      flags = at _ _ b.1;
      previous = at _ _ a.1;
    }

record_fits : (m : Motor) → in_range m ≡ true → RecordFits m
unfolding in_range output_in_range
record_fits m h =
    let s = settings_in_range m.settings in
    let v = status_in_range m.status in
    let t = leb m.sum 599999 in
    let a = and_true (s && v && t) _ h in
    let b = and_true (s && v) _ a.0 in
    let c = and_true s _ b.0 in
    let o = and_true (leb m.output.state 2) _ a.1 in
    let sum = leb-true m.sum 599999 b.1 in
    let state = leb-true m.output.state 2 o.0 in
    let pulse = leb-true m.output.sum 599999 o.1 in
    record {
      settings = settings_fit _ c.0;
      status = status_fits _ c.1;
      sum = omega arith;
      output = omega arith;
      pulse = omega arith;
    }

in_range_lem : (m : Motor) → RecordFits m → in_range m ≡ true
unfolding in_range settings_in_range status_in_range output_in_range
in_range_lem m f =
    let s = f.settings in
    let v = f.status in
    let below : (x y : ℕ) → x < suc y → leb x y ≡ true = λ x y h. le-leb x y (omega arith) in
    simp (
      le-leb _ _ s.ops1,
      le-leb _ _ s.ops2,
      le-leb _ _ s.w,
      le-leb _ _ s.u,
      below _ 2 v.mode,
      below _ 2 v.sure,
      below _ 2 v.position,
      below _ 7 v.command,
      below _ 3 v.end,
      below _ most_flags v.flags,
      below _ 131071 v.previous,
      below _ 599999 f.sum,
      below _ 2 f.output,
      below _ 599999 f.pulse,
    )

-- ---- what a caller of the steps needs

-- where a scan is accepted, record, period and word are in limits
pub record OneAccepted (m : Motor) (word period : ℕ) : Type 0 where
  pub range : in_range m ≡ true
  pub time : period_ok period ≡ true
  pub input : word_ok word ≡ true

pub one_in_limits : (m : Motor) (word period : ℕ) → one_refusal m word period ≡ 0 → OneAccepted m word period
unfolding one_refusal
one_in_limits m word period h =
    let a = if_zero (not (in_range m)) 6 _ (lit< tt) h in
    let b = if_zero (not (period_ok period)) 2 _ (lit< tt) a.1 in
    let c = if_zero (not (word_ok word)) 3 0 (lit< tt) b.1 in
    record { range = not-false _ a.0; time = not-false _ b.0; input = not-false _ c.0 }

-- the sums of an accepted scan fit
pub sums_fit : {m : Motor} {word period : ℕ} → OneAccepted m word period → SumsFit m period
unfolding period_ok
sums_fit {m} {word} {period} a =
    let f = record_fits m a.range in
    record { sum = f.sum; pulse = f.pulse; time = leb-true period 10000 (and_true (leb 1 period) _ a.time).1 }

-- ---- the range is kept

pub range_kept : (m : Motor) (word period : ℕ) → in_range m ≡ true → word_ok word ≡ true → in_range (step m word period) ≡ true
unfolding word_ok
range_kept m word period h l =
    let w = leb-true word 131071 l in
    in_range_lem _ (keeps m word period (omega arith) (record_fits m h))

pub scan_in_range : (m : Motor) (word period : ℕ) → in_range m ≡ true → in_range (one_after m word period) ≡ true
unfolding one_after when◌then◌else◌
scan_in_range m word period h = go (eqb (one_refusal m word period) 0) refl
  where
    go : (b : Bool) → eqb (one_refusal m word period) 0 ≡ b → in_range (when b then step m word period else m) ≡ true
    go true e = range_kept m word period h (one_in_limits m word period (eqb-true _ _ e)).input
    go false e = h

pub fresh_in_range : (s : Settings) → settings_in_range s ≡ true → in_range (fresh s) ≡ true
unfolding in_range fresh fresh_status dropped status_in_range output_in_range
fresh_in_range s h = simp h

pub scans_in_range : (m : Motor) (is : List Input) → in_range m ≡ true → in_range (scans m is) ≡ true
unfolding scans
scans_in_range m [] h = h
scans_in_range m (i ∷ is) h = scans_in_range (one_after m i.word i.period) is (scan_in_range m i.word i.period h)

-- A motor that starts fresh with settings in range is never refused by 6.
pub never_out_of_range : (s : Settings) → settings_in_range s ≡ true → (is : List Input) (word period : ℕ)
    → one_refusal (scans (fresh s) is) word period ≢ 6
unfolding one_refusal when◌then◌else◌
never_out_of_range s h is word period =
    simp (scans_in_range (fresh s) is (fresh_in_range s h)) (go (period_ok period) (word_ok word))
  where
    go : (b c : Bool) → ◌≢◌ {A = ℕ} (when not b then 2 else when not c then 3 else 0) 6
    go true true e = omega arith
    go true false e = omega arith
    go false c e = omega arith
