-- Scans with their number, 0 where they are accepted, and with the previous words of the records that they leave: each limit on both sides,
-- and the order of refusals. `table::scan` ensures them (AreRight). That a refused scan leaves all as it was is a law (proofs/Tables.antt).
use Rattle.std.specs.Prelude.{ℕ, ◌≡◌, List, [], ◌∷◌, ◌++◌, map, replicate}
use Rattle.rules.specs.declared.Motor.{Motor}
use Rattle.rules.specs.declared.Status.{Status}
use Rattle.rules.specs.Record.{fresh}
use Rattle.rules.specs.Refusals.{one_refusal, one_after, table_refusal, table_after, part_refusal, part_after}
use Rattle.rules.specs.Sheets.{sum, previous, value_of, wiring, wired, lent}

-- what comes of a scan: its number, and then the previous words
unfoldable pub one : Motor → ℕ → ℕ → List ℕ
one m word period = one_refusal m word period ∷ value_of previous (one_after m word period) ∷ []

unfoldable pub table : List Motor → List ℕ → ℕ → List ℕ
table ms words period = table_refusal ms words period ∷ map (value_of previous) (table_after ms words period)

unfoldable pub part : List Motor → ℕ → List ℕ → ℕ → List ℕ
part ms count words period = part_refusal ms count words period ∷ map (value_of previous) (part_after ms count words period)

-- what comes of a scan, and what it has to be
infix 90 ◌gives◌
pub data Case : Type 0 where
  ◌gives◌ : List ℕ → List ℕ → Case

unfoldable pub found : Case → List ℕ
found (number gives stated) = number

unfoldable pub stated : Case → List ℕ
stated (number gives ns) = ns

abbrev pub AreRight : List Case → Type 0
AreRight cs = map found cs ≡ map stated cs

-- every field at its limit, but for the previous word
unfoldable pub most_status : Status
most_status = record { mode = 2; sure = 2; position = 2; command = 7; end = 3; flags = 32767; previous = 7 }

unfoldable pub most : Motor
most =
    record { settings = wiring 65535 31 600000 600000; status = most_status; sum = 599999; output = record { state = 2; sum = 599999 } }

unfoldable pub with_output : ℕ → ℕ → Motor
with_output o n = record most { output = record { state = o; sum = n } }

unfoldable pub cases : List Case
cases =
    -- each field of the record at its limit, and past it
    one most 131071 10000 gives (0 ∷ 131071 ∷ [])
    ∷ one (record most { status = record most_status { previous = 131071 } }) 32 1 gives (0 ∷ 32 ∷ [])
    ∷ one (record most { settings = wiring 65536 31 600000 600000 }) 32 100 gives (6 ∷ 7 ∷ [])
    ∷ one (record most { settings = wiring 65535 32 600000 600000 }) 32 100 gives (6 ∷ 7 ∷ [])
    ∷ one (record most { settings = wiring 65535 31 600001 600000 }) 32 100 gives (6 ∷ 7 ∷ [])
    ∷ one (record most { settings = wiring 65535 31 600000 600001 }) 32 100 gives (6 ∷ 7 ∷ [])
    ∷ one (record most { status = record most_status { mode = 3 } }) 32 100 gives (6 ∷ 7 ∷ [])
    ∷ one (record most { status = record most_status { sure = 3 } }) 32 100 gives (6 ∷ 7 ∷ [])
    ∷ one (record most { status = record most_status { position = 3 } }) 32 100 gives (6 ∷ 7 ∷ [])
    ∷ one (record most { status = record most_status { command = 8 } }) 32 100 gives (6 ∷ 7 ∷ [])
    ∷ one (record most { status = record most_status { end = 4 } }) 32 100 gives (6 ∷ 7 ∷ [])
    ∷ one (record most { status = record most_status { flags = 32768 } }) 32 100 gives (6 ∷ 7 ∷ [])
    ∷ one (record most { status = record most_status { previous = 131072 } }) 32 100 gives (6 ∷ 131072 ∷ [])
    ∷ one (record most { sum = 600000 }) 32 100 gives (6 ∷ 7 ∷ [])
    ∷ one (with_output 3 599999) 32 100 gives (6 ∷ 7 ∷ [])
    ∷ one (with_output 2 600000) 32 100 gives (6 ∷ 7 ∷ [])
    -- a period from 1 to 10,000, a word up to 131,071; 6 before 2 before 3
    ∷ one (fresh wired) 32 0 gives (2 ∷ 0 ∷ [])
    ∷ one (fresh wired) 32 1 gives (0 ∷ 32 ∷ [])
    ∷ one (fresh wired) 32 10001 gives (2 ∷ 0 ∷ [])
    ∷ one (fresh wired) 131072 10000 gives (3 ∷ 0 ∷ [])
    ∷ one (fresh wired) 131072 10001 gives (2 ∷ 0 ∷ [])
    ∷ one (fresh (wiring 193 0 600001 300)) 131072 10001 gives (6 ∷ 0 ∷ [])
    -- tables: none, 32 and 33 motors; each motor by its own word
    ∷ table [] [] 100 gives (0 ∷ [])
    ∷ table [] [] 10001 gives (2 ∷ [])
    ∷ table (fresh wired ∷ []) (0 ∷ []) 1 gives (0 ∷ 0 ∷ [])
    ∷ table (fresh wired ∷ []) (131071 ∷ []) 10000 gives (0 ∷ 131071 ∷ [])
    ∷ table (replicate 32 (fresh wired)) (replicate 32 32) 100 gives (0 ∷ replicate 32 32)
    ∷ table (replicate 33 (fresh wired)) (replicate 33 32) 100 gives (1 ∷ replicate 33 0)
    ∷ table (replicate 33 (fresh (wiring 65536 0 0 0))) (replicate 33 131072) 0 gives (1 ∷ replicate 33 0)
    ∷ table (fresh wired ∷ most ∷ []) (32 ∷ 16 ∷ []) 100 gives (0 ∷ 32 ∷ 16 ∷ [])
    ∷ map (value_of sum) (table_after (lent 7 50 0 0 0 ∷ lent 6 7 0 0 0 ∷ []) (32 ∷ 48 ∷ []) 100) gives (150 ∷ 107 ∷ [])
    -- as many words as records; 1 before 6 before 2 before 3, of whichever motor
    ∷ table (fresh wired ∷ fresh wired ∷ []) (32 ∷ []) 100 gives (1 ∷ 0 ∷ 0 ∷ [])
    ∷ table (fresh (wiring 65536 0 0 0) ∷ []) (131072 ∷ 131072 ∷ []) 0 gives (1 ∷ 0 ∷ [])
    ∷ table (fresh wired ∷ fresh (wiring 65536 0 0 0) ∷ []) (131072 ∷ 32 ∷ []) 0 gives (6 ∷ 0 ∷ 0 ∷ [])
    ∷ table (fresh (wiring 65536 0 0 0) ∷ fresh wired ∷ []) (32 ∷ 32 ∷ []) 100 gives (6 ∷ 0 ∷ 0 ∷ [])
    ∷ table (fresh wired ∷ []) (131072 ∷ []) 0 gives (2 ∷ 0 ∷ [])
    ∷ table (fresh wired ∷ fresh wired ∷ []) (32 ∷ 131072 ∷ []) 100 gives (3 ∷ 0 ∷ 0 ∷ [])
    ∷ table (fresh wired ∷ fresh wired ∷ []) (131072 ∷ 32 ∷ []) 100 gives (3 ∷ 0 ∷ 0 ∷ [])
    -- part of an array: a count that no table has; the motors past the count stay, whatever they and their words are
    ∷ part (fresh wired ∷ []) 33 (32 ∷ []) 100 gives (1 ∷ 0 ∷ [])
    ∷ part (fresh (wiring 65536 0 0 0) ∷ []) 33 (131072 ∷ []) 0 gives (1 ∷ 0 ∷ [])
    ∷ part (fresh (wiring 65536 0 0 0) ∷ []) 0 (131072 ∷ []) 100 gives (0 ∷ 0 ∷ [])
    ∷ part (replicate 33 (fresh wired)) 32 (replicate 33 32) 100 gives (0 ∷ (replicate 32 32 ++ (0 ∷ [])))
    ∷ part (fresh wired ∷ fresh (wiring 65536 0 0 0) ∷ []) 1 (32 ∷ 131072 ∷ []) 100 gives (0 ∷ 32 ∷ 0 ∷ [])
    ∷ part (fresh wired ∷ fresh wired ∷ []) 2 (32 ∷ 131072 ∷ []) 100 gives (3 ∷ 0 ∷ 0 ∷ [])
    ∷ part (fresh wired ∷ []) 1 (32 ∷ []) 0 gives (2 ∷ 0 ∷ [])
    ∷ map (value_of sum) (part_after (lent 7 50 0 0 0 ∷ lent 7 7 0 0 0 ∷ []) 1 (32 ∷ 32 ∷ []) 100) gives (150 ∷ 7 ∷ [])
    ∷ []
