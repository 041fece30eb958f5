-- Lines of the print, by computing. Assumes nothing.
use mathlib.Core.Path.{◌≡◌, refl}
use mathlib.Core.List.{[], ◌∷◌}
use Rattle.report.specs.Print.{decimal, row_of, totals_row_of, refusal_of}
use Rattle.report.specs.Opened.{opened}

-- R,2,1,2,1,7,0,1,0
row : row_of (record { scan = 2; number = 1; mode = 2; position = 1; command = 7; end = 0; output = 1; flags = 0 })
    ≡ 82 ∷ 44 ∷ 50 ∷ 44 ∷ 49 ∷ 44 ∷ 50 ∷ 44 ∷ 49 ∷ 44 ∷ 55 ∷ 44 ∷ 48 ∷ 44 ∷ 49 ∷ 44 ∷ 48 ∷ 10 ∷ []
unfolding opened
row = refl

-- T,1,1,1,0,0,0,100,100,100
totals : totals_row_of (record { number = 1; issued = 1; confirmed = 1; displaced = 0; overdue = 0; underway = 0; on = 100; best = 100; worst = 100 })
    ≡ 84 ∷ 44 ∷ 49 ∷ 44 ∷ 49 ∷ 44 ∷ 49 ∷ 44 ∷ 48 ∷ 44 ∷ 48 ∷ 44 ∷ 48 ∷ 44 ∷ 49 ∷ 48 ∷ 48 ∷ 44 ∷ 49 ∷ 48 ∷ 48 ∷ 44 ∷ 49 ∷ 48 ∷ 48 ∷ 10 ∷ []
unfolding opened
totals = refl

-- E,0,1
too_long : refusal_of 0 1 ≡ 69 ∷ 44 ∷ 48 ∷ 44 ∷ 49 ∷ 10 ∷ []
unfolding opened
too_long = refl

largest : decimal 4294967295 ≡ 52 ∷ 50 ∷ 57 ∷ 52 ∷ 57 ∷ 54 ∷ 55 ∷ 50 ∷ 57 ∷ 53 ∷ []
unfolding opened
largest = refl
