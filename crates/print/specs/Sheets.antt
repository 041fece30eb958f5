-- Whole files with their whole prints, computed from the definitions. The program's `run` ensures them (AreRight).
use Rattle.std.specs.Prelude.{ℕ, ◌≡◌, codes, List, [], ◌∷◌, ◌++◌, map}
use Prim.Native.String.{String}
use Rattle.octets.specs.Split.{LF}
use Rattle.print.specs.Print.{print_of}

-- lines of text, each with its LF
unfoldable pub text : List String → List ℕ
text [] = []
text (line ∷ lines) = codes line ++ (LF ∷ text lines)

pub record Sheet : Type 0 where
  pub file : List String
  pub print : List String

abbrev pub AreRight : List Sheet → Type 0
AreRight ts = map (λ (t : Sheet). print_of (text t.file)) ts ≡ map (λ (t : Sheet). text t.print) ts

unfoldable pub sheet : List String → List String → Sheet
sheet file print = record { file = file; print = print }

-- The file of rule 8, sheets/first.txt
unfoldable pub given_prints : List Sheet
given_prints =
    sheet ("M,1,193,0,500,300" ∷ "I,1,32" ∷ "S,100" ∷ "I,1,4128" ∷ "S,100" ∷ "I,1,16" ∷ "S,100" ∷ [])
    ("R,1,1,2,1,0,0,0,0" ∷ "R,2,1,2,1,7,0,1,0" ∷ "R,3,1,2,2,0,1,0,0" ∷ "T,1,1,1,0,0,0,100,100,100" ∷ [])
    ∷ []

-- the most motors that a bench may have
unfoldable pub full : List String
full =
    "M,1,0,0,0,0" ∷ "M,2,0,0,0,0" ∷ "M,3,0,0,0,0" ∷ "M,4,0,0,0,0" ∷ "M,5,0,0,0,0" ∷ "M,6,0,0,0,0" ∷ "M,7,0,0,0,0" ∷ "M,8,0,0,0,0"
    ∷ "M,9,0,0,0,0" ∷ "M,10,0,0,0,0" ∷ "M,11,0,0,0,0" ∷ "M,12,0,0,0,0" ∷ "M,13,0,0,0,0" ∷ "M,14,0,0,0,0" ∷ "M,15,0,0,0,0"
    ∷ "M,16,0,0,0,0" ∷ "M,17,0,0,0,0" ∷ "M,18,0,0,0,0" ∷ "M,19,0,0,0,0" ∷ "M,20,0,0,0,0" ∷ "M,21,0,0,0,0" ∷ "M,22,0,0,0,0"
    ∷ "M,23,0,0,0,0" ∷ "M,24,0,0,0,0" ∷ "M,25,0,0,0,0" ∷ "M,26,0,0,0,0" ∷ "M,27,0,0,0,0" ∷ "M,28,0,0,0,0" ∷ "M,29,0,0,0,0"
    ∷ "M,30,0,0,0,0" ∷ "M,31,0,0,0,0" ∷ "M,32,0,0,0,0" ∷ []

-- what they print where they are scanned once, by a word 0
unfoldable pub full_rows : List String
full_rows =
    "R,1,1,2,1,0,0,0,0" ∷ "R,1,2,2,1,0,0,0,0" ∷ "R,1,3,2,1,0,0,0,0" ∷ "R,1,4,2,1,0,0,0,0" ∷ "R,1,5,2,1,0,0,0,0"
    ∷ "R,1,6,2,1,0,0,0,0" ∷ "R,1,7,2,1,0,0,0,0" ∷ "R,1,8,2,1,0,0,0,0" ∷ "R,1,9,2,1,0,0,0,0" ∷ "R,1,10,2,1,0,0,0,0"
    ∷ "R,1,11,2,1,0,0,0,0" ∷ "R,1,12,2,1,0,0,0,0" ∷ "R,1,13,2,1,0,0,0,0" ∷ "R,1,14,2,1,0,0,0,0" ∷ "R,1,15,2,1,0,0,0,0"
    ∷ "R,1,16,2,1,0,0,0,0" ∷ "R,1,17,2,1,0,0,0,0" ∷ "R,1,18,2,1,0,0,0,0" ∷ "R,1,19,2,1,0,0,0,0" ∷ "R,1,20,2,1,0,0,0,0"
    ∷ "R,1,21,2,1,0,0,0,0" ∷ "R,1,22,2,1,0,0,0,0" ∷ "R,1,23,2,1,0,0,0,0" ∷ "R,1,24,2,1,0,0,0,0" ∷ "R,1,25,2,1,0,0,0,0"
    ∷ "R,1,26,2,1,0,0,0,0" ∷ "R,1,27,2,1,0,0,0,0" ∷ "R,1,28,2,1,0,0,0,0" ∷ "R,1,29,2,1,0,0,0,0" ∷ "R,1,30,2,1,0,0,0,0"
    ∷ "R,1,31,2,1,0,0,0,0" ∷ "R,1,32,2,1,0,0,0,0" ∷ []

-- Our own: each refusal of a line, in the order in which they are asked (rule 4.3). No totals follow them.
unfoldable pub own_prints : List Sheet
own_prints =
    -- an empty file prints nothing
    sheet [] []
    -- the first file in hexadecimal
    ∷ sheet ("M,1,0xC1,0x00,500,300" ∷ "I,1,0x20" ∷ "S,100" ∷ "I,1,0x00001020" ∷ "S,100" ∷ "I,1,16" ∷ "S,100" ∷ [])
    ("R,1,1,2,1,0,0,0,0" ∷ "R,2,1,2,1,7,0,1,0" ∷ "R,3,1,2,2,0,1,0,0" ∷ "T,1,1,1,0,0,0,100,100,100" ∷ [])
    -- M: 5, 4, 8, 7, 9
    ∷ sheet ("M,2,193,32,500" ∷ []) ("E,1,5" ∷ [])
    ∷ sheet ("M,2,193,32,500,300" ∷ []) ("E,1,4" ∷ [])
    ∷ sheet ("M,2,193,0,500,300" ∷ []) ("E,1,9" ∷ [])
    ∷ sheet ("M,1,193,0,500,300" ∷ "S,100" ∷ "M,2,193,32,500,300" ∷ []) ("R,1,1,2,0,0,0,0,2" ∷ "E,3,4" ∷ [])
    ∷ sheet ("M,1,193,0,500,300" ∷ "S,100" ∷ "M,2,193,0,500,300" ∷ []) ("R,1,1,2,0,0,0,0,2" ∷ "E,3,8" ∷ [])
    ∷ sheet ("M,1,193,0,500,300" ∷ "S,100" ∷ "M,3,193,0,500,300" ∷ []) ("R,1,1,2,0,0,0,0,2" ∷ "E,3,8" ∷ [])
    ∷ sheet (full ++ ("M,33,0,32,0,0" ∷ [])) ("E,33,4" ∷ [])
    ∷ sheet (full ++ ("S,1" ∷ "M,33,0,0,0,0" ∷ [])) (full_rows ++ ("E,34,8" ∷ []))
    ∷ sheet (full ++ ("M,33,0,0,0,0" ∷ [])) ("E,33,7" ∷ [])
    ∷ sheet (full ++ ("M,32,0,0,0,0" ∷ [])) ("E,33,7" ∷ [])
    -- I: 5, 10, 3
    ∷ sheet ("M,1,193,0,500,300" ∷ "I,2," ∷ []) ("E,2,5" ∷ [])
    ∷ sheet ("M,1,193,0,500,300" ∷ "I,2,131072" ∷ []) ("E,2,10" ∷ [])
    ∷ sheet ("M,1,193,0,500,300" ∷ "I,1,131072" ∷ []) ("E,2,3" ∷ [])
    -- no line after a refused one is read
    ∷ sheet ("M,1,193,0,500,300" ∷ "I,2,32" ∷ "S,100" ∷ []) ("E,2,10" ∷ [])
    -- S: 5, 2
    ∷ sheet ("S,10001," ∷ []) ("E,1,5" ∷ [])
    ∷ sheet ("S,10001" ∷ []) ("E,1,2" ∷ [])
    ∷ []
